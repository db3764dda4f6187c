-- What joins is a law of `Meets`.
use mathlib.Core.Bool.{true}
use mathlib.Core.Path.{◌≡◌}
use native.Mathlib.Omega.{arith}
use Rattle.wgsl.specs.File.{given_align, given_size, rest_is_zero}
use Rattle.wgsl.specs.Rule.{given_align_fits, given_size_fits, member_allowed}
use Rattle.file.specs.Fields.{member_is}
use Rattle.layout_structs.proofs.Meets.{steps_joins}
use Rattle.layout_structs.proofs.step.Goals as goal

pub join-requires : goal.join-requires
join-requires c =
    let j = c.requires in
    let rest : rest_is_zero (member_is c.args.m) ≡ true = grind arith in
    let a = c.args in
    let allowed : member_allowed a.last j.1 ≡ true = grind (arith, c.is_allowed.ensures j.1 j.2.layout j.2.well_formed) in
    let size : given_size_fits j.1 (given_size (member_is a.m)) ≡ true = grind (arith, c.size_fits.ensures j.1 j.2.layout j.2.well_formed) in
    let align : given_align_fits j.1 (given_align (member_is a.m)) ≡ true = grind (arith, c.align_fits.ensures j.1 j.2.layout j.2.well_formed) in
    (j.0, j.1, steps_joins a.last j.0 j.1 (member_is a.m) rest allowed a.past a.l j.2 size align _ c.in-Ok.is)
