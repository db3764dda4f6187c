-- Members that passed 6 and 7 end as the struct's do.
use mathlib.Core.Path.{◌≡◌}
use native.Mathlib.Omega.{arith}
use Rattle.std.specs.Prelude.{Ok}
use Rattle.layout_structs.proofs.Ended.{closes_placed}
use Rattle.layout_structs.proofs.finish.Goals as goal

pub whole-requires : goal.whole-requires
whole-requires c =
    let a = c.requires (omega arith) in
    let is : c.args.past ≡ Ok c.in_ok-p.p = grind arith in
    (a.0, closes_placed _ _ a.0 a.1 is)
