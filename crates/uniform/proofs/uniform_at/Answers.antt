-- What `may_live` says decides, and then the lowest broken entry (proofs/UniformCall). Assumes nothing.
use mathlib.Core.Path.{◌≡◌, ◌∙◌}
use native.Mathlib.Omega.{arith}
use Rattle.std.specs.Prelude.{Err}
use Rattle.walk_decide.proofs.Meant.{entry_site, entry_value, entry_well_formed}
use Rattle.uniform.proofs.UniformCall.{entry_low, live_refused, live_passed}
use Rattle.uniform.proofs.uniform_at.Goals as goal

pub returns-in_err-may_live : goal.returns-in_err-may_live
returns-in_err-may_live c t x =
    let is : c.from_residual.result ≡ Err c.in_err-may_live.field-0.0 = grind arith in
    rw is (live_refused x (rw c.in_err-may_live.was at (c.may_live.ensures t (entry_value x) (entry_well_formed x))))

pub lowest_broken-requires : goal.lowest_broken-requires
lowest_broken-requires c =
    let x = c.requires.1 in
    (_, x.types, entry_site x, entry_low x)

pub returns : goal.returns
returns c t x =
    let passed = rw c.in_ok-may_live.was at (c.may_live.ensures t (entry_value x) (entry_well_formed x)) in
    c.verdict.ensures ∙ live_passed x passed _ (c.lowest_broken.ensures _ x.types (entry_site x) (entry_low x))
