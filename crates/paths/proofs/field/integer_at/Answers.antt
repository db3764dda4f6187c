-- What `locate` finds, and 14 (proofs/IntegerOf). Assumes nothing.
use Rattle.std.specs.Prelude.{Err}
use mathlib.Core.Path.{◌≡◌, ap, sym, ◌∙◌}
use native.Mathlib.Omega.{arith}
use Rattle.paths.specs.Field.{found_in}
use Rattle.paths.proofs.InBuffer.{reached_good, reached_refused}
use Rattle.paths.proofs.IntegerOf.{integer_refused, integer_found}
use Rattle.paths.proofs.field.integer_at.Goals as goal

pub returns-in_err-target : goal.returns-in_err-target
returns-in_err-target c b l =
    let is : c.from_residual.result ≡ Err c.in_err-target.field-0.0 = grind arith in
    let bad = reached_refused _ (rw c.in_err-target.was at (c.locate.ensures b l)) in
    rw is (ap found_in (sym (integer_refused _ _ _ _ bad)))

pub returns : goal.returns
returns c b l =
    let (u, is, same) = reached_good _ (rw c.in_ok-target.was at (c.locate.ensures b l)) in
    c.integer_of.ensures u same ∙ ap found_in (sym (integer_found _ _ _ _ is))
