-- By what the scan says (crates/walk_decide, proofs/CallSteps).
use Rattle.std.specs.Prelude.{◌≡◌, Err}
use native.Mathlib.Omega.{arith}
use Rattle.said.proofs.Answered.{answered_refused, answered_done}
use Rattle.walk_decide.proofs.CallSteps.{stored_bad, stored_done}
use Rattle.words.proofs.writing.write_whole.Goals as goal

pub returns-in_err-scan : goal.returns-in_err-scan
returns-in_err-scan c =
    let r : c.from_residual.result ≡ Err c.in_err-scan.field-0.0 = grind arith in
    λ t n w l is room. rw r (answered_refused _ (stored_bad n t _ _ (c.in_err-scan.ensures t n w l)))

pub returns : goal.returns
returns c t n w l is room =
    answered_done _ (stored_done n t _ _ (c.in_ok-scan.ensures t n w l)) is (c.store.ensures t n w l is room)
