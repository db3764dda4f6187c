-- The entry that `find` finds, or its refusal, or the trailer's (crates/walk_decide, proofs/Meant). Assumes nothing.
use Rattle.std.specs.Prelude.{Err}
use mathlib.Core.Path.{◌≡◌, ap, sym}
use native.Mathlib.Omega.{arith}
use Rattle.said.specs.Target.{reached}
use Rattle.walk_decide.proofs.Meant.{entry_found, entry_missing, trailer_refused}
use Rattle.paths.proofs.TargetCall.{target_missing}
use Rattle.paths.proofs.locate.locate.Goals as goal

pub target_at-requires : goal.target_at-requires
target_at-requires c = entry_found _ _ _ _ (rw c.in_ok-found.was at c.find.ensures)

pub returns-in_err-trailer : goal.returns-in_err-trailer
returns-in_err-trailer c b l =
    let is : c.from_residual.result ≡ Err c.in_err-trailer.field-0.0 = grind arith in
    let bad = trailer_refused _ _ (rw c.in_err-trailer.was at c.check_trailer.ensures) in
    rw is (ap reached (sym (target_missing _ _ _ _ b bad)))

pub returns-in_err-found : goal.returns-in_err-found
returns-in_err-found c b l =
    let is : c.from_residual-in_err-found.result ≡ Err c.in_err-found.field-0.0 = grind arith in
    let missing = entry_missing _ _ (rw c.in_err-found.was at c.find.ensures) in
    rw is (ap reached (sym (target_missing _ _ _ _ b missing)))

pub returns : goal.returns
returns c b l =
    let x = entry_found _ _ _ _ (rw c.in_ok-found.was at c.find.ensures) in
    c.target_at.ensures x.0 b x.1 l
