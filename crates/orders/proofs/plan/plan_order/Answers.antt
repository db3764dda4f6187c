-- The entry that `find` finds, or its refusal, or the trailer's (crates/walk_decide, proofs/Meant). Assumes nothing.
use mathlib.Core.Path.{◌≡◌}
use native.Mathlib.Omega.{arith}
use Rattle.std.specs.Prelude.{Err}
use Rattle.said.proofs.Answered.{answered_refused}
use Rattle.walk_decide.proofs.Meant.{entry_found, entry_missing, trailer_refused}
use Rattle.orders.proofs.MeantStruct.{plan_refused, members_missing}
use Rattle.orders.proofs.plan.plan_order.Goals as goal

pub returns-in_err-trailer : goal.returns-in_err-trailer
returns-in_err-trailer c =
    let is : c.from_residual.result ≡ Err c.in_err-trailer.field-0.0 = grind arith in
    let both = answered_refused _ (plan_refused _ _ _ (members_missing _ _ (trailer_refused _ _ (rw c.in_err-trailer.was at c.check_trailer.ensures)))) in
    record { answer = rw is both.0; list = both.1 }

pub returns-in_err-found : goal.returns-in_err-found
returns-in_err-found c =
    let is : c.from_residual-in_err-found.result ≡ Err c.in_err-found.field-0.0 = grind arith in
    let both = answered_refused _ (plan_refused _ _ _ (members_missing _ _ (entry_missing _ _ (rw c.in_err-found.was at c.find.ensures)))) in
    record { answer = rw is both.0; list = both.1 }

pub plan_entry_at-requires : goal.plan_entry_at-requires
plan_entry_at-requires c = entry_found _ _ _ _ (rw c.in_ok-found.was at c.find.ensures)

pub returns : goal.returns
returns c =
    let x = entry_found _ _ _ _ (rw c.in_ok-found.was at c.find.ensures) in
    let both = c.plan_entry_at.ensures x.0 x.1 in
    record { answer = both.0; list = both.1 }
