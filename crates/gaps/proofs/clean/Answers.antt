-- The entry that `find` finds, or its refusal, or the trailer's (crates/walk_decide, proofs/Meant). Assumes nothing.
use mathlib.Core.Path.{◌≡◌}
use native.Mathlib.Omega.{arith}
use Rattle.std.specs.Prelude.{Err}
use Rattle.said.proofs.Answered.{cleaned_refused}
use Rattle.walk_decide.proofs.Meant.{entry_found, entry_missing, trailer_refused}
use Rattle.walk_decide.proofs.EntryFor.{for_missing}
use Rattle.gaps.proofs.CleanType.{clean_refused}
use Rattle.gaps.proofs.clean.Goals as goal

pub clean_entry_at-requires : goal.clean_entry_at-requires
clean_entry_at-requires c = entry_found _ _ _ _ (rw c.in_ok-found.was at c.find.ensures)

pub returns-in_err-trailer : goal.returns-in_err-trailer
returns-in_err-trailer c =
    let is : c.from_residual.result ≡ Err c.in_err-trailer.field-0.0 = grind arith in
    let refused = for_missing _ _ _ _ (trailer_refused _ _ (rw c.in_err-trailer.was at c.check_trailer.ensures)) in
    let both = cleaned_refused _ (clean_refused _ _ _ refused) in
    record { answer = rw is both.0; buffer = both.1 }

pub returns-in_err-found : goal.returns-in_err-found
returns-in_err-found c =
    let is : c.from_residual-in_err-found.result ≡ Err c.in_err-found.field-0.0 = grind arith in
    let refused = for_missing _ _ _ _ (entry_missing _ _ (rw c.in_err-found.was at c.find.ensures)) in
    let both = cleaned_refused _ (clean_refused _ _ _ refused) in
    record { answer = rw is both.0; buffer = both.1 }

pub returns : goal.returns
returns c =
    let x = entry_found _ _ _ _ (rw c.in_ok-found.was at c.find.ensures) in
    let both = c.clean_entry_at.ensures x.0 x.1 in
    record { answer = both.0; buffer = both.1 }
