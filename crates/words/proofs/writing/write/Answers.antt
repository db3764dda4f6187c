-- The entry that `find` finds, or its refusal, or the trailer's (crates/walk_decide, proofs/Meant). Assumes nothing.
use Rattle.std.specs.Prelude.{◌≡◌, Err}
use native.Mathlib.Omega.{arith}
use Rattle.said.proofs.Answered.{answered_refused}
use Rattle.walk_decide.proofs.Meant.{entry_found, entry_missing, trailer_refused}
use Rattle.walk_decide.proofs.EntryFor.{for_missing}
use Rattle.words.proofs.WriteType.{write_refused}
use Rattle.words.proofs.writing.write.Goals as goal

pub returns-in_err-trailer : goal.returns-in_err-trailer
returns-in_err-trailer c =
    let r : c.from_residual.result ≡ Err c.in_err-trailer.field-0.0 = grind arith in
    let both = answered_refused _ (write_refused _ _ _ _ (for_missing _ _ _ _ (trailer_refused _ _ c.in_err-trailer.ensures))) in
    record { answer = rw r both.0; buffer = both.1 }

pub returns-in_err-found : goal.returns-in_err-found
returns-in_err-found c =
    let r : c.from_residual-in_err-found.result ≡ Err c.in_err-found.field-0.0 = grind arith in
    let both = answered_refused _ (write_refused _ _ _ _ (for_missing _ _ _ _ (entry_missing _ _ c.in_err-found.ensures))) in
    record { answer = rw r both.0; buffer = both.1 }

pub write_entry_at-requires : goal.write_entry_at-requires
write_entry_at-requires c = entry_found _ _ _ _ c.in_ok-found.ensures

pub returns : goal.returns
returns c =
    let x = entry_found _ _ _ _ c.in_ok-found.ensures in
    let both = c.write_entry_at.ensures x.0 x.1 in
    record { answer = both.0; buffer = both.1 }
