-- The entry that `find` finds, or its refusal, or the trailer's (crates/walk_decide, proofs/Meant). Assumes nothing.
use mathlib.Core.Path.{◌≡◌, sym}
use native.Mathlib.Omega.{arith}
use Rattle.std.specs.Prelude.{Err}
use Rattle.wgsl.proofs.Uniform.{call_missing}
use Rattle.walk_decide.proofs.Meant.{entry_found, entry_missing, trailer_refused}
use Rattle.uniform.proofs.uniform.Goals as goal

pub returns-in_err-trailer : goal.returns-in_err-trailer
returns-in_err-trailer c =
    let is : c.from_residual.result ≡ Err c.in_err-trailer.field-0.0 = grind arith in
    rw is (sym (call_missing _ _ (trailer_refused _ _ (rw c.in_err-trailer.was at c.check_trailer.ensures))))

pub returns-in_err-found : goal.returns-in_err-found
returns-in_err-found c =
    let is : c.from_residual-in_err-found.result ≡ Err c.in_err-found.field-0.0 = grind arith in
    rw is (sym (call_missing _ _ (entry_missing _ _ (rw c.in_err-found.was at c.find.ensures))))

pub uniform_at-requires : goal.uniform_at-requires
uniform_at-requires c = entry_found _ _ _ _ (rw c.in_ok-found.was at c.find.ensures)

pub returns : goal.returns
returns c =
    let x = entry_found _ _ _ _ (rw c.in_ok-found.was at c.find.ensures) in
    c.uniform_at.ensures x.0 x.1
