-- The target that `locate` finds has room for a scalar (proofs/InBuffer); what is left of the call (proofs/SetTarget). Assumes nothing.
use Rattle.std.specs.Prelude.{Err}
use mathlib.Core.Path.{◌≡◌, refl}
use mathlib.Core.Bool.{true}
use native.Mathlib.Omega.{arith}
use Rattle.said.proofs.Answered.{answered_refused, answered_same}
use Rattle.paths.proofs.InBuffer.{reached_refused, in_buffer}
use Rattle.paths.proofs.SetTarget.{set_refused, set_found}
use Rattle.paths.proofs.set.set.Goals as goal

pub set_scalar-requires : goal.set_scalar-requires
set_scalar-requires c =
    let x = in_buffer true _ _ _ _ (rw c.in_ok-target.was at (c.locate.ensures c.args.buf.now refl)) in
    (x.0, x.2)

pub returns-in_err-target : goal.returns-in_err-target
returns-in_err-target c =
    let is : c.from_residual.result ≡ Err c.in_err-target.field-0.0 = grind arith in
    let bad = reached_refused _ (rw c.in_err-target.was at (c.locate.ensures c.args.buf.now refl)) in
    let both = answered_refused _ (set_refused _ _ _ _ _ bad) in
    record { answer = rw is both.0; buffer = both.1 }

pub returns : goal.returns
returns c =
    let x = in_buffer true _ _ _ _ (rw c.in_ok-target.was at (c.locate.ensures c.args.buf.now refl)) in
    let both = answered_same _ (set_found _ _ _ _ _ x.1) (c.set_scalar.ensures x.0 x.2) in
    record { answer = both.0; buffer = both.1 }
