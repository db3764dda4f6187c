-- What `integer_at` finds lies inside the buffer (proofs/IntegerOf); its field is the answer. Assumes nothing.
use Rattle.std.specs.Prelude.{Err}
use mathlib.Core.Path.{◌≡◌, refl, ap, sym, ◌∙◌}
use native.Mathlib.Omega.{arith}
use Rattle.wgsl.specs.Said.{good}
use Rattle.paths.proofs.IntegerOf.{integer_there, extract_refused, extract_found}
use Rattle.paths.proofs.field.extract_bits.Goals as goal

pub field_of-requires : goal.field_of-requires
field_of-requires c =
    let x = integer_there _ _ _ _ (rw c.in_ok-target.was at (c.integer_at.ensures c.args.buf.now refl)) in
    (x.0, x.2)

pub returns-in_err-target : goal.returns-in_err-target
returns-in_err-target c =
    let is : c.from_residual.result ≡ Err c.in_err-target.field-0.0 = grind arith in
    rw is (sym (extract_refused _ _ _ _ _ _ (rw c.in_err-target.was at (c.integer_at.ensures c.args.buf.now refl))))

pub returns : goal.returns
returns c =
    let x = integer_there _ _ _ _ (rw c.in_ok-target.was at (c.integer_at.ensures c.args.buf.now refl)) in
    ap good (c.field_of.ensures x.0 x.2) ∙ sym (extract_found _ _ _ _ _ _ x.1)
