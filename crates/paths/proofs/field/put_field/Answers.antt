-- The scalar's word, with the field put into it, in its four bytes (proofs/IntegerOf). Assumes nothing.
use Prim.Native.Nat.{ℕ}
use mathlib.Core.Path.{refl, ap, sym, ◌∙◌}
use Rattle.wgsl.specs.Number.{store}
use Rattle.wgsl.specs.BitField.{inserted}
use Rattle.paths.proofs.IntegerOf.{word_at, stored_four}
use Rattle.paths.proofs.field.put_field.Goals as goal

pub returns : goal.returns
returns c =
    let stored = c in
    let put = stored in
    let word = put in
    let a = word.args in
    record {
      answer = refl;
      buffer = λ x i.
          stored.store_u32.ensures
          ∙ ap (λ (w : ℕ). store 4 a.buf.now a.t.offset w)
          (put.insert_bits_u32.ensures ∙ ap (λ (w : ℕ). inserted w a.newbits a.offset a.count) (word.u32_at-word.ensures ∙ sym (word_at i _)))
          ∙ sym (stored_four i _ _);
    }
