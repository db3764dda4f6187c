-- The field of an i32 is signed, that of a u32 is not (proofs/IntegerOf). Assumes nothing.
use Prim.Native.Nat.{ℕ}
use mathlib.Core.Path.{ap, sym, ◌∙◌}
use Rattle.wgsl.specs.BitField.{extracted_u32, extracted_i32}
use Rattle.paths.proofs.IntegerOf.{word_at, field_signed, field_plain}
use Rattle.paths.proofs.field.field_of.Goals as goal

pub returns-then-t-eq-I32 : goal.returns-then-t-eq-I32
returns-then-t-eq-I32 c = λ x i.
    let word = c in
    let a = word.args in
    c.extract_pattern.ensures
    ∙ ap (λ (w : ℕ). extracted_i32 w a.offset a.count) (word.u32_at-word.ensures ∙ sym (word_at i _))
    ∙ sym (field_signed i _ _ _ c.if-t-eq-I32.true)

pub returns : goal.returns
returns c = λ x i.
    let word = c in
    let a = word.args in
    c.extract_bits_u32.ensures
    ∙ ap (λ (w : ℕ). extracted_u32 w a.offset a.count) (word.u32_at-word.ensures ∙ sym (word_at i _))
    ∙ sym (field_plain i _ _ _ c.if-t-eq-I32.false)
