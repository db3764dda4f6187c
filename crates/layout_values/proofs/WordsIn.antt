-- How many words a value has (specs/Value, `words_in`): those of its type.
--
-- In order: the words of a type with a layout; of a value.
-- Assumes nothing.
use Prim.Native.Nat.{ℕ, ◌*◌}
use mathlib.Core.Bool.{Bool, true, false, cond, or-true}
use mathlib.Core.Option.{some}
use mathlib.Core.Path.{◌≡◌, refl, sym, ◌∙◌}
use native.Mathlib.Omega.{arith}
use native.Mathlib.Nat.{mul-zero, one-mul}
use borrow.Author.Tests.{ne_eqb}
use Rattle.wgsl.specs.Round.{up}
use Rattle.wgsl.specs.Types.{Ty, scalar, vector, matrix, array, runtime, atomic, struct, is_open, scalar_kind, kind_of}
use Rattle.wgsl.specs.Size.{both, is_present, size_of, align_of, has_layout}
use Rattle.wgsl.specs.Place.{word_count}
use Rattle.wgsl.proofs.Absent.{both_hold, both_some, present_some}
use Rattle.wgsl.proofs.ScalarKind.{no_scalar_kind}
use Rattle.wgsl.proofs.Count.{word_count_scalar, word_count_vector, word_count_matrix, word_count_array, word_count_runtime, word_count_atomic}
use Rattle.layout_values.specs.Value.{scalar_words, parts_of, fixed_words, value_of, words_in}

-- What an array over a type that has a layout has: an element with one.
array_layout : (n : ℕ) (t : Ty) → has_layout (array n t) ≡ true → has_layout t ≡ true
unfolding has_layout align_of is_open size_of is_present
array_layout n t h =
    let b = both_hold (is_present (align_of t)) _ h in
    let z = present_some (both ◌*◌ (some n) (both up (align_of t) (size_of t))) b.1 in
    let outer = both_some ◌*◌ (some n) (both up (align_of t) (size_of t)) z.0 z.1 in
    let inner = both_some up (align_of t) (size_of t) outer.right outer.right_is in
    rw (b.0, inner.right_is) (or-true (is_open t))

-- A type with a layout has its words,
pub words_fixed : (t : Ty) → has_layout t ≡ true → fixed_words t ≡ word_count 0 t
unfolding fixed_words
words_fixed t h = rw h

times_cond : (b : Bool) (n u w : ℕ) → (b ≡ true → n * u ≡ w) → n * cond b u 0 ≡ cond b w 0
times_cond true n u w h = h refl
times_cond false n u w h = mul-zero n

-- The words of a value are those of its type.
pub value_words : (long r : ℕ) (t : Ty) → words_in (value_of long r t) ≡ fixed_words t
unfolding words_in value_of kind_of parts_of fixed_words
value_words long r (scalar s) =
    rw (ne_eqb (scalar_kind s) 12 (no_scalar_kind s 12 (omega arith) (omega arith)))
    (times_cond (has_layout (scalar s)) 1 (scalar_words s) (word_count 0 (scalar s)) (λ h. one-mul _ ∙ sym (word_count_scalar 0 s)))
value_words long r (vector n s) =
    times_cond (has_layout (vector n s)) n (scalar_words s) (word_count 0 (vector n s)) (λ h. sym (word_count_vector 0 n s))
value_words long r (matrix c m s) =
    times_cond (has_layout (matrix c m s)) c (m * scalar_words s) (word_count 0 (matrix c m s)) (λ h. sym (word_count_matrix 0 c m s))
value_words long r (array n t) =
    times_cond (has_layout (array n t)) n (fixed_words t) (word_count 0 (array n t))
    (λ h. rw (words_fixed t (array_layout n t h)) (sym (word_count_array 0 n t)))
value_words long r (runtime t) =
    times_cond (has_layout (runtime t)) 0 (fixed_words t) (word_count 0 (runtime t)) (λ h. omega (arith, word_count_runtime 0 t))
value_words long r (atomic s) =
    times_cond (has_layout (atomic s)) 1 (scalar_words s) (word_count 0 (atomic s)) (λ h. one-mul _ ∙ sym (word_count_atomic 0 s))
value_words long r (struct k ms) = refl

-- and one with an alignment and a size has a layout.
pub words_there : (t : Ty) (a z : ℕ) → align_of t ≡ some a → size_of t ≡ some z → fixed_words t ≡ word_count 0 t
unfolding fixed_words has_layout is_present
words_there t a z p q = rw (p, q, or-true (is_open t))
