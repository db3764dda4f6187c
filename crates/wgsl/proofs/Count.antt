-- How many words a type has (specs/Place).
--
-- In order: the words of a shape, wherever it lies; how they add up, type by type; bounds.
-- Assumes nothing.
use Prim.Native.Nat.{ℕ, zero, suc, ◌+◌, ◌*◌, ◌<◌, ◌≤◌}
use mathlib.Core.Bool.{true, false}
use mathlib.Core.List.{List}
use mathlib.Core.Option.{Option, none, some}
use mathlib.Core.Path.{◌≡◌, refl, ◌∙◌}
use native.Mathlib.Omega.{arith}
use native.Mathlib.Nat.{zero-mul, suc-mul, mul_left_comm, mul-le-mul_left, mul-pos}
use lib.ListN.{length, length-append}
use Rattle.wgsl.specs.Round.{up}
use Rattle.wgsl.specs.Types.{Scalar, bool, i32, u32, f32, f16, abstract_int, abstract_float, i64, u64, f64, Ty, scalar, vector, matrix, array, runtime, atomic, struct, Members, no_more, member, ends_in_runtime, is_open, everywhere, every_member}
use Rattle.wgsl.specs.Size.{present, width_of, size_of, align_of, member_end}
use Rattle.wgsl.specs.Rule.{is_matrix_scalar, count_of, members_allowed, is_allowed, is_well_formed, members_given_fit}
use Rattle.wgsl.specs.Place.{extent_of, Shape, one, parts, field, whole, column, shape_of, fields_of, span_of, words_for, repeated, places_of, places, word_count}
use Rattle.wgsl.specs.Shapes.{shape_words, From, Sound}
use Rattle.wgsl.proofs.Absent.{between_true, true_not_false}
use Rattle.wgsl.proofs.Align.{width_power, atomic_width, vector_align_lem}
use Rattle.wgsl.proofs.ScalarWords.{scalar_length, words_needed, words_some}
use Rattle.wgsl.proofs.Passed.{passed, matrix_passed, array_passed, runtime_passed, struct_passed}
use Rattle.wgsl.proofs.Tail.{sized_has, sized_takes}
use Rattle.wgsl.proofs.Members.{first_member}
use Rattle.wgsl.proofs.Closed.{member_open}
use Rattle.wgsl.proofs.Laid.{laid}

-- ---- the words of a shape

pub repeated_length : {A : Type 0} (n stride : ℕ) (f : ℕ → List A) (at k : ℕ) → ((p : ℕ) → length (f p) ≡ k) → length (repeated n stride f at) ≡ n * k
unfolding repeated
repeated_length zero stride f at k h = rw zero-mul
repeated_length (suc n) stride f at k h =
    rw (length-append, h at, repeated_length n stride f (at + stride) k h) (omega (arith, suc-mul n k))

-- A shape has as many places as words, wherever it lies.
pub places_words : (x : Shape) (at : ℕ) → length (places_of x at) ≡ shape_words x
unfolding places_of shape_words
places_words (one s) at = scalar_length s at
places_words (parts n stride x) at = repeated_length n stride (λ p. places_of x p) at (shape_words x) (λ p. places_words x p)
places_words (field offset x rest) at = rw (length-append, places_words x (at + offset), places_words rest at)
places_words (whole z) at = refl

-- A type has as many words as its shape.
pub count_words : (n : ℕ) (t : Ty) → word_count n t ≡ shape_words (shape_of n t)
unfolding word_count places
count_words n t = places_words (shape_of n t) 0

-- ---- how the words of a type add up

-- A scalar takes as many words as its bytes need.
pub word_count_scalar : (n : ℕ) (s : Scalar) → word_count n (scalar s) ≡ words_for (present (width_of s))
unfolding shape_of shape_words
word_count_scalar n s = count_words n (scalar s)

-- A vector takes those of its k scalars.
pub word_count_vector : (n k : ℕ) (s : Scalar) → word_count n (vector k s) ≡ k * words_for (present (width_of s))
unfolding shape_of column shape_words
word_count_vector n k s = count_words n (vector k s)

-- A matrix takes those of its columns.
pub word_count_matrix : (n c r : ℕ) (s : Scalar) → word_count n (matrix c r s) ≡ c * (r * words_for (present (width_of s)))
unfolding shape_of column shape_words
word_count_matrix n c r s = count_words n (matrix c r s)

-- An array of k elements has k times the words of one.
pub word_count_array : (n k : ℕ) (t : Ty) → word_count n (array k t) ≡ k * word_count n t
unfolding shape_of shape_words
word_count_array n k t = rw (count_words n t) (count_words n (array k t))

-- A runtime array has the words of its n elements.
pub word_count_runtime : (n : ℕ) (t : Ty) → word_count n (runtime t) ≡ n * word_count n t
unfolding shape_of shape_words
word_count_runtime n t = rw (count_words n t) (count_words n (runtime t))

-- An atomic takes those of its scalar.
pub word_count_atomic : (n : ℕ) (s : Scalar) → word_count n (atomic s) ≡ words_for (present (width_of s))
unfolding shape_of shape_words
word_count_atomic n s = count_words n (atomic s)

-- the words of members together
unfoldable pub members_words : ℕ → Members → ℕ
members_words n no_more = 0
members_words n (member t size align ms) = word_count n t + members_words n ms

fields_words : (n z : ℕ) (end : Option ℕ) (ms : Members) → shape_words (fields_of n z end ms) ≡ members_words n ms
unfolding fields_of shape_words members_words
fields_words n z end no_more = refl
fields_words n z end (member t size align ms) =
    rw (count_words n t, fields_words n z (member_end end align (align_of t) size (size_of t)) ms)

-- A struct has the words of its members.
pub word_count_struct : (n k : ℕ) (ms : Members) → word_count n (struct k ms) ≡ members_words n ms
unfolding shape_of
word_count_struct n k ms = count_words n (struct k ms) ∙ fields_words n (extent_of n (struct k ms)) (some 0) ms

-- ---- bounds

scalar_room : (s : Scalar) → 2 * words_for (present (width_of s)) ≤ present (width_of s)
unfolding present width_of words_for up
scalar_room bool = omega arith
scalar_room i32 = omega arith
scalar_room u32 = omega arith
scalar_room f32 = omega arith
scalar_room f16 = omega arith
scalar_room abstract_int = omega arith
scalar_room abstract_float = omega arith
scalar_room i64 = omega arith
scalar_room u64 = omega arith
scalar_room f64 = omega arith

-- A scalar takes at most two words.
pub words_few : (s : Scalar) → words_for (present (width_of s)) ≤ 2
unfolding present
words_few s = omega (arith, words_needed (present (width_of s)), bytes (width_of s) refl)
  where
    bytes : (x : Option ℕ) → width_of s ≡ x → present x ≤ 8
    bytes none e = let z : present none ≡ 0 = refl in omega arith
    bytes (some w) e = (width_power s w e).high

-- A scalar that a matrix may hold takes one word, if it has a size.
pub matrix_word : (s : Scalar) → is_matrix_scalar s ≡ true → 0 < present (width_of s) → words_for (present (width_of s)) ≡ 1
unfolding is_matrix_scalar width_of present words_for up
matrix_word bool m w = refl
matrix_word i32 m w = refl
matrix_word u32 m w = refl
matrix_word f32 m w = refl
matrix_word f16 m w = refl
matrix_word abstract_int m w = absurd (omega arith)
matrix_word abstract_float m w = absurd (omega arith)
matrix_word i64 m w = true_not_false m refl
matrix_word u64 m w = true_not_false m refl
matrix_word f64 m w = true_not_false m refl

-- Each word of a sound shape takes at least 2 of its bytes.
mutual
  unfolding Sound From shape_words span_of

  pub words_room : (x : Shape) → Sound x → 2 * shape_words x ≤ span_of x
  words_room (one s) sound = scalar_room s
  words_room (parts n stride x) sound =
      let l : 2 * shape_words x ≤ stride = omega (arith, words_room x sound.0, sound.1) in
      rw (mul_left_comm 2 n (shape_words x)) (mul-le-mul_left n l)
  words_room (field offset x rest) sound =
      omega (arith, words_room x sound.0, rest_room rest (offset + span_of x) sound.1 sound.2)
  words_room (whole z) sound = omega arith

  rest_room : (x : Shape) (lo : ℕ) → Sound x → From x lo → lo + 2 * shape_words x ≤ span_of x
  rest_room (one s) lo sound from = absurd from
  rest_room (parts n stride x) lo sound from = absurd from
  rest_room (field offset x rest) lo sound from =
      omega (arith, words_room x sound.0, rest_room rest (offset + span_of x) sound.1 sound.2)
  rest_room (whole z) lo sound from = omega arith

-- Each word of a type of fixed size takes at least 2 of its bytes.
pub words_bounded : (n : ℕ) (t : Ty) (a z : ℕ) → everywhere is_well_formed t ≡ true → align_of t ≡ some a → size_of t ≡ some z → 2 * word_count n t ≤ z
words_bounded n t a z w e h =
    let l = laid n t a w e (sized_has t z h) in
    omega (arith, count_words n t, words_room (shape_of n t) l.sound, l.span, sized_takes n t z w h)

width_words : (s : Scalar) (w : ℕ) → width_of s ≡ some w → 1 ≤ words_for (present (width_of s))
unfolding present
width_words s w e = rw e (words_some w (omega (arith, (width_power s w e).low)))

mutual
  unfolding is_allowed is_open ends_in_runtime column fields_of shape_words count_of align_of

  shape_positive : (n : ℕ) (t : Ty) (a : ℕ) → everywhere is_well_formed t ≡ true → align_of t ≡ some a → (is_open t ≡ true → 1 ≤ n) → 1 ≤ shape_words (shape_of n t)
  shape_positive n (scalar s) a w e h = width_words s a e
  shape_positive n (vector k s) a w e h =
      let k_in = (passed (vector k s) w).allowed in
      let v = vector_align_lem k s a k_in e in
      mul-pos (omega (arith, (between_true 2 4 k k_in).0)) (width_words s v.width v.width_is)
  shape_positive n (matrix c r s) a w e h =
      let sides = matrix_passed c r s w in
      let v = vector_align_lem r s a sides.1 e in
      mul-pos (omega (arith, (between_true 2 4 c sides.0).0))
      (mul-pos (omega (arith, (between_true 2 4 r sides.1).0)) (width_words s v.width v.width_is))
  shape_positive n (array k t) a w e h =
      let p = array_passed k t w in
      mul-pos p.count (shape_positive n t a p.below e (λ q. true_not_false q p.closed))
  shape_positive n (runtime t) a w e h =
      mul-pos (h refl) (shape_positive n t a (runtime_passed t w).below e (λ q. h refl))
  shape_positive n (atomic s) a w e h = width_words s 4 (atomic_width s (passed (atomic s) w).allowed)
  shape_positive n (struct k ms) a w e h =
      let p = struct_passed k ms w in
      fields_positive n (extent_of n (struct k ms)) (some 0) ms p.below p.allowed p.given p.some_there h

  fields_positive : (n z : ℕ) (end : Option ℕ) (ms : Members) → every_member is_well_formed ms ≡ true → members_allowed ms ≡ true → members_given_fit ms ≡ true → 1 ≤ count_of ms → (ends_in_runtime false ms ≡ true → 1 ≤ n) → 1 ≤ shape_words (fields_of n z end ms)
  fields_positive n z end no_more w ok g c h = absurd (omega arith)
  fields_positive n z end (member t size align ms) w ok g c h =
      let m = first_member t size align ms w ok g in
      omega (arith, shape_positive n t m.own m.well m.own_is (λ q. h (member_open t size align ms m q)))

-- A type with an alignment has at least one word, if an open one holds an element.
pub words_positive : (n : ℕ) (t : Ty) (a : ℕ) → everywhere is_well_formed t ≡ true → align_of t ≡ some a → (is_open t ≡ true → 1 ≤ n) → 1 ≤ word_count n t
words_positive n t a w e h = rw (count_words n t) (shape_positive n t a w e h)
