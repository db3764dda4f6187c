-- The stride of a type (specs/Size; 02, E1).
--
-- In order: its three cases, which leave no choice; of an element it is 01's stride of an array; it is the larger of size and alignment,
-- and so within the limit.
-- Assumes nothing.
use Prim.Native.Nat.{ℕ, ◌*◌, ◌%◌, ◌<◌, ◌≤◌, max}
use mathlib.Core.Bool.{true, false}
use mathlib.Core.List.{List}
use mathlib.Core.Logic.{◌⊎◌, inl, inr, ⊎_elim}
use mathlib.Core.Option.{Option, none, some}
use mathlib.Core.Path.{◌≡◌, refl, sym, ◌∙◌}
use native.Mathlib.Omega.{arith}
use native.Mathlib.Nat.{mod_self, mod-eq_of_lt, mul-mod_left, lt_of_not-le}
use native.Mathlib.Decide.{dec_le}
use lib.ListN.{get_elem?}
use Rattle.wgsl.specs.Round.{up, limit}
use Rattle.wgsl.specs.Types.{Ty, scalar, vector, matrix, array, runtime, atomic, struct, is_runtime, everywhere}
use Rattle.wgsl.specs.Size.{both, size_of, align_of, stride_of, own_stride_of, width_of, vector_size, vector_align, members_align, members_end}
use Rattle.wgsl.specs.Said.{good}
use Rattle.wgsl.specs.Rule.{is_allowed, is_well_formed, types_of}
use Rattle.wgsl.specs.Place.{shape_of}
use Rattle.wgsl.specs.Claim.{IsStride, ByElement}
use Rattle.wgsl.proofs.Round.{up_multiple, up_not_below, up_least}
use Rattle.wgsl.proofs.Absent.{true_not_false, some_not_none, both_some, both_none}
use Rattle.wgsl.proofs.Tail.{sized_not_runtime, closed_not_runtime}
use Rattle.wgsl.proofs.Shape.{multiple_trans}
use Rattle.wgsl.proofs.Passed.{passed, array_passed, runtime_passed}
use Rattle.wgsl.proofs.Align.{vector_align_lem}
use Rattle.wgsl.proofs.Accepted.{accepted_well_formed}
use Rattle.wgsl.proofs.Entry.{align_positive, align_limit, size_positive, size_limit, stride_positive}

-- ---- its three cases

-- Of what is no runtime array it is the size rounded up to the alignment, absent if either is: 01's stride of an array of it.
pub own_stride : (t : Ty) → is_runtime t ≡ false → own_stride_of t ≡ stride_of t
unfolding own_stride_of is_runtime
own_stride (scalar s) e = refl
own_stride (vector n s) e = refl
own_stride (matrix c r s) e = refl
own_stride (array n t) e = refl
own_stride (runtime t) e = true_not_false refl e
own_stride (atomic s) e = refl
own_stride (struct k ms) e = refl

-- "for any type with size and alignment, the size rounded up to the alignment;"
sized_stride : (t : Ty) (a z : ℕ) → align_of t ≡ some a → size_of t ≡ some z → own_stride_of t ≡ some (up a z)
unfolding stride_of both
sized_stride t a z e h = own_stride t (sized_not_runtime t z h) ∙ rw (e, h)

-- "else absent."
absent_stride : (t : Ty) → is_runtime t ≡ false → (align_of t ≡ none) ⊎ (size_of t ≡ none) → own_stride_of t ≡ none
unfolding stride_of both
absent_stride t r =
    ⊎_elim
    (λ (h : align_of t ≡ none). own_stride t r ∙ rw h)
    (λ (h : size_of t ≡ none). own_stride t r ∙ rw h (both_none up (align_of t)))

-- The stride of a type is E1's number,
pub stride_is : (t : Ty) → IsStride t (own_stride_of t)
unfolding own_stride_of
stride_is t = record { rounded = sized_stride t; of_element = λ u e. rw e; absent = absent_stride t }

-- a number is there or absent
there_or_absent : (o : Option ℕ) → ((n : ℕ) × (o ≡ some n)) ⊎ (o ≡ none)
there_or_absent (some n) = inl (n, refl)
there_or_absent none = inr refl

-- of what is no runtime array
rounded_only : (t : Ty) (r s : Option ℕ) → is_runtime t ≡ false → IsStride t r → IsStride t s → r ≡ s
rounded_only t r s e p q =
    ⊎_elim
    (λ (a : (n : ℕ) × (align_of t ≡ some n)).
    ⊎_elim
    (λ (z : (n : ℕ) × (size_of t ≡ some n)).
    p.rounded a.0 z.0 a.1 z.1 ∙ sym (q.rounded a.0 z.0 a.1 z.1))
    (λ (h : size_of t ≡ none). p.absent e (inr h) ∙ sym (q.absent e (inr h)))
    (there_or_absent (size_of t)))
    (λ (h : align_of t ≡ none). p.absent e (inl h) ∙ sym (q.absent e (inl h)))
    (there_or_absent (align_of t))

-- and no other is.
pub stride_unique : (t : Ty) {r s : Option ℕ} → IsStride t r → IsStride t s → r ≡ s
unfolding is_runtime
stride_unique (scalar c) p q = rounded_only (scalar c) _ _ refl p q
stride_unique (vector n c) p q = rounded_only (vector n c) _ _ refl p q
stride_unique (matrix c r k) p q = rounded_only (matrix c r k) _ _ refl p q
stride_unique (array n t) p q = rounded_only (array n t) _ _ refl p q
stride_unique (runtime t) p q = p.of_element t refl ∙ sym (q.of_element t refl)
stride_unique (atomic c) p q = rounded_only (atomic c) _ _ refl p q
stride_unique (struct k ms) p q = rounded_only (struct k ms) _ _ refl p q

-- ---- of an element

-- The parts of an array lie by it,
pub array_stride : (k : ℕ) (t : Ty) → everywhere is_well_formed (array k t) ≡ true → ByElement (array k t) t (λ n. k)
unfolding shape_of
array_stride k t w =
    let same = own_stride t (closed_not_runtime t (array_passed k t w).closed) in
    record { array_stride = same; shape = λ n. rw same }

-- and those of a runtime array.
pub runtime_stride : (t : Ty) → everywhere is_well_formed (runtime t) ≡ true → ByElement (runtime t) t (λ n. n)
unfolding shape_of
runtime_stride t w =
    let p = runtime_passed t w in
    let same = own_stride t (sized_not_runtime t p.own p.own_is) in
    record { array_stride = same; shape = λ n. rw same }

-- ---- how large it is

-- a multiple that is not 0 is not below
multiple_not_below : (a m : ℕ) → m % a ≡ 0 → 0 < m → a ≤ m
multiple_not_below a m e pos =
    elim (dec_le a m) [
      | yes h ↦ h
      | no h ↦ let same : m % a ≡ m = mod-eq_of_lt (lt_of_not-le h) in absurd (omega (arith, e, same))
    ]

-- rounding a multiple up changes nothing, and rounding what is not above gives the alignment
up_same : (a z : ℕ) → 0 < a → 0 < z → z % a ≡ 0 → up a z ≡ max a z
up_same a z pos low e =
    omega (arith, up_least a z z pos e (omega arith), up_not_below a z pos, multiple_not_below a z e low)

up_whole : (a z : ℕ) → 0 < a → 0 < z → z ≤ a → up a z ≡ max a z
up_whole a z pos low h =
    let above = up_not_below a z pos in
    omega (arith, up_least a z a pos (mod_self a) h, multiple_not_below a (up a z) (up_multiple a z) (omega (arith, above)))

-- The size of a well-formed type is a multiple of its alignment; but for a vector, whose size is not above it.
size_by_align : (t : Ty) (a z : ℕ) → everywhere is_well_formed t ≡ true → align_of t ≡ some a → size_of t ≡ some z → (z % a ≡ 0) ⊎ (z ≤ a)
unfolding is_allowed size_of align_of vector_size
size_by_align (scalar s) a z w e h = let same : a ≡ z = cc in inr (omega arith)
size_by_align (vector k s) a z w e h =
    let v = vector_align_lem k s a (passed (vector k s) w).allowed e in
    let b = both_some ◌*◌ (some k) (width_of s) z h in
    let count : b.left ≡ k = cc b.left_is in
    let width : b.right ≡ v.width = cc (b.right_is, v.width_is) in
    inr (rw (b.is, count, width) v.not_below)
size_by_align (matrix c r s) a z w e h =
    let b = both_some ◌*◌ (some c) (vector_align r s) z h in
    let same : b.right ≡ a = cc (b.right_is, e) in
    inl (rw (b.is, same) (mul-mod_left b.left a))
size_by_align (array k t) a z w e h =
    let b = both_some ◌*◌ (some k) (both up (align_of t) (size_of t)) z h in
    let u = both_some up (align_of t) (size_of t) b.right b.right_is in
    let same : u.left ≡ a = cc (u.left_is, e) in
    let multiple : b.right % a ≡ 0 = rw (u.is, same) (up_multiple a u.right) in
    inl (rw b.is (multiple_trans a b.right (b.left * b.right) multiple (mul-mod_left b.left b.right)))
size_by_align (runtime t) a z w e h = some_not_none h refl
size_by_align (atomic s) a z w e h = let same : a ≡ z = cc in inr (omega arith)
size_by_align (struct k ms) a z w e h =
    let b = both_some up (members_align ms) (members_end (some 0) ms) z h in
    let same : b.left ≡ a = cc (b.left_is, e) in
    inl (rw (b.is, same) (up_multiple a b.right))

-- So rounding it up gives the larger of the two.
pub up_larger : (t : Ty) (a z : ℕ) → everywhere is_well_formed t ≡ true → align_of t ≡ some a → size_of t ≡ some z → up a z ≡ max a z
up_larger t a z w e h =
    let aligned = align_positive t a w e in
    let some_there : 0 < z = omega (arith, size_positive t z w h) in
    ⊎_elim (up_same a z aligned some_there) (up_whole a z aligned some_there) (size_by_align t a z w e h)

-- What holds of the stride of an array of any well-formed type holds of a type's own.
own_by_array : (P : ℕ → Type 0) → ((t : Ty) (n : ℕ) → everywhere is_well_formed t ≡ true → stride_of t ≡ some n → P n) → (t : Ty) (n : ℕ) → everywhere is_well_formed t ≡ true → own_stride_of t ≡ some n → P n
unfolding own_stride_of
own_by_array P h (scalar s) = h (scalar s)
own_by_array P h (vector k s) = h (vector k s)
own_by_array P h (matrix c r s) = h (matrix c r s)
own_by_array P h (array k t) = h (array k t)
own_by_array P h (runtime t) = λ n w. own_by_array P h t n (runtime_passed t w).below
own_by_array P h (atomic s) = h (atomic s)
own_by_array P h (struct k ms) = h (struct k ms)

-- It is above 0,
pub own_stride_positive : (t : Ty) (n : ℕ) → everywhere is_well_formed t ≡ true → own_stride_of t ≡ some n → 1 ≤ n
own_stride_positive = own_by_array (λ n. 1 ≤ n) (λ t n w e. omega (arith, stride_positive t n w e))

rounded_limit : (t : Ty) (n : ℕ) → everywhere is_well_formed t ≡ true → stride_of t ≡ some n → n ≤ limit
unfolding stride_of
rounded_limit t n w e =
    let b = both_some up (align_of t) (size_of t) n e in
    let larger = up_larger t b.left b.right w b.left_is b.right_is in
    omega (arith, b.is, larger, align_limit t b.left w b.left_is, size_limit t b.right w b.right_is)

-- and within the limit,
pub stride_limit : (t : Ty) (n : ℕ) → everywhere is_well_formed t ≡ true → own_stride_of t ≡ some n → n ≤ limit
stride_limit = own_by_array (λ n. n ≤ limit) rounded_limit

-- of every entry of an accepted file.
pub entry_stride : (f : List ℕ) (ts : List Ty) → types_of f ≡ good ts → (k : ℕ) (t : Ty) → get_elem? ts k ≡ some t → (n : ℕ) → own_stride_of t ≡ some n → n ≤ limit
entry_stride f ts e k t h n s = stride_limit t n (accepted_well_formed f ts e k t h) s
