-- The numbers of the entries of an accepted file (specs/Size): how large and how small they are.
--
-- In order: the limit; alignments; sizes.
-- Assumes nothing.
use Prim.Native.Nat.{ℕ, ◌+◌, ◌*◌, ◌^◌, ◌<◌, ◌≤◌}
use mathlib.Core.Bool.{true}
use mathlib.Core.List.Memᴰ
use mathlib.Core.List.{List, [], ◌∷◌, Memᴰ}
use mathlib.Core.Logic.{⊎_elim}
use mathlib.Core.Option.{Option, none, some}
use mathlib.Core.Path.{◌≡◌, refl}
use native.Mathlib.Omega.{arith}
use native.Mathlib.Nat.{mul-le-mul_right}
use borrow.Author.Tests.{leb-true}
use lib.Dec.{leb}
use lib.ListN.{get_elem?}
use Rattle.wgsl.specs.Round.{up, IsPower, limit, within_limit}
use Rattle.wgsl.specs.Types.{Scalar, Ty, scalar, vector, matrix, array, runtime, atomic, struct, Members, no_more, member, is_runtime, everywhere, every_member}
use Rattle.wgsl.specs.Size.{both, given_or, is_present, width_of, vector_size, vector_align, size_of, align_of, members_align, members_end, stride_of, numbers_of, within_limits, fits_limit}
use Rattle.wgsl.specs.Said.{good}
use Rattle.wgsl.specs.File.{between}
use Rattle.wgsl.specs.Rule.{is_last, count_of, members_allowed, is_allowed, is_well_formed, members_given_fit, types_of}
use Rattle.wgsl.proofs.Round.{up_not_below}
use Rattle.wgsl.proofs.Absent.{both_hold, between_true, some_not_none, present_some, both_some}
use Rattle.wgsl.proofs.Power.{power_positive, power_bounded}
use Rattle.wgsl.proofs.Passed.{passed, matrix_passed, array_passed, struct_passed}
use Rattle.wgsl.proofs.Align.{width_power, vector_align_lem, member_aligned, align_power, members_power}
use Rattle.wgsl.proofs.Accepted.{accepted_well_formed}
use Rattle.wgsl.proofs.Tail.{runtime_size, runtime_unsized}
use Rattle.wgsl.proofs.Members.{first_member, sized, next_member}

-- ---- the limit

within_limit_lem : (ns : List (Option ℕ)) (n : ℕ) → within_limits ns ≡ true → Memᴰ (some n) ns → n ≤ limit
unfolding within_limits within_limit
within_limit_lem [] n e m = absurd (Memᴰ.not-nil m)
within_limit_lem (none ∷ ns) n e m =
    ⊎_elim (λ (h : some n ≡ none). some_not_none refl h) (within_limit_lem ns n e) (Memᴰ.cases_cons m)
within_limit_lem (some x ∷ ns) n e m =
    let c = both_hold (leb x limit) (within_limits ns) e in
    ⊎_elim (λ (h : some n ≡ some x). let q : n ≡ x = cc in rw q (leb-true x limit c.0)) (within_limit_lem ns n c.1)
    (Memᴰ.cases_cons m)

-- Every number of a well-formed type is at most 4,294,967,295.
pub number_limit : (t : Ty) (n : ℕ) → everywhere is_well_formed t ≡ true → Memᴰ (some n) (numbers_of t) → n ≤ limit
unfolding fits_limit
number_limit t n w m = within_limit_lem (numbers_of t) n (passed t w).fits m

-- Every number of an entry of an accepted file is at most 4,294,967,295.
pub entry_limit : (f : List ℕ) (ts : List Ty) → types_of f ≡ good ts → (k : ℕ) (t : Ty) → get_elem? ts k ≡ some t → (n : ℕ) → Memᴰ (some n) (numbers_of t) → n ≤ limit
entry_limit f ts e k t h n m = number_limit t n (accepted_well_formed f ts e k t h) m

-- The size of a well-formed type is at most 4,294,967,295.
pub size_limit : (t : Ty) (z : ℕ) → everywhere is_well_formed t ≡ true → size_of t ≡ some z → z ≤ limit
unfolding numbers_of
size_limit t z w e = number_limit t z w (Memᴰ.head (rw e))

-- The alignment of a well-formed type is at most 4,294,967,295.
pub align_limit : (t : Ty) (a : ℕ) → everywhere is_well_formed t ≡ true → align_of t ≡ some a → a ≤ limit
unfolding numbers_of
align_limit t a w e = number_limit t a w (Memᴰ.tail (Memᴰ.head (rw e)))

-- ---- alignments

-- The alignment of a well-formed type is above 0.
pub align_positive : (t : Ty) (a : ℕ) → everywhere is_well_formed t ≡ true → align_of t ≡ some a → 1 ≤ a
align_positive t a w e = power_positive (align_power t a w e)

-- Every alignment of an entry of an accepted file is a power of two, at most 2 ^ 31.
pub entry_align : (f : List ℕ) (ts : List Ty) → types_of f ≡ good ts → (k : ℕ) (t : Ty) → get_elem? ts k ≡ some t → (a : ℕ) → align_of t ≡ some a → IsPower a × (a ≤ 2 ^ 31)
entry_align f ts e k t h a al =
    let w = accepted_well_formed f ts e k t h in
    let p = align_power t a w al in
    (p, power_bounded p (omega (arith, align_limit t a w al)))

-- ---- sizes

-- so many times a number of at least 2
times : (k : ℕ) (x : Option ℕ) (z : ℕ) → 1 ≤ k → ((y : ℕ) → x ≡ some y → 2 ≤ y) → both ◌*◌ (some k) x ≡ some z → 2 ≤ z
times k x z l h e =
    let m = both_some ◌*◌ (some k) x z e in
    let same : k ≡ m.left = cc m.left_is in
    rw (m.is, ← same) (omega (arith, h m.right m.right_is, mul-le-mul_right m.right l))

column_positive : (r : ℕ) (s : Scalar) (a : ℕ) → between 2 4 r ≡ true → vector_align r s ≡ some a → 2 ≤ a
column_positive r s a b e =
    let v = vector_align_lem r s a b e in
    let l : 1 ≤ r = omega (arith, (between_true 2 4 r b).0) in
    omega (arith, v.not_below, mul-le-mul_right v.width l, (width_power s v.width v.width_is).low)

-- rounding up keeps a number at 2 or above
up_positive : (t : Ty) (y : ℕ) → everywhere is_well_formed t ≡ true → ((z : ℕ) → size_of t ≡ some z → 2 ≤ z) → both up (align_of t) (size_of t) ≡ some y → 2 ≤ y
up_positive t y w h e =
    let m = both_some up (align_of t) (size_of t) y e in
    let pos = align_positive t m.left w m.left_is in
    omega (arith, m.is, h m.right m.right_is, up_not_below m.left m.right pos)

mutual
  unfolding is_allowed members_end vector_size count_of given_or

  -- Every size of a well-formed type is at least 2.
  pub size_positive : (t : Ty) (z : ℕ) → everywhere is_well_formed t ≡ true → size_of t ≡ some z → 2 ≤ z
  size_positive (scalar s) z w e = (width_power s z e).low
  size_positive (vector k s) z w e =
      let l : 1 ≤ k = omega (arith, (between_true 2 4 k (passed (vector k s) w).allowed).0) in
      times k (width_of s) z l (λ y h. (width_power s y h).low) e
  size_positive (matrix c r s) z w e =
      let sides = matrix_passed c r s w in
      let l : 1 ≤ c = omega (arith, (between_true 2 4 c sides.0).0) in
      times c (vector_align r s) z l (λ y h. column_positive r s y sides.1 h) e
  size_positive (array k t) z w e =
      let p = array_passed k t w in
      times k (both up (align_of t) (size_of t)) z p.count
      (λ y h. up_positive t y p.below (λ x q. size_positive t x p.below q) h) e
  size_positive (runtime t) z w e = some_not_none e refl
  size_positive (atomic s) z w e = let q : 4 ≡ z = cc in omega arith
  size_positive (struct k ms) z w e =
      let p = struct_passed k ms w in
      let m = both_some up (members_align ms) (members_end (some 0) ms) z e in
      let pos : 0 < m.left = power_positive (members_power ms m.left p.below p.given m.left_is) in
      let end = members_end_here 0 ms m.right p.below p.allowed p.given m.right_is in
      omega (arith, m.is, end, p.some_there, up_not_below m.left m.right pos)

  -- Each member takes at least 2 bytes.
  pub members_end_here : (lo : ℕ) (ms : Members) (z : ℕ) → every_member is_well_formed ms ≡ true → members_allowed ms ≡ true → members_given_fit ms ≡ true → members_end (some lo) ms ≡ some z → lo + 2 * count_of ms ≤ z
  members_end_here lo no_more z w ok g e = let q : lo ≡ z = cc in omega arith
  members_end_here lo (member t size align ms) z w ok g e =
      let m = first_member t size align ms w ok g in
      let x = next_member lo t size align ms z e in
      let p = member_aligned t align x.aligned (λ own h. align_power t own m.well h) m.align_fits x.align_is in
      let room : 2 ≤ x.taken =
      ⊎_elim
      (λ (q : is_present (size_of t) ≡ true).
      let o = present_some (size_of t) q in
      let s = sized t size o.0 o.1 m.size_fits in
      let same : s.given ≡ x.taken = cc (s.given_is, x.size_is) in
      omega (arith, s.not_below, size_positive t o.0 m.well o.1))
      (λ (q : (is_last ms ≡ true) × (is_runtime t ≡ true)).
      some_not_none x.size_is (rw (runtime_size t size q.1 m.size_fits, runtime_unsized t q.1)))
      m.sized_or_last in
      let after = up_not_below x.aligned lo (power_positive p.is_power_here) in
      let rest = members_end_here (up x.aligned lo + x.taken) ms z m.rest_well m.rest_allowed m.rest_fits x.rest in
      omega (arith, after, rest)

-- Every stride of an array of a well-formed type is at least 2.
pub stride_positive : (t : Ty) (y : ℕ) → everywhere is_well_formed t ≡ true → stride_of t ≡ some y → 2 ≤ y
unfolding stride_of
stride_positive t y w e = up_positive t y w (λ z h. size_positive t z w h) e
