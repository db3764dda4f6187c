-- Types that are open and types that are not (specs/Types): their tails, extents and sizes (specs/Size, specs/Place).
--
-- In order: a type that is not open has no tail and takes its size; a runtime array has a tail and no size; nor has a struct that ends
-- in one a size; so a type that has a size is not open.
-- Assumes nothing.
use Prim.Native.Nat.{ℕ, ◌+◌, ◌*◌}
use mathlib.Core.Bool.{Bool, true, false, not, ◌&&◌, ◌||◌, or-true}
use mathlib.Core.Option.{Option, none, some}
use mathlib.Core.Path.{◌≡◌, refl, ap, ◌∙◌}
use native.Mathlib.Nat.{zero-add}
use borrow.Author.Tests.{not-true}
use Rattle.wgsl.specs.Round.{up}
use Rattle.wgsl.specs.Types.{Ty, scalar, vector, matrix, array, runtime, atomic, struct, Members, no_more, member, is_runtime, ends_in_runtime, is_open, everywhere}
use Rattle.wgsl.specs.Size.{both, given_or, is_present, present, start_after, end_after, size_of, align_of, members_align, members_end, stride_of, member_start, member_end}
use Rattle.wgsl.specs.Rule.{is_well_formed, at_least, given_size_fits, given_align_fits, members_given_fit}
use Rattle.wgsl.specs.Place.{Tail, tail_at, members_tail, tail_of, extent_by, extent_of}
use Rattle.wgsl.proofs.Absent.{both_hold, true_not_false, some_not_none, some_present, present_is, both_some, both_none}
use Rattle.wgsl.proofs.Passed.{struct_passed}

-- A runtime array is open.
pub runtime_open : (t : Ty) → is_runtime t ≡ true → is_open t ≡ true
unfolding is_runtime is_open
runtime_open (scalar s) e = e
runtime_open (vector n s) e = e
runtime_open (matrix c r s) e = e
runtime_open (array n t) e = e
runtime_open (runtime t) e = refl
runtime_open (atomic s) e = e
runtime_open (struct k ms) e = true_not_false e refl

tail_at_none : (offset : Option ℕ) (t : Ty) → is_runtime t ≡ false → tail_at offset t ≡ none
unfolding is_runtime tail_at
tail_at_none offset (scalar s) e = refl
tail_at_none offset (vector n s) e = refl
tail_at_none offset (matrix c r s) e = refl
tail_at_none offset (array n t) e = refl
tail_at_none offset (runtime t) e = true_not_false refl e
tail_at_none offset (atomic s) e = refl
tail_at_none offset (struct k ms) e = refl

members_tail_none : (before : Option Tail) (end : Option ℕ) (b : Bool) (ms : Members) → (b ≡ false → before ≡ none) → ends_in_runtime b ms ≡ false → members_tail before end ms ≡ none
unfolding members_tail ends_in_runtime
members_tail_none before end b no_more h e = h e
members_tail_none before end b (member t size align ms) h e =
    members_tail_none (tail_at (member_start end align (align_of t)) t)
    (member_end end align (align_of t) size (size_of t)) (is_runtime t) ms
    (λ c. tail_at_none (member_start end align (align_of t)) t c) e

-- A type that is not open has no tail.
pub closed_tail : (t : Ty) → is_open t ≡ false → tail_of t ≡ none
unfolding is_open tail_of
closed_tail (scalar s) e = refl
closed_tail (vector n s) e = refl
closed_tail (matrix c r s) e = refl
closed_tail (array n t) e = refl
closed_tail (runtime t) e = true_not_false refl e
closed_tail (atomic s) e = refl
closed_tail (struct k ms) e = members_tail_none none (some 0) false ms (λ q. refl) e

-- A type that is not open takes its size, however many elements are asked for.
pub closed_extent : (n : ℕ) (t : Ty) → is_open t ≡ false → extent_of n t ≡ present (size_of t)
unfolding extent_of extent_by
closed_extent n t e = rw (closed_tail t e)

-- a tail ends at lo, where its array holds n elements
abbrev pub TailEnds : ℕ → Option Tail → ℕ → Type 0
TailEnds n tail lo = (x : Tail) × (tail ≡ some x) × (x.offset + n * x.stride ≡ lo)

-- A runtime array that starts at o has such a tail.
pub runtime_tail : (n o : ℕ) (t : Ty) → is_runtime t ≡ true → TailEnds n (tail_at (some o) t) (o + extent_of n t)
unfolding is_runtime tail_at extent_of extent_by tail_of present
runtime_tail n o (scalar s) e = true_not_false e refl
runtime_tail n o (vector k s) e = true_not_false e refl
runtime_tail n o (matrix c r s) e = true_not_false e refl
runtime_tail n o (array k t) e = true_not_false e refl
runtime_tail n o (runtime t) e = (record { offset = o; stride = present (stride_of t) }, refl, rw zero-add)
runtime_tail n o (atomic s) e = true_not_false e refl
runtime_tail n o (struct k ms) e = true_not_false e refl

absent_after : (align size : Option ℕ) → end_after none align size ≡ none
unfolding end_after start_after both
absent_after align size = ap (λ (start : Option ℕ). both ◌+◌ start size) (both_none _ align)

-- Past an absent end everything is absent.
pub absent_end : (ms : Members) → members_end none ms ≡ none
unfolding members_end member_end
absent_end no_more = refl
absent_end (member t size align ms) =
    ap (λ (end : Option ℕ). members_end end ms) (absent_after (given_or align (align_of t)) (given_or size (size_of t)))
    ∙ absent_end ms

-- A given size never stands on a runtime array.
pub runtime_size : (t : Ty) (size : Option ℕ) → is_runtime t ≡ true → given_size_fits t size ≡ true → size ≡ none
unfolding given_size_fits
runtime_size t (some g) e f =
    true_not_false e (not-true (is_runtime t) (both_hold (not (is_runtime t)) (at_least (size_of t) g) f).0)
runtime_size t none e f = refl

-- A runtime array has no size.
pub runtime_unsized : (t : Ty) → is_runtime t ≡ true → size_of t ≡ none
unfolding is_runtime size_of
runtime_unsized (scalar s) e = true_not_false e refl
runtime_unsized (vector n s) e = true_not_false e refl
runtime_unsized (matrix c r s) e = true_not_false e refl
runtime_unsized (array n t) e = true_not_false e refl
runtime_unsized (runtime t) e = refl
runtime_unsized (atomic s) e = true_not_false e refl
runtime_unsized (struct k ms) e = true_not_false e refl

-- So what has a size is none,
pub sized_not_runtime : (t : Ty) (z : ℕ) → size_of t ≡ some z → is_runtime t ≡ false
sized_not_runtime t z e = go (is_runtime t) refl
  where
    go : (b : Bool) → is_runtime t ≡ b → b ≡ false
    go true q = some_not_none e (runtime_unsized t q)
    go false q = refl

-- nor is what is not open.
pub closed_not_runtime : (t : Ty) → is_open t ≡ false → is_runtime t ≡ false
closed_not_runtime t e = go (is_runtime t) refl
  where
    go : (b : Bool) → is_runtime t ≡ b → b ≡ false
    go true q = true_not_false (runtime_open t q) e
    go false q = refl

-- the end of a struct that ends in a runtime array is absent
open_end : (end : Option ℕ) (b : Bool) (ms : Members) → members_given_fit ms ≡ true → (b ≡ true → end ≡ none) → ends_in_runtime b ms ≡ true → members_end end ms ≡ none
unfolding members_end ends_in_runtime members_given_fit member_start member_end end_after given_or
open_end end b no_more g h e = h e
open_end end b (member t size align ms) g h e =
    let fits = both_hold (given_size_fits t size && given_align_fits t align) (members_given_fit ms) g in
    let fit = both_hold (given_size_fits t size) (given_align_fits t align) fits.0 in
    open_end (member_end end align (align_of t) size (size_of t)) (is_runtime t) ms fits.1
    (λ q. rw (runtime_size t size q fit.0, runtime_unsized t q) (both_none ◌+◌ (member_start end align (align_of t)))) e

-- A well-formed type that has a size is not open.
pub sized_closed : (t : Ty) (z : ℕ) → everywhere is_well_formed t ≡ true → size_of t ≡ some z → is_open t ≡ false
unfolding is_open size_of
sized_closed (scalar s) z w e = refl
sized_closed (vector n s) z w e = refl
sized_closed (matrix c r s) z w e = refl
sized_closed (array n t) z w e = refl
sized_closed (runtime t) z w e = some_not_none {A = ℕ} {a = z} e refl
sized_closed (atomic s) z w e = refl
sized_closed (struct k ms) z w e = go (ends_in_runtime false ms) refl
  where
    go : (b : Bool) → ends_in_runtime false ms ≡ b → b ≡ false
    go true q =
        let m = both_some up (members_align ms) (members_end (some 0) ms) z e in
        some_not_none m.right_is
        (open_end (some 0) false ms (struct_passed k ms w).given (λ f. true_not_false f refl) q)
    go false q = refl

-- What has a size has an extent.
pub sized_has : (t : Ty) (z : ℕ) → size_of t ≡ some z → (is_open t || is_present (size_of t)) ≡ true
sized_has t z e = rw (some_present e) (or-true (is_open t))

-- A type with a size takes it.
pub sized_takes : (n : ℕ) (t : Ty) (z : ℕ) → everywhere is_well_formed t ≡ true → size_of t ≡ some z → extent_of n t ≡ z
sized_takes n t z w e = closed_extent n t (sized_closed t z w e) ∙ ap present e ∙ present_is z
