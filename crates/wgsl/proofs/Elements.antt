-- Open types and their elements (specs/Place): every open type has a tail, and its extent holds the elements that it was made for.
-- Assumes nothing.
use Prim.Native.Nat.{ℕ, ◌<◌}
use mathlib.Core.Bool.{Bool, true, false}
use mathlib.Core.Option.{Option, none, some}
use mathlib.Core.Path.{◌≡◌, refl}
use native.Mathlib.Omega.{arith}
use native.Mathlib.Nat.{add-sub_cancel_left, mul-div_cancel}
use Rattle.wgsl.specs.Round.{up}
use Rattle.wgsl.specs.Types.{Ty, scalar, vector, matrix, array, runtime, atomic, struct, Members, no_more, member, is_runtime, ends_in_runtime, is_open, everywhere, every_member}
use Rattle.wgsl.specs.Size.{both, given_or, present, start_after, end_after, size_of, align_of, stride_of, member_start, member_end}
use Rattle.wgsl.specs.Rule.{is_well_formed}
use Rattle.wgsl.specs.Place.{Tail, tail_at, members_tail, tail_of, extent_by, extent_of, elements_by, elements_in}
use Rattle.wgsl.proofs.Absent.{both_hold, true_not_false}
use Rattle.wgsl.proofs.Passed.{runtime_passed, struct_passed}
use Rattle.wgsl.proofs.Entry.{stride_positive}

-- there is a tail, and its stride is above 0
abbrev HasTail : Option Tail → Type 0
HasTail tail = (x : Tail) × (tail ≡ some x) × (0 < x.stride)

tail_there : (offset : Option ℕ) (t : Ty) → everywhere is_well_formed t ≡ true → is_runtime t ≡ true → HasTail (tail_at offset t)
unfolding is_runtime tail_at stride_of both present
tail_there offset (scalar s) w e = true_not_false e refl
tail_there offset (vector k s) w e = true_not_false e refl
tail_there offset (matrix c r s) w e = true_not_false e refl
tail_there offset (array k t) w e = true_not_false e refl
tail_there offset (runtime t) w e =
    let p = runtime_passed t w in
    let y : stride_of t ≡ some (up p.aligned p.own) = rw (p.aligned_is, p.own_is) in
    let pos = stride_positive t (up p.aligned p.own) p.below y in
    (record { offset = present offset; stride = present (stride_of t) }, refl, rw y (omega arith))
tail_there offset (atomic s) w e = true_not_false e refl
tail_there offset (struct k ms) w e = true_not_false e refl

members_tail_there : (b : Bool) (before : Option Tail) (end : Option ℕ) (ms : Members) → every_member is_well_formed ms ≡ true → (b ≡ true → HasTail before) → ends_in_runtime b ms ≡ true → HasTail (members_tail before end ms)
unfolding every_member ends_in_runtime members_tail member_start member_end
members_tail_there b before end no_more w h e = h e
members_tail_there b before end (member t size align ms) w h e =
    let ws = both_hold (everywhere is_well_formed t) (every_member is_well_formed ms) w in
    let al = given_or align (align_of t) in
    members_tail_there (is_runtime t) (tail_at (start_after end al) t) (end_after end al (given_or size (size_of t))) ms ws.1
    (λ q. tail_there (start_after end al) t ws.0 q) e

-- A well-formed open type has a tail, with a stride above 0.
pub open_tail : (t : Ty) → everywhere is_well_formed t ≡ true → is_open t ≡ true → (x : Tail) × (tail_of t ≡ some x) × (0 < x.stride)
unfolding everywhere is_open tail_of is_runtime
open_tail (scalar s) w e = true_not_false e refl
open_tail (vector k s) w e = true_not_false e refl
open_tail (matrix c r s) w e = true_not_false e refl
open_tail (array k t) w e = true_not_false e refl
open_tail (runtime t) w e = tail_there (some 0) (runtime t) w refl
open_tail (atomic s) w e = true_not_false e refl
open_tail (struct k ms) w e =
    members_tail_there false none (some 0) ms (struct_passed k ms w).below (λ q. true_not_false q refl) e

-- The extent of an open type with n elements holds n elements.
pub elements_back : (n : ℕ) (t : Ty) → everywhere is_well_formed t ≡ true → is_open t ≡ true → elements_in (extent_of n t) t ≡ n
unfolding elements_in extent_of elements_by extent_by
elements_back n t w o =
    let x = open_tail t w o in
    rw x.1 (rw add-sub_cancel_left (mul-div_cancel n x.2))
