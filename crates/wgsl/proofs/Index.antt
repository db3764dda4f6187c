-- The numbers of steps into a type fit a step's 31 bits (specs/Path, proofs/Step).
--
-- In order: members; arrays; every type.
-- Assumes nothing.
use Prim.Native.Nat.{ℕ, suc, ◌*◌, ◌^◌, ◌≤◌}
use mathlib.Core.Bool.{Bool, true, false, ◌||◌}
use mathlib.Core.Option.{Option, some}
use mathlib.Core.Path.{◌≡◌, refl, ap}
use native.Mathlib.Omega.{arith}
use native.Mathlib.Nat.{mul-le-mul_left}
use Rattle.wgsl.specs.Round.{up, limit}
use Rattle.wgsl.specs.Types.{Ty, scalar, vector, matrix, array, runtime, atomic, struct, Members, no_more, member, is_runtime, ends_in_runtime, is_open, everywhere, every_member}
use Rattle.wgsl.specs.Size.{both, is_present, size_of, align_of, stride_of, member_end}
use Rattle.wgsl.specs.Rule.{count_of, members_allowed, is_allowed, is_well_formed, members_given_fit}
use Rattle.wgsl.specs.Place.{extent_of, column, shape_of, fields_of}
use Rattle.wgsl.proofs.Absent.{between_true, true_not_false, present_some, both_some}
use Rattle.wgsl.proofs.Passed.{passed, matrix_passed, array_passed, runtime_passed, struct_passed}
use Rattle.wgsl.proofs.Step.{members_left, Small}
use Rattle.wgsl.proofs.Tail.{sized_has}
use Rattle.wgsl.proofs.Members.{first_member, member_has}
use Rattle.wgsl.proofs.Closed.{member_open}
use Rattle.wgsl.proofs.Entry.{size_limit, stride_positive}

-- A struct's shape has a field for each member.
pub members_count : (n z : ℕ) (end : Option ℕ) (ms : Members) → members_left (fields_of n z end ms) ≡ count_of ms
unfolding members_left fields_of count_of
members_count n z end no_more = refl
members_count n z end (member t size align ms) =
    ap suc (members_count n z (member_end end align (align_of t) size (size_of t)) ms)

-- an array of fixed size, its count and its element
record Counted (k : ℕ) (t : Ty) : Type 0 where
  own : ℕ
  own_is : size_of t ≡ some own
  small : k ≤ 2 ^ 31

counted : (k : ℕ) (t : Ty) → everywhere is_well_formed (array k t) ≡ true → everywhere is_well_formed t ≡ true → is_present (size_of (array k t)) ≡ true → Counted k t
unfolding size_of stride_of
counted k t w below h =
    let z = present_some (size_of (array k t)) h in
    let outer = both_some ◌*◌ (some k) (both up (align_of t) (size_of t)) z.0 z.1 in
    let inner = both_some up (align_of t) (size_of t) outer.right outer.right_is in
    let same : outer.left ≡ k = cc outer.left_is in
    let wide : 2 ≤ outer.right = stride_positive t outer.right below outer.right_is in
    let most : z.0 ≤ limit = size_limit (array k t) z.0 w z.1 in
    let is : z.0 ≡ k * outer.right = rw same at outer.is in
    record { own = inner.right; own_is = inner.right_is; small = omega (arith, mul-le-mul_left k wide) }

mutual
  unfolding is_allowed is_open ends_in_runtime column fields_of count_of Small

  -- A well-formed type with a layout has counts of at most 2 ^ 31, if an open one holds no more elements.
  pub entry_small : (n : ℕ) (t : Ty) → everywhere is_well_formed t ≡ true → (is_open t || is_present (size_of t)) ≡ true → (is_open t ≡ true → n ≤ 2 ^ 31) → Small (2 ^ 31) (shape_of n t)
  entry_small n (scalar s) w l h = tt
  entry_small n (vector k s) w l h = (omega (arith, (between_true 2 4 k (passed (vector k s) w).allowed).1), tt)
  entry_small n (matrix c r s) w l h =
      let sides = matrix_passed c r s w in
      (omega (arith, (between_true 2 4 c sides.0).1), (omega (arith, (between_true 2 4 r sides.1).1), tt))
  entry_small n (array k t) w l h =
      let p = array_passed k t w in
      let c = counted k t w p.below l in
      (c.small, entry_small n t p.below (sized_has t c.own c.own_is) (λ q. true_not_false q p.closed))
  entry_small n (runtime t) w l h =
      let p = runtime_passed t w in
      (h refl, entry_small n t p.below (sized_has t p.own p.own_is) (λ q. h refl))
  entry_small n (atomic s) w l h = tt
  entry_small n (struct k ms) w l h =
      let p = struct_passed k ms w in
      fields_small n (extent_of n (struct k ms)) (some 0) ms false p.below p.allowed p.given p.few h

  fields_small : (n z : ℕ) (end : Option ℕ) (ms : Members) (b : Bool) → every_member is_well_formed ms ≡ true → members_allowed ms ≡ true → members_given_fit ms ≡ true → count_of ms ≤ 1024 → (ends_in_runtime b ms ≡ true → n ≤ 2 ^ 31) → Small (2 ^ 31) (fields_of n z end ms)
  fields_small n z end no_more b w ok g c h = tt
  fields_small n z end (member t size align ms) b w ok g c h =
      let m = first_member t size align ms w ok g in
      let end' : Option ℕ = member_end end align (align_of t) size (size_of t) in (
        omega (arith, members_count n z end' ms),
        entry_small n t m.well (member_has t size align ms m) (λ q. h (member_open t size align ms m q)),
        fields_small n z end' ms (is_runtime t) m.rest_well m.rest_allowed m.rest_fits (omega arith) h,
      )
