-- Room in the buffer (specs/Call, `is_short`).
--
-- In order: what 15 does not refuse lies inside the buffer; it is exactly what has room (specs/Claim, `HasRoom`).
-- Assumes nothing.
use Prim.Native.Nat.{ℕ, ◌-◌, ◌≤◌}
use mathlib.Core.Bool.{Bool, true, false}
use mathlib.Core.List.{List}
use mathlib.Core.Option.{Option, none, some}
use mathlib.Core.Path.{◌≡◌, refl}
use native.Mathlib.Omega.{arith}
use native.Mathlib.Nat.{div-mul-le_self, div-le_self, le-div_iff_mul-le}
use borrow.Author.Tests.{ltb-false, le-ltb, eqb-false, ne_eqb}
use lib.Dec.{eqb, ltb}
use lib.ListN.{length}
use Rattle.wgsl.specs.Types.{Ty, is_open, everywhere}
use Rattle.wgsl.specs.Size.{present, size_of}
use Rattle.wgsl.specs.Rule.{is_well_formed}
use Rattle.wgsl.specs.Place.{Tail, tail_of, extent_by, extent_of, elements_by, elements_in}
use Rattle.wgsl.specs.Call.{is_short}
use Rattle.wgsl.specs.Claim.{HasRoom}
use Rattle.wgsl.proofs.Tail.{closed_extent}
use Rattle.wgsl.proofs.Elements.{open_tail}

-- A number that the test does not call 0 is at least 1.
pub not_zero : (n : ℕ) → eqb n 0 ≡ false → 1 ≤ n
not_zero n h = let d : ¬ (n ≡ 0) = eqb-false n 0 h in omega arith

module _ (t : Ty) (b : List ℕ) where
  -- An open type that 15 does not refuse has at least one element in the buffer.
  pub open_element : is_open t ≡ true → is_short t b ≡ false → 1 ≤ elements_in (length b) t
  unfolding is_short
  open_element o h = not_zero (elements_in (length b) t) (rw o at h)

  -- the elements that a buffer has room for, after an offset, lie inside it
  tail_room : (tail : Option Tail) (size : Option ℕ) → 1 ≤ elements_by (length b) tail → extent_by (elements_by (length b) tail) size tail ≤ length b
  unfolding elements_by extent_by
  tail_room none size h = absurd (omega arith)
  tail_room (some tail) size h =
      let left : ℕ = length b - tail.offset in
      omega (arith, div-mul-le_self left tail.stride, div-le_self left tail.stride)

  -- What 15 does not refuse has room in the buffer.
  pub short_no : is_short t b ≡ false → extent_of (elements_in (length b) t) t ≤ length b
  unfolding is_short extent_of elements_in
  short_no h = go (is_open t) refl
    where
      go : (o : Bool) → is_open t ≡ o → extent_of (elements_in (length b) t) t ≤ length b
      go true q = tail_room (tail_of t) (size_of t) (open_element q h)
      go false q =
          let l : ltb (length b) (present (size_of t)) ≡ false = rw q at h in
          omega (arith, closed_extent (elements_in (length b) t) t q, ltb-false (length b) (present (size_of t)) l)

module _ (t : Ty) (b : List ℕ) (w : everywhere is_well_formed t ≡ true) where
  -- an open type has room for one element exactly if the quotient is at least 1
  open_room : is_open t ≡ true → (1 ≤ elements_in (length b) t → HasRoom t b) × (HasRoom t b → 1 ≤ elements_in (length b) t)
  unfolding elements_in extent_of elements_by extent_by
  open_room o =
      let (x, is, pos) = open_tail t w o in
      let quotient = le-div_iff_mul-le {x = 1} {y = length b - x.offset} pos in
      rw is (λ h. omega (arith, quotient.0 h), λ h. quotient.1 (omega arith))

  -- What 15 does not refuse has room.
  pub short_room : is_short t b ≡ false → HasRoom t b
  unfolding is_short
  short_room h = go (is_open t) refl
    where
      go : (o : Bool) → is_open t ≡ o → HasRoom t b
      go true o = (open_room o).0 (open_element t b o h)
      go false o =
          let l : ltb (length b) (present (size_of t)) ≡ false = rw o at h in
          omega (arith, closed_extent 1 t o, ltb-false (length b) (present (size_of t)) l)

  -- What has room, 15 does not refuse.
  pub room_short : HasRoom t b → is_short t b ≡ false
  unfolding is_short
  room_short h = go (is_open t) refl
    where
      go : (o : Bool) → is_open t ≡ o → is_short t b ≡ false
      go true o =
          let some_there = (open_room o).1 h in
          rw o (ne_eqb (elements_in (length b) t) 0 (λ z. omega arith))
      go false o = rw o (le-ltb (length b) (present (size_of t)) (omega (arith, closed_extent 1 t o)))
