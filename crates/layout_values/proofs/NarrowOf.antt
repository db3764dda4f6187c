-- The narrowest word of a type (specs/Value), and whether it is storable.
-- Assumes nothing.
use Prim.Native.Nat.{ℕ, zero, suc, min}
use mathlib.Core.Bool.{not, ◌&&◌}
use mathlib.Core.Path.{◌≡◌, refl}
use native.Mathlib.Omega.{arith}
use borrow.Author.Tests.{ne_eqb}
use lib.Dec.{eqb}
use Rattle.wgsl.specs.Types.{Scalar, bool, i32, u32, f32, f16, abstract_int, abstract_float, i64, u64, f64, Ty, scalar, vector, matrix, array, runtime, atomic, struct, Members, no_more, member, everywhere, every_member}
use Rattle.wgsl.specs.Size.{width_of, present, is_stored, is_plain}
use Rattle.layout_values.specs.Value.{stored_width, narrow_of, narrowest}

-- A scalar may be stored where its narrowest word has bytes.
stored_is : (s : Scalar) → is_stored s ≡ not (eqb (stored_width s) 0)
unfolding stored_width is_stored width_of present
stored_is bool = refl
stored_is i32 = refl
stored_is u32 = refl
stored_is f32 = refl
stored_is f16 = refl
stored_is abstract_int = refl
stored_is abstract_float = refl
stored_is i64 = refl
stored_is u64 = refl
stored_is f64 = refl

-- The lesser of two numbers is 0 where one of them is.
min_above : (a b : ℕ) → (not (eqb a 0) && not (eqb b 0)) ≡ not (eqb (min a b) 0)
min_above zero b = let q : min 0 b ≡ 0 = omega arith in rw q
min_above (suc a) zero = let q : min (suc a) 0 ≡ 0 = omega arith in rw (ne_eqb (suc a) 0 (λ z. omega arith), q)
min_above (suc a) (suc b) =
    rw (ne_eqb (suc a) 0 (λ z. omega arith), ne_eqb (suc b) 0 (λ z. omega arith), ne_eqb (min (suc a) (suc b)) 0 (λ z. omega arith))

mutual
  unfolding everywhere every_member is_plain narrow_of narrowest

  -- All scalars of a type may be stored where its narrowest word has bytes.
  pub plain_is : (t : Ty) → everywhere is_plain t ≡ not (eqb (narrow_of t) 0)
  plain_is (scalar s) = stored_is s
  plain_is (vector n s) = stored_is s
  plain_is (matrix c r s) = stored_is s
  plain_is (array n t) = plain_is t
  plain_is (runtime t) = plain_is t
  plain_is (atomic s) = stored_is s
  plain_is (struct k ms) = members_plain ms

  members_plain : (ms : Members) → every_member is_plain ms ≡ not (eqb (narrowest ms) 0)
  members_plain no_more = refl
  members_plain (member t size align ms) =
      rw (plain_is t, members_plain ms) (min_above (narrow_of t) (narrowest ms))
