-- What `is_block` tests of a value is what `is_block` says of its type (crates/wgsl, specs/Site).
-- Assumes nothing.
use Prim.Native.Nat.{ℕ, ◌/◌, ◌*◌, ◌%◌, ◌^◌, ◌<◌, ◌≤◌}
use mathlib.Core.Bool.{Bool, true, false, not, ◌&&◌}
use mathlib.Core.Path.{◌≡◌, refl, ap, ◌∙◌}
use native.Mathlib.Omega.{arith}
use mathlib.Core.Logic.{⊎_elim}
use native.Mathlib.Nat.{div-eq_of_lt, mod-lt, zero-mul, one-mul}
use borrow.Author.Tests.{lt-ltb, le-ltb, le-leb, lt-leb, ne_eqb}
use lib.Dec.{eqb, leb, ltb}
use lib.Pow.{shl_exact, split, pow_pos}
use Rattle.wgsl.specs.Types.{Ty, scalar, vector, matrix, array, runtime, atomic, struct, Members, struct_kind, kind_of, is_open}
use Rattle.wgsl.specs.Rule.{count_of}
use Rattle.wgsl.specs.Site.{is_block}
use Rattle.wgsl.proofs.Bit.{lt_or_le}
use Rattle.wgsl.proofs.ScalarKind.{no_scalar_kind}
use Rattle.layout_values.specs.Value.{parts_of}

-- ---- a shift

-- one bit at k
pub one_shifted : (k : ℕ) → k < 64 → 1 * 2 ^ k % 18446744073709551616 ≡ 2 ^ k
one_shifted k l = shl_exact {a = 1} 1 k 64 (omega arith) (omega (arith, l)) ∙ one-mul (2 ^ k)

-- nothing is left of a mask exactly if it is short
pub none_left : (mask count : ℕ) → eqb (mask / 2 ^ count) 0 ≡ ltb mask (2 ^ count)
none_left mask count =
    ⊎_elim (λ (l : mask < 2 ^ count). rw (div-eq_of_lt {n = mask} {m = 2 ^ count} l, lt-ltb mask (2 ^ count) l) refl)
    (λ (h : 2 ^ count ≤ mask).
    rw (le-ltb mask (2 ^ count) h) (ne_eqb (mask / 2 ^ count) 0 (λ e. omega (arith, h, split mask count, mod-lt mask (pow_pos count), ap (λ x. x * 2 ^ count) e, zero-mul (2 ^ count)))))
    (lt_or_le mask (2 ^ count))

-- ---- the type of a value

second_false : (a b c : Bool) → b ≡ false → (a && b && c) ≡ false
second_false true b c e = rw e refl
second_false false b c e = refl

-- a struct has its kind, and nothing else has
pub data IsStruct : Ty → Type 0 where
  is_struct : {k : ℕ} {ms : Members} → IsStruct (struct k ms)

pub struct_by_kind : (t : Ty) → kind_of t ≡ struct_kind → IsStruct t
unfolding kind_of
struct_by_kind (scalar s) e = absurd (no_scalar_kind s 12 (omega arith) (omega arith) e)
struct_by_kind (vector n s) e = absurd (omega (arith, e))
struct_by_kind (matrix c r s) e = absurd (omega (arith, e))
struct_by_kind (array n t) e = absurd (omega (arith, e))
struct_by_kind (runtime t) e = absurd (omega (arith, e))
struct_by_kind (atomic s) e = absurd (omega (arith, e))
struct_by_kind (struct k ms) e = is_struct

module _ (mask : ℕ) where
  pub no_struct_lem : (t : Ty) → (kind_of t ≡ struct_kind → ⊥) → is_block mask t ≡ false
  unfolding is_block kind_of
  no_struct_lem (scalar s) other = refl
  no_struct_lem (vector n s) other = refl
  no_struct_lem (matrix c r s) other = refl
  no_struct_lem (array n t) other = refl
  no_struct_lem (runtime t) other = refl
  no_struct_lem (atomic s) other = refl
  no_struct_lem (struct k ms) other = absurd (other refl)

  pub open_struct_lem : (t : Ty) → is_open t ≡ true → is_block mask t ≡ false
  unfolding is_block
  open_struct_lem (scalar s) o = refl
  open_struct_lem (vector n s) o = refl
  open_struct_lem (matrix c r s) o = refl
  open_struct_lem (array n t) o = refl
  open_struct_lem (runtime t) o = refl
  open_struct_lem (atomic s) o = refl
  open_struct_lem (struct k ms) o = rw o refl

  pub many_members : {t : Ty} → IsStruct t → 64 < (parts_of t).count → is_block mask t ≡ false
  unfolding is_block parts_of
  many_members (is_struct {k} {ms}) h = second_false (not (is_open (struct k ms))) (leb (count_of ms) 64) (ltb mask (2 ^ count_of ms)) (lt-leb (count_of ms) 64 h)

  pub block_by_mask : {t : Ty} → IsStruct t → is_open t ≡ false → (parts_of t).count ≤ 64 → is_block mask t ≡ ltb mask (2 ^ (parts_of t).count)
  unfolding is_block parts_of
  block_by_mask (is_struct {k} {ms}) o h = rw (o, le-leb (count_of ms) 64 h) refl
