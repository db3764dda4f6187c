-- The kinds of scalars (specs/Types): 0 to 6, and 13 to 15 since E6.
-- Assumes nothing.
use Prim.Native.Nat.{ℕ, zero, suc, ◌+◌, ◌-◌, ◌<◌, ◌≤◌}
use mathlib.Core.Bool.{Bool, true, false, ◌&&◌, ◌||◌}
use mathlib.Core.Logic.{◌⊎◌, inl, inr, ⊎_elim}
use mathlib.Core.Option.{some}
use mathlib.Core.Path.{◌≡◌, refl, sym}
use native.Mathlib.Omega.{arith}
use borrow.Author.Tests.{leb-true, leb-false, le-leb, lt-leb}
use lib.Dec.{leb}
use Rattle.wgsl.specs.Types.{Scalar, bool, i32, u32, f32, f16, abstract_int, abstract_float, i64, u64, f64, scalar_kind, is_scalar_kind}
use Rattle.wgsl.specs.Rule.{scalar_of_kind}
use Rattle.wgsl.proofs.Absent.{true_not_false}

-- The kind of a scalar is one.
pub scalar_kind_is : (s : Scalar) → is_scalar_kind (scalar_kind s) ≡ true
unfolding is_scalar_kind scalar_kind
scalar_kind_is bool = refl
scalar_kind_is i32 = refl
scalar_kind_is u32 = refl
scalar_kind_is f32 = refl
scalar_kind_is f16 = refl
scalar_kind_is abstract_int = refl
scalar_kind_is abstract_float = refl
scalar_kind_is i64 = refl
scalar_kind_is u64 = refl
scalar_kind_is f64 = refl

-- Which kinds are scalars',
pub scalar_range : (kind : ℕ) → is_scalar_kind kind ≡ true → (kind ≤ 6) ⊎ ((13 ≤ kind) × (kind ≤ 15))
unfolding is_scalar_kind
scalar_range kind h = go (leb kind 6) refl (leb 13 kind) refl (leb kind 15) refl h
  where
    go : (a : Bool) → leb kind 6 ≡ a → (b : Bool) → leb 13 kind ≡ b → (c : Bool) → leb kind 15 ≡ c → (a || (b && c)) ≡ true → (kind ≤ 6) ⊎ ((13 ≤ kind) × (kind ≤ 15))
    go true p b q c r e = inl (leb-true kind 6 p)
    go false p true q true r e = inr (leb-true 13 kind q, leb-true kind 15 r)
    go false p true q false r e = true_not_false e refl
    go false p false q c r e = true_not_false e refl

-- and which are not.
pub other_range : (kind : ℕ) → is_scalar_kind kind ≡ false → (6 < kind) × ((kind < 13) ⊎ (15 < kind))
unfolding is_scalar_kind
other_range kind h = go (leb kind 6) refl (leb 13 kind) refl (leb kind 15) refl h
  where
    go : (a : Bool) → leb kind 6 ≡ a → (b : Bool) → leb 13 kind ≡ b → (c : Bool) → leb kind 15 ≡ c → (a || (b && c)) ≡ false → (6 < kind) × ((kind < 13) ⊎ (15 < kind))
    go true p b q c r e = true_not_false refl e
    go false p true q true r e = true_not_false refl e
    go false p true q false r e = (leb-false kind 6 p, inr (leb-false kind 15 r))
    go false p false q c r e = (leb-false kind 6 p, inl (leb-false 13 kind q))

-- Kinds 7 to 12 are none.
pub no_scalar_lem : (kind : ℕ) → 7 ≤ kind → kind ≤ 12 → is_scalar_kind kind ≡ false
unfolding is_scalar_kind
no_scalar_lem kind low high = rw (lt-leb kind 6 (omega arith), lt-leb 13 kind (omega arith))

-- Up to 6 all are, and from 13 on those up to 15.
pub low_scalar : (kind : ℕ) → kind ≤ 6 → is_scalar_kind kind ≡ true
unfolding is_scalar_kind
low_scalar kind low = rw (le-leb kind 6 low)

pub high_scalar : (kind : ℕ) → 13 ≤ kind → is_scalar_kind kind ≡ leb kind 15
unfolding is_scalar_kind
high_scalar kind high = rw (lt-leb kind 6 (omega arith), le-leb 13 kind high)

-- So no scalar has a kind of 7 to 12.
pub kind_clash : (kind other : ℕ) → is_scalar_kind kind ≡ true → other ≡ kind → 7 ≤ other → other ≤ 12 → ⊥
kind_clash kind other h e low high = true_not_false h (no_scalar_lem kind (omega arith) (omega arith))

pub no_scalar_kind : (s : Scalar) (kind : ℕ) → 7 ≤ kind → kind ≤ 12 → scalar_kind s ≡ kind → ⊥
no_scalar_kind s kind low high e = kind_clash _ _ (scalar_kind_is s) (sym e) low high

low_kind : (k : ℕ) → k ≤ 6 → (s : Scalar) × (scalar_kind s ≡ k) × (scalar_of_kind k ≡ some s)
unfolding scalar_of_kind scalar_kind
low_kind zero h = (bool, refl, refl)
low_kind (suc zero) h = (i32, refl, refl)
low_kind (suc (suc zero)) h = (u32, refl, refl)
low_kind (suc (suc (suc zero))) h = (f32, refl, refl)
low_kind (suc (suc (suc (suc zero)))) h = (f16, refl, refl)
low_kind (suc (suc (suc (suc (suc zero))))) h = (abstract_int, refl, refl)
low_kind (suc (suc (suc (suc (suc (suc zero)))))) h = (abstract_float, refl, refl)
low_kind (suc (suc (suc (suc (suc (suc (suc k))))))) h = absurd (omega arith)

high_kind : (n : ℕ) → n ≤ 2 → (s : Scalar) × (scalar_kind s ≡ 13 + n) × (scalar_of_kind (13 + n) ≡ some s)
unfolding scalar_of_kind scalar_kind
high_kind zero h = (i64, refl, refl)
high_kind (suc zero) h = (u64, refl, refl)
high_kind (suc (suc zero)) h = (f64, refl, refl)
high_kind (suc (suc (suc n))) h = absurd (omega arith)

-- A kind that is a scalar's is the kind of one.
pub scalar_of_kind_lem : (k : ℕ) → is_scalar_kind k ≡ true → (s : Scalar) × (scalar_kind s ≡ k) × (scalar_of_kind k ≡ some s)
scalar_of_kind_lem k h =
    ⊎_elim (λ (low : k ≤ 6). low_kind k low)
    (λ (high : (13 ≤ k) × (k ≤ 15)).
    let e : k ≡ 13 + (k - 13) = omega (arith, high.0) in
    rw e (high_kind (k - 13) (omega (arith, high.1)))) (scalar_range k h)
