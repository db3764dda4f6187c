-- The ranks of scalars, by their kinds (crates/wgsl, specs/Rank).
--
-- In order: from abstract int; from abstract float; from any scalar.
-- Assumes nothing.
use Prim.Native.Nat.{ℕ}
use mathlib.Core.Option.{none, some}
use mathlib.Core.Path.{◌≡◌, refl, ap, sym, ◌∙◌}
use borrow.Author.Tests.{ne_eqb}
use Rattle.wgsl.specs.Types.{Scalar, bool, i32, u32, f32, f16, abstract_int, abstract_float, i64, u64, f64, scalar_kind}
use Rattle.wgsl.specs.Rank.{from_abstract_int, from_abstract_float, if_same, scalar_rank}
use Rattle.wgsl.proofs.ScalarRank.{kind_same, scalar_refl}

module _ (s : Scalar) (kind : ℕ) (of : scalar_kind s ≡ kind) where
  is : (b : Scalar) → kind ≡ scalar_kind b → b ≡ s
  is b e = sym (kind_same {a = s} {b = b} (of ∙ e))

  pub int_i32 : kind ≡ 1 → some 3 ≡ from_abstract_int s
  unfolding scalar_kind from_abstract_int
  int_i32 e = ap from_abstract_int (is i32 e)

  pub int_u32 : kind ≡ 2 → some 4 ≡ from_abstract_int s
  unfolding scalar_kind from_abstract_int
  int_u32 e = ap from_abstract_int (is u32 e)

  pub int_float : kind ≡ 6 → some 5 ≡ from_abstract_int s
  unfolding scalar_kind from_abstract_int
  int_float e = ap from_abstract_int (is abstract_float e)

  pub int_f32 : kind ≡ 3 → some 6 ≡ from_abstract_int s
  unfolding scalar_kind from_abstract_int
  int_f32 e = ap from_abstract_int (is f32 e)

  pub int_f16 : kind ≡ 4 → some 7 ≡ from_abstract_int s
  unfolding scalar_kind from_abstract_int
  int_f16 e = ap from_abstract_int (is f16 e)

  pub float_f32 : kind ≡ 3 → some 1 ≡ from_abstract_float s
  unfolding scalar_kind from_abstract_float
  float_f32 e = ap from_abstract_float (is f32 e)

  pub float_f16 : kind ≡ 4 → some 2 ≡ from_abstract_float s
  unfolding scalar_kind from_abstract_float
  float_f16 e = ap from_abstract_float (is f16 e)

  -- A scalar has the rank 0 to one of its kind.
  pub scalar_same : (t : Scalar) (other : ℕ) → scalar_kind t ≡ other → kind ≡ other → some 0 ≡ scalar_rank s t
  scalar_same t other e same =
      let h : s ≡ t = kind_same (of ∙ same ∙ sym e) in
      rw h (sym (scalar_refl t))

  pub scalar_int : kind ≡ 5 → (t : Scalar) → from_abstract_int t ≡ scalar_rank s t
  unfolding scalar_kind scalar_rank
  scalar_int e t = ap (λ (a : Scalar). scalar_rank a t) (is abstract_int e)

  pub scalar_float : kind ≡ 6 → (t : Scalar) → from_abstract_float t ≡ scalar_rank s t
  unfolding scalar_kind scalar_rank
  scalar_float e t = ap (λ (a : Scalar). scalar_rank a t) (is abstract_float e)

-- Abstract int converts to no other kind.
pub int_none : (s : Scalar) (kind : ℕ) → scalar_kind s ≡ kind → (kind ≡ 5 → ⊥) → (kind ≡ 1 → ⊥) → (kind ≡ 2 → ⊥) → (kind ≡ 6 → ⊥) → (kind ≡ 3 → ⊥) → (kind ≡ 4 → ⊥) → none ≡ from_abstract_int s
unfolding scalar_kind from_abstract_int
int_none bool kind of h₅ h₁ h₂ h₆ h₃ h₄ = refl
int_none i32 kind of h₅ h₁ h₂ h₆ h₃ h₄ = absurd (h₁ (sym of))
int_none u32 kind of h₅ h₁ h₂ h₆ h₃ h₄ = absurd (h₂ (sym of))
int_none f32 kind of h₅ h₁ h₂ h₆ h₃ h₄ = absurd (h₃ (sym of))
int_none f16 kind of h₅ h₁ h₂ h₆ h₃ h₄ = absurd (h₄ (sym of))
int_none abstract_int kind of h₅ h₁ h₂ h₆ h₃ h₄ = absurd (h₅ (sym of))
int_none abstract_float kind of h₅ h₁ h₂ h₆ h₃ h₄ = absurd (h₆ (sym of))
int_none i64 kind of h₅ h₁ h₂ h₆ h₃ h₄ = refl
int_none u64 kind of h₅ h₁ h₂ h₆ h₃ h₄ = refl
int_none f64 kind of h₅ h₁ h₂ h₆ h₃ h₄ = refl

-- Abstract float converts to no other kind.
pub float_none : (s : Scalar) (kind : ℕ) → scalar_kind s ≡ kind → (kind ≡ 6 → ⊥) → (kind ≡ 3 → ⊥) → (kind ≡ 4 → ⊥) → none ≡ from_abstract_float s
unfolding scalar_kind from_abstract_float
float_none bool kind of h₆ h₃ h₄ = refl
float_none i32 kind of h₆ h₃ h₄ = refl
float_none u32 kind of h₆ h₃ h₄ = refl
float_none f32 kind of h₆ h₃ h₄ = absurd (h₃ (sym of))
float_none f16 kind of h₆ h₃ h₄ = absurd (h₄ (sym of))
float_none abstract_int kind of h₆ h₃ h₄ = refl
float_none abstract_float kind of h₆ h₃ h₄ = absurd (h₆ (sym of))
float_none i64 kind of h₆ h₃ h₄ = refl
float_none u64 kind of h₆ h₃ h₄ = refl
float_none f64 kind of h₆ h₃ h₄ = refl

-- A scalar that is not abstract converts to no other.
pub scalar_none : (s t : Scalar) (a b : ℕ) → scalar_kind s ≡ a → scalar_kind t ≡ b → (a ≡ b → ⊥) → (a ≡ 5 → ⊥) → (a ≡ 6 → ⊥) → none ≡ scalar_rank s t
unfolding scalar_kind scalar_rank if_same
scalar_none bool t a b p q h h₅ h₆ = rw (ne_eqb 0 (scalar_kind t) (λ e. h (sym p ∙ e ∙ q)))
scalar_none i32 t a b p q h h₅ h₆ = rw (ne_eqb 1 (scalar_kind t) (λ e. h (sym p ∙ e ∙ q)))
scalar_none u32 t a b p q h h₅ h₆ = rw (ne_eqb 2 (scalar_kind t) (λ e. h (sym p ∙ e ∙ q)))
scalar_none f32 t a b p q h h₅ h₆ = rw (ne_eqb 3 (scalar_kind t) (λ e. h (sym p ∙ e ∙ q)))
scalar_none f16 t a b p q h h₅ h₆ = rw (ne_eqb 4 (scalar_kind t) (λ e. h (sym p ∙ e ∙ q)))
scalar_none abstract_int t a b p q h h₅ h₆ = absurd (h₅ (sym p))
scalar_none abstract_float t a b p q h h₅ h₆ = absurd (h₆ (sym p))
scalar_none i64 t a b p q h h₅ h₆ = rw (ne_eqb 13 (scalar_kind t) (λ e. h (sym p ∙ e ∙ q)))
scalar_none u64 t a b p q h h₅ h₆ = rw (ne_eqb 14 (scalar_kind t) (λ e. h (sym p ∙ e ∙ q)))
scalar_none f64 t a b p q h h₅ h₆ = rw (ne_eqb 15 (scalar_kind t) (λ e. h (sym p ∙ e ∙ q)))
