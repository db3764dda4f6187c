-- Laws of the ranks of scalars (specs/Rank, `scalar_rank` and `leaf_rank`).
--
-- In order: every scalar, in a list; the rank 0; ranks add up; what converts to one scalar is a chain; the same of the scalar inside a
-- type, if it has one.
-- Assumes nothing.
use Prim.Native.Nat.{ℕ, zero, suc, ◌+◌}
use mathlib.Core.List.{List, [], ◌∷◌}
use mathlib.Core.Bool.{Bool, true, false, ◌&&◌, and-eq-true_iff}
use mathlib.Core.Option.{Option, none, some, none-ne-some}
use mathlib.Core.Logic.{◌⊎◌, inl, inr}
use mathlib.Core.Path.{◌≡◌, refl, ap, sym, ◌∙◌}
use native.Mathlib.Nat.{zero-add}
use borrow.Author.Tests.{eqb-true}
use lib.Dec.{eqb}
use lib.ListN.{get_or}
use Rattle.wgsl.specs.Types.{Scalar, bool, i32, u32, f32, f16, abstract_int, abstract_float, i64, u64, f64, scalar_kind}
use Rattle.wgsl.specs.Rank.{from_abstract_int, from_abstract_float, if_same, scalar_rank, leaf_rank}
use Rattle.wgsl.proofs.Absent.{true_not_false}

-- every scalar, by its kind; kinds 7 to 12 are no scalars'
pub scalars : List Scalar
scalars =
    bool ∷ i32 ∷ u32 ∷ f32 ∷ f16 ∷ abstract_int ∷ abstract_float ∷ bool ∷ bool ∷ bool ∷ bool ∷ bool ∷ bool ∷ i64 ∷ u64 ∷ f64 ∷ []

-- Each scalar stands in the list at its kind.
pub scalar_found : (a : Scalar) → get_or scalars (scalar_kind a) bool ≡ a
unfolding scalars scalar_kind
scalar_found bool = refl
scalar_found i32 = refl
scalar_found u32 = refl
scalar_found f32 = refl
scalar_found f16 = refl
scalar_found abstract_int = refl
scalar_found abstract_float = refl
scalar_found i64 = refl
scalar_found u64 = refl
scalar_found f64 = refl

-- Scalars of the same kind are equal.
pub kind_same : {a b : Scalar} → scalar_kind a ≡ scalar_kind b → a ≡ b
kind_same {a} {b} e = sym (scalar_found a) ∙ rw e (scalar_found b)

all : (Scalar → Bool) → List Scalar → Bool
all p [] = true
all p (s ∷ ss) = p s && all p ss

all_at : (p : Scalar → Bool) (ss : List Scalar) (k : ℕ) (d : Scalar) → p d ≡ true → all p ss ≡ true → p (get_or ss k d) ≡ true
unfolding all
all_at p [] k d h e = h
all_at p (s ∷ ss) zero d h e = ((and-eq-true_iff (p s) (all p ss)).0 e).0
all_at p (s ∷ ss) (suc k) d h e = all_at p ss k d h ((and-eq-true_iff (p s) (all p ss)).0 e).1

-- a test of scalars that passes all of the list passes every scalar
each : (p : Scalar → Bool) → all p scalars ≡ true → (a : Scalar) → p a ≡ true
unfolding all scalars
each p e a = rw (scalar_found a) at (all_at p scalars (scalar_kind a) bool ((and-eq-true_iff (p bool) _).0 e).0 e)

each_two : (p : Scalar → Scalar → Bool) → all (λ a. all (p a) scalars) scalars ≡ true → (a b : Scalar) → p a b ≡ true
each_two p e a b = each (p a) (each (λ a. all (p a) scalars) e a) b

-- A scalar has the rank 0 to itself.
pub scalar_refl : (a : Scalar) → scalar_rank a a ≡ some 0
unfolding scalar_rank scalar_kind if_same from_abstract_int from_abstract_float
scalar_refl bool = refl
scalar_refl i32 = refl
scalar_refl u32 = refl
scalar_refl f32 = refl
scalar_refl f16 = refl
scalar_refl abstract_int = refl
scalar_refl abstract_float = refl
scalar_refl i64 = refl
scalar_refl u64 = refl
scalar_refl f64 = refl

-- the test t passes if the rank is 0
zeroed : Option ℕ → Bool → Bool
zeroed none t = true
zeroed (some zero) t = t
zeroed (some (suc r)) t = true

zeroed_true : (x : Option ℕ) (t : Bool) → zeroed x t ≡ true → x ≡ some 0 → t ≡ true
unfolding zeroed
zeroed_true none t e p = cc
zeroed_true (some zero) t e p = e
zeroed_true (some (suc r)) t e p = cc

-- A scalar has the rank 0 to no other.
pub scalar_zero : (a b : Scalar) → scalar_rank a b ≡ some 0 → a ≡ b
unfolding all scalars zeroed scalar_rank scalar_kind if_same from_abstract_int from_abstract_float
scalar_zero a b e =
    kind_same (eqb-true (scalar_kind a) (scalar_kind b) (zeroed_true (scalar_rank a b) (eqb (scalar_kind a) (scalar_kind b))
    (each_two (λ a b. zeroed (scalar_rank a b) (eqb (scalar_kind a) (scalar_kind b))) refl a b) e))

-- the third rank is the sum of the first two, if these are there
adds : Option ℕ → Option ℕ → Option ℕ → Bool
adds none y z = true
adds (some r) none z = true
adds (some r) (some s) none = false
adds (some r) (some s) (some t) = eqb t (r + s)

adds_true : (x y z : Option ℕ) {r s : ℕ} → adds x y z ≡ true → x ≡ some r → y ≡ some s → z ≡ some (r + s)
unfolding adds
adds_true none y z e p q = cc
adds_true (some r) none z e p q = cc
adds_true (some r) (some s) none e p q = cc
adds_true (some r) (some s) (some t) e p q = cc (eqb-true t (r + s) e)

-- Where a scalar converts to a second one and that to a third, the first converts to the third, and the ranks add up.
pub scalar_add : (a b c : Scalar) {r s : ℕ} → scalar_rank a b ≡ some r → scalar_rank b c ≡ some s → scalar_rank a c ≡ some (r + s)
unfolding all scalars adds scalar_rank scalar_kind if_same from_abstract_int from_abstract_float
scalar_add a b c p q =
    adds_true (scalar_rank a b) (scalar_rank b c) (scalar_rank a c)
    (each (sums a b) (each_two (λ a b. all (sums a b) scalars) refl a b) c) p q
  where
    sums : Scalar → Scalar → Scalar → Bool
    sums a b c = adds (scalar_rank a b) (scalar_rank b c) (scalar_rank a c)

-- one of the last two ranks is there, if the first two are
either : Option ℕ → Option ℕ → Option ℕ → Option ℕ → Bool
either none y p q = true
either (some r) none p q = true
either (some r) (some s) (some t) q = true
either (some r) (some s) none (some t) = true
either (some r) (some s) none none = false

either_true : (x y p q : Option ℕ) {r s : ℕ} → either x y p q ≡ true → x ≡ some r → y ≡ some s → ((t : ℕ) × (p ≡ some t)) ⊎ ((t : ℕ) × (q ≡ some t))
unfolding either
either_true none y p q e f g = absurd (none-ne-some _ f)
either_true (some r) none p q e f g = absurd (none-ne-some _ g)
either_true (some r) (some s) (some t) q e f g = inl (t, refl)
either_true (some r) (some s) none (some t) e f g = inr (t, refl)
either_true (some r) (some s) none none e f g = true_not_false e refl

-- Of two scalars that convert to a third, one converts to the other.
pub scalar_chain : (a b c : Scalar) {r s : ℕ} → scalar_rank a c ≡ some r → scalar_rank b c ≡ some s → ((t : ℕ) × (scalar_rank a b ≡ some t)) ⊎ ((t : ℕ) × (scalar_rank b a ≡ some t))
unfolding all scalars either scalar_rank scalar_kind if_same from_abstract_int from_abstract_float
scalar_chain a b c p q =
    either_true (scalar_rank a c) (scalar_rank b c) (scalar_rank a b) (scalar_rank b a)
    (each (comparable a b) (each_two (λ a b. all (comparable a b) scalars) refl a b) c) p q
  where
    comparable : Scalar → Scalar → Scalar → Bool
    comparable a b c = either (scalar_rank a c) (scalar_rank b c) (scalar_rank a b) (scalar_rank b a)

-- The scalar inside, or none, has the rank 0 to itself,
pub leaf_refl : (x : Option Scalar) → leaf_rank x x ≡ some 0
unfolding leaf_rank
leaf_refl none = refl
leaf_refl (some a) = scalar_refl a

-- to no other,
pub leaf_zero : (x y : Option Scalar) → leaf_rank x y ≡ some 0 → x ≡ y
unfolding leaf_rank
leaf_zero none none e = refl
leaf_zero none (some b) e = cc
leaf_zero (some a) none e = cc
leaf_zero (some a) (some b) e = ap some (scalar_zero a b e)

-- the ranks add up,
pub leaf_add : (x y z : Option Scalar) {r s : ℕ} → leaf_rank x y ≡ some r → leaf_rank y z ≡ some s → leaf_rank x z ≡ some (r + s)
unfolding leaf_rank
leaf_add none none none {r} {s} p q = cc (zero-add s)
leaf_add none none (some c) p q = cc
leaf_add none (some b) z p q = cc
leaf_add (some a) none z p q = cc
leaf_add (some a) (some b) none p q = cc
leaf_add (some a) (some b) (some c) p q = scalar_add a b c p q

-- and of two that convert to a third, one converts to the other.
pub leaf_chain : (x y z : Option Scalar) {r s : ℕ} → leaf_rank x z ≡ some r → leaf_rank y z ≡ some s → ((t : ℕ) × (leaf_rank x y ≡ some t)) ⊎ ((t : ℕ) × (leaf_rank y x ≡ some t))
unfolding leaf_rank
leaf_chain none none z p q = inl (0, refl)
leaf_chain none (some b) none p q = absurd (none-ne-some _ q)
leaf_chain none (some b) (some c) p q = absurd (none-ne-some _ p)
leaf_chain (some a) none none p q = absurd (none-ne-some _ p)
leaf_chain (some a) none (some c) p q = absurd (none-ne-some _ q)
leaf_chain (some a) (some b) none p q = absurd (none-ne-some _ p)
leaf_chain (some a) (some b) (some c) p q = scalar_chain a b c p q
