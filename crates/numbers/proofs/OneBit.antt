-- A number has just one bit that is set if and only if it is a power of two.
-- Assumes nothing.
use Prim.Native.Nat.{ℕ, zero, suc, ◌^◌, ◌<◌, ◌≤◌, ◌+◌, ◌*◌, ◌/◌, ◌%◌}
use native.Mathlib.Omega.{arith}
use native.Mathlib.Nat.{eq-zero-or-pos, pow-suc, add-zero, one-mul}
use mathlib.Core.Path.{◌≡◌, refl, ap, sym, ◌∙◌}
use mathlib.Core.Bool.{Bool, true, false}
use mathlib.Core.Logic.{⊎_elim}
use borrow.Author.Tests.{eq-eqb, eqb-true}
use lib.Dec.{eqb}
use lib.Count.{ones, ones_step, ones_cat}
use lib.Pow.{pow_pos}
use Rattle.wgsl.specs.Round.{IsPower, is_power}
use Rattle.wgsl.proofs.Power.{power_tested, power_found}

ones_zero : ones 0 ≡ 0
unfolding ones
ones_zero = refl

ones_one : ones 1 ≡ 1
unfolding ones
ones_one = refl

ones_power : (k : ℕ) → ones (2 ^ k) ≡ 1
ones_power k =
    let e : 2 ^ k ≡ 1 * 2 ^ k + 0 = sym (add-zero (1 * 2 ^ k) ∙ one-mul (2 ^ k)) in
    ap ones e ∙ ones_cat k 1 0 (pow_pos k) ∙ rw (ones_one, ones_zero)

-- d bounds the number, so that the recursion ends
ones_none : (d a : ℕ) → a ≤ d → ones a ≡ 0 → a ≡ 0
ones_none zero a h e = omega arith
ones_none (suc d) a h e =
    let s = ones_step a in
    let z : a / 2 ≡ 0 =
    ⊎_elim (λ (p : a ≡ 0). omega arith) (λ (p : 0 < a). ones_none d (a / 2) (omega arith) (omega arith))
    (eq-zero-or-pos a) in
    omega arith

ones_single : (d a : ℕ) → a ≤ d → ones a ≡ 1 → IsPower a
ones_single zero a h e =
    let z : a ≡ 0 = omega arith in
    absurd (omega (arith, ap ones z ∙ ones_zero))
ones_single (suc d) a h e =
    let s = ones_step a in
    ⊎_elim
    (λ (even : a % 2 ≡ 0).
    let small : a / 2 ≤ d =
    ⊎_elim (λ (q : a ≡ 0). omega arith) (λ (q : 0 < a). omega arith) (eq-zero-or-pos a) in
    let half = ones_single d (a / 2) small (omega arith) in
    record { exponent = suc half.exponent; is = omega (arith, half.is, pow-suc 2 half.exponent) })
    (λ (odd : 0 < a % 2).
    let z : a / 2 ≡ 0 = ones_none (a / 2) (a / 2) (omega arith) (omega arith) in
    record { exponent = 0; is = omega arith })
    (eq-zero-or-pos (a % 2))

-- The count tells what the test of specs/Round tells.
pub one_is_power : (a : ℕ) → a < 2 ^ 32 → eqb (ones a) 1 ≡ is_power a
one_is_power a h = go (eqb (ones a) 1) (is_power a) refl refl
  where
    go : (b c : Bool) → eqb (ones a) 1 ≡ b → is_power a ≡ c → b ≡ c
    go true true p q = refl
    go false false p q = refl
    go true false p q = let f = power_found a h (ones_single a a (omega arith) (eqb-true (ones a) 1 p)) in cc
    go false true p q =
        let f : ones a ≡ 1 = ap ones (power_tested a q).is ∙ ones_power (power_tested a q).exponent in
        let g = eq-eqb (ones a) 1 f in cc
