-- Laws of powers of two (specs/Round).
--
-- In order: what the test finds is a power; a power below 2 ^ 32 is found, and is at most 2 ^ 31; a power is above 0; powers made from
-- powers; powers that divide each other, and when.
-- Assumes nothing.
use Prim.Native.Nat.{ℕ, zero, suc, ◌+◌, ◌-◌, ◌*◌, ◌^◌, ◌%◌, ◌<◌, ◌≤◌, max}
use mathlib.Core.Bool.{true, or-true}
use mathlib.Core.Path.{◌≡◌, refl, sym, ◌∙◌}
use mathlib.Core.Logic.{◌⊎◌, inl, inr, ⊎_elim}
use native.Mathlib.Omega.{arith}
use native.Mathlib.Nat.{pow-suc, mul-mod_left, lt_of_not-le, lt_irrefl, lt_of_lt_of_le, eq-or-lt_of_le, mod-eq_of_lt}
use native.Mathlib.Decide.{dec_le}
use borrow.Author.Tests.{eqb-true, eq-eqb, ne_eqb, le-leb, lt-leb}
use lib.Dec.{eqb, leb}
use lib.Pow.{pow_pos, pow_mono, pow-add, pow-lt}
use Rattle.wgsl.specs.Round.{IsPower, power_below, is_power}
use Rattle.wgsl.proofs.Absent.{either_holds, true_not_false}

found : (k a : ℕ) → power_below k a ≡ true → IsPower a
unfolding power_below
found zero a e = true_not_false e refl
found (suc k) a e =
    ⊎_elim (λ (h : eqb a (2 ^ k) ≡ true). record { exponent = k; is = eqb-true a (2 ^ k) h }) (found k a)
    (either_holds (eqb a (2 ^ k)) (power_below k a) e)

-- The test holds of powers of two alone.
pub power_tested : (a : ℕ) → is_power a ≡ true → IsPower a
unfolding is_power
power_tested a e = found 32 a e

below_found : (k j a : ℕ) → j < k → a ≡ 2 ^ j → power_below k a ≡ true
unfolding power_below
below_found zero j a l e = absurd (omega arith)
below_found (suc k) j a l e =
    let m : j ≤ k = omega arith in
    ⊎_elim
    (λ (h : j ≡ k). rw (eq-eqb a (2 ^ k) (rw (← h) e)))
    (λ (h : j < k). rw (below_found k j a h e) (or-true (eqb a (2 ^ k)))) (eq-or-lt_of_le m)

pub exponent_small : {a : ℕ} (p : IsPower a) → a < 2 ^ 32 → p.exponent < 32
exponent_small {a} p h = lt_of_not-le (λ l. lt_irrefl a (lt_of_lt_of_le h (rw p.is (pow_mono l))))

-- The test holds of every power of two of 32 bits.
pub power_found : (a : ℕ) → a < 2 ^ 32 → IsPower a → is_power a ≡ true
unfolding is_power
power_found a h p = below_found 32 p.exponent a (exponent_small p h) p.is

-- A power of two of 32 bits is at most 2 ^ 31.
pub power_bounded : {a : ℕ} → IsPower a → a < 2 ^ 32 → a ≤ 2 ^ 31
power_bounded p h =
    let l : p.exponent ≤ 31 = omega (arith, exponent_small p h) in
    rw p.is (pow_mono l)

-- A power of two is above 0.
pub power_positive : {a : ℕ} → IsPower a → 0 < a
power_positive p = rw p.is (pow_pos p.exponent)

-- Every 2 ^ k is a power of two.
pub power : (k : ℕ) → IsPower (2 ^ k)
power k = record { exponent = k; is = refl }

-- Twice and four times a power are powers.
pub power_double : {a : ℕ} → IsPower a → IsPower (2 * a)
power_double p = record { exponent = suc p.exponent; is = rw pow-suc (omega (arith, p.is)) }

pub power_four : {a : ℕ} → IsPower a → IsPower (4 * a)
power_four {a} p = let e : 4 * a ≡ 2 * (2 * a) = omega arith in rw e (power_double (power_double p))

-- Of two numbers one is at most the other.
pub le_or_ge : (a b : ℕ) → (a ≤ b) ⊎ (b ≤ a)
le_or_ge a b = elim (dec_le a b) [ yes h ↦ inl h | no h ↦ inr (omega (arith, lt_of_not-le h)) ]

-- The larger of two powers is one.
pub power_max : {a b : ℕ} → IsPower a → IsPower b → IsPower (max a b)
power_max {a} {b} p q =
    ⊎_elim (λ (h : a ≤ b). let e : max a b ≡ b = omega arith in rw e q)
    (λ (h : b ≤ a). let e : max a b ≡ a = omega arith in rw e p) (le_or_ge a b)

pow_divides : (i j : ℕ) → i ≤ j → 2 ^ j % 2 ^ i ≡ 0
pow_divides i j h =
    let e : j ≡ (j - i) + i = omega arith in
    rw e (rw pow-add (mul-mod_left (2 ^ (j - i)) (2 ^ i)))

-- A power of two divides every power of two that is not below it.
pub power_divides : {a b : ℕ} → IsPower a → IsPower b → a ≤ b → b % a ≡ 0
power_divides {a} {b} p q h =
    let l : p.exponent ≤ q.exponent =
    elim (dec_le p.exponent q.exponent)
    [ yes m ↦ m | no m ↦ absurd (omega (arith, pow-lt (lt_of_not-le m), p.is, q.is)) ] in
    rw (p.is, q.is) (pow_divides p.exponent q.exponent l)

-- So of two powers of two the one is a multiple of the other exactly if it is not below it.
pub power_multiple : {a b : ℕ} → IsPower a → IsPower b → eqb (b % a) 0 ≡ leb a b
power_multiple {a} {b} p q =
    elim (dec_le a b) [
      | yes h ↦ eq-eqb (b % a) 0 (power_divides p q h) ∙ sym (le-leb a b h)
      | no h ↦
          let below = lt_of_not-le h in
          ne_eqb (b % a) 0 (λ e. lt_irrefl 0 (rw (sym (mod-eq_of_lt below) ∙ e) at (power_positive q))) ∙ sym (lt-leb a b below)
    ]
