-- Laws of one bit of a number (specs/BitField).
--
-- In order: after a shift; of the k lowest; of a number put above another; the top one; a number is told by its bits.
-- Assumes nothing.
use Prim.Native.Nat.{ℕ, zero, suc, ◌+◌, ◌-◌, ◌*◌, ◌/◌, ◌%◌, ◌^◌, ◌<◌, ◌≤◌}
use mathlib.Core.Bool.{Bool, true, false, cond}
use mathlib.Core.Path.{◌≡◌, refl, ap, sym, ◌∙◌}
use mathlib.Core.Logic.{◌⊎◌, inl, inr, ⊎_elim}
use native.Mathlib.Omega.{arith}
use native.Mathlib.Nat.{div-one, div-eq_of_lt, lt_of_lt_of_le, lt_of_not-le, pow-suc}
use native.Mathlib.Decide.{dec_le}
use lib.Dec.{eqb}
use lib.Pow.{pow_mono, shr-shr, high, low, field, mod-mod-pow, ones_lt, ones_split}
use Rattle.wgsl.specs.BitField.{bit_at}
use Rattle.wgsl.proofs.Absent.{true_not_false}

-- Of two numbers the first is below the second or not.
pub lt_or_le : (a b : ℕ) → (a < b) ⊎ (b ≤ a)
lt_or_le a b = elim (dec_le b a) [ yes h ↦ inr h | no h ↦ inl (lt_of_not-le h) ]

-- A shift moves the bits down.
pub bit_shift : (n k i : ℕ) → bit_at (n / 2 ^ k) i ≡ bit_at n (k + i)
unfolding bit_at
bit_shift n k i = rw (shr-shr n k i)

digit_mod : (n m i : ℕ) → n % 2 ^ (m + 1 + i) / 2 ^ i % 2 ≡ n / 2 ^ i % 2
digit_mod n m i = rw (field n (m + 1) i) (mod-mod-pow (n / 2 ^ i) m 1)

digit_ones : (m i : ℕ) → (2 ^ (m + 1 + i) - 1) / 2 ^ i % 2 ≡ 1
digit_ones m i =
    rw (ones_split (m + 1) i, high (2 ^ (m + 1) - 1) i (ones_lt i), ones_split m 1) (low (2 ^ m - 1) 1 (omega arith))

-- Below k a number has the bits of its k lowest,
pub bit_mod : (n k i : ℕ) → i < k → bit_at (n % 2 ^ k) i ≡ bit_at n i
unfolding bit_at
bit_mod n k i h =
    let e : k - suc i + 1 + i ≡ k = omega arith in
    ap (λ (x : ℕ). eqb x 1) (rw e at (digit_mod n (k - suc i) i))

-- the k lowest set are all set,
pub bit_ones : (k i : ℕ) → i < k → bit_at (2 ^ k - 1) i ≡ true
unfolding bit_at
bit_ones k i h =
    let e : k - suc i + 1 + i ≡ k = omega arith in
    ap (λ (x : ℕ). eqb x 1) (rw e at (digit_ones (k - suc i) i))

-- and a number below 2 ^ k has none from k on.
pub bit_above : (n k i : ℕ) → n < 2 ^ k → k ≤ i → bit_at n i ≡ false
unfolding bit_at
bit_above n k i h l = rw (div-eq_of_lt {n = n} {m = 2 ^ i} (lt_of_lt_of_le h (pow_mono l)))

-- A number put above another one of k bits has that one's bits below k, and its own from k on.
pub bit_low : (hi k lo i : ℕ) → lo < 2 ^ k → i < k → bit_at (hi * 2 ^ k + lo) i ≡ bit_at lo i
bit_low hi k lo i h l = sym (bit_mod (hi * 2 ^ k + lo) k i l) ∙ ap (λ (x : ℕ). bit_at x i) (low hi k h)

pub bit_high : (hi k lo i : ℕ) → lo < 2 ^ k → k ≤ i → bit_at (hi * 2 ^ k + lo) i ≡ bit_at hi (i - k)
bit_high hi k lo i h l =
    let e : k + (i - k) ≡ i = omega arith in
    rw e at (sym (bit_shift (hi * 2 ^ k + lo) k (i - k)) ∙ ap (λ (x : ℕ). bit_at x (i - k)) (high hi k h))

-- The top bit of a number of d + 1 bits is set from 2 ^ d on, and not below.
pub top_set : (d v : ℕ) → bit_at v d ≡ true → 2 ^ d ≤ v
top_set d v t =
    ⊎_elim (λ (h : v < 2 ^ d). true_not_false t (bit_above v d d h (omega arith))) (λ (h : 2 ^ d ≤ v). h) (lt_or_le v (2 ^ d))

pub top_clear : (d v : ℕ) → v < 2 ^ suc d → bit_at v d ≡ false → v < 2 ^ d
unfolding bit_at
top_clear d v small t =
    ⊎_elim (λ (h : v < 2 ^ d). h)
    (λ (h : 2 ^ d ≤ v).
    let e : 1 * 2 ^ d + (v - 2 ^ d) ≡ v = omega arith in
    let one : v / 2 ^ d ≡ 1 = rw e at (high 1 d {lo = v - 2 ^ d} (omega (arith, pow-suc 2 d))) in
    true_not_false (rw one) t)
    (lt_or_le v (2 ^ d))

-- A digit is told by the test for 1,
pub digit_told : (n : ℕ) → n < 2 → cond (eqb n 1) 1 0 ≡ n
digit_told zero h = refl
digit_told (suc zero) h = refl
digit_told (suc (suc n)) h = absurd (omega arith)

lowest : (a b : ℕ) → bit_at a 0 ≡ bit_at b 0 → a % 2 ≡ b % 2
unfolding bit_at
lowest a b e =
    let f : eqb (a % 2) 1 ≡ eqb (b % 2) 1 = rw (div-one a, div-one b) at e in
    sym (digit_told (a % 2) (omega arith)) ∙ ap (λ (t : Bool). cond t 1 0) f ∙ digit_told (b % 2) (omega arith)

-- so a number of k bits is told by them.
pub bits_unique : (k a b : ℕ) → a < 2 ^ k → b < 2 ^ k → ((j : ℕ) → j < k → bit_at a j ≡ bit_at b j) → a ≡ b
bits_unique zero a b h l same = omega arith
bits_unique (suc k) a b h l same =
    let rest : a / 2 ≡ b / 2 =
    bits_unique k (a / 2) (b / 2) (omega (arith, pow-suc 2 k)) (omega (arith, pow-suc 2 k))
    (λ j m. bit_shift a 1 j ∙ same (1 + j) (omega arith) ∙ sym (bit_shift b 1 j)) in
    let first : a % 2 ≡ b % 2 = lowest a b (same 0 (omega arith)) in
    omega arith
