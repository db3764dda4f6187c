-- A number times a power of two, divided by another (specs/Literal, `stepped`, `rounded`).
--
-- In order: how many digits the quotient has; a divisor that divides; one that drops bits; how much is kept.
-- Assumes nothing.
use Prim.Native.Nat.{ℕ, zero, suc, ◌+◌, ◌-◌, ◌*◌, ◌/◌, ◌%◌, ◌^◌, ◌<◌, ◌≤◌}
use mathlib.Core.Bool.{Bool, true, false, cond}
use mathlib.Core.Logic.{⊎_elim}
use mathlib.Core.Path.{◌≡◌, refl, ap, sym, ◌∙◌}
use native.Mathlib.Omega.{arith}
use native.Mathlib.Nat.{add-zero, zero-mul, mul_assoc, mul_comm, mul-le-mul_right, mul-lt-mul_of_pos_right, div-eq_of_lt, le-div_iff_mul-le, mod-lt, mod-eq_of_lt, mul-pos, add-mul}
use borrow.Author.Tests.{lt-ltb, le-ltb}
use lib.Dec.{ltb}
use lib.Ieee.{size}
use lib.Ieee.Digits.{size-lt, size_reaches, size-le}
use lib.Pow.{pow-add, pow_pos, pow_mono, shl-shr, shr-shr, shr_lt, low, split}
use Rattle.wgsl.specs.Literal.{stepped, rounded_by, rounded}
use Rattle.wgsl.proofs.Bit.{lt_or_le}

-- ---- how many digits the quotient has

scaled_below : (n x : ℕ) → n * 2 ^ x < 2 ^ (size n + x)
scaled_below n x =
    rw (pow-add 2 (size n) x) (mul-lt-mul_of_pos_right {m = n} {n = 2 ^ size n} {k = 2 ^ x} (size-lt n) (pow_pos x))

scaled_above : (n x j : ℕ) → j < size n → 2 ^ (j + x) ≤ n * 2 ^ x
scaled_above n x j h = rw (pow-add 2 j x) (mul-le-mul_right (2 ^ x) (size_reaches n j h))

some_digits : (n : ℕ) → 0 < n → 0 < size n
some_digits n h = go (size n) refl
  where
    go : (k : ℕ) → size n ≡ k → 0 < k
    go zero e = let z : n < 2 ^ 0 = rw e at (size-lt n) in absurd (omega arith)
    go (suc k) e = omega arith

pub size_scaled : (n x s : ℕ) → 0 < n → size (n * 2 ^ x / 2 ^ s) ≡ size n + x - s
size_scaled n x s some = go (size n + x - s) refl
  where
    q : ℕ
    q = n * 2 ^ x / 2 ^ s

    most : (t : ℕ) → size n + x - s ≡ t → size (n * 2 ^ x / 2 ^ s) ≤ t
    most t e =
        size-le _ t (shr_lt {n = n * 2 ^ x} t s (omega (arith, scaled_below n x, pow_mono {i = size n + x} {j = t + s} (omega arith))))

    least : (j : ℕ) → size n + x - s ≡ suc j → j < size (n * 2 ^ x / 2 ^ s)
    least j e =
        let digits = some_digits n some in
        let same : size n - 1 + x ≡ j + s = omega arith in
        let up : 2 ^ (j + s) ≤ n * 2 ^ x = rw same at (scaled_above n x (size n - 1) (omega arith)) in
        let reached : 2 ^ j ≤ n * 2 ^ x / 2 ^ s = (le-div_iff_mul-le (pow_pos s)).1 (rw (pow-add 2 j s) at up) in
        ⊎_elim (λ (l : j < size (n * 2 ^ x / 2 ^ s)). l)
        (λ (l : size (n * 2 ^ x / 2 ^ s) ≤ j). absurd (omega (arith, reached, size-lt (n * 2 ^ x / 2 ^ s), pow_mono {i = size (n * 2 ^ x / 2 ^ s)} {j = j} l)))
        (lt_or_le j (size (n * 2 ^ x / 2 ^ s)))

    go : (t : ℕ) → size n + x - s ≡ t → size (n * 2 ^ x / 2 ^ s) ≡ t
    go zero e = omega (arith, most 0 e)
    go (suc j) e = omega (arith, most (suc j) e, least j e)

-- ---- a divisor that divides

pub divides : (n x u : ℕ) → u ≤ x → stepped (n * 2 ^ x / 2 ^ u) (n * 2 ^ x % 2 ^ u) (2 ^ u) ≡ n * 2 ^ (x - u)
unfolding stepped
divides n x u l =
    let e : x - u + u ≡ x = omega arith in
    let whole : n * 2 ^ x ≡ n * 2 ^ (x - u) * 2 ^ u = ap (λ y. n * 2 ^ y) (sym e) ∙ ap (λ y. n * y) (pow-add 2 (x - u) u) ∙ sym (mul_assoc n (2 ^ (x - u)) (2 ^ u)) in
    let rest : n * 2 ^ (x - u) * 2 ^ u % 2 ^ u ≡ 0 = ap (λ y. y % 2 ^ u) (sym (add-zero (n * 2 ^ (x - u) * 2 ^ u))) ∙ low (n * 2 ^ (x - u)) u (pow_pos u) in
    rw (whole, rest, lt-ltb (2 * 0) (2 ^ u) (omega (arith, pow_pos u))) (shl-shr (n * 2 ^ (x - u)) u)

-- ---- one that drops bits

ltb_scaled : (a b c : ℕ) → 0 < c → ltb (a * c) (b * c) ≡ ltb a b
ltb_scaled a b c p =
    ⊎_elim (λ (l : a < b). rw (lt-ltb a b l) (lt-ltb (a * c) (b * c) (mul-lt-mul_of_pos_right {m = a} {n = b} {k = c} l p)))
    (λ (l : b ≤ a). rw (le-ltb a b l) (le-ltb (a * c) (b * c) (mul-le-mul_right c l))) (lt_or_le a b)

stepped_scaled : (q r b c : ℕ) → 0 < c → stepped q (r * c) (b * c) ≡ stepped q r b
unfolding stepped
stepped_scaled q r b c p =
    let e : 2 * (r * c) ≡ 2 * r * c = sym (mul_assoc 2 r c) in
    rw (e, ltb_scaled (2 * r) b c p, ltb_scaled b (2 * r) c p) refl

pub drops : (n x j : ℕ) → stepped (n * 2 ^ x / 2 ^ (x + j)) (n * 2 ^ x % 2 ^ (x + j)) (2 ^ (x + j)) ≡ stepped (n / 2 ^ j) (n % 2 ^ j) (2 ^ j)
drops n x j =
    let quotient : n * 2 ^ x / 2 ^ (x + j) ≡ n / 2 ^ j = sym (shr-shr (n * 2 ^ x) x j) ∙ ap (λ y. y / 2 ^ j) (shl-shr n x) in
    let power : 2 ^ (x + j) ≡ 2 ^ j * 2 ^ x = pow-add 2 x j ∙ mul_comm (2 ^ x) (2 ^ j) in
    let parts : n * 2 ^ x ≡ n / 2 ^ j * 2 ^ (x + j) + n % 2 ^ j * 2 ^ x =
    ap (λ y. y * 2 ^ x) (sym (split n j))
    ∙ add-mul (n / 2 ^ j * 2 ^ j) (n % 2 ^ j) (2 ^ x)
    ∙ ap (λ y. y + n % 2 ^ j * 2 ^ x) (mul_assoc (n / 2 ^ j) (2 ^ j) (2 ^ x) ∙ ap (λ y. n / 2 ^ j * y) (sym power)) in
    let small : n % 2 ^ j * 2 ^ x < 2 ^ (x + j) =
    rw power (mul-lt-mul_of_pos_right {m = n % 2 ^ j} {n = 2 ^ j} {k = 2 ^ x} (mod-lt n (pow_pos j)) (pow_pos x)) in
    let rest : n * 2 ^ x % 2 ^ (x + j) ≡ n % 2 ^ j * 2 ^ x = ap (λ y. y % 2 ^ (x + j)) parts ∙ low (n / 2 ^ j) (x + j) small in
    rw (quotient, rest, power) (stepped_scaled (n / 2 ^ j) (n % 2 ^ j) (2 ^ j) (2 ^ x) (pow_pos x))

-- nothing is kept where all bits are dropped and more
pub drops_all : (n j : ℕ) → n ≤ 9223372036854775808 → 63 < j → stepped (n / 2 ^ j) (n % 2 ^ j) (2 ^ j) ≡ 0
unfolding stepped
drops_all n j h l =
    let big : 18446744073709551616 ≤ 2 ^ j = pow_mono {i = 64} {j = j} (omega arith) in
    let none : n / 2 ^ j ≡ 0 = div-eq_of_lt {n = n} {m = 2 ^ j} (omega arith) in
    let all : n % 2 ^ j ≡ n = mod-eq_of_lt (omega arith) in
    rw (none, all, le-ltb (2 ^ j) (2 * n) (omega arith)) (go (ltb (2 * n) (2 ^ j)))
  where
    go : (b : Bool) → cond b 0 (0 + 0 % 2) ≡ 0
    go true = refl
    go false = refl

-- ---- how much is kept

pub stepped_most : (q rest by : ℕ) → stepped q rest by ≤ q + 1
unfolding stepped
stepped_most q rest by = go (ltb (2 * rest) by) (ltb by (2 * rest))
  where
    go : (a b : Bool) → cond a q (cond b (suc q) (q + q % 2)) ≤ q + 1
    go true b = omega arith
    go false true = omega arith
    go false false = omega arith

pub quotient_below : (n x u d : ℕ) → 0 < n → size n + x ≤ u + d → n * 2 ^ x / 2 ^ u < 2 ^ d
quotient_below n x u d some h =
    omega (arith, size-lt (n * 2 ^ x / 2 ^ u), pow_mono {i = size (n * 2 ^ x / 2 ^ u)} {j = d} (omega (arith, size_scaled n x u some)))

-- what is rounded, by the digits that are dropped
pub rounded_is : (n x d s k : ℕ) → 0 < n → k ≡ size n + x - (s + d + 1) → rounded d (2 ^ s) (n * 2 ^ x) ≡ k * 2 ^ d + stepped (n * 2 ^ x / 2 ^ (s + k)) (n * 2 ^ x % 2 ^ (s + k)) (2 ^ (s + k))
unfolding rounded rounded_by
rounded_is n x d s k some is =
    let same : size (n * 2 ^ x / 2 ^ s) - suc d ≡ k = omega (arith, size_scaled n x s some) in
    rw (same, pow-add 2 s k) refl

-- nothing is rounded to nothing
pub rounded_none : (d s x : ℕ) → rounded d (2 ^ s) (0 * 2 ^ x) ≡ 0
unfolding rounded rounded_by stepped
rounded_none d s x =
    let none : 0 * 2 ^ x ≡ 0 = zero-mul (2 ^ x) in
    let over : (b : ℕ) → 0 < b → 0 / b ≡ 0 = λ b p. div-eq_of_lt {n = 0} {m = b} p in
    let digits : size 0 - suc d ≡ 0 = omega (arith, size-le 0 0 (omega arith)) in
    let unit : 0 < 2 ^ s * 2 ^ 0 = mul-pos (pow_pos s) (pow_pos 0) in
    rw (none, over (2 ^ s) (pow_pos s), digits, over (2 ^ s * 2 ^ 0) unit, mod-eq_of_lt {n = 0} {m = 2 ^ s * 2 ^ 0} unit, lt-ltb (2 * 0) (2 ^ s * 2 ^ 0) (omega (arith, unit)))
    (omega (arith, zero-mul (2 ^ d)))
