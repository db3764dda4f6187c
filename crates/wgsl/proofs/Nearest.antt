-- `rounded` is the nearest, ties to even, and nothing else is (specs/Literal, specs/LiteralClaim). Over the digits d of the target.
--
-- In order: any rising numbers; the whole numbers that patterns stand for; the nearest, by what is left of a divisor; no other is; exact
-- values stay; the order is kept.
-- Assumes nothing.
use Prim.Native.Nat.{ℕ, zero, suc, ◌+◌, ◌-◌, ◌*◌, ◌/◌, ◌%◌, ◌^◌, ◌≤◌, ◌<◌}
use mathlib.Core.Bool.{Bool, true, false, cond}
use mathlib.Core.Logic.{◌⊎◌, inl, inr, ⊎_elim}
use mathlib.Core.Path.{◌≡◌, refl, ap, sym, ◌∙◌}
use native.Mathlib.Omega.{arith}
use native.Mathlib.Nat.{mul-lt-mul_of_pos_right, suc-mul, mul_assoc, mul_comm, mod-lt, div-add-mod', mul-pos, mul-add-mod_self_right, div-div-eq-div-mul, le-div_iff_mul-le}
use borrow.Author.Tests.{ltb-true, ltb-false, lt-ltb, le-ltb}
use lib.Dec.{ltb}
use lib.Pow.{pow-add, pow_pos, pow_mono, split, high, low, shr_lt}
use lib.Ieee.{size}
use lib.Ieee.Digits.{size-lt, size_reaches}
use Rattle.wgsl.specs.Literal.{worth, stepped, rounded_by, rounded}
use Rattle.wgsl.specs.LiteralClaim.{distance, IsNearest}
use Rattle.wgsl.proofs.Bit.{lt_or_le}

le_or_lt : (m n : ℕ) → (m ≤ n) ⊎ (n < m)
le_or_lt m n = ⊎_elim (λ (l : n < m). inr l) (λ (l : m ≤ n). inl l) (lt_or_le n m)

-- ---- any rising numbers

module _ (f : ℕ → ℕ) (rises : (m : ℕ) → f m < f (suc m)) where
  rise : (i d : ℕ) → f i ≤ f (d + i)
  rise i zero = let e : 0 + i ≡ i = omega arith in rw e (omega arith)
  rise i (suc d) =
      let e : suc d + i ≡ suc (d + i) = omega arith in
      rw e (omega (arith, rise i d, rises (d + i)))

  keeps : (i j : ℕ) → i ≤ j → f i ≤ f j
  keeps i j h = let e : (j - i) + i ≡ j = omega arith in rw e at (rise i (j - i))

  less : (i j : ℕ) → i < j → f i < f j
  less i j h = omega (arith, rises i, keeps (suc i) j h)

  -- n lies from f m up to f (suc m): where the others are
  others : {A : Type 0} (m k : ℕ) → (k ≡ m → A) → (k < m → f k < f m → A) → (k ≡ suc m → A) → (suc m < k → f (suc m) < f k → A) → A
  others m k a b c e =
      ⊎_elim
      (λ (h : k ≤ m). ⊎_elim (λ (g : m ≤ k). a (omega arith)) (λ (g : k < m). b g (less k m g)) (le_or_lt m k))
      (λ (h : m < k). ⊎_elim (λ (g : k ≤ suc m). c (omega arith)) (λ (g : suc m < k). e g (less (suc m) k g)) (le_or_lt k (suc m)))
      (le_or_lt k m)

  -- what a bracket of n says of the nearest: by how far n is from its two ends
  bracket_low : (n m : ℕ) → f m ≤ n → n < f (suc m) → n - f m < f (suc m) - n → (k : ℕ) → (distance n (f m) ≤ distance n (f k)) × (distance n (f k) ≡ distance n (f m) → k ≡ m)
  unfolding distance
  bracket_low n m lo hi near k =
      others m k
      (λ e. (rw e (omega arith), λ q. e))
      (λ l g. (omega arith, λ q. absurd (omega arith)))
      (λ e. (rw e (omega arith), λ q. absurd (let q' : n - f (suc m) + (f (suc m) - n) ≡ n - f m + (f m - n) = ap (λ (x : ℕ). distance n (f x)) (sym e) ∙ q in omega arith)))
      (λ l g. (omega arith, λ q. absurd (omega arith)))

  bracket_high : (n m : ℕ) → f m ≤ n → n < f (suc m) → f (suc m) - n < n - f m → (k : ℕ) → (distance n (f (suc m)) ≤ distance n (f k)) × (distance n (f k) ≡ distance n (f (suc m)) → k ≡ suc m)
  unfolding distance
  bracket_high n m lo hi near k =
      others m k
      (λ e. (rw e (omega arith), λ q. absurd (let q' : n - f m + (f m - n) ≡ n - f (suc m) + (f (suc m) - n) = ap (λ (x : ℕ). distance n (f x)) (sym e) ∙ q in omega arith)))
      (λ l g. (omega arith, λ q. absurd (omega arith)))
      (λ e. (rw e (omega arith), λ q. e))
      (λ l g. (omega arith, λ q. absurd (omega arith)))

  bracket_tie : (n m : ℕ) → f m ≤ n → n < f (suc m) → f (suc m) - n ≡ n - f m → (k : ℕ) → (distance n (f m) ≤ distance n (f k)) × (distance n (f (suc m)) ≤ distance n (f k))
  unfolding distance
  bracket_tie n m lo hi tie k =
      others m k
      (λ e. rw e (omega arith, omega arith))
      (λ l g. (omega arith, omega arith))
      (λ e. rw e (omega arith, omega arith))
      (λ l g. (omega arith, omega arith))

-- ---- the whole numbers that patterns stand for

worth_low : (d m : ℕ) → m < 2 ^ d → worth d m ≡ m
unfolding worth
worth_low d m h = rw (lt-ltb m (2 ^ d) h)

-- a pattern from 2 ^ d on, taken apart
worth_high : (d e r : ℕ) → r < 2 ^ d → worth d (suc e * 2 ^ d + r) ≡ (2 ^ d + r) * 2 ^ e
unfolding worth
worth_high d e r h =
    let m : suc e * 2 ^ d + r ≡ 2 ^ d + (e * 2 ^ d + r) = omega (arith, suc-mul e (2 ^ d)) in
    let no : ltb (suc e * 2 ^ d + r) (2 ^ d) ≡ false = le-ltb (suc e * 2 ^ d + r) (2 ^ d) (omega arith) in
    let x : suc e - 1 ≡ e = omega arith in
    rw (no, high (suc e) d h, low (suc e) d h, x)

-- k digits dropped and q kept: the pattern k * 2 ^ d + q
pub worth_block : (d k q : ℕ) → (k ≡ 0) ⊎ (2 ^ d ≤ q) → q ≤ 2 ^ suc d → worth d (k * 2 ^ d + q) ≡ q * 2 ^ k
worth_block d k q kept fits =
    ⊎_elim
    (λ (h : 2 ^ d ≤ q). ⊎_elim (λ (g : 2 ^ d ≤ q - 2 ^ d). last g h) (λ (g : q - 2 ^ d < 2 ^ d). inner g h) (le_or_lt (2 ^ d) (q - 2 ^ d)))
    (λ (h : q < 2 ^ d). ⊎_elim (λ (z : k ≡ 0). first z h) (λ (g : 2 ^ d ≤ q). absurd (omega arith)) kept)
    (le_or_lt (2 ^ d) q)
  where
    two : 2 ^ suc d ≡ 2 ^ d + 2 ^ d
    two = omega arith

    first : k ≡ 0 → q < 2 ^ d → worth d (k * 2 ^ d + q) ≡ q * 2 ^ k
    first z h =
        let e : 0 * 2 ^ d + q ≡ q = omega arith in
        let o : q * 2 ^ 0 ≡ q = omega arith in
        rw (z, e, o) (worth_low d q h)

    inner : q - 2 ^ d < 2 ^ d → 2 ^ d ≤ q → worth d (k * 2 ^ d + q) ≡ q * 2 ^ k
    inner g h =
        let e : k * 2 ^ d + q ≡ suc k * 2 ^ d + (q - 2 ^ d) = omega (arith, suc-mul k (2 ^ d)) in
        let o : 2 ^ d + (q - 2 ^ d) ≡ q = omega arith in
        ap (worth d) e ∙ worth_high d k (q - 2 ^ d) g ∙ ap (λ (x : ℕ). x * 2 ^ k) o

    last : 2 ^ d ≤ q - 2 ^ d → 2 ^ d ≤ q → worth d (k * 2 ^ d + q) ≡ q * 2 ^ k
    last g h =
        let all : q ≡ 2 ^ suc d = omega (arith, fits, two) in
        let e : k * 2 ^ d + q ≡ suc (suc k) * 2 ^ d + 0 = omega (arith, two, suc-mul (suc k) (2 ^ d), suc-mul k (2 ^ d)) in
        let z : 2 ^ d + 0 ≡ 2 ^ d = omega arith in
        let p : 2 ^ d * 2 ^ suc k ≡ 2 ^ suc d * 2 ^ k = sym (pow-add 2 d (suc k)) ∙ ap (λ (x : ℕ). 2 ^ x) (swap d k) ∙ pow-add 2 (suc d) k in
        ap (worth d) e ∙ worth_high d (suc k) 0 (pow_pos d) ∙ ap (λ (x : ℕ). x * 2 ^ suc k) z ∙ p ∙ ap (λ (x : ℕ). x * 2 ^ k) (sym all)
      where
        swap : (d k : ℕ) → d + suc k ≡ suc d + k
        swap d k = omega arith

-- every pattern is one
record Block (d m : ℕ) : Type 0 where
  k : ℕ
  q : ℕ
  is : m ≡ k * 2 ^ d + q
  kept : (k ≡ 0) ⊎ (2 ^ d ≤ q)
  fits : q < 2 ^ suc d

block : (d m : ℕ) → Block d m
block d m = go (m / 2 ^ d) (m % 2 ^ d) (sym (split m d)) (mod-lt m (pow_pos d))
  where
    go : (e r : ℕ) → m ≡ e * 2 ^ d + r → r < 2 ^ d → Block d m
    go zero r is h = record { k = 0; q = r; is = is; kept = inl refl; fits = omega arith }
    go (suc e) r is h =
        record { k = e; q = 2 ^ d + r; is = omega (arith, is, suc-mul e (2 ^ d)); kept = inr (omega arith); fits = omega arith }

-- The numbers rise with their patterns.
pub worth_rises : (d m : ℕ) → worth d m < worth d (suc m)
worth_rises d m =
    let b = block d m in
    let here : worth d m ≡ b.q * 2 ^ b.k = ap (worth d) b.is ∙ worth_block d b.k b.q b.kept (omega (arith, b.fits)) in
    let e : suc m ≡ b.k * 2 ^ d + suc b.q = omega (arith, b.is) in
    let kept : (b.k ≡ 0) ⊎ (2 ^ d ≤ suc b.q) = ⊎_elim (λ (h : b.k ≡ 0). inl h) (λ (h : 2 ^ d ≤ b.q). inr (omega arith)) b.kept in
    let next : worth d (suc m) ≡ suc b.q * 2 ^ b.k = ap (worth d) e ∙ worth_block d b.k (suc b.q) kept (omega (arith, b.fits)) in
    omega (arith, here, next, suc-mul b.q (2 ^ b.k), pow_pos b.k)

-- ---- the nearest

mul_swap : (u q p : ℕ) → u * (q * p) ≡ q * (u * p)
mul_swap u q p = sym (mul_assoc u q p) ∙ ap (λ (x : ℕ). x * p) (mul_comm u q) ∙ mul_assoc q u p

-- what is kept of n, in units of u, when k digits are dropped
pub record Kept (d u n k : ℕ) : Type 0 where
  pub unit : 0 < u
  pub digit : 0 < d
  pub kept : (k ≡ 0) ⊎ (2 ^ d ≤ n / (u * 2 ^ k))
  pub fits : n / (u * 2 ^ k) < 2 ^ suc d

module _ (d u n k : ℕ) (h : Kept d u n k) where
  s : ℕ
  s = u * 2 ^ k

  q : ℕ
  q = n / s

  m : ℕ
  m = k * 2 ^ d + q

  f : ℕ → ℕ
  f j = u * worth d j

  above : 0 < s
  unfolding s
  above = mul-pos h.unit (pow_pos k)

  rises : (j : ℕ) → f j < f (suc j)
  unfolding f
  rises j =
      let w = mul-lt-mul_of_pos_right {m = worth d j} {n = worth d (suc j)} {k = u} (worth_rises d j) h.unit in
      rw (mul_comm u (worth d j), mul_comm u (worth d (suc j))) w

  from : f m ≡ q * s
  unfolding f m q s
  from = ap (λ (x : ℕ). u * x) (worth_block d k (n / (u * 2 ^ k)) h.kept (omega (arith, h.fits))) ∙ mul_swap u (n / (u * 2 ^ k)) (2 ^ k)

  to : f (suc m) ≡ suc q * s
  unfolding f m q s
  to =
      let v = n / (u * 2 ^ k) in
      let e : suc (k * 2 ^ d + v) ≡ k * 2 ^ d + suc v = omega arith in
      let kept : (k ≡ 0) ⊎ (2 ^ d ≤ suc v) = ⊎_elim (λ (z : k ≡ 0). inl z) (λ (z : 2 ^ d ≤ v). inr (omega arith)) h.kept in
      ap (λ (x : ℕ). u * worth d x) e
      ∙ ap (λ (x : ℕ). u * x) (worth_block d k (suc v) kept (omega (arith, h.fits)))
      ∙ mul_swap u (suc v) (2 ^ k)

  rest : ℕ
  rest = n % s

  whole : n ≡ q * s + rest
  unfolding q rest
  whole = sym (div-add-mod' n s)

  small : rest < s
  unfolding rest
  small = mod-lt n above

  parity : (x : ℕ) → (k * 2 ^ d + x) % 2 ≡ x % 2
  parity x = go d h.digit
    where
      go : (d : ℕ) → 0 < d → (k * 2 ^ d + x) % 2 ≡ x % 2
      go zero p = absurd (omega arith)
      go (suc d) p =
          let e : k * 2 ^ suc d ≡ k * 2 ^ d * 2 = ap (λ (y : ℕ). k * y) (two d) ∙ sym (mul_assoc k (2 ^ d) 2) in
          rw e (mul-add-mod_self_right (k * 2 ^ d) 2 x)
        where
          two : (d : ℕ) → 2 ^ suc d ≡ 2 ^ d * 2
          two d = omega arith

  lows : f m ≤ n
  lows = omega (arith, from, whole)

  highs : n < f (suc m)
  highs = omega (arith, to, whole, small, suc-mul q s)

  -- by what is left of the divisor
  pub by_rest : IsNearest d u n (rounded_by d u n k)
  unfolding rounded_by stepped s q rest m f
  by_rest = go (ltb (2 * rest) s) refl (ltb s (2 * rest)) refl
    where
      go : (x : Bool) → ltb (2 * rest) s ≡ x → (y : Bool) → ltb s (2 * rest) ≡ y → IsNearest d u n (k * 2 ^ d + cond x q (cond y (suc q) (q + q % 2)))
      go true a y b =
          let near : n - f m < f (suc m) - n = omega (arith, from, to, whole, suc-mul q s, ltb-true (2 * rest) s a) in
          let w = bracket_low f rises n m lows highs near in
          record { nearest = λ j. (w j).0; even = λ j e. inl ((w j).1 e) }
      go false a true b =
          let near : f (suc m) - n < n - f m = omega (arith, from, to, whole, small, suc-mul q s, ltb-true s (2 * rest) b) in
          let w = bracket_high f rises n m lows highs near in
          let e : k * 2 ^ d + suc q ≡ suc m = omega arith in
          rw e (record { nearest = λ j. (w j).0; even = λ j e. inl ((w j).1 e) })
      go false a false b =
          let tie : f (suc m) - n ≡ n - f m = omega (arith, from, to, whole, small, suc-mul q s, ltb-false (2 * rest) s a, ltb-false s (2 * rest) b) in
          let w = bracket_tie f rises n m lows highs tie in
          evened (q % 2) refl (mod-lt q (pow_pos 1)) (λ j. (w j).0) (λ j. (w j).1)
        where
          evened : (p : ℕ) → q % 2 ≡ p → p < 2 → ((j : ℕ) → distance n (f m) ≤ distance n (f j)) → ((j : ℕ) → distance n (f (suc m)) ≤ distance n (f j)) → IsNearest d u n (k * 2 ^ d + (q + p))
          evened zero e l g h =
              let z : k * 2 ^ d + (q + 0) ≡ m = omega arith in
              rw z (record { nearest = g; even = λ j t. inr (parity q ∙ e) })
          evened (suc zero) e l g h =
              let z : k * 2 ^ d + (q + 1) ≡ suc m = omega arith in
              let y : suc m ≡ k * 2 ^ d + suc q = omega arith in
              let o : suc q % 2 ≡ 0 = odd q e in
              rw z (record { nearest = h; even = λ j t. inr (ap (λ (x : ℕ). x % 2) y ∙ parity (suc q) ∙ o) })
            where
              odd : (q : ℕ) → q % 2 ≡ 1 → suc q % 2 ≡ 0
              odd q e = omega arith
          evened (suc (suc p)) e l g h = absurd (omega arith)

-- the digits past d + 1 are dropped
sized : (d u n : ℕ) → 0 < d → 0 < u → Kept d u n (size (n / u) - suc d)
sized d u n p o =
    let v : ℕ = n / u in
    let k : ℕ = size v - suc d in
    let e : n / (u * 2 ^ k) ≡ v / 2 ^ k = sym (div-div-eq-div-mul n u (2 ^ k)) in
    record {
      unit = o;
      digit = p;
      kept = ⊎_elim (λ (h : size v ≤ suc d). inl (omega arith)) (λ (h : suc d < size v). inr (rw e (reach v k h))) (le_or_lt (size v) (suc d));
      fits = rw e (shr_lt {n = v} (suc d) k (below v k (omega arith)));
    }
  where
    below : (v k : ℕ) → size v ≤ suc d + k → v < 2 ^ (suc d + k)
    below v k h = omega (arith, size-lt v, pow_mono {i = size v} {j = suc d + k} h)

    reach : (v k : ℕ) → suc d < size v → 2 ^ d ≤ v / 2 ^ (size v - suc d)
    reach v k h =
        let j : ℕ = size v - suc d in
        let r : 2 ^ (d + j) ≤ v = size_reaches v (d + j) (omega arith) in
        (le-div_iff_mul-le (pow_pos j)).1 (rw (← pow-add 2 d j) r)

-- "rounded to nearest, ties to even": once, over the digits of the target
pub rounded_nearest : (d u n : ℕ) → 0 < d → 0 < u → IsNearest d u n (rounded d u n)
unfolding rounded
rounded_nearest d u n p o = by_rest d u n (size (n / u) - suc d) (sized d u n p o)

-- No other pattern is.
abbrev scaled : ℕ → ℕ → ℕ → ℕ
scaled d u j = u * worth d j

scaled_rises : (d u : ℕ) → 0 < u → (j : ℕ) → scaled d u j < scaled d u (suc j)
scaled_rises d u o j =
    rw (mul_comm u (worth d j), mul_comm u (worth d (suc j)))
    (mul-lt-mul_of_pos_right {m = worth d j} {n = worth d (suc j)} {k = u} (worth_rises d j) o)

pub nearest_unique : (d u n : ℕ) {r t : ℕ} → 0 < u → IsNearest d u n r → IsNearest d u n t → r ≡ t
unfolding distance
nearest_unique d u n {r} {t} o a b =
    ⊎_elim (λ (h : r ≤ t). ⊎_elim (λ (g : t ≤ r). omega arith) (λ (g : r < t). absurd (apart r t a b g)) (le_or_lt t r))
    (λ (h : t < r). absurd (apart t r b a h)) (le_or_lt r t)
  where
    even_suc : (r : ℕ) → r % 2 ≡ 0 → suc r % 2 ≡ 0 → ⊥
    even_suc r e f = let z : ◌≡◌ {A = ℕ} 0 1 = omega arith in absurd (omega arith)

    apart : (r t : ℕ) → IsNearest d u n r → IsNearest d u n t → r < t → ⊥
    apart r t a b l =
        let same : distance n (u * worth d r) ≡ distance n (u * worth d t) = omega (arith, a.nearest t, b.nearest r) in
        let rise = less (scaled d u) (scaled_rises d u o) r t l in
        ⊎_elim
        (λ (h : t ≤ suc r).
        let e : t ≡ suc r = omega arith in
        ⊎_elim (λ (x : t ≡ r). absurd (omega arith))
        (λ (x : r % 2 ≡ 0). ⊎_elim (λ (y : r ≡ t). absurd (omega arith)) (λ (y : t % 2 ≡ 0). even_suc r x (ap (λ (z : ℕ). z % 2) (sym e) ∙ y)) (b.even r same))
        (a.even t (sym same)))
        (λ (h : suc r < t).
        absurd (omega (arith, a.nearest (suc r), b.nearest (suc r), same, scaled_rises d u o r, less (scaled d u) (scaled_rises d u o) (suc r) t h)))
        (le_or_lt t (suc r))

-- "exact values unchanged"
pub exact_unchanged : (d u m : ℕ) → 0 < d → 0 < u → rounded d u (u * worth d m) ≡ m
unfolding distance
exact_unchanged d u m p o =
    nearest_unique d u (u * worth d m) o (rounded_nearest d u (u * worth d m) p o) (record {
      nearest = λ k. omega arith;
      even = λ k e. inl (one k e);
    })
  where
    one : (k : ℕ) → distance (u * worth d m) (u * worth d k) ≡ distance (u * worth d m) (u * worth d m) → k ≡ m
    one k e =
        ⊎_elim
        (λ (h : k ≤ m). ⊎_elim (λ (x : m ≤ k). omega arith) (λ (x : k < m). absurd (omega (arith, less (scaled d u) (scaled_rises d u o) k m x, e))) (le_or_lt m k))
        (λ (h : m < k). absurd (omega (arith, less (scaled d u) (scaled_rises d u o) m k h, e)))
        (le_or_lt k m)

-- of two numbers the upper one, or the lower one, is as near: on which side of their middle
past_middle : (n a b : ℕ) → b < a → distance n a ≤ distance n b → a + b ≤ 2 * n
unfolding distance
past_middle n a b l h = omega arith

before_middle : (n a b : ℕ) → b < a → distance n b ≤ distance n a → 2 * n ≤ a + b
unfolding distance
before_middle n a b l h = omega arith

-- "a larger literal never rounds to a smaller number"
pub rounded_keeps : (d u n n' : ℕ) → 0 < d → 0 < u → n ≤ n' → rounded d u n ≤ rounded d u n'
rounded_keeps d u n n' p o l =
    ⊎_elim (λ (h : rounded d u n ≤ rounded d u n'). h) (λ (h : rounded d u n' < rounded d u n). absurd (crossed h)) (le_or_lt (rounded d u n) (rounded d u n'))
  where
    crossed : rounded d u n' < rounded d u n → ⊥
    crossed h =
        let rise = less (scaled d u) (scaled_rises d u o) (rounded d u n') (rounded d u n) h in
        let low = past_middle n _ _ rise ((rounded_nearest d u n p o).nearest (rounded d u n')) in
        let high = before_middle n' _ _ rise ((rounded_nearest d u n' p o).nearest (rounded d u n)) in
        let same : n ≡ n' = omega (arith, low, high) in
        omega (arith, h, ap (rounded d u) same)
