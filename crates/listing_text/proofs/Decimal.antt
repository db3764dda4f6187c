-- Laws of `decimal` (crates/wgsl, specs/Listing): how long it is, and its last digit.
--
-- In order: `decimal_in` by its test; its length; one digit more to spare; `decimal`.
-- Assumes nothing.
use Prim.Native.Nat.{ℕ, zero, suc, ◌+◌, ◌/◌, ◌%◌, ◌^◌, ◌<◌, ◌≤◌}
use mathlib.Core.Path.{◌≡◌, sym, ◌∙◌}
use mathlib.Core.List.{[], ◌∷◌, ◌++◌}
use mathlib.Core.Logic.{⊎_elim}
use native.Mathlib.Nat.{eq-zero-or-pos, pow-suc}
use native.Mathlib.Omega.{arith}
use borrow.Author.Tests.{lt-ltb, le-ltb}
use lib.ListN.{length, length-append}
use Rattle.wgsl.specs.Listing.{decimal_in, decimal}

-- ---- a number of at most so many digits

decimal_in_digit : (d n : ℕ) → n < 10 → decimal_in (suc d) n ≡ (48 + n) ∷ []
unfolding decimal_in
decimal_in_digit d n h = rw (lt-ltb n 10 h)

decimal_in_more : (d n : ℕ) → 10 ≤ n → decimal_in (suc d) n ≡ decimal_in d (n / 10) ++ ((48 + n % 10) ∷ [])
unfolding decimal_in
decimal_in_more d n h = rw (le-ltb n 10 h)

decimal_in_length : (d n : ℕ) → length (decimal_in d n) ≤ d
unfolding decimal_in
decimal_in_length zero n = omega arith
decimal_in_length (suc d) n =
    ⊎_elim
    (λ (h : n / 10 ≡ 0). rw (decimal_in_digit d n (omega arith)) (omega arith))
    (λ (h : 0 < n / 10).
    rw (decimal_in_more d n (omega arith), length-append) (omega (arith, decimal_in_length d (n / 10))))
    (eq-zero-or-pos (n / 10))

-- one digit more changes nothing where the number has few enough
decimal_in_spare : (d n : ℕ) → n < 10 ^ suc d → decimal_in (suc (suc d)) n ≡ decimal_in (suc d) n
decimal_in_spare zero n h = decimal_in_digit 1 n (omega arith) ∙ sym (decimal_in_digit 0 n (omega arith))
decimal_in_spare (suc d) n h =
    ⊎_elim
    (λ (z : n / 10 ≡ 0).
    let l : n < 10 = omega arith in
    decimal_in_digit (suc (suc d)) n l ∙ sym (decimal_in_digit (suc d) n l))
    (λ (z : 0 < n / 10).
    let l : 10 ≤ n = omega arith in
    let few : n / 10 < 10 ^ suc d = omega (arith, pow-suc 10 (suc d)) in
    decimal_in_more (suc (suc d)) n l ∙ rw (decimal_in_spare d (n / 10) few) (sym (decimal_in_more (suc d) n l)))
    (eq-zero-or-pos (n / 10))

-- ---- ten digits

pub decimal_digit : (n : ℕ) → n < 10 → decimal n ≡ (48 + n) ∷ []
unfolding decimal
decimal_digit n h = decimal_in_digit 9 n h

pub decimal_more : (n : ℕ) → 10 ≤ n → n < 2 ^ 32 → decimal n ≡ decimal (n / 10) ++ ((48 + n % 10) ∷ [])
unfolding decimal
decimal_more n l h = decimal_in_more 9 n l ∙ rw (decimal_in_spare 8 (n / 10) (omega arith))

pub decimal_length : (n : ℕ) → length (decimal n) ≤ 10
unfolding decimal
decimal_length n = decimal_in_length 10 n

-- of nine digits, nine
pub decimal_length_nine : (n : ℕ) → n < 10 ^ 9 → length (decimal n) ≤ 9
unfolding decimal
decimal_length_nine n h = rw (decimal_in_spare 8 n h) (decimal_in_length 9 n)
