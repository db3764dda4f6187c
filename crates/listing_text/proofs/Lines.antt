-- Laws of the texts of a listing's lines, by the tests in them: `marked` (specs/Put), `refused_line` (crates/wgsl).
-- Assumes nothing.
use Prim.Native.Nat.{ℕ, ◌<◌, ◌≤◌}
use mathlib.Core.Bool.{true, false}
use mathlib.Core.Path.{◌≡◌, refl}
use mathlib.Core.List.{◌++◌, append-nil}
use mathlib.Core.Logic.{⊎_elim}
use native.Mathlib.Nat.{eq-zero-or-pos}
use native.Mathlib.Omega.{arith}
use borrow.Author.Tests.{eq-eqb, ne_eqb}
use lib.ListN.{length}
use Rattle.wgsl.specs.Listing.{refused_text, at_text, space, newline, dash, decimal, or_dash, has_place, refused_line}
use Rattle.listing_text.specs.Line.{marked, marked_column}
use Rattle.listing_text.proofs.Decimal.{decimal_length}

pub marked_absent : (n : ℕ) → n ≡ 0 → marked n ≡ dash
unfolding marked or_dash
marked_absent n e = rw (eq-eqb n 0 e)

pub marked_number : (n : ℕ) → (n ≡ 0 → ⊥) → marked n ≡ decimal n
unfolding marked or_dash
marked_number n e = rw (ne_eqb n 0 e)

pub marked_length : (n : ℕ) → length (marked n) ≤ 10
unfolding dash
marked_length n =
    ⊎_elim
    (λ (e : n ≡ 0). rw (marked_absent n e) (omega arith))
    (λ (h : 0 < n). rw (marked_number n (λ e. omega arith)) (decimal_length n))
    (eq-zero-or-pos n)

pub column_length : (n : ℕ) → length (marked_column n) ≤ 11
unfolding marked_column space
column_length n = omega (arith, marked_length n)

-- ---- the line of a refusal

module _ (number : ℕ) where
  pub refused_line_plain : (place : ℕ) → has_place number ≡ false → refused_line number place ≡ refused_text ++ decimal number ++ newline
  unfolding refused_line
  refused_line_plain place h = rw (h, append-nil (refused_text ++ decimal number))

  pub refused_line_place : (place : ℕ) → has_place number ≡ true → refused_line number place ≡ refused_text ++ decimal number ++ (at_text ++ decimal place) ++ newline
  unfolding refused_line
  refused_line_place place h = rw h refl
