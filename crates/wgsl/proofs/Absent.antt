-- Tests that hold; numbers that may be absent (specs/Size).
--
-- In order: tests joined by `&&` and `||`; a test holds or fails; the test for a range; no test holds and fails; a number that is present; a number made from
-- two; one given or the type's own.
-- Assumes nothing.
use Prim.Native.Nat.{ℕ, ◌≤◌}
use mathlib.Core.Bool.{Bool, true, false, ◌&&◌, ◌||◌, and-eq-true_iff}
use mathlib.Core.Option.{Option, none, some}
use mathlib.Core.Path.{◌≡◌, refl}
use mathlib.Core.Logic.{◌⊎◌, inl, inr}
use native.Mathlib.Omega.{arith}
use borrow.Author.Tests.{leb-true}
use lib.Dec.{leb}
use Rattle.wgsl.specs.Size.{both, given_or, is_present, present}
use Rattle.wgsl.specs.File.{between}

-- Where two tests hold together, each holds.
pub both_hold : (a b : Bool) → (a && b) ≡ true → (a ≡ true) × (b ≡ true)
both_hold a b = (and-eq-true_iff a b).0

-- Two tests that hold, hold together.
pub hold_both : (a b : Bool) → a ≡ true → b ≡ true → (a && b) ≡ true
hold_both a b p q = (and-eq-true_iff a b).1 (p, q)

-- Where one of two tests holds, the first does or the second.
pub either_holds : (a b : Bool) → (a || b) ≡ true → (a ≡ true) ⊎ (b ≡ true)
either_holds true b e = inl refl
either_holds false b e = inr e

-- A test holds or fails.
pub yes_or_no : {A : Type 0} (test : Bool) → (test ≡ true → A) → (test ≡ false → A) → A
yes_or_no true holds fails = holds refl
yes_or_no false holds fails = fails refl

-- A number that is tested to be in a range is in it.
pub between_true : (low high n : ℕ) → between low high n ≡ true → (low ≤ n) × (n ≤ high)
unfolding between
between_true low high n e =
    let h = both_hold (leb low n) (leb n high) e in
    (leb-true low n h.0, leb-true n high h.1)

-- No test holds and fails, and nothing is there and absent.
pub true_not_false : {A : Type 0} {b : Bool} → b ≡ true → b ≡ false → A
true_not_false e f = let z : ◌≡◌ {A = ℕ} 0 1 = cc in absurd (omega arith)

pub some_not_none : {A B : Type 0} {o : Option A} {a : A} → o ≡ some a → o ≡ none → B
some_not_none e f = let z : ◌≡◌ {A = ℕ} 0 1 = cc in absurd (omega arith)

-- A number that is present is some number.
pub present_some : (o : Option ℕ) → is_present o ≡ true → (n : ℕ) × (o ≡ some n)
unfolding is_present
present_some (some n) e = (n, refl)
present_some none e = true_not_false e refl

pub present_is : (n : ℕ) → present (some n) ≡ n
unfolding present
present_is n = refl

pub some_present : {o : Option ℕ} {n : ℕ} → o ≡ some n → is_present o ≡ true
unfolding is_present
some_present e = rw e

-- What a number that is present was made from is present.
pub record Both (f : ℕ → ℕ → ℕ) (x y : Option ℕ) (c : ℕ) : Type 0 where
  pub left : ℕ
  pub right : ℕ
  pub left_is : x ≡ some left
  pub right_is : y ≡ some right
  pub is : c ≡ f left right

pub both_some : (f : ℕ → ℕ → ℕ) (x y : Option ℕ) (c : ℕ) → both f x y ≡ some c → Both f x y c
unfolding both
both_some f (some a) (some b) c e = record { left = a; right = b; left_is = refl; right_is = refl; is = cc }
both_some f (some a) none c e = some_not_none {A = ℕ} {a = c} e refl
both_some f none y c e = some_not_none {A = ℕ} {a = c} e refl

pub both_none : (f : ℕ → ℕ → ℕ) (x : Option ℕ) → both f x none ≡ none
unfolding both
both_none f (some a) = refl
both_none f none = refl

-- The number given, or the type's own, is present where the type's own is.
pub given_present : (given own : Option ℕ) → is_present own ≡ true → (a : ℕ) × (given_or given own ≡ some a)
unfolding given_or
given_present (some g) own e = (g, refl)
given_present none own e = present_some own e
