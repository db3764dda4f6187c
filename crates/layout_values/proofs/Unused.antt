-- Fields that are zero (`unused` of crates/wgsl), four at a time; and what `if !zeros(..)` tells.
-- Assumes nothing.
use Prim.Native.Nat.{ℕ}
use mathlib.Core.Path.{◌≡◌, sym, ◌∙◌}
use mathlib.Core.Bool.{Bool, true, false, not}
use mathlib.Core.List.{[], ◌∷◌}
use borrow.Author.Tests.{not-true, not-false}
use Rattle.wgsl.specs.Rule.{unused}

-- Zeros that the code puts for the fields that a kind uses change nothing.
pub unused_one : {r : Bool} (a : ℕ) → r ≡ unused (a ∷ 0 ∷ 0 ∷ 0 ∷ []) → r ≡ unused (a ∷ [])
unfolding unused
unused_one a e = e

pub unused_two : {r : Bool} (a b : ℕ) → r ≡ unused (a ∷ b ∷ 0 ∷ 0 ∷ []) → r ≡ unused (a ∷ b ∷ [])
unfolding unused
unused_two a b e = e

pub unused_three : {r : Bool} (a b c : ℕ) → r ≡ unused (a ∷ b ∷ c ∷ 0 ∷ []) → r ≡ unused (a ∷ b ∷ c ∷ [])
unfolding unused
unused_three a b c e = e

-- `if !f(..)`, where f ensures that its result is x: in the arm x is false, and past it x is true.
pub denied : {r x : Bool} → r ≡ x → not r ≡ true → x ≡ false
denied {r} e t = sym e ∙ not-true r t

pub granted : {r x : Bool} → r ≡ x → not r ≡ false → x ≡ true
granted {r} e t = sym e ∙ not-false r t
