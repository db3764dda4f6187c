-- Names of members (crates/wgsl, specs/Form).
-- Assumes nothing.
use Prim.Native.Nat.{ℕ, zero, suc, ◌+◌, ◌*◌, ◌<◌}
use mathlib.Core.List.{List}
use mathlib.Core.Bool.{Bool, true, false, ◌&&◌}
use mathlib.Core.Path.{◌≡◌, refl, ap}
use native.Mathlib.Nat.{mul-zero}
use native.Mathlib.Omega.{arith}
use borrow.Author.Tests.{eq-eqb, ne_eqb, eqb-true, eqb-false}
use lib.Dec.{eqb}
use Rattle.wgsl.specs.Number.{load}
use Rattle.wgsl.specs.File.{trailer_of, member_entry_length}
use Rattle.wgsl.specs.Form.{member_place, name_at, nameless}

-- where the name of member m of a form 2 file lies
pub name_place : (f : List ℕ) (m : ℕ) → (trailer_of f).form ≡ 2 → name_at f m ≡ load 4 f (member_place f 0 + 16 * m + 12)
unfolding name_at member_place member_entry_length
name_place f m two = rw (two, mul-zero) (ap (λ at. load 4 f at) (omega arith))

pub nameless_none : (f : List ℕ) → nameless f 0 ≡ true
unfolding nameless
nameless_none f = refl

pub nameless_next : (f : List ℕ) (m : ℕ) → nameless f m ≡ true → name_at f m ≡ 0 → nameless f (suc m) ≡ true
unfolding nameless
nameless_next f m h e = rw (h, eq-eqb (name_at f m) 0 e)

-- one name is enough
pub named_false : (f : List ℕ) (n m : ℕ) → m < n → (name_at f m ≡ 0 → ⊥) → nameless f n ≡ false
unfolding nameless
named_false f zero m l h = absurd (omega arith)
named_false f (suc n) m l h = last (eqb m n) refl (λ below. named_false f n m below h)
  where
    both : (a : Bool) → (a && false) ≡ false
    both true = refl
    both false = refl

    last : (b : Bool) → eqb m n ≡ b → (m < n → nameless f n ≡ false) → (nameless f n && eqb (name_at f n) 0) ≡ false
    last true e lower = let is : m ≡ n = eqb-true m n e in rw (ne_eqb (name_at f n) 0 (rw is at h)) (both (nameless f n))
    last false e lower = rw (lower (omega (arith, l, eqb-false m n e)))
