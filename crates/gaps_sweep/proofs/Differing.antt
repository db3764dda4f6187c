-- Laws of where two buffers differ (crates/wgsl, specs/Clean), as one byte of the second is set; and of bytes set to zero.
--
-- In order: how many bytes differ; the first that does; zeros.
-- Assumes nothing.
use Prim.Native.Nat.{ℕ, zero, suc, ◌+◌, ◌<◌, ◌≤◌}
use mathlib.Core.Bool.{Bool, true, false, cond}
use mathlib.Core.List.{List, [], ◌∷◌}
use mathlib.Core.Logic.{⊎_elim}
use mathlib.Core.Path.{◌≡◌, refl, sym, ◌∙◌}
use native.Mathlib.Nat.{add-zero, eq-or-lt_of_le}
use native.Mathlib.Omega.{arith}
use borrow.Author.Tests.{eq-eqb, ne_eqb}
use lib.Dec.{eqb}
use lib.ListN.{length, get_or, set, replicate, length-set, length-replicate}
use lib.Seq.{sets, get_or-set_same}
use Rattle.wgsl.specs.Clean.{differing, first_differing}
use Rattle.wgsl.proofs.Number.{sets_below, sets_past}

-- ---- how many bytes differ

-- None does where every byte is the same.
none_differ : (b c : List ℕ) → ((i : ℕ) → get_or c i 0 ≡ get_or b i 0) → differing b c ≡ 0
unfolding differing
none_differ [] c h = refl
none_differ (x ∷ b) [] h = refl
none_differ (x ∷ b) (y ∷ c) h = rw (eq-eqb x y (sym (h 0))) (none_differ b c (λ i. h (suc i)))

-- A byte that was the same and becomes another is one more that differs.
pub differing_set : (b c : List ℕ) (i v : ℕ) → length c ≡ length b → i < length b → get_or c i 0 ≡ get_or b i 0 → (get_or b i 0 ≡ v → ⊥) → differing b (set c i v) ≡ differing b c + 1
unfolding differing
differing_set [] c i v l h e n = absurd (omega arith)
differing_set (x ∷ b) [] i v l h e n = absurd (omega arith)
differing_set (x ∷ b) (y ∷ c) zero v l h e n = rw (ne_eqb x v n, eq-eqb x y (sym e)) (omega arith)
differing_set (x ∷ b) (y ∷ c) (suc i) v l h e n =
    rw (differing_set b c i v (omega arith) (omega arith) e n) (one_more (eqb x y) (differing b c))
  where
    one_more : (t : Bool) (d : ℕ) → cond t (d + 1) (suc (d + 1)) ≡ cond t d (suc d) + 1
    one_more true d = refl
    one_more false d = omega arith

-- ---- the first that does

-- A byte that becomes another is the first if none differed, and else the first stays, where from that byte on the bytes were the same.
pub first_set : (extent k : ℕ) (b c : List ℕ) (i v : ℕ) → length c ≡ length b → i < length b → ((j : ℕ) → i ≤ j → get_or c j 0 ≡ get_or b j 0) → (get_or b i 0 ≡ v → ⊥) → first_differing extent k b (set c i v) ≡ cond (eqb (differing b c) 0) (k + i) (first_differing extent k b c)
unfolding differing first_differing
first_set extent k [] c i v l h e n = absurd (omega arith)
first_set extent k (x ∷ b) [] i v l h e n = absurd (omega arith)
first_set extent k (x ∷ b) (y ∷ c) zero v l h e n =
    rw (ne_eqb x v n, none_differ (x ∷ b) (y ∷ c) (λ j. e j (omega arith)), add-zero k)
first_set extent k (x ∷ b) (y ∷ c) (suc i) v l h e n =
    rw (first_set extent (suc k) b c i v (omega arith) (omega arith) (λ j m. e (suc j) (omega arith)) n)
    (first (eqb x y))
  where
    first : (t : Bool) → cond t (cond (eqb (differing b c) 0) (suc k + i) (first_differing extent (suc k) b c)) k ≡ cond (eqb (cond t (differing b c) (suc (differing b c))) 0) (k + suc i) (cond t (first_differing extent (suc k) b c) k)
    first true = let e : suc k + i ≡ k + suc i = omega arith in rw e
    first false = rw (ne_eqb (suc (differing b c)) 0 (omega arith))

-- ---- zeros

-- n zeros from byte lo on
abbrev pub zeros : ℕ → ℕ → List ℕ → List ℕ
zeros n lo c = sets c lo (replicate n 0)

pub zeros_past : (n lo : ℕ) (c : List ℕ) (i : ℕ) → lo + n ≤ i → get_or (zeros n lo c) i 0 ≡ get_or c i 0
zeros_past n lo c i h = sets_past (replicate n 0) c lo i (rw (length-replicate {A = ℕ} n 0) h)

pub zeros_inside : (n lo : ℕ) (c : List ℕ) (i : ℕ) → lo + n ≤ length c → lo ≤ i → i < lo + n → get_or (zeros n lo c) i 0 ≡ 0
zeros_inside zero lo c i h from to = absurd (omega arith)
zeros_inside (suc n) lo c i h from to =
    ⊎_elim
    (λ (e : lo ≡ i).
    rw (← e) (sets_below (replicate n 0) (set c lo 0) (suc lo) lo (omega arith) ∙ get_or-set_same c lo 0 0 (omega arith)))
    (λ (l : lo < i). zeros_inside n (suc lo) (set c lo 0) i (rw length-set (omega arith)) l (omega arith))
    (eq-or-lt_of_le from)
