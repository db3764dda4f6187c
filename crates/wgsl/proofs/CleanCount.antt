-- Where a buffer and the cleaned one differ (specs/Clean, `differing` and `first_differing`).
--
-- In order: nothing differs; the first that differs; the bytes that no place covers; no more differ than these.
-- Assumes nothing.
use Prim.Native.Nat.{ℕ, zero, suc, ◌+◌, ◌-◌, ◌<◌, ◌≤◌}
use mathlib.Core.Bool.{Bool, true, false, cond, ◌||◌}
use mathlib.Core.List.{List, [], ◌∷◌}
use mathlib.Core.Logic.{◌⊎◌, inl, inr, ⊎_elim}
use mathlib.Core.Path.{◌≡◌, refl, ap, sym, ◌∙◌}
use native.Mathlib.Omega.{arith}
use native.Mathlib.Nat.{add-zero}
use borrow.Author.Tests.{eqb-true, eqb-false, eq-eqb}
use lib.Dec.{eqb}
use lib.ListN.{length, get_or}
use Rattle.wgsl.specs.Place.{Place}
use Rattle.wgsl.specs.Claim.{Ordered}
use Rattle.wgsl.specs.Clean.{is_inside, is_covered, clean_byte, clean_from, differing, first_differing}
use Rattle.wgsl.specs.CleanClaim.{scalar_bytes}
use Rattle.wgsl.proofs.Absent.{yes_or_no, true_not_false}
use Rattle.wgsl.proofs.Shape.{ordered_span}
use Rattle.wgsl.proofs.CleanByte.{true_inside, byte_covered, byte_later}

-- ---- nothing differs

-- No list differs from itself,
pub same_none : (b : List ℕ) → differing b b ≡ 0
unfolding differing
same_none [] = refl
same_none (x ∷ b) = rw (eq-eqb x x refl) (same_none b)

-- and the first that does is said to be the extent.
pub same_first : (extent i : ℕ) (b : List ℕ) → first_differing extent i b b ≡ extent
unfolding first_differing
same_first extent i [] = refl
same_first extent i (x ∷ b) = rw (eq-eqb x x refl) (same_first extent (suc i) b)

-- ---- the first that differs

-- the lists begin at byte k; they differ at byte k + place, and at none before it
pub record First (extent k : ℕ) (before after : List ℕ) : Type 0 where
  pub place : ℕ
  pub some_differ : 0 < differing before after
  pub is : first_differing extent k before after ≡ k + place
  pub differs : get_or after place 0 ≡ get_or before place 0 → ⊥
  pub lowest : (i : ℕ) → i < place → get_or after i 0 ≡ get_or before i 0

-- Two lists of the same length are the same, or there is a first place where they differ.
pub same_or_first : (extent k : ℕ) (before after : List ℕ) → length before ≡ length after → (before ≡ after) ⊎ First extent k before after
unfolding differing first_differing
same_or_first extent k [] [] l = inl refl
same_or_first extent k [] (y ∷ after) l = absurd (omega arith)
same_or_first extent k (x ∷ before) [] l = absurd (omega arith)
same_or_first extent k (x ∷ before) (y ∷ after) l =
    yes_or_no (eqb x y)
    (λ e.
    let same : x ≡ y = eqb-true x y e in
    ⊎_elim (λ (q : before ≡ after). inl (cc))
    (λ (r : First extent (suc k) before after). inr (later e same r))
    (same_or_first extent (suc k) before after (omega arith)))
    (λ e.
    inr (record {
      place = 0;
      some_differ = rw e (omega arith);
      is = rw e (sym (add-zero k));
      differs = λ q. eqb-false x y e (sym q);
      lowest = λ i h. absurd (omega arith);
    }))
  where
    before_is : (r : First extent (suc k) before after) → x ≡ y → (i : ℕ) → i < suc r.place → get_or (y ∷ after) i 0 ≡ get_or (x ∷ before) i 0
    before_is r same zero h = sym same
    before_is r same (suc i) h = r.lowest i (omega arith)

    later : eqb x y ≡ true → x ≡ y → First extent (suc k) before after → First extent k (x ∷ before) (y ∷ after)
    later e same r = record {
      place = suc r.place;
      some_differ = rw e r.some_differ;
      is = rw e (omega (arith, r.is));
      differs = r.differs;
      lowest = before_is r same;
    }

-- ---- the bytes that no place covers

-- how many of the m bytes from k on
unfoldable pub gaps : List Place → ℕ → ℕ → ℕ
gaps ps k zero = 0
gaps ps k (suc m) = cond (is_covered ps k) 0 1 + gaps ps (suc k) m

gaps_add : (ps : List Place) (k m n : ℕ) → gaps ps k (m + n) ≡ gaps ps k m + gaps ps (k + m) n
unfolding gaps
gaps_add ps k zero n =
    let a : 0 + n ≡ n = omega arith in
    let b : k + 0 ≡ k = omega arith in
    rw (a, b) (omega arith)
gaps_add ps k (suc m) n =
    let a : suc m + n ≡ suc (m + n) = omega arith in
    let b : k + suc m ≡ suc k + m = omega arith in
    rw (a, b) (omega (arith, gaps_add ps (suc k) m n))

-- at most all of them, and none where a place covers all
gaps_most : (ps : List Place) (k m : ℕ) → gaps ps k m ≤ m
unfolding gaps
gaps_most ps k zero = omega arith
gaps_most ps k (suc m) = omega (arith, gaps_most ps (suc k) m, one_most (is_covered ps k))
  where
    one_most : (b : Bool) → cond b 0 1 ≤ 1
    one_most true = omega arith
    one_most false = omega arith

gaps_none : (p : Place) (ps : List Place) (k m : ℕ) → p.at ≤ k → k + m ≤ p.at + p.width → gaps (p ∷ ps) k m ≡ 0
unfolding gaps is_covered
gaps_none p ps k zero from to = refl
gaps_none p ps k (suc m) from to =
    rw (true_inside p k from (omega arith)) (omega (arith, gaps_none p ps (suc k) m (omega arith) (omega arith)))

-- with a further place they are no more
gaps_fewer : (p : Place) (ps : List Place) (k m : ℕ) → gaps (p ∷ ps) k m ≤ gaps ps k m
unfolding gaps is_covered
gaps_fewer p ps k zero = omega arith
gaps_fewer p ps k (suc m) = omega (arith, gaps_fewer p ps (suc k) m, fewer (is_inside p k) (is_covered ps k))
  where
    fewer : (a b : Bool) → cond (a || b) 0 1 ≤ cond b 0 1
    fewer true true = omega arith
    fewer true false = omega arith
    fewer false true = omega arith
    fewer false false = omega arith

-- The bytes that places in order cover and those that none of them covers are no more than there are.
pub gaps_room : (ps : List Place) (lo m : ℕ) → Ordered ps lo (lo + m) → gaps ps lo m + scalar_bytes ps ≤ m
unfolding Ordered scalar_bytes
gaps_room [] lo m o = omega (arith, gaps_most [] lo m)
gaps_room (p ∷ ps) lo m o =
    let span = ordered_span ps (p.at + p.width) (lo + m) o.1 in
    let j : ℕ = p.at - lo in
    let r : ℕ = m - (j + p.width) in
    let end : lo + m ≡ p.at + p.width + r = omega (arith, o.0) in
    let all : m ≡ j + (p.width + r) = omega (arith, o.0) in
    let at : lo + j ≡ p.at = omega (arith, o.0) in
    let rest : gaps ps (p.at + p.width) r + scalar_bytes ps ≤ r = gaps_room ps (p.at + p.width) r (rw end at o.1) in
    let parted : gaps (p ∷ ps) lo m ≡ gaps (p ∷ ps) lo j + (gaps (p ∷ ps) p.at p.width + gaps (p ∷ ps) (p.at + p.width) r) =
    ap (λ (i : ℕ). gaps (p ∷ ps) lo i) all
    ∙ gaps_add (p ∷ ps) lo j (p.width + r)
    ∙ ap (λ (i : ℕ). gaps (p ∷ ps) lo j + gaps (p ∷ ps) i (p.width + r)) at
    ∙ ap (λ (i : ℕ). gaps (p ∷ ps) lo j + i) (gaps_add (p ∷ ps) p.at p.width r) in
    let none_there = gaps_none p ps p.at p.width (omega arith) (omega arith) in
    omega (arith, gaps_most (p ∷ ps) lo j, gaps_fewer p ps (p.at + p.width) r, o.0)

-- ---- no more differ than these

one_more : (a b : Bool) (d g : ℕ) → (b ≡ true → a ≡ true) → d ≤ g → cond a d (suc d) ≤ cond b 0 1 + g
one_more true true d g h l = omega arith
one_more true false d g h l = omega arith
one_more false true d g h l = true_not_false (h refl) refl
one_more false false d g h l = omega arith

-- A buffer differs from the cleaned one in no more places than the extent has uncovered.
pub differing_gaps : (ps : List Place) (extent k m : ℕ) (b : List ℕ) → extent ≤ k + m → differing b (clean_from ps extent k b) ≤ gaps ps k m
unfolding differing clean_from gaps
differing_gaps ps extent k m [] l = omega arith
differing_gaps ps extent k zero (byte ∷ b) l =
    rw (byte_later ps extent k byte (omega arith), eq-eqb byte byte refl) (differing_gaps ps extent (suc k) zero b (omega arith))
differing_gaps ps extent k (suc m) (byte ∷ b) l =
    one_more (eqb byte (clean_byte ps extent k byte)) (is_covered ps k) (differing b (clean_from ps extent (suc k) b)) (gaps ps (suc k) m)
    (λ e. eq-eqb byte _ (sym (byte_covered ps extent k byte e))) (differing_gaps ps extent (suc k) m b (omega arith))
