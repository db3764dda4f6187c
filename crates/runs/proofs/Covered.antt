-- A run that covers bytes leaves nothing of what they were (specs/Fold, specs/Run).
--
-- In order: buffers that agree outside some bytes; a byte, a number and a run stored in both.
-- Assumes nothing.
use Prim.Native.Nat.{ℕ, zero, suc, ◌+◌, ◌*◌, ◌<◌, ◌≤◌}
use mathlib.Core.List.{List, [], ◌∷◌, ◌++◌}
use mathlib.Core.Logic.{◌⊎◌, inl, inr, ⊎_elim}
use mathlib.Core.Path.{◌≡◌, refl, sym, subst, ◌∙◌}
use native.Mathlib.Omega.{arith}
use native.Mathlib.Nat.{suc-mul, eq-or-lt_of_le}
use lib.ListN.{length, get_or, set, drop, replicate, length-set, length-drop, length-replicate, length-append}
use lib.Seq.{sets, ext_get_or, get_or-set_same, get_or-set_other}
use Rattle.wgsl.specs.Number.{store, bytes_of}
use Rattle.wgsl.specs.Place.{repeated}
use Rattle.wgsl.proofs.Number.{length_bytes_of}
use Rattle.runs.specs.Fold.{over_places, storing}
use Rattle.runs.specs.Run.{run_places}

-- two buffers of one length that differ in the bytes from lo to hi at most
record Agree (a b : List ℕ) (lo hi : ℕ) : Type 0 where
  long : length a ≡ length b
  inside : hi ≤ length a
  same : (i : ℕ) → (i < lo) ⊎ (hi ≤ i) → get_or a i 0 ≡ get_or b i 0

agree_set : {a b : List ℕ} {lo hi : ℕ} (v : ℕ) → Agree a b lo hi → lo < hi → Agree (set a lo v) (set b lo v) (suc lo) hi
agree_set {a} {b} {lo} {hi} v h l =
    record {
      long = length-set a lo v ∙ h.long ∙ sym (length-set b lo v);
      inside = omega (arith, h.inside, length-set a lo v);
      same = λ i o. ⊎_elim (λ (x : i < suc lo). below i x) (λ (x : hi ≤ i). other i (omega arith) (inr x)) o;
    }
  where
    other : (i : ℕ) → (i ≡ lo → ⊥) → (i < lo) ⊎ (hi ≤ i) → get_or (set a lo v) i 0 ≡ get_or (set b lo v) i 0
    other i n o = get_or-set_other a lo i v 0 n ∙ h.same i o ∙ sym (get_or-set_other b lo i v 0 n)

    here : get_or (set a lo v) lo 0 ≡ get_or (set b lo v) lo 0
    here =
        get_or-set_same a lo v 0 (omega (arith, h.inside))
        ∙ sym (get_or-set_same b lo v 0 (omega (arith, h.inside, h.long)))

    split : (i : ℕ) → i ≤ lo → (i ≡ lo) ⊎ (i < lo)
    split i l = eq-or-lt_of_le l

    below : (i : ℕ) → i < suc lo → get_or (set a lo v) i 0 ≡ get_or (set b lo v) i 0
    below i x =
        ⊎_elim (λ (e : i ≡ lo). rw e here) (λ (y : i < lo). other i (omega arith) (inl y)) (split i (omega arith))

agree_sets : (vs : List ℕ) {a b : List ℕ} {lo hi : ℕ} → Agree a b lo hi → lo + length vs ≤ hi → Agree (sets a lo vs) (sets b lo vs) (lo + length vs) hi
agree_sets [] {a} {b} {lo} {hi} h l = let e : lo + 0 ≡ lo = omega arith in rw e h
agree_sets (v ∷ vs) {a} {b} {lo} {hi} h l =
    let e : lo + suc (length vs) ≡ suc lo + length vs = omega arith in
    rw e (agree_sets vs (agree_set v h (omega arith)) (omega arith))

agree_store : (w v : ℕ) {a b : List ℕ} {lo hi : ℕ} → Agree a b lo hi → lo + w ≤ hi → Agree (store w a lo v) (store w b lo v) (lo + w) hi
unfolding store
agree_store w v {a} {b} {lo} {hi} h l =
    rw (length_bytes_of w v) at (agree_sets (bytes_of w v) h (rw (length_bytes_of w v) l))

agree_all : {a b : List ℕ} {lo : ℕ} → Agree a b lo lo → a ≡ b
agree_all {a} {b} {lo} h =
    ext_get_or 0 a b h.long (λ i l. h.same i (⊎_elim (λ (x : lo ≤ i). inr x) (λ (x : i < lo). inl x) (le_or_lt lo i)))
  where
    le_or_lt : (m n : ℕ) → (m ≤ n) ⊎ (n < m)
    le_or_lt zero n = inl (omega arith)
    le_or_lt (suc m) zero = inr (omega arith)
    le_or_lt (suc m) (suc n) = ⊎_elim (λ (x : m ≤ n). inl (omega arith)) (λ (x : n < m). inr (omega arith)) (le_or_lt m n)

agree_run : (ws : List ℕ) (m w k : ℕ) {a b : List ℕ} {lo : ℕ} → Agree a b lo (lo + m * w) → over_places (storing ws) (run_places m w lo) k a ≡ over_places (storing ws) (run_places m w lo) k b
unfolding over_places storing run_places repeated
agree_run ws zero w k {a} {b} {lo} h =
    let e : lo + 0 * w ≡ lo = omega arith in
    agree_all (rw e at h)
agree_run ws (suc m) w k {a} {b} {lo} h =
    let e : lo + suc m * w ≡ lo + w + m * w = omega (arith, suc-mul m w) in
    agree_run ws m w (suc k) (agree_store w (get_or ws k 0) (rw e at h) (omega arith))

cleared_agrees : (z : ℕ) (b : List ℕ) → z ≤ length b → Agree (replicate z 0 ++ drop z b) b 0 z
cleared_agrees z b l =
    record {
      long = length-append (replicate z 0) (drop z b) ∙ rw (length-replicate, length-drop) (omega arith);
      inside = rw (length-append (replicate z 0) (drop z b), length-replicate, length-drop) (omega arith);
      same = λ i o. ⊎_elim (λ (x : i < 0). absurd (omega arith)) (λ (x : z ≤ i). past z b i l x) o;
    }
  where
    past : (z : ℕ) (b : List ℕ) (i : ℕ) → z ≤ length b → z ≤ i → get_or (replicate z 0 ++ drop z b) i 0 ≡ get_or b i 0
    past zero b i l h = refl
    past (suc z) [] i l h = absurd (omega arith)
    past (suc z) (x ∷ b) zero l h = absurd (omega arith)
    past (suc z) (x ∷ b) (suc i) l h = past z b i (omega arith) (omega arith)

-- A run over the first z bytes writes the same over zeros as over what was there.
pub covers : (ws : List ℕ) (m w z k : ℕ) (b : List ℕ) → z ≡ m * w → z ≤ length b → over_places (storing ws) (run_places m w 0) k (replicate z 0 ++ drop z b) ≡ over_places (storing ws) (run_places m w 0) k b
covers ws m w z k b e l =
    let is : z ≡ 0 + m * w = omega arith in
    agree_run ws m w k (subst (λ (x : ℕ). Agree (replicate z 0 ++ drop z b) b 0 x) is (cleared_agrees z b l))
