-- Lists of numbers, no two the same: the pigeonholes of member orders (specs/Order, specs/OrderClaim).
--
-- In order: what appears; numbers that differ; a number taken out; as many numbers as there are places; how often a number stands in a list.
-- Assumes nothing.
use Prim.Native.Nat.{ℕ, zero, suc, ◌<◌, ◌≤◌}
use mathlib.Core.Bool.{true, false, not, or-true}
use mathlib.Core.List.Memᴰ
use mathlib.Core.List.{List, [], ◌∷◌, Memᴰ}
use mathlib.Core.Logic.{◌⊎◌, inl, inr, ⊎_elim}
use mathlib.Core.Path.{◌≡◌, refl, sym, ◌∙◌}
use native.Mathlib.Omega.{arith}
use native.Mathlib.Nat.{eq-or-lt_of_le}
use borrow.Author.Tests.{eqb-true, eq-eqb, not-true}
use lib.Dec.{eqb}
use lib.ListN.{length}
use Rattle.wgsl.specs.Order.{appears, all_differ}
use Rattle.wgsl.specs.OrderClaim.{Times, nowhere, here, elsewhere}
use Rattle.wgsl.proofs.Absent.{both_hold, hold_both, either_holds, yes_or_no, true_not_false}

-- ---- what appears

pub appears_in : (i : ℕ) (l : List ℕ) → appears i l ≡ true → Memᴰ i l
unfolding appears
appears_in i [] e = true_not_false e refl
appears_in i (j ∷ l) e =
    ⊎_elim (λ (h : eqb i j ≡ true). Memᴰ.head (eqb-true i j h)) (λ (h : appears i l ≡ true). Memᴰ.tail (appears_in i l h))
    (either_holds (eqb i j) (appears i l) e)

pub in_appears : {i : ℕ} {l : List ℕ} → Memᴰ i l → appears i l ≡ true
unfolding appears
in_appears {i} (Memᴰ.head {x = j} q) = rw (eq-eqb i j q)
in_appears {i} (Memᴰ.tail {x = j} m) = rw (in_appears m) (or-true (eqb i j))

-- ---- numbers that differ

-- no two of the list are the same
unfoldable pub Differ : List ℕ → Type 0
Differ [] = Unit {0}
Differ (i ∷ l) = (Memᴰ i l → ⊥) × Differ l

pub differ : (l : List ℕ) → all_differ l ≡ true → Differ l
unfolding all_differ Differ
differ [] e = tt
differ (i ∷ l) e =
    let h = both_hold (not (appears i l)) (all_differ l) e in
    (λ m. true_not_false (in_appears m) (not-true (appears i l) h.0), differ l h.1)

pub all_differ_lem : (l : List ℕ) → Differ l → all_differ l ≡ true
unfolding all_differ Differ
all_differ_lem [] d = refl
all_differ_lem (i ∷ l) d =
    hold_both (not (appears i l)) (all_differ l)
    (yes_or_no (appears i l) (λ h. absurd (d.0 (appears_in i l h))) (λ h. rw h)) (all_differ_lem l d.1)

-- ---- a number taken out

-- the second list is the first without one m
pub data Removed (m : ℕ) : List ℕ → List ℕ → Type 0 where
  first : {i : ℕ} {l : List ℕ} → m ≡ i → Removed m (i ∷ l) l
  later : {i : ℕ} {l rest : List ℕ} → Removed m l rest → Removed m (i ∷ l) (i ∷ rest)

removed : {m : ℕ} {l : List ℕ} → Memᴰ m l → (rest : List ℕ) × Removed m l rest
removed (Memᴰ.head {xs = l} q) = (l, first q)
removed (Memᴰ.tail {x = i} p) = let r = removed p in (i ∷ r.0, later r.1)

one_less : {m : ℕ} {l rest : List ℕ} → Removed m l rest → length l ≡ suc (length rest)
one_less (first q) = refl
one_less (later r) = rw (one_less r)

still_in : {m j : ℕ} {l rest : List ℕ} → Removed m l rest → Memᴰ j rest → Memᴰ j l
still_in (first q) p = Memᴰ.tail p
still_in {j = j} (later {i} {l} {rest} r) p =
    ⊎_elim (λ (e : j ≡ i). Memᴰ.head e) (λ (p' : Memᴰ j rest). Memᴰ.tail (still_in r p')) (Memᴰ.cases_cons p)

in_rest : {m j : ℕ} {l rest : List ℕ} → Removed m l rest → Memᴰ j l → (j ≡ m) ⊎ Memᴰ j rest
in_rest {j = j} (first {i} {l} q) p =
    ⊎_elim (λ (e : j ≡ i). inl (e ∙ sym q)) (λ (p' : Memᴰ j l). inr p') (Memᴰ.cases_cons p)
in_rest {m} {j} (later {i} {l} {rest} r) p =
    ⊎_elim (λ (e : j ≡ i). inr (Memᴰ.head e))
    (λ (p' : Memᴰ j l). ⊎_elim (λ (e : j ≡ m). inl e) (λ (p'' : Memᴰ j rest). inr (Memᴰ.tail p'')) (in_rest r p'))
    (Memᴰ.cases_cons p)

rest_differ : {m : ℕ} {l rest : List ℕ} → Removed m l rest → Differ l → Differ rest × (Memᴰ m rest → ⊥)
unfolding Differ
rest_differ (first q) d = (d.1, λ p. d.0 (Memᴰ.cast (sym q) p))
rest_differ {m} (later {i} {l} {rest} r) d =
    let (below, gone) = rest_differ r d.1 in (
      (λ p. d.0 (still_in r p), below),
      λ p. ⊎_elim (λ (e : m ≡ i). d.0 (Memᴰ.cast (sym e) (was_in r))) gone (Memᴰ.cases_cons p),
    )
  where
    was_in : {m : ℕ} {l rest : List ℕ} → Removed m l rest → Memᴰ m l
    was_in (first q) = Memᴰ.head q
    was_in (later r) = Memᴰ.tail (was_in r)

whole_differ : {m : ℕ} {l rest : List ℕ} → Removed m l rest → Differ rest → (Memᴰ m rest → ⊥) → Differ l
unfolding Differ
whole_differ (first q) d gone = (λ p. gone (Memᴰ.cast q p), d)
whole_differ {m} (later {i} {l} {rest} r) d gone = (
  λ p. ⊎_elim (λ (e : i ≡ m). gone (Memᴰ.head (sym e))) d.0 (in_rest r p),
  whole_differ r d.1 (λ p. gone (Memᴰ.tail p)),
)

-- ---- as many numbers as there are places

-- all of the list are below n; all below n are in the list
abbrev pub Below : ℕ → List ℕ → Type 0
Below n l = (i : ℕ) → Memᴰ i l → i < n

abbrev pub Full : ℕ → List ℕ → Type 0
Full n l = (i : ℕ) → i < n → Memᴰ i l

below_rest : {m : ℕ} {l rest : List ℕ} → Removed m l rest → Differ l → Below (suc m) l → Below m rest
below_rest {m} r d b i p =
    let low : i ≤ m = omega (arith, b i (still_in r p)) in
    ⊎_elim (λ (e : i ≡ m). absurd ((rest_differ r d).1 (Memᴰ.cast (sym e) p))) (λ (h : i < m). h) (eq-or-lt_of_le low)

full_rest : {m : ℕ} {l rest : List ℕ} → Removed m l rest → Full (suc m) l → Full m rest
full_rest {m} r f i h =
    ⊎_elim (λ (e : i ≡ m). absurd (omega arith)) (λ p. p) (in_rest r (f i (omega arith)))

nothing_below : (l : List ℕ) → Below 0 l → l ≡ []
nothing_below [] b = refl
nothing_below (i ∷ l) b = absurd (omega (arith, b i (Memᴰ.head refl)))

without : (m : ℕ) (l : List ℕ) → Below (suc m) l → appears m l ≡ false → Below m l
without m l b h i p =
    let low : i ≤ m = omega (arith, b i p) in
    ⊎_elim (λ (e : i ≡ m). true_not_false (in_appears (Memᴰ.cast (sym e) p)) h) (λ (q : i < m). q) (eq-or-lt_of_le low)

-- Numbers below n that differ are at most n;
pub not_more : (n : ℕ) (l : List ℕ) → Differ l → Below n l → length l ≤ n
not_more zero l d b = rw (nothing_below l b) (omega arith)
not_more (suc m) l d b =
    yes_or_no (appears m l)
    (λ h. let (rest, r) = removed (appears_in m l h) in
    omega (arith, one_less r, not_more m rest (rest_differ r d).0 (below_rest r d b)))
    (λ h. omega (arith, not_more m l d (without m l b h)))

-- n of them are all;
pub none_missing : (n : ℕ) (l : List ℕ) → Differ l → Below n l → length l ≡ n → Full n l
none_missing zero l d b e i h = absurd (omega arith)
none_missing (suc m) l d b e i h =
    yes_or_no (appears m l)
    (λ a. let (rest, r) = removed (appears_in m l a) in
    let low : i ≤ m = omega arith in
    ⊎_elim (λ (q : i ≡ m). Memᴰ.cast q (appears_in m l a))
    (λ (q : i < m). still_in r (none_missing m rest (rest_differ r d).0 (below_rest r d b) (omega (arith, one_less r)) i q))
    (eq-or-lt_of_le low))
    (λ a. absurd (omega (arith, not_more m l d (without m l b a))))

-- all of them are n;
pub just_as_many : (n : ℕ) (l : List ℕ) → Differ l → Below n l → Full n l → length l ≡ n
just_as_many zero l d b f = rw (nothing_below l b)
just_as_many (suc m) l d b f =
    let (rest, r) = removed (f m (omega arith)) in
    omega (arith, one_less r, just_as_many m rest (rest_differ r d).0 (below_rest r d b) (full_rest r f))

-- and n numbers that have all below n among them differ and are no others.
pub full_differ : (n : ℕ) (l : List ℕ) → Full n l → length l ≡ n → Differ l × Below n l
unfolding Differ
full_differ zero [] f e = (tt, λ i p. absurd (Memᴰ.not-nil p))
full_differ zero (i ∷ l) f e = absurd (omega arith)
full_differ (suc m) l f e =
    let (rest, r) = removed (f m (omega arith)) in
    let (d, b) = full_differ m rest (full_rest r f) (omega (arith, one_less r)) in (
      whole_differ r d (λ p. omega (arith, b m p)),
      λ i p. ⊎_elim (λ (q : i ≡ m). omega arith) (λ (q : Memᴰ i rest). omega (arith, b i q)) (in_rest r p),
    )

-- ---- how often a number stands in a list

never : {i : ℕ} (l : List ℕ) → (Memᴰ i l → ⊥) → Times i l 0
never [] out = nowhere
never (j ∷ l) out = elsewhere (λ e. out (Memᴰ.head e)) (never l (λ p. out (Memᴰ.tail p)))

-- What is among numbers that differ stands there once.
pub once_there : {i : ℕ} {l : List ℕ} → Differ l → Memᴰ i l → Times i l 1
unfolding Differ
once_there {i} d (Memᴰ.head {x = j} {xs = l} q) = rw (← q) (here (never l (λ p. d.0 (Memᴰ.cast (sym q) p))))
once_there d (Memᴰ.tail {x = j} m) = elsewhere (λ e. d.0 (Memᴰ.cast (sym e) m)) (once_there d.1 m)

-- What stands in a list at least once is in it.
pub times_in : {i n : ℕ} {l : List ℕ} → Times i l n → 1 ≤ n → Memᴰ i l
times_in nowhere h = absurd (omega arith)
times_in (here t) h = Memᴰ.head refl
times_in (elsewhere ne t) h = Memᴰ.tail (times_in t h)
