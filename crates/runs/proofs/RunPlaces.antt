-- Passes over a run, turn by turn (crates/runs, proofs/OverPlaces), and what one word of two bytes is stored and tested as.
--
-- In order: a run one word longer, parts one part longer; the other width; the two lowest bytes of a word; a word that fits, one that does
-- not, words that all fit, and the first that does not.
-- Assumes nothing.
use Prim.Native.Nat.{ℕ, zero, suc, ◌+◌, ◌-◌, ◌*◌, ◌/◌, ◌%◌, ◌^◌, ◌<◌, ◌≤◌}
use mathlib.Core.Path.{◌≡◌, refl}
use mathlib.Core.Logic.{◌⊎◌, ⊎_elim}
use mathlib.Core.List.{List, [], ◌∷◌}
use native.Mathlib.Nat.{add-zero, add-suc, suc-add}
use native.Mathlib.Omega.{arith}
use lib.ListN.{length, get_or, set, take}
use lib.Seq.{sets}
use borrow.Author.Tests.{lt-ltb, le-ltb}
use Rattle.wgsl.specs.Number.{bytes_of, store}
use Rattle.wgsl.specs.Said.{good, refused, ◌>>◌, refuse}
use Rattle.wgsl.specs.Place.{Place, repeated, can_hold}
use Rattle.runs.specs.Fold.{over_places, testing}
use Rattle.runs.specs.Run.{run_places, part_places}
use Rattle.runs.proofs.OverPlaces.{over_append, over_more, run_length, run_append, tested_refused}

-- ---- one turn more

-- What a pass makes over no words, and over no parts, is what there was.
pub run_zero : {S : Type 0} (f : Place → ℕ → S → S) (width at k : ℕ) (s : S) → over_places f (run_places 0 width at) k s ≡ s
unfolding over_places run_places repeated
run_zero f width at k s = refl

pub part_zero : {S : Type 0} (f : Place → ℕ → S → S) (unit width stride at k : ℕ) (s : S) → over_places f (part_places 0 unit width stride at) k s ≡ s
unfolding over_places part_places repeated
part_zero f unit width stride at k s = refl

-- What i words make of s, and then the next one, is what i + 1 words make of it.
pub run_more : {S : Type 0} (f : Place → ℕ → S → S) (i width at k : ℕ) (s t : S) → t ≡ over_places f (run_places i width at) k s → f (record { at = at + i * width; width = width }) (k + i) t ≡ over_places f (run_places (i + 1) width at) k s
unfolding run_places repeated over_places
run_more f i width at k s t e =
    let last : List Place = record { at = at + i * width; width = width } ∷ [] in
    rw (e, run_append i 1 width at, over_append f (run_places i width at) last k s, run_length i width at)

-- .. and so with parts.
pub part_more : {S : Type 0} (f : Place → ℕ → S → S) (i unit width stride at k : ℕ) (s t : S) → t ≡ over_places f (part_places i unit width stride at) k s → over_places f (run_places unit width (at + i * stride)) (k + i * unit) t ≡ over_places f (part_places (i + 1) unit width stride at) k s
unfolding part_places
part_more f i unit width stride at k s t e =
    rw (e, over_more f (λ p. run_places unit width p) i unit stride at k s (λ p. run_length unit width p))

-- One, two, three and four words of four bytes.
module _ {S : Type 0} (f : Place → ℕ → S → S) (at k : ℕ) (s : S) where
  abbrev four : ℕ → Place
  four p = record { at = p; width = 4 }

  pub run_one : f (four at) k s ≡ over_places f (run_places 1 4 at) k s
  unfolding run_places repeated over_places
  run_one = refl

  pub run_two : f (four (at + 4)) (k + 1) (f (four at) k s) ≡ over_places f (run_places 2 4 at) k s
  run_two = run_more f 1 4 at k s _ run_one

  pub run_three : f (four (at + 8)) (k + 2) (f (four (at + 4)) (k + 1) (f (four at) k s)) ≡ over_places f (run_places 3 4 at) k s
  run_three = run_more f 2 4 at k s _ run_two

  pub run_four : f (four (at + 12)) (k + 3) (f (four (at + 8)) (k + 2) (f (four (at + 4)) (k + 1) (f (four at) k s))) ≡ over_places f (run_places 4 4 at) k s
  run_four = run_more f 3 4 at k s _ run_three

-- Numbers put one after the other, and then the next one, are all of them put.
pub sets_more : (vs l : List ℕ) (k i : ℕ) → i < length vs → set (sets l k (take i vs)) (k + i) (get_or vs i 0) ≡ sets l k (take (i + 1) vs)
sets_more [] l k i h = absurd (omega arith)
sets_more (v ∷ vs) l k zero h = rw add-zero
sets_more (v ∷ vs) l k (suc i) h =
    let e : k + suc i ≡ suc k + i = omega arith in
    let f : suc i + 1 ≡ suc (i + 1) = omega arith in
    rw (e, f) (sets_more vs (set l k v) (suc k) i (omega arith))

-- ---- the other width

pub width_four : {width : ℕ} → (width ≡ 2) ⊎ (width ≡ 4) → (width ≡ 2 → ⊥) → width ≡ 4
width_four w other = ⊎_elim (λ e. absurd (other e)) (λ e. e) w

-- ---- the two lowest bytes

-- Two bytes hold what is left of a word below 2^16.
pub store_two : (b : List ℕ) (at n : ℕ) → store 2 b at (n % 65536) ≡ store 2 b at n
unfolding store bytes_of
store_two b at n =
    let low : n % 65536 % 256 ≡ n % 256 = omega arith in
    rw (low, rest (n / 256) (n / 65536) (n % 65536 / 256) (omega arith) (omega arith))
  where
    rest : (y q x : ℕ) → y ≡ 256 * q + x → x < 256 → x % 256 ≡ y % 256
    rest y q x e h = omega arith

-- ---- a word that fits

pub test_fits : (ws : List ℕ) (p : Place) (k : ℕ) → get_or ws k 0 < 256 ^ p.width → testing ws p k (good tt) ≡ good tt
unfolding testing can_hold ◌>>◌ refuse
test_fits ws p k h = rw (lt-ltb _ _ h)

pub test_past : (ws : List ℕ) (p : Place) (k : ℕ) → 256 ^ p.width ≤ get_or ws k 0 → testing ws p k (good tt) ≡ refused 16 k
unfolding testing can_hold ◌>>◌ refuse
test_past ws p k h = rw (le-ltb _ _ h)

-- Words pass of which each fits.
pub run_passes : (ws : List ℕ) (n width at k : ℕ) → ((i : ℕ) → i < n → get_or ws (k + i) 0 < 256 ^ width) → over_places (testing ws) (run_places n width at) k (good tt) ≡ good tt
unfolding over_places run_places repeated
run_passes ws zero width at k h = refl
run_passes ws (suc n) width at k h =
    let first : get_or ws k 0 < 256 ^ width = rw add-zero at (h 0 (omega arith)) in
    rw (over_places, test_fits ws (record { at = at; width = width }) k first)
    (run_passes ws n width (at + width) (suc k) (λ i l. rw (suc-add, ← add-suc) (h (suc i) (omega arith))))

-- The first that does not fit decides.
refused_first : (ws : List ℕ) (n width at k : ℕ) → 256 ^ width ≤ get_or ws k 0 → over_places (testing ws) (run_places (suc n) width at) k (good tt) ≡ refused 16 k
unfolding over_places run_places repeated
refused_first ws n width at k past =
    rw (over_places, test_past ws (record { at = at; width = width }) k past)
    (tested_refused ws (run_places n width (at + width)) (suc k) 16 k)

pub run_refused : (ws : List ℕ) (n width at k i : ℕ) → i < n → 256 ^ width ≤ get_or ws (k + i) 0 → ((j : ℕ) → j < i → get_or ws (k + j) 0 < 256 ^ width) → over_places (testing ws) (run_places n width at) k (good tt) ≡ refused 16 (k + i)
run_refused ws n width at k i h past fits =
    let e : n ≡ i + suc (n - (i + 1)) = omega arith in
    let rest = run_places (suc (n - (i + 1))) width (at + i * width) in
    rw (e, run_append i (suc (n - (i + 1))) width at, over_append (testing ws) (run_places i width at) rest k (good tt), run_length i width at, run_passes ws i width at k fits)
    (refused_first ws (n - (i + 1)) width (at + i * width) (k + i) past)
