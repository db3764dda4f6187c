-- Laws of passes over places (specs/Fold), and of runs and parts of places (specs/Run).
--
-- In order: a pass over joined places; over repeated places, turn by turn; runs and parts, their lengths and when they are the same;
-- storing, loading and testing, in the words of crates/wgsl, specs/Place.
-- "What is left" of a loop over repeated places is the pass over them from the i-th on: it is the whole at 0 (`over_all`),
-- a turn leaves it as it is (`over_next`), and past the last nothing is left (`over_none`). `Repeating` is such a loop's invariant.
-- Assumes nothing.
use Prim.Native.Nat.{ℕ, zero, suc, ◌+◌, ◌-◌, ◌*◌, ◌<◌, ◌≤◌}
use mathlib.Core.Bool.{Bool, true, false, not}
use mathlib.Core.List.{List, [], ◌∷◌, ◌++◌, map, map-append, append-nil, append_assoc}
use mathlib.Core.Path.{◌≡◌, refl, sym, ◌∙◌}
use native.Mathlib.Nat.{add-zero, zero-mul, suc-mul, mul-one}
use native.Mathlib.Omega.{arith}
use lib.ListN.{length, get_or, drop, replicate, replicate-append-replicate}
use lib.Seq.{sets, sets-eq, drop-cons}
use Rattle.wgsl.specs.Said.{Said, good, refused, ◌>>◌, refuse}
use Rattle.wgsl.specs.Place.{Place, repeated, store_words, words_read, can_hold, check_words}
use Rattle.wgsl.proofs.Count.{repeated_length}
use Rattle.wgsl.proofs.Word.{length_words_read}
use Rattle.runs.specs.Fold.{over_places, storing, loading, testing}
use Rattle.runs.specs.Run.{run_places, part_places}

-- ---- joined places

pub over_append : {S : Type 0} (f : Place → ℕ → S → S) (ps qs : List Place) (k : ℕ) (s : S) → over_places f (ps ++ qs) k s ≡ over_places f qs (k + length ps) (over_places f ps k s)
unfolding over_places
over_append f [] qs k s = rw (add-zero k)
over_append f (p ∷ ps) qs k s =
    let e : k + suc (length ps) ≡ suc k + length ps = omega arith in
    rw e (over_append f ps qs (suc k) (f p k s))

-- ---- repeated places, turn by turn

pub over_all : {S : Type 0} (f : Place → ℕ → S → S) (g : ℕ → List Place) (count stride unit at k : ℕ) (s : S) → over_places f (repeated (count - 0) stride g (at + 0 * stride)) (k + 0 * unit) s ≡ over_places f (repeated count stride g at) k s
over_all f g count stride unit at k s =
    let e : at + 0 * stride ≡ at = omega arith in
    let m : count - 0 ≡ count = omega arith in
    let w : k + 0 * unit ≡ k = omega arith in
    rw (e, m, w)

pub over_next : {S : Type 0} (f : Place → ℕ → S → S) (g : ℕ → List Place) (count stride unit at k : ℕ) (s : S) (i : ℕ) → ((p : ℕ) → length (g p) ≡ unit) → i < count → over_places f (repeated (count - (i + 1)) stride g (at + (i + 1) * stride)) (k + (i + 1) * unit) (over_places f (g (at + i * stride)) (k + i * unit) s) ≡ over_places f (repeated (count - i) stride g (at + i * stride)) (k + i * unit) s
unfolding repeated
over_next f g count stride unit at k s i l h =
    let e : count - i ≡ suc (count - (i + 1)) = omega arith in
    let p : at + i * stride + stride ≡ at + (i + 1) * stride = omega arith in
    let w : k + i * unit + unit ≡ k + (i + 1) * unit = omega arith in
    let now = g (at + i * stride) in
    let later = repeated (count - (i + 1)) stride g (at + i * stride + stride) in
    rw (e, sym p, sym w) (sym (rw (l (at + i * stride)) at (over_append f now later (k + i * unit) s)))

pub over_none : {S : Type 0} (f : Place → ℕ → S → S) (g : ℕ → List Place) (count stride p k : ℕ) (s : S) (i : ℕ) → i ≡ count → over_places f (repeated (count - i) stride g p) k s ≡ s
unfolding repeated over_places
over_none f g count stride p k s i h =
    let e : count - i ≡ 0 = omega arith in
    rw e refl

-- i of the repeated places are passed, which led from s₀ to s; the others from s on are all of them from s₀ on
pub record Repeating {S : Type 0} (f : Place → ℕ → S → S) (g : ℕ → List Place) (count unit stride at k : ℕ) (s₀ : S) (i : ℕ) (s : S) : Type 0 where
  pub within : i ≤ count
  pub same : over_places f (repeated (count - i) stride g (at + i * stride)) (k + i * unit) s ≡ over_places f (repeated count stride g at) k s₀

pub repeating_start : {S : Type 0} (f : Place → ℕ → S → S) (g : ℕ → List Place) (count unit stride at k : ℕ) (s₀ : S) → Repeating f g count unit stride at k s₀ 0 s₀
repeating_start f g count unit stride at k s₀ = record { within = omega arith; same = over_all f g count stride unit at k s₀ }

module _ {S : Type 0} {f : Place → ℕ → S → S} {g : ℕ → List Place} {count unit stride at k : ℕ} {s₀ : S} {i : ℕ} {s : S} (now : Repeating f g count unit stride at k s₀ i s) where
  pub repeating_next : {s' : S} → ((p : ℕ) → length (g p) ≡ unit) → i < count → s' ≡ over_places f (g (at + i * stride)) (k + i * unit) s → Repeating f g count unit stride at k s₀ (i + 1) s'
  repeating_next unit_is h done =
      record { within = omega arith; same = rw done (over_next f g count stride unit at k s i unit_is h ∙ now.same) }

  pub repeating_all : count ≤ i → s ≡ over_places f (repeated count stride g at) k s₀
  repeating_all h =
      sym (over_none f g count stride (at + i * stride) (k + i * unit) s i (omega (arith, now.within))) ∙ now.same

-- ---- runs and parts

pub run_length : (n width at : ℕ) → length (run_places n width at) ≡ n
unfolding run_places
run_length n width at = repeated_length n width (λ p. record { at = p; width = width } ∷ []) at 1 (λ p. refl) ∙ mul-one n

-- What is repeated is its first m, and the others after them.
pub repeated_append : {A : Type 0} (m n stride : ℕ) (g : ℕ → List A) (at : ℕ) → repeated (m + n) stride g at ≡ repeated m stride g at ++ repeated n stride g (at + m * stride)
unfolding repeated
repeated_append zero n stride g at =
    let e : 0 + n ≡ n = omega arith in
    let p : at + 0 * stride ≡ at = omega arith in
    rw (e, p)
repeated_append (suc m) n stride g at =
    let e : suc m + n ≡ suc (m + n) = omega arith in
    let p : at + suc m * stride ≡ at + stride + m * stride = omega (arith, suc-mul m stride) in
    rw (e, p, repeated_append m n stride g (at + stride), append_assoc)

-- What a pass makes over i repetitions, and then over the next one, is what it makes over i + 1.
pub over_more : {S : Type 0} (f : Place → ℕ → S → S) (g : ℕ → List Place) (i unit stride at k : ℕ) (s : S) → ((p : ℕ) → length (g p) ≡ unit) → over_places f (g (at + i * stride)) (k + i * unit) (over_places f (repeated i stride g at) k s) ≡ over_places f (repeated (i + 1) stride g at) k s
unfolding repeated
over_more f g i unit stride at k s l =
    let before = repeated_length i stride g at unit l in
    rw (repeated_append i 1 stride g at, append-nil, over_append f (repeated i stride g at) (g (at + i * stride)) k s, before) refl

-- Repetitions of what is repeated are one repetition, where they touch.
pub repeated_touch : {A : Type 0} (n c stride : ℕ) (g : ℕ → List A) (at : ℕ) → repeated n (c * stride) (λ p. repeated c stride g p) at ≡ repeated (n * c) stride g at
unfolding repeated
repeated_touch zero c stride g at = rw (zero-mul c)
repeated_touch (suc n) c stride g at =
    let e : suc n * c ≡ c + n * c = omega (arith, suc-mul n c) in
    rw (e, repeated_append c (n * c) stride g at, repeated_touch n c stride g (at + c * stride))

-- A run is its first m words, and the others after them.
pub run_append : (m n width at : ℕ) → run_places (m + n) width at ≡ run_places m width at ++ run_places n width (at + m * width)
unfolding run_places
run_append m n width at = repeated_append m n width (λ p. record { at = p; width = width } ∷ []) at

-- Parts that touch are one run.
pub parts_touch : (count unit width at : ℕ) → part_places count unit width (unit * width) at ≡ run_places (count * unit) width at
unfolding part_places run_places
parts_touch count unit width at = repeated_touch count unit width (λ p. record { at = p; width = width } ∷ []) at

-- Rows of parts that touch are one row.
pub rows_touch : (n count unit width stride at : ℕ) → repeated n (count * stride) (λ p. part_places count unit width stride p) at ≡ part_places (n * count) unit width stride at
unfolding part_places
rows_touch n count unit width stride at = repeated_touch n count stride (λ p. run_places unit width p) at

-- ---- storing

pub stored_words : (ws : List ℕ) (ps : List Place) (k : ℕ) (b : List ℕ) → k + length ps ≤ length ws → over_places (storing ws) ps k b ≡ store_words ps (drop k ws) b
unfolding over_places storing store_words
stored_words ws [] k b h = refl
stored_words ws (p ∷ ps) k b h =
    rw (drop-cons ws k 0 (omega arith)) (stored_words ws ps (suc k) (storing ws p k b) (omega arith))

-- ---- loading

-- The words read go over those that stand from k on.
pub loaded_sets : (b : List ℕ) (ps : List Place) (k : ℕ) (ws : List ℕ) → over_places (loading b) ps k ws ≡ sets ws k (words_read ps b)
unfolding over_places loading words_read
loaded_sets b [] k ws = refl
loaded_sets b (p ∷ ps) k ws = loaded_sets b ps (suc k) (loading b p k ws)

pub loaded_words : (b : List ℕ) (ps : List Place) (ws : List ℕ) → length ps ≤ length ws → over_places (loading b) ps 0 ws ≡ words_read ps b ++ drop (length ps) ws
loaded_words b ps ws h =
    let n : 0 + length (words_read ps b) ≡ length ps = omega (arith, length_words_read ps b) in
    loaded_sets b ps 0 ws ∙ (rw n at (sets-eq (words_read ps b) ws 0 (omega arith)))

-- ---- testing

pub tested_refused : (ws : List ℕ) (ps : List Place) (k number place : ℕ) → over_places (testing ws) ps k (refused number place) ≡ refused number place
unfolding over_places testing ◌>>◌
tested_refused ws [] k number place = refl
tested_refused ws (p ∷ ps) k number place = tested_refused ws ps (suc k) number place

tested_rest : (ws : List ℕ) (ps : List Place) (k : ℕ) (past : Bool) (rest : Said (Unit {0})) → over_places (testing ws) ps (suc k) (good tt) ≡ rest → over_places (testing ws) ps (suc k) (refuse 16 k past) ≡ ◌>>◌ (refuse 16 k past) rest
unfolding ◌>>◌ refuse
tested_rest ws ps k true rest e = tested_refused ws ps (suc k) 16 k
tested_rest ws ps k false rest e = e

pub tested_words : (ws : List ℕ) (ps : List Place) (k : ℕ) → k + length ps ≤ length ws → over_places (testing ws) ps k (good tt) ≡ check_words k ps (drop k ws)
unfolding over_places testing check_words ◌>>◌
tested_words ws [] k h = refl
tested_words ws (p ∷ ps) k h =
    rw (drop-cons ws k 0 (omega arith))
    (tested_rest ws ps k (not (can_hold p (get_or ws k 0))) (check_words (suc k) ps (drop (suc k) ws))
    (tested_words ws ps (suc k) (omega arith)))

abbrev pub widths : List Place → List ℕ
widths ps = map (λ p. p.width) ps

-- Places of the same widths test alike, wherever they lie.
pub tested_widths : (ws : List ℕ) (ps qs : List Place) (k : ℕ) (s : Said (Unit {0})) → widths ps ≡ widths qs → over_places (testing ws) ps k s ≡ over_places (testing ws) qs k s
unfolding over_places testing can_hold
tested_widths ws [] [] k s e = refl
tested_widths ws [] (q ∷ qs) k s e = let z : ◌≡◌ {A = ℕ} 0 1 = cc in absurd (omega arith)
tested_widths ws (p ∷ ps) [] k s e = let z : ◌≡◌ {A = ℕ} 0 1 = cc in absurd (omega arith)
tested_widths ws (p ∷ ps) (q ∷ qs) k s e =
    let first : p.width ≡ q.width = cc in
    let others : widths ps ≡ widths qs = cc in
    rw first (tested_widths ws ps qs (suc k) (testing ws q k s) others)

repeated_widths : (count stride : ℕ) (g : ℕ → List Place) (at unit width : ℕ) → ((p : ℕ) → widths (g p) ≡ replicate unit width) → widths (repeated count stride g at) ≡ replicate (count * unit) width
unfolding repeated
repeated_widths zero stride g at unit width h = rw (zero-mul unit)
repeated_widths (suc count) stride g at unit width h =
    let e : suc count * unit ≡ unit + count * unit = omega (arith, suc-mul count unit) in
    map-append (λ p. p.width) (g at) (repeated count stride g (at + stride))
    ∙ rw (h at, repeated_widths count stride g (at + stride) unit width h, e) (replicate-append-replicate unit (count * unit) width)

run_widths : (n width at : ℕ) → widths (run_places n width at) ≡ replicate n width
unfolding run_places
run_widths n width at =
    repeated_widths n width (λ p. record { at = p; width = width } ∷ []) at 1 width (λ p. refl)
    ∙ rw (mul-one n)

-- Where parts lie does not matter for the test: it looks at widths alone.
pub tested_moved : (ws : List ℕ) (count unit width stride at k : ℕ) (s : Said (Unit {0})) → over_places (testing ws) (part_places count unit width stride at) k s ≡ over_places (testing ws) (run_places (count * unit) width 0) k s
unfolding part_places
tested_moved ws count unit width stride at k s =
    tested_widths ws (part_places count unit width stride at) (run_places (count * unit) width 0) k s
    (repeated_widths count stride (λ p. run_places unit width p) at unit width (λ p. run_widths unit width p)
    ∙ sym (run_widths (count * unit) width 0))
