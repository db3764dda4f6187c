-- Entries with n elements (specs/Whole): the fixed part and the tail, of types of fixed size and of open ones.
--
-- In order: a storable type's shape; a type of fixed size; an open type; words and room; storing, testing and loading both parts.
-- Assumes nothing.
use Prim.Native.Nat.{ℕ, ◌+◌, ◌*◌, ◌≤◌}
use mathlib.Core.Bool.{true, ◌||◌}
use mathlib.Core.List.{List, ◌++◌, append-nil}
use mathlib.Core.Logic.{◌⊎◌, inr}
use mathlib.Core.Path.{◌≡◌, refl, ap, sym, ◌∙◌}
use native.Mathlib.Omega.{arith}
use native.Mathlib.Nat.{zero-add}
use lib.ListN.{length, length-append, drop, replicate}
use Rattle.wgsl.specs.Types.{Ty, runtime, is_open, everywhere}
use Rattle.wgsl.specs.Size.{is_present, size_of, align_of, is_plain, has_layout, is_storable}
use Rattle.wgsl.specs.Said.{Said, good, refused}
use Rattle.wgsl.specs.Place.{extent_of, whole, shape_of, span_of, Place, places_of, repeated, places, word_count, written, words_read, check_words}
use Rattle.wgsl.specs.Shapes.{shape_words}
use Rattle.wgsl.specs.Claim.{Ordered}
use Rattle.wgsl.proofs.Absent.{both_hold, present_some}
use Rattle.wgsl.proofs.Laid.{laid}
use Rattle.wgsl.proofs.Shape.{places_ordered}
use Rattle.wgsl.proofs.Count.{places_words}
use Rattle.wgsl.proofs.Opened.{opened_extent}
use Rattle.layout_values.specs.declared.value.Value.{Value}
use Rattle.layout_values.specs.Value.{words_in}
use Rattle.layout_values.proofs.WordsIn.{value_words, words_fixed}
use Rattle.runs.specs.Fold.{over_places, storing, loading, testing}
use Rattle.runs.specs.Run.{run_places, part_places}
use Rattle.runs.proofs.OverPlaces.{over_append, run_length, stored_words, loaded_words, tested_words, tested_refused}
use Rattle.runs.proofs.Covered.{covers}
use Rattle.walk_trees.specs.Slot.{part_width, run_at}
use Rattle.walk_trees.specs.Tree.{Runs, runs, Room}
use Rattle.walk_decide.specs.declared.Rest.{Rest}
use Rattle.walk_decide.specs.Decide.{rest_from, open_rest, closed_rest}
use Rattle.walk_decide.specs.Whole.{Ready, Tailed, Whole}

-- ---- a storable type

module _ {ms : List ℕ} {table : List Value} {e : ℕ} {l : Value} {t : Ty} (r : Ready ms table e l t) where
  is_laid_out : has_layout t ≡ true
  unfolding is_storable
  is_laid_out = (both_hold (has_layout t) (everywhere is_plain t) r.storable).0

  -- Its shape takes its extent.
  pub ready_span : (n : ℕ) → span_of (shape_of n t) ≡ extent_of n t
  unfolding has_layout
  ready_span n =
      let both = both_hold (is_present (align_of t)) (is_open t || is_present (size_of t)) is_laid_out in
      let a = present_some (align_of t) both.0 in
      (laid n t a.0 r.well_formed a.1 both.1).span

  -- Its places are in rising order, share no byte and lie inside its extent.
  pub ready_ordered : (n : ℕ) → Ordered (places n t) 0 (extent_of n t)
  unfolding has_layout places
  ready_ordered n =
      let both = both_hold (is_present (align_of t)) (is_open t || is_present (size_of t)) is_laid_out in
      let a = present_some (align_of t) both.0 in
      rw (← ready_span n) (rw zero-add at (places_ordered (shape_of n t) 0 (laid n t a.0 r.well_formed a.1 both.1).sound))

  -- Its layout counts its fixed words.
  pub ready_words : word_count 0 t ≡ words_in l
  ready_words = sym (ap words_in r.is_layout ∙ value_words l.stride l.reference t ∙ words_fixed t is_laid_out)

  -- ---- a type of fixed size

  nothing_runs : Runs table (closed_rest l).value (whole 0)
  unfolding closed_rest part_width span_of places_of part_places repeated shape_words
  nothing_runs =
      record { referring = record { inside = λ h g. absurd (omega arith); counted = λ h g. absurd (omega arith) }; narrow_is = refl; runs_are = record { width = inr refl; fits = omega arith; places_are = λ at. refl; span_is = refl; words_are = refl } }

  pub closed_whole : Whole ms table e (closed_rest l) t 0
  unfolding closed_rest span_of places_of
  closed_whole =
      record {
        run_asks = r.run_asks;
        tree = r.tree;
        rest = whole 0;
        many = runs nothing_runs;
        places_are = sym (append-nil (places 0 t));
        fixed_is = ready_words;
        fixed_inside = omega (arith, ready_span 0);
        rest_inside = omega arith;
        covered = λ h. r.covered h 0;
      }

-- ---- an open type

pub open_whole : {ms : List ℕ} {table : List Value} {e : ℕ} {l : Value} {t : Ty} → Tailed ms table e l t → (n : ℕ) → Whole ms table e (open_rest (rest_from ms table l) n) t n
unfolding open_rest shape_of span_of
open_whole x n =
    let r = x.ready in
    record {
      run_asks = r.run_asks;
      tree = r.tree;
      rest = shape_of n (runtime x.element);
      many = x.many n;
      places_are = x.opened.places_are n;
      fixed_is = x.fixed_is;
      fixed_inside = omega (arith, ready_span r 0, opened_extent x.opened 0, opened_extent x.opened n);
      rest_inside = rw (← x.opened.stride_is) (omega (arith, opened_extent x.opened n));
      covered = λ h. r.covered h n;
    }

-- ---- words and room

module _ {ms : List ℕ} {table : List Value} {e : ℕ} {x : Rest} {t : Ty} {n : ℕ} (w : Whole ms table e x t n) where
  pub fixed_words_lem : shape_words (shape_of 0 t) ≡ x.fixed
  unfolding word_count places
  fixed_words_lem = sym (places_words (shape_of 0 t) 0) ∙ w.fixed_is

  pub whole_words : word_count n t ≡ x.fixed + shape_words w.rest
  unfolding word_count
  whole_words =
      ap length w.places_are
      ∙ length-append (places 0 t) (places_of w.rest x.offset)
      ∙ (λ i. w.fixed_is i + places_words w.rest x.offset i)

  -- Both parts have room in the bytes and in the words of the whole.
  pub fixed_room : {bytes words : ℕ} → extent_of n t ≤ bytes → word_count n t ≤ words → Room (shape_of 0 t) 0 bytes 0 words
  fixed_room b k =
      record { bytes_there = omega (arith, w.fixed_inside); words_there = omega (arith, fixed_words_lem, whole_words) }

  pub rest_room : {bytes words : ℕ} → extent_of n t ≤ bytes → word_count n t ≤ words → Room w.rest x.offset bytes x.fixed words
  rest_room b k =
      record { bytes_there = omega (arith, w.rest_inside); words_there = omega (arith, whole_words) }

  -- ---- both parts

  -- What a pass does over the whole, it does over the fixed part and then over the tail.
  pub both_parts : {S : Type 0} (f : Place → ℕ → S → S) (s : S) → over_places f (places n t) 0 s ≡ over_places f (places_of w.rest x.offset) x.fixed (over_places f (places_of (shape_of 0 t) 0) 0 s)
  unfolding places word_count
  both_parts f s =
      ap (λ (ps : List Place). over_places f ps 0 s) w.places_are
      ∙ over_append f (places_of (shape_of 0 t) 0) (places_of w.rest x.offset) 0 s
      ∙ ap (λ (k : ℕ). over_places f (places_of w.rest x.offset) k (over_places f (places_of (shape_of 0 t) 0) 0 s)) (zero-add _ ∙ w.fixed_is)

  -- Both parts stored over zeros, or over anything where they cover it, are the whole written.
  pub stored_cleared : (ws b c : List ℕ) → length ws ≡ word_count n t → c ≡ replicate (extent_of n t) 0 ++ drop (extent_of n t) b → over_places (storing ws) (places_of w.rest x.offset) x.fixed (over_places (storing ws) (places_of (shape_of 0 t) 0) 0 c) ≡ written n t ws b
  unfolding written word_count
  stored_cleared ws b c l e =
      sym (both_parts (storing ws) c)
      ∙ ap (λ (d : List ℕ). over_places (storing ws) (places n t) 0 d) e
      ∙ stored_words ws (places n t) 0 _ (omega arith)

  -- Words that cover the bytes, stored as one run over what was there.
  pub stored_covered : (ws b : List ℕ) → length ws ≡ word_count n t → extent_of n t ≤ length b → (run_at table e ≡ 0 → ⊥) → over_places (storing ws) (run_places (length ws) (run_at table e) 0) 0 b ≡ written n t ws b
  unfolding written word_count
  stored_covered ws b l z h =
      let v = w.covered h in
      let count : length ws ≡ v.count = l ∙ ap length v.places_are ∙ run_length v.count (run_at table e) 0 in
      ap (λ (m : ℕ). over_places (storing ws) (run_places m (run_at table e) 0) 0 b) count
      ∙ sym (covers ws v.count (run_at table e) (extent_of n t) 0 b v.extent_is z)
      ∙ ap (λ (ps : List Place). over_places (storing ws) ps 0 (replicate (extent_of n t) 0 ++ drop (extent_of n t) b)) (sym v.places_are)
      ∙ stored_words ws (places n t) 0 _ (omega arith)

  -- There is room for that run.
  pub covered_room : {bytes : ℕ} (ws : List ℕ) → length ws ≡ word_count n t → extent_of n t ≤ bytes → (run_at table e ≡ 0 → ⊥) → ((run_at table e ≡ 2) ⊎ (run_at table e ≡ 4)) × (0 + length ws ≤ length ws) × (0 + length ws * run_at table e ≤ bytes)
  unfolding word_count
  covered_room ws l z h =
      let v = w.covered h in
      let count : length ws ≡ v.count = l ∙ ap length v.places_are ∙ run_length v.count (run_at table e) 0 in
      (v.two_or_four, omega arith, rw count (omega (arith, v.extent_is)))

  -- Both parts loaded are the words read, and then the later words.
  pub loaded_whole : (b ws : List ℕ) → word_count n t ≤ length ws → over_places (loading b) (places_of w.rest x.offset) x.fixed (over_places (loading b) (places_of (shape_of 0 t) 0) 0 ws) ≡ words_read (places n t) b ++ drop (word_count n t) ws
  unfolding word_count
  loaded_whole b ws l = sym (both_parts (loading b) ws) ∙ loaded_words b (places n t) ws l

  -- Words that the fixed part refuses are refused; else the tail decides.
  pub tested_bad : (ws : List ℕ) (k : ℕ) → length ws ≡ word_count n t → refused 16 k ≡ over_places (testing ws) (places_of (shape_of 0 t) 0) 0 (good tt) → refused 16 k ≡ check_words 0 (places n t) ws
  unfolding word_count
  tested_bad ws k l h =
      sym (tested_refused ws (places_of w.rest x.offset) x.fixed 16 k)
      ∙ ap (λ (s : Said (Unit {0})). over_places (testing ws) (places_of w.rest x.offset) x.fixed s) h
      ∙ sym (both_parts (testing ws) (good tt))
      ∙ tested_words ws (places n t) 0 (omega arith)

  pub tested_good : (ws : List ℕ) {s : Said (Unit {0})} → length ws ≡ word_count n t → good tt ≡ over_places (testing ws) (places_of (shape_of 0 t) 0) 0 (good tt) → s ≡ over_places (testing ws) (places_of w.rest x.offset) x.fixed (good tt) → s ≡ check_words 0 (places n t) ws
  unfolding word_count
  tested_good ws l h e =
      e
      ∙ ap (λ (s : Said (Unit {0})). over_places (testing ws) (places_of w.rest x.offset) x.fixed s) h
      ∙ sym (both_parts (testing ws) (good tt))
      ∙ tested_words ws (places n t) 0 (omega arith)
