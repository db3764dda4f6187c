-- The bytes that places cover are those of the scalars that paths lead to, of open types too (specs/CleanClaim, `OnPath`).
--
-- In order: the bytes of a scalar; how many elements there are; a view and its walk; covered bytes and paths.
-- Assumes nothing.
use Prim.Native.Nat.{ℕ, zero, suc, ◌+◌, ◌-◌, ◌*◌, ◌^◌, ◌<◌, ◌≤◌, min}
use mathlib.Core.Bool.{true, false, ◌||◌, or-true}
use mathlib.Core.List.Memᴰ
use mathlib.Core.List.{List, map}
use mathlib.Core.Path.{◌≡◌, refl, ap, ◌∙◌}
use native.Mathlib.Omega.{arith}
use native.Mathlib.Nat.{div-le_self}
use borrow.Author.Tests.{ltb-true, ltb-false}
use lib.Dec.{ltb}
use lib.ListN.{length}
use Rattle.wgsl.specs.Types.{Scalar, Ty, is_open}
use Rattle.wgsl.specs.Size.{is_present, present, width_of, size_of, align_of, has_layout}
use Rattle.wgsl.specs.Said.{good}
use Rattle.wgsl.specs.Place.{one, shape_of, elements_in, extent_of, Place, words_over, word_places, places, word_count}
use Rattle.wgsl.specs.Path.{Step, step_of, walk}
use Rattle.wgsl.specs.Call.{elements_for, target_in, target_call, view_call}
use Rattle.wgsl.specs.Claim.{Stored, HasRoom}
use Rattle.wgsl.specs.Demand.{Leading}
use Rattle.wgsl.specs.Clean.{is_inside, is_covered}
use Rattle.wgsl.specs.CleanClaim.{OnPath}
use Rattle.wgsl.proofs.Absent.{both_hold, yes_or_no}
use Rattle.wgsl.proofs.Said.{then_good, then_is, refuse_good, refuse_no}
use Rattle.wgsl.proofs.ScalarWords.{words_enough}
use Rattle.wgsl.proofs.Shape.{scalar_ordered}
use Rattle.wgsl.proofs.Path.{target}
use Rattle.wgsl.proofs.PathPlace.{path_place, place_path}
use Rattle.wgsl.proofs.Step.{step_code, steps_below}
use Rattle.wgsl.proofs.Index.{entry_small}
use Rattle.wgsl.proofs.Count.{count_words, words_room}
use Rattle.wgsl.proofs.EntryFor.{laid_good, laid_is, entry_well_formed, entry_sound}
use Rattle.wgsl.proofs.IsShort.{short_no, room_short}
use Rattle.wgsl.proofs.ElementsFor.{elements_counted}
use Rattle.wgsl.proofs.OnePath.{codes_words, codes_read}
use Rattle.wgsl.proofs.CleanByte.{true_inside, covered_place, place_covered, covered_between}

-- ---- the bytes of a scalar

over_covered : (n bytes at i : ℕ) → bytes ≤ 4 * n → at ≤ i → i < at + bytes → is_covered (words_over n bytes at) i ≡ true
unfolding words_over is_covered
over_covered zero bytes at i enough from to = absurd (omega arith)
over_covered (suc n) bytes at i enough from to =
    let first : Place = record { at = at; width = min 4 bytes } in
    yes_or_no (ltb i (at + min 4 bytes))
    (λ l. rw (true_inside first i from (ltb-true i (at + min 4 bytes) l)) refl)
    (λ l.
    let past : at + min 4 bytes ≤ i = ltb-false i (at + min 4 bytes) l in
    rw (over_covered n (bytes - 4) (at + 4) i (omega arith) (omega arith) (omega arith)) (or-true (is_inside first i)))

-- Every byte of a scalar is one of its words'.
pub scalar_covered : (s : Scalar) (at i : ℕ) → at ≤ i → i < at + present (width_of s) → is_covered (word_places s at) i ≡ true
unfolding word_places
scalar_covered s at i from to = over_covered _ _ at i (words_enough _) from to

-- ---- how many elements there are

module _ {f : List ℕ} {e : ℕ} {b : List ℕ} {t : Ty} (stored : Stored f e b t) (room : HasRoom t b) where
  -- An entry with room lies inside the buffer.
  pub room_fits : extent_of (elements_in (length b) t) t ≤ length b
  room_fits = short_no t b (room_short t b (entry_well_formed f e t stored.entry) room)

  -- each element has a word, and each word takes two bytes of the buffer
  elements_few : is_open t ≡ true → elements_in (length b) t ≤ 2 ^ 31
  unfolding elements_for
  elements_few o =
      let n = elements_in (length b) t in
      let sound = entry_sound f e t stored.entry stored.layout n in
      let w = word_count n t in
      let back = elements_counted n t (entry_well_formed f e t stored.entry) o in
      let least : n ≤ w = omega (arith, div-le_self (w - word_count 0 t) (word_count 1 t - word_count 0 t)) in
      omega (arith, count_words n t, words_room (shape_of n t) sound.0, sound.1, room_fits, stored.within)

  -- ---- a view and its walk

  -- A view that leads to a scalar walks there,
  pub leading_walks : {path : List ℕ} {a : ℕ} {s : Scalar} → Leading f e b path a s → walk 0 0 (shape_of (elements_in (length b) t) t) (map step_of path) ≡ good (target a (one s))
  unfolding view_call target_call target_in
  leading_walks l =
      let h = then_good _ _ l.leads in
      let same : h.value ≡ t = cc ((laid_good false h.first).entry, stored.entry) in
      rw same at (refuse_good 15 0 _ _ h.after).1

  -- and where the walk leads the view does.
  pub walks_leading : {path : List ℕ} {a : ℕ} {s : Scalar} → walk 0 0 (shape_of (elements_in (length b) t) t) (map step_of path) ≡ good (target a (one s)) → Leading f e b path a s
  unfolding view_call target_call target_in
  walks_leading h =
      let laid = laid_is (record { entry = stored.entry; within = stored.within; layout = stored.layout }) in
      let long = room_short t b (entry_well_formed f e t stored.entry) room in
      record { leads = then_is _ laid ∙ refuse_no 15 0 long ∙ h }

  -- ---- covered bytes and paths

  -- A covered byte is one of a scalar that a path leads to.
  covered_path : (i : ℕ) → is_covered (places (elements_in (length b) t) t) i ≡ true → OnPath f e b i
  unfolding places has_layout
  covered_path i e' =
      let n = elements_in (length b) t in
      let x = shape_of n t in
      let well = entry_well_formed f e t stored.entry in
      let sound = (entry_sound f e t stored.entry stored.layout n).0 in
      let there = covered_place (places n t) i e' in
      let found = place_path 0 x there.0 sound there.1 in
      let s = found.scalar_is in
      let a = found.scalar_lies_at in
      let steps = found.steps in
      let has = (both_hold (is_present (align_of t)) (is_open t || is_present (size_of t)) stored.layout).1 in
      let below = steps_below 0 0 x steps (target a (one s)) (2 ^ 31) (entry_small n t well has elements_few) (found.leads 0) in
      let inside = place_covered (word_places s a) i found.one_of_its there.2 in
      let between = covered_between (word_places s a) a (a + present (width_of s)) i (scalar_ordered s a) inside in
      record {
        path = map step_code steps;
        numbers = codes_words steps below;
        offset = a;
        scalar_there = s;
        leads = walks_leading (ap (λ (l : List Step). walk 0 0 x l) (codes_read steps below) ∙ found.leads 0);
        from = between.0;
        below = between.1;
      }

  -- A byte of a scalar that a path leads to is covered.
  path_covered : (i : ℕ) → OnPath f e b i → is_covered (places (elements_in (length b) t) t) i ≡ true
  unfolding places
  path_covered i o =
      let n = elements_in (length b) t in
      let s = o.scalar_there in
      let a = o.offset in
      let r = path_place 0 0 (shape_of n t) (map step_of o.path) a s (leading_walks o.leads) in
      let there = covered_place (word_places s a) i (scalar_covered s a i o.from o.below) in
      rw r.split
      (place_covered _ i (Memᴰ.append_right r.before (Memᴰ.append_left r.after there.1)) there.2)

-- The bytes that places cover are exactly those of the scalars that paths lead to.
pub covered_by_path : {f : List ℕ} {e : ℕ} {b : List ℕ} {t : Ty} → Stored f e b t → HasRoom t b → (i : ℕ) → (is_covered (places (elements_in (length b) t) t) i ≡ true → OnPath f e b i) × (OnPath f e b i → is_covered (places (elements_in (length b) t) t) i ≡ true)
covered_by_path stored room i = (covered_path stored room i, path_covered stored room i)
