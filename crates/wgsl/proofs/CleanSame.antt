-- Cleaned buffers and the words in them (specs/Clean, specs/Call): the words alone say what a cleaned extent holds.
--
-- In order: as many words, as many places; a cleaned entry and its words; two buffers with the same words; the words written again.
-- Assumes nothing.
use Prim.Native.Nat.{ℕ, ◌<◌, ◌≤◌}
use mathlib.Core.Bool.{true}
use mathlib.Core.List.{List}
use mathlib.Core.Path.{◌≡◌, ap, sym, ◌∙◌}
use native.Mathlib.Omega.{arith}
use borrow.Author.Tests.{le-ltb}
use lib.ListN.{length, get_or, take}
use lib.Seq.{length-take-le, get_or-take, ext_get_or}
use Rattle.wgsl.specs.Types.{Ty, is_open, everywhere}
use Rattle.wgsl.specs.Said.{good}
use Rattle.wgsl.specs.Rule.{is_well_formed}
use Rattle.wgsl.specs.Place.{Place, Shape, elements_in, extent_of, places_of, places, word_count, written, words_read}
use Rattle.wgsl.specs.Call.{Done, entry_of, elements_for, read_call, write_words, write_elements, write_type, write_call}
use Rattle.wgsl.specs.Claim.{Stored, HasRoom, Fit}
use Rattle.wgsl.specs.Clean.{is_covered, CleanDone, done_from, clean_call}
use Rattle.wgsl.specs.CleanClaim.{extent_in}
use Rattle.wgsl.proofs.Absent.{yes_or_no}
use Rattle.wgsl.proofs.Said.{next_is, then_is, refuse_no}
use Rattle.wgsl.proofs.Word.{fit_check_words, length_words_read}
use Rattle.wgsl.proofs.Tail.{closed_extent}
use Rattle.wgsl.proofs.Closed.{closed_shape}
use Rattle.wgsl.proofs.EntryFor.{stored_is, entry_well_formed}
use Rattle.wgsl.proofs.IsShort.{open_element, room_short}
use Rattle.wgsl.proofs.ElementsFor.{elements_counted, counted}
use Rattle.wgsl.proofs.Call.{done, entry_places, read_read}
use Rattle.wgsl.proofs.CleanPath.{room_fits}
use Rattle.wgsl.proofs.CleanWord.{words_bytes, read_fits, written_cleans}
use Rattle.wgsl.proofs.CleanCall.{cleaned_in, clean_was, after_length, after_gap, after_covered}

-- ---- as many words, as many places

-- m and n elements are laid out alike
record Alike (m n : ℕ) (t : Ty) : Type 0 where
  places_same : places m t ≡ places n t
  extent_same : extent_of m t ≡ extent_of n t

-- a type that has as many words with m elements as with n has the same places
alike : (m n : ℕ) (t : Ty) → everywhere is_well_formed t ≡ true → word_count m t ≡ word_count n t → Alike m n t
unfolding places
alike m n t w count =
    yes_or_no (is_open t)
    (λ o.
    let same : m ≡ n = sym (elements_counted m t w o) ∙ ap (λ (k : ℕ). elements_for k t) count ∙ elements_counted n t w o in
    record { places_same = ap (λ (k : ℕ). places k t) same; extent_same = ap (λ (k : ℕ). extent_of k t) same })
    (λ o.
    record {
      places_same = ap (λ (x : Shape). places_of x 0) (closed_shape t w o m n);
      extent_same = closed_extent m t o ∙ sym (closed_extent n t o);
    })

-- ---- a cleaned entry and its words

-- the entry of type t is stored in b, with room, and is cleaned to c
record CleanTo (f : List ℕ) (e : ℕ) (b : List ℕ) (t : Ty) (c : List ℕ) : Type 0 where
  stored : Stored f e b t
  room : HasRoom t b
  is : cleaned_in t b ≡ c

module _ (f : List ℕ) (e : ℕ) (b : List ℕ) {t : Ty} (entry : entry_of f e ≡ good t) where
  clean_to : {d : CleanDone} → clean_call f e b ≡ good d → CleanTo f e b t d.contents
  unfolding done_from
  clean_to h =
      let was = clean_was h in
      let same : was.0 ≡ t = cc (was.1.entry, entry) in
      let to : CleanTo f e b was.0 _ =
      record { stored = was.1; room = was.2; is = ap (λ (x : CleanDone). x.contents) was.3 } in
      rw same at to

  -- what a read gives
  words_of : (ws : List ℕ) {r : Done} → read_call f e b ws ≡ good r → (r.value ≡ word_count (elements_in (length b) t) t) × (take r.value r.contents ≡ words_read (places (elements_in (length b) t) t) b)
  words_of ws {r} h =
      let x = read_read f e b ws r h in
      let same : x.type ≡ t = cc (x.stored.entry, entry) in
      let n : x.elements ≡ elements_in (length b) t = x.elements_are ∙ ap (elements_in (length b)) same in
      (rw (n, same) at x.value_is, rw (n, same) at x.words_are)

-- ---- two buffers with the same words

module _ {f : List ℕ} {e : ℕ} {t : Ty} {b b' c c' : List ℕ} (x : CleanTo f e b t c) (y : CleanTo f e b' t c') (same : Alike (elements_in (length b) t) (elements_in (length b') t) t) (words : words_read (places (elements_in (length b) t) t) b ≡ words_read (places (elements_in (length b') t) t) b') (small : (i : ℕ) → get_or b i 0 < 256) (small' : (i : ℕ) → get_or b' i 0 < 256) where
  abbrev ps : List Place
  ps = places (elements_in (length b) t) t

  byte_same : (i : ℕ) → i < extent_in t b → get_or (cleaned_in t b) i 0 ≡ get_or (cleaned_in t b') i 0
  byte_same i l =
      let there : words_read ps b ≡ words_read ps b' = words ∙ ap (λ (qs : List Place). words_read qs b') (sym same.places_same) in
      yes_or_no (is_covered ps i)
      (λ h.
      after_covered x.stored x.room i h
      ∙ words_bytes b b' small small' ps there i h
      ∙ sym (after_covered y.stored y.room i (rw same.places_same at h)))
      (λ h.
      after_gap x.stored x.room i l h
      ∙ sym (after_gap y.stored y.room i (omega (arith, same.extent_same)) (rw same.places_same at h)))

  parts_same : take (extent_in t b) (cleaned_in t b) ≡ take (extent_in t b) (cleaned_in t b')
  parts_same =
      let k = extent_in t b in
      let long = length-take-le k (cleaned_in t b) (omega (arith, after_length x.stored x.room, room_fits x.stored x.room)) in
      let long' = length-take-le k (cleaned_in t b')
      (omega (arith, after_length y.stored y.room, room_fits y.stored y.room, same.extent_same)) in
      ext_get_or 0 (take k (cleaned_in t b)) (take k (cleaned_in t b')) (long ∙ sym long') (λ i l.
      get_or-take k (cleaned_in t b) i 0 (omega arith) ∙ byte_same i (omega arith) ∙ sym (get_or-take k (cleaned_in t b') i 0 (omega arith)))

-- Two buffers that hold the same words hold, once cleaned, the same bytes in the extent.
pub clean_same_words : (f : List ℕ) (e : ℕ) (b b' ws : List ℕ) {d d' : CleanDone} {r : Done} {t : Ty} → entry_of f e ≡ good t → clean_call f e b ≡ good d → clean_call f e b' ≡ good d' → read_call f e b ws ≡ good r → read_call f e b' ws ≡ good r → ((i : ℕ) → get_or b i 0 < 256) → ((i : ℕ) → get_or b' i 0 < 256) → (extent_in t b ≡ extent_in t b') × (take (extent_in t b) d.contents ≡ take (extent_in t b) d'.contents)
clean_same_words f e b b' ws {t = t} entry h h' g g' small small' =
    let x = clean_to f e b entry h in
    let y = clean_to f e b' entry h' in
    let v = words_of f e b entry ws g in
    let v' = words_of f e b' entry ws g' in
    let same = alike _ _ t (entry_well_formed f e t entry) (sym v.0 ∙ v'.0) in
    (same.extent_same, rw (x.is, y.is) at (parts_same x y same (sym v.1 ∙ v'.1) small small'))

-- ---- the words written again

-- Writing the words that were read, to where they were read, is cleaning.
pub clean_is_write : (f : List ℕ) (e : ℕ) (b ws : List ℕ) {d : CleanDone} {r : Done} {t : Ty} → entry_of f e ≡ good t → clean_call f e b ≡ good d → read_call f e b ws ≡ good r → ((i : ℕ) → get_or b i 0 < 256) → write_call f e (take r.value r.contents) b ≡ good (record { value = extent_in t b; contents = d.contents })
unfolding write_call write_type write_elements write_words written word_count
clean_is_write f e b ws {t = t} entry h g small =
    let x = clean_to f e b entry h in
    let n = elements_in (length b) t in
    let new = words_read (places n t) b in
    let well = entry_well_formed f e t entry in
    let k = counted t n new well (λ o. open_element t b o (room_short t b well x.room)) (length_words_read (places n t) b) in
    let fits : Fit (places (elements_for (length new) t) t) new = rw k.places_same (read_fits b small (places n t)) in
    let room : extent_of (elements_for (length new) t) t ≤ length b = rw k.extent_same (room_fits x.stored x.room) in
    let cleans = written_cleans b small n t (entry_places f e t entry x.stored.layout n) (room_fits x.stored x.room) in
    rw (words_of f e b entry ws g).1
    (then_is _ (stored_is x.stored)
    ∙ refuse_no 14 0 k.right
    ∙ refuse_no 15 0 (le-ltb (length b) (extent_of (elements_for (length new) t) t) room)
    ∙ next_is _ (fit_check_words 0 (places (elements_for (length new) t) t) new fits)
    ∙ rw (k.places_same, k.extent_same) (ap (λ (c : List ℕ). good (done (extent_of n t) c)) (cleans ∙ x.is)))
