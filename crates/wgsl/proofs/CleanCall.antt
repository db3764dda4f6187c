-- Cleaning (specs/Clean, `clean_call`): when it is good, and what it did (specs/CleanClaim).
--
-- In order: what it is; when it is good; a byte cleaned; how many changed; what is read then; cleaning again; what it did.
-- Assumes nothing.
use Prim.Native.Nat.{ℕ, ◌+◌, ◌<◌, ◌≤◌}
use mathlib.Core.Bool.{true, false}
use mathlib.Core.List.{List}
use mathlib.Core.Logic.{◌⊎◌, ⊎_elim}
use mathlib.Core.Path.{◌≡◌, refl, ap, sym, ◌∙◌}
use native.Mathlib.Omega.{arith}
use native.Mathlib.Nat.{zero-add}
use borrow.Author.Tests.{ltb-true, ltb-false}
use lib.Dec.{ltb}
use lib.ListN.{length, get_or}
use Rattle.wgsl.specs.Types.{Ty}
use Rattle.wgsl.specs.Said.{good}
use Rattle.wgsl.specs.Place.{extent_of, elements_in, places, words_read}
use Rattle.wgsl.specs.Call.{is_short, read_elements, read_type, read_call}
use Rattle.wgsl.specs.Claim.{Ordered, Stored, HasRoom, GoodIf}
use Rattle.wgsl.specs.Clean.{is_covered, cleaned, differing, first_differing, CleanDone, done_from, clean_type, clean_call}
use Rattle.wgsl.specs.CleanClaim.{scalar_bytes, extent_in, CanClean, Cleans}
use Rattle.wgsl.proofs.Absent.{yes_or_no}
use Rattle.wgsl.proofs.Said.{then_good, then_is, refuse_good, refuse_no}
use Rattle.wgsl.proofs.EntryFor.{stored_good, stored_is, entry_well_formed}
use Rattle.wgsl.proofs.IsShort.{short_room, room_short}
use Rattle.wgsl.proofs.Call.{entry_places}
use Rattle.wgsl.proofs.CleanByte.{byte_gap, byte_covered, byte_later, clean_length, clean_byte_lem, clean_again}
use Rattle.wgsl.proofs.CleanPath.{room_fits, covered_by_path}
use Rattle.wgsl.proofs.CleanCount.{same_none, same_first, First, same_or_first, gaps_room, differing_gaps}
use Rattle.wgsl.proofs.CleanWord.{covered_words}

-- ---- what it is

-- a buffer without the rubbish of a type
abbrev pub cleaned_in : Ty → List ℕ → List ℕ
cleaned_in t b = cleaned (elements_in (length b) t) t b

-- Cleaning a stored entry that has room cleans it.
pub clean_is : {f : List ℕ} {e : ℕ} {b : List ℕ} {t : Ty} → Stored f e b t → HasRoom t b → clean_call f e b ≡ good (done_from (extent_in t b) b (cleaned_in t b))
unfolding clean_call clean_type
clean_is {f} {e} {b} {t} stored room =
    then_is _ (stored_is stored) ∙ refuse_no 15 0 (room_short t b (entry_well_formed f e t stored.entry) room)

-- What a call that is not refused was about, and what it has done.
pub clean_was : {f : List ℕ} {e : ℕ} {b : List ℕ} {d : CleanDone} → clean_call f e b ≡ good d → (t : Ty) × Stored f e b t × HasRoom t b × (done_from (extent_in t b) b (cleaned_in t b) ≡ d)
unfolding clean_call clean_type
clean_was {f} {e} {b} {d} h =
    let s = then_good _ _ h in
    let t = s.value in
    let stored = stored_good s.first in
    let short = refuse_good 15 0 _ _ s.after in
    (t, stored, short_room t b (entry_well_formed f e t stored.entry) short.0, cc short.1)

-- ---- when it is good

-- Cleaning is good exactly if the entry is stored and the buffer has room.
pub clean_good_if : (f : List ℕ) (e : ℕ) (b : List ℕ) → GoodIf (clean_call f e b) (CanClean f e b)
clean_good_if f e b = record {
  if_so = λ c. (_, clean_is c.stored c.room);
  only_if = λ d h. let was = clean_was h in record { type = was.0; stored = was.1; room = was.2 };
}

module _ {f : List ℕ} {e : ℕ} {b : List ℕ} {t : Ty} (stored : Stored f e b t) (room : HasRoom t b) where
  -- so many elements; what is left; the places
  abbrev n : ℕ
  n = elements_in (length b) t

  abbrev after : List ℕ
  after = cleaned_in t b

  ordered : Ordered (places n t) 0 (extent_of n t)
  ordered = entry_places f e t stored.entry stored.layout n

  -- ---- a byte cleaned

  -- Cleaning keeps the length,
  pub after_length : length after ≡ length b
  unfolding cleaned
  after_length = clean_length (places n t) (extent_of n t) 0 b

  -- zeroes what no place covers,
  pub after_gap : (i : ℕ) → i < extent_of n t → is_covered (places n t) i ≡ false → get_or after i 0 ≡ 0
  unfolding cleaned
  after_gap i l e = clean_byte_lem (places n t) (extent_of n t) b i ∙ byte_gap (places n t) (extent_of n t) i _ l e

  -- and leaves what one covers
  pub after_covered : (i : ℕ) → is_covered (places n t) i ≡ true → get_or after i 0 ≡ get_or b i 0
  unfolding cleaned
  after_covered i e = clean_byte_lem (places n t) (extent_of n t) b i ∙ byte_covered (places n t) (extent_of n t) i _ e

  -- and what lies past the extent.
  pub after_later : (i : ℕ) → extent_of n t ≤ i → get_or after i 0 ≡ get_or b i 0
  unfolding cleaned
  after_later i l = clean_byte_lem (places n t) (extent_of n t) b i ∙ byte_later (places n t) (extent_of n t) i _ l

  -- ---- how many changed

  few_changed : differing b after + scalar_bytes (places n t) ≤ extent_of n t
  unfolding cleaned
  few_changed =
      let gap = differing_gaps (places n t) (extent_of n t) 0 (extent_of n t) b (omega arith) in
      omega (arith, gaps_room (places n t) 0 (extent_of n t) (rw zero-add ordered))

  changed_first : (b ≡ after) ⊎ First (extent_of n t) 0 b after
  changed_first = same_or_first (extent_of n t) 0 b after (sym after_length)

  -- ---- what is read then

  still_stored : Stored f e after t
  still_stored = record {
    entry = stored.entry;
    within = rw after_length stored.within;
    layout = stored.layout;
    storable = stored.storable;
  }

  read_same : (ws : List ℕ) → read_call f e after ws ≡ read_call f e b ws
  unfolding read_call read_type read_elements is_short
  read_same ws =
      let words : words_read (places n t) after ≡ words_read (places n t) b = covered_words (places n t) after b after_covered in
      then_is _ (stored_is still_stored) ∙ rw (after_length, words) (sym (then_is _ (stored_is stored)))

  -- ---- cleaning again

  nothing_changed : done_from (extent_in t b) after after ≡ record { changed = 0; first = extent_in t b; contents = after }
  unfolding done_from
  nothing_changed = rw (same_none after, same_first (extent_in t b) 0 after) refl

  cleaned_again : cleaned_in t after ≡ after
  unfolding cleaned
  cleaned_again =
      ap (λ (k : ℕ). cleaned (elements_in k t) t after) after_length ∙ clean_again (places n t) (extent_of n t) 0 b

  clean_twice : clean_call f e after ≡ good (record { changed = 0; first = extent_in t b; contents = after })
  clean_twice =
      clean_is still_stored (rw after_length room)
      ∙ ap (λ (c : List ℕ). good (done_from (extent_in t after) after c)) cleaned_again
      ∙ ap (λ (k : ℕ). good (done_from (extent_of (elements_in k t) t) after after)) after_length
      ∙ ap (λ (d : CleanDone). good d) nothing_changed

  -- ---- what it did

  did : Cleans f e b (done_from (extent_in t b) b after)
  unfolding done_from
  did = record {
    type = t;
    stored = stored;
    fits = room_fits stored room;
    length_same = after_length;
    gaps_zero = λ i l none-leads.
        after_gap i l
        (yes_or_no (is_covered (places n t) i) (λ c. absurd (none-leads ((covered_by_path stored room i).0 c))) (λ c. c));
    scalars_stay = λ i o. after_covered i ((covered_by_path stored room i).1 o);
    later_stay = after_later;
    count_is = refl;
    at_most = few_changed;
    none_changed = λ z.
        ⊎_elim (λ (q : b ≡ after). (ap (first_differing (extent_in t b) 0 b) (sym q) ∙ same_first (extent_in t b) 0 b, sym q))
        (λ (x : First (extent_in t b) 0 b after). absurd (omega (arith, x.some_differ))) changed_first;
    first_changed = λ some_differ.
        ⊎_elim (λ (q : b ≡ after). absurd (omega (arith, ap (differing b) (sym q), same_none b)))
        (λ (x : First (extent_in t b) 0 b after). rw (x.is, zero-add) (below x, x.differs)) changed_first;
    first_lowest = λ i l.
        ⊎_elim (λ (q : b ≡ after). ap (λ (c : List ℕ). get_or c i 0) (sym q))
        (λ (x : First (extent_in t b) 0 b after). x.lowest i (omega (arith, x.is))) changed_first;
    words_same = read_same;
    again = clean_twice;
  }
    where
      below : (x : First (extent_in t b) 0 b after) → x.place < extent_in t b
      below x =
          yes_or_no (ltb x.place (extent_in t b)) (λ l. ltb-true x.place (extent_in t b) l)
          (λ l. absurd (x.differs (after_later x.place (ltb-false x.place (extent_in t b) l))))

-- What a call that is not refused has done.
pub clean_did : {f : List ℕ} {e : ℕ} {b : List ℕ} {d : CleanDone} → clean_call f e b ≡ good d → Cleans f e b d
clean_did h = let was = clean_was h in rw was.3 at (did was.1 was.2)
