-- Laws of the calls that take a buffer (specs/Call): what a call that is not refused says, and what it leaves in what it was lent.
--
-- In order: the places of an entry; writing; reading; reading what was written.
-- Not here: the entry that a call is about (`EntryFor`), room (`IsShort`), counts of words (`ElementsFor`), when a call is good (`Good`).
-- Assumes nothing.
use Prim.Native.Nat.{ℕ, ◌≤◌}
use mathlib.Core.Bool.{Bool, true, false}
use mathlib.Core.List.{List, ◌++◌}
use mathlib.Core.Path.{◌≡◌, refl, ap, sym, ◌∙◌}
use native.Mathlib.Omega.{arith}
use native.Mathlib.Nat.{zero-add}
use borrow.Author.Tests.{ltb-false, le-ltb, ne_eqb}
use lib.Dec.{ltb}
use lib.ListN.{length, take, drop, length-append, length-drop}
use lib.Seq.{length-take-le, take_at, drop_at, get_or-take}
use Rattle.wgsl.specs.Round.{within_limit}
use Rattle.wgsl.specs.Types.{Ty, is_open, everywhere}
use Rattle.wgsl.specs.Size.{present, size_of, has_layout}
use Rattle.wgsl.specs.Said.{good, ◌>>◌, refuse}
use Rattle.wgsl.specs.Rule.{is_well_formed}
use Rattle.wgsl.specs.Place.{extent_of, elements_in, Shape, shape_of, Place, places_of, places, word_count, written, words_read}
use Rattle.wgsl.specs.Call.{Done, entry_of, is_short, elements_for, read_elements, read_type, read_call, write_words, write_elements, write_type, write_call}
use Rattle.wgsl.specs.Claim.{Ordered, Stored, Wrote, Read}
use Rattle.wgsl.proofs.Said.{next_good, then_good, then_is, refuse_good, refuse_no}
use Rattle.wgsl.proofs.Shape.{places_ordered}
use Rattle.wgsl.proofs.Word.{check_words_fit, length_words_read, words_read_same, length_written, written_zero, written_later, read_written}
use Rattle.wgsl.proofs.Tail.{closed_extent}
use Rattle.wgsl.proofs.Closed.{closed_shape}
use Rattle.wgsl.proofs.Elements.{elements_back}
use Rattle.wgsl.proofs.EntryFor.{stored_good, stored_is, entry_well_formed, entry_sound}
use Rattle.wgsl.proofs.IsShort.{short_no}
use Rattle.wgsl.proofs.ElementsFor.{right_count}

-- ---- the places of an entry

-- The places of an accepted entry with a layout are in rising order, share no byte and lie inside its extent.
pub entry_places : (f : List ℕ) (e : ℕ) (t : Ty) → entry_of f e ≡ good t → has_layout t ≡ true → (n : ℕ) → Ordered (places n t) 0 (extent_of n t)
unfolding places
entry_places f e t h y n =
    let s = entry_sound f e t h y n in
    rw (← s.1) (rw zero-add at (places_ordered (shape_of n t) 0 s.0))

-- ---- writing

-- this value, and these contents at the end
abbrev pub done : ℕ → List ℕ → Done
done value contents = record { value = value; contents = contents }

-- Writing writes the words over the type's extent, with zeros where no word lies, and nothing past it.
pub write_wrote : (f : List ℕ) (e : ℕ) (ws b : List ℕ) (d : Done) → write_call f e ws b ≡ good d → Wrote f e ws b d
unfolding write_call write_type write_elements write_words word_count
write_wrote f e ws b d h =
    let s = then_good _ _ h in
    let t = s.value in
    let n = elements_for (length ws) t in
    let count = refuse_good 14 0 _ _ s.after in
    let room = refuse_good 15 0 _ _ count.1 in
    let words = next_good _ _ room.1 in
    let is : done (extent_of n t) (written n t ws b) ≡ d = cc words.1 in
    let stored = stored_good s.first in
    let right = right_count t ws count.0 in
    let fits = ltb-false (length b) (extent_of n t) room.0 in
    let ordered = entry_places f e t stored.entry stored.layout n in
    let fit = check_words_fit 0 (places n t) ws words.0 in
    rw (← is) (record {
      type = t;
      elements = n;
      stored = stored;
      some_elements = right.1;
      count = right.0;
      value_is = refl;
      fits = fits;
      length_same = length_written n t ws b fits;
      words_there = read_written n t ws b ordered fits right.0 fit;
      zero_elsewhere = λ i l u. written_zero n t ws b i l u;
      later_stay = λ i l. written_later n t ws b i ordered l;
    })

-- ---- reading

-- Reading gives a word for each place, and the later words stay.
pub read_read : (f : List ℕ) (e : ℕ) (b ws : List ℕ) (d : Done) → read_call f e b ws ≡ good d → Read f e b ws d
unfolding read_call read_type read_elements word_count
read_read f e b ws d h =
    let s = then_good _ _ h in
    let t = s.value in
    let short = refuse_good 15 0 _ _ s.after in
    let count = refuse_good 14 0 _ _ short.1 in
    let n = elements_in (length b) t in
    let new = words_read (places n t) b in
    let k = length (places n t) in
    let is : done k (new ++ drop k ws) ≡ d = cc count.1 in
    let room = ltb-false (length ws) k count.0 in
    let long = length_words_read (places n t) b in
    rw (← is) (record {
      type = t;
      elements = n;
      stored = stored_good s.first;
      elements_are = refl;
      fits = short_no t b short.0;
      value_is = refl;
      words_are = take_at new (drop k ws) k long;
      later_stay = drop_at new (drop k ws) k long;
      length_same = simp (length-append, length-drop) (omega arith);
    })

-- A read of a stored entry that finds room in the buffer and in the words gives the words of its places, and then the later words.
pub read_is : (f : List ℕ) (e : ℕ) (b ws : List ℕ) (t : Ty) (n : ℕ) → Stored f e b t → is_short t b ≡ false → elements_in (length b) t ≡ n → word_count n t ≤ length ws → read_call f e b ws ≡ good (done (word_count n t) (words_read (places n t) b ++ drop (word_count n t) ws))
unfolding read_call read_type read_elements
read_is f e b ws t n s h q room =
    then_is _ (stored_is s)
    ∙ refuse_no 15 0 h
    ∙ ap
    (λ (m : ℕ).
    ◌>>◌ (refuse 14 0 (ltb (length ws) (word_count m t)))
    (good (done (word_count m t) (words_read (places m t) b ++ drop (word_count m t) ws)))) q
    ∙ refuse_no 14 0 (le-ltb (length ws) (word_count n t) room)

-- ---- reading what was written

-- a buffer that ends where the type with n elements does: what is read there are the places written
read_places : (n : ℕ) (t : Ty) (c : List ℕ) → everywhere is_well_formed t ≡ true → (is_open t ≡ true → 1 ≤ n) → length c ≡ extent_of n t → (places (elements_in (length c) t) t ≡ places n t) × (is_short t c ≡ false)
unfolding places is_short
read_places n t c w some_elements l = go (is_open t) refl
  where
    m : ℕ
    m = elements_in (length c) t

    go : (o : Bool) → is_open t ≡ o → (places m t ≡ places n t) × (is_short t c ≡ false)
    go true o =
        let same : m ≡ n = ap (λ (k : ℕ). elements_in k t) l ∙ elements_back n t w o in
        (ap (λ (k : ℕ). places k t) same, rw o (ne_eqb m 0 (λ z. omega (arith, some_elements o))))
    go false o = (
      ap (λ (x : Shape). places_of x 0) (closed_shape t w o m n),
      rw o (le-ltb (length c) (present (size_of t)) (omega (arith, closed_extent n t o))),
    )

-- Reading the bytes that were written gives the words back.
pub read_of_write : (f : List ℕ) (e : ℕ) (ws b : List ℕ) (d : Done) → write_call f e ws b ≡ good d → (vs : List ℕ) → length ws ≤ length vs → read_call f e (take d.value d.contents) vs ≡ good (record { value = length ws; contents = ws ++ drop (length ws) vs })
unfolding word_count within_limit
read_of_write f e ws b d h vs room =
    let w = write_wrote f e ws b d h in
    let t = w.type in
    let n = w.elements in
    let c = take d.value d.contents in
    let s = w.stored in
    let fits : d.value ≤ length d.contents = omega (arith, w.value_is, w.fits, w.length_same) in
    let long : length c ≡ d.value = length-take-le d.value d.contents fits in
    let back = read_places n t c (entry_well_formed f e t s.entry) w.some_elements (long ∙ w.value_is) in
    let m = elements_in (length c) t in
    let stored : Stored f e c t = record {
      entry = s.entry;
      within = omega (arith, s.within, w.length_same);
      layout = s.layout;
      storable = s.storable;
    } in
    let count : word_count m t ≡ length ws = ap length back.0 ∙ sym w.count in
    let words : words_read (places m t) c ≡ ws =
    ap (λ (ps : List Place). words_read ps c) back.0
    ∙ words_read_same (places n t) c d.contents 0 (extent_of n t) (entry_places f e t s.entry s.layout n)
    (λ i from to. get_or-take d.value d.contents i 0 (omega (arith, w.value_is)))
    ∙ w.words_there in
    read_is f e c vs t m stored back.1 refl (omega arith)
    ∙ (λ i. good (done (count i) (words i ++ drop (count i) vs)))
