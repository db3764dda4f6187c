-- Words and the bytes that their places cover (specs/Place, specs/Clean).
--
-- In order: the bytes say the words; the words say the bytes; words that are read and stored again; a type's words written again.
-- Assumes nothing.
use Prim.Native.Nat.{ℕ, zero, suc, ◌+◌, ◌-◌, ◌<◌, ◌≤◌}
use mathlib.Core.Bool.{true, or-true}
use mathlib.Core.List.{List, [], ◌∷◌, ◌++◌}
use mathlib.Core.Logic.{⊎_elim}
use mathlib.Core.Path.{◌≡◌, refl, ap, sym, ◌∙◌}
use native.Mathlib.Omega.{arith}
use borrow.Author.Tests.{ltb-true, ltb-false, eqb-true, eqb-false}
use lib.Dec.{eqb, ltb}
use lib.ListN.{length, get_or, drop, replicate, length-append, length-replicate, length-drop}
use lib.Seq.{get_or-take, get_or-drop, ext_get_or}
use Rattle.wgsl.specs.Number.{load, bytes_of, store}
use Rattle.wgsl.specs.Types.{Ty}
use Rattle.wgsl.specs.Place.{Place, places, extent_of, store_words, written, words_read}
use Rattle.wgsl.specs.Claim.{Ordered, Fit}
use Rattle.wgsl.specs.Clean.{is_inside, is_covered, clean_byte, cleaned}
use Rattle.wgsl.proofs.Absent.{yes_or_no, either_holds, true_not_false}
use Rattle.wgsl.proofs.Number.{length_bytes_of, length_store, load_same, load_bounded, bytes_load}
use Rattle.wgsl.proofs.Shape.{ordered_span}
use Rattle.wgsl.proofs.Word.{store_words_uncovered, uncovered_below, length_written, written_zero, written_later}
use Rattle.wgsl.proofs.Site.{sets_inside}
use Rattle.wgsl.proofs.CleanByte.{inside_true, true_inside, false_uncovered, byte_gap, byte_covered, byte_later, clean_length, clean_byte_lem}

-- ---- the bytes say the words

-- What is read depends on the bytes that the places cover alone.
pub covered_words : (ps : List Place) (a b : List ℕ) → ((i : ℕ) → is_covered ps i ≡ true → get_or a i 0 ≡ get_or b i 0) → words_read ps a ≡ words_read ps b
unfolding words_read is_covered
covered_words [] a b h = refl
covered_words (p ∷ ps) a b h =
    let first : load p.width a p.at ≡ load p.width b p.at =
    load_same p.width a b p.at (λ i from to. h i (rw (true_inside p i from to) refl)) in
    let rest : words_read ps a ≡ words_read ps b = covered_words ps a b (λ i e. h i (rw e (or-true (is_inside p i)))) in
    rw (first, rest)

-- ---- the words say the bytes

module _ (a b : List ℕ) (small_a : (i : ℕ) → get_or a i 0 < 256) (small_b : (i : ℕ) → get_or b i 0 < 256) where
  load_bytes : (k at i : ℕ) → load k a at ≡ load k b at → at ≤ i → i < at + k → get_or a i 0 ≡ get_or b i 0
  unfolding load
  load_bytes zero at i e from to = absurd (omega arith)
  load_bytes (suc k) at i e from to =
      let first : get_or a at 0 ≡ get_or b at 0 = omega (arith, small_a at, small_b at) in
      let rest : load k a (at + 1) ≡ load k b (at + 1) = omega (arith, small_a at, small_b at) in
      yes_or_no (eqb at i)
      (λ q. rw (eqb-true at i q) at first)
      (λ q.
      let other : at ≡ i → ⊥ = eqb-false at i q in
      load_bytes k (at + 1) i rest (omega arith) (omega arith))

  -- Two buffers of bytes with the same words have the same bytes where the words lie.
  pub words_bytes : (ps : List Place) → words_read ps a ≡ words_read ps b → (i : ℕ) → is_covered ps i ≡ true → get_or a i 0 ≡ get_or b i 0
  unfolding words_read is_covered
  words_bytes [] e i c = true_not_false c refl
  words_bytes (p ∷ ps) e i c =
      let first : load p.width a p.at ≡ load p.width b p.at = cc in
      let rest : words_read ps a ≡ words_read ps b = cc in
      ⊎_elim
      (λ (h : is_inside p i ≡ true). let t = inside_true p i h in load_bytes p.width p.at i first t.0 t.1)
      (λ (h : is_covered ps i ≡ true). words_bytes ps rest i h) (either_holds (is_inside p i) (is_covered ps i) c)

-- ---- words that are read and stored again

module _ (b : List ℕ) (small : (i : ℕ) → get_or b i 0 < 256) where
  -- Words that are read from bytes fit.
  pub read_fits : (ps : List Place) → Fit ps (words_read ps b)
  unfolding Fit words_read
  read_fits [] = tt
  read_fits (p ∷ ps) = (load_bounded p.width b p.at small, read_fits ps)

  store_back : (k : ℕ) (c : List ℕ) (at i : ℕ) → at + k ≤ length b → at + k ≤ length c → at ≤ i → i < at + k → get_or (store k c at (load k b at)) i 0 ≡ get_or b i 0
  unfolding store
  store_back k c at i g h from to =
      let j : ℕ = i - at in
      let is : at + j ≡ i = omega arith in
      let long = length_bytes_of k (load k b at) in
      rw (← is)
      (sets_inside (bytes_of k (load k b at)) c at j (omega arith) (omega arith)
      ∙ ap (λ (l : List ℕ). get_or l j 0) (bytes_load k b at g small)
      ∙ get_or-take k (drop at b) j 0 (omega arith)
      ∙ get_or-drop at b j 0)

  -- Words read from one buffer and stored into another put the bytes of the first there.
  pub stored_back : (ps : List Place) (c : List ℕ) (lo hi i : ℕ) → Ordered ps lo hi → hi ≤ length b → hi ≤ length c → is_covered ps i ≡ true → get_or (store_words ps (words_read ps b) c) i 0 ≡ get_or b i 0
  unfolding store_words words_read Ordered is_covered
  stored_back [] c lo hi i o g h e = true_not_false e refl
  stored_back (p ∷ ps) c lo hi i o g h e =
      let w = load p.width b p.at in
      let c' = store p.width c p.at w in
      let span = ordered_span ps (p.at + p.width) hi o.1 in
      yes_or_no (is_inside p i)
      (λ q.
      let t = inside_true p i q in
      store_words_uncovered ps (words_read ps b) c' i (uncovered_below ps (p.at + p.width) hi i o.1 t.1)
      ∙ store_back p.width c p.at i (omega arith) (omega arith) t.0 t.1)
      (λ q. stored_back ps c' (p.at + p.width) hi i o.1 g (rw length_store h) (rw q at e))

  -- ---- a type's words written again

  module _ (n : ℕ) (t : Ty) (o : Ordered (places n t) 0 (extent_of n t)) (room : extent_of n t ≤ length b) where
    abbrev ps : List Place
    ps = places n t

    abbrev again : List ℕ
    again = written n t (words_read ps b) b

    again_covered : (i : ℕ) → is_covered ps i ≡ true → get_or again i 0 ≡ get_or b i 0
    unfolding written
    again_covered i e =
        stored_back ps (replicate (extent_of n t) 0 ++ drop (extent_of n t) b) 0 (extent_of n t) i o room
        (simp (length-append, length-replicate, length-drop) (omega arith)) e

    again_byte : (i : ℕ) → get_or again i 0 ≡ clean_byte ps (extent_of n t) i (get_or b i 0)
    again_byte i =
        yes_or_no (is_covered ps i)
        (λ e. again_covered i e ∙ sym (byte_covered ps (extent_of n t) i (get_or b i 0) e))
        (λ e.
        yes_or_no (ltb i (extent_of n t))
        (λ l.
        let low = ltb-true i (extent_of n t) l in
        written_zero n t _ b i low (false_uncovered ps i e) ∙ sym (byte_gap ps (extent_of n t) i (get_or b i 0) low e))
        (λ l.
        let past = ltb-false i (extent_of n t) l in
        written_later n t _ b i o past ∙ sym (byte_later ps (extent_of n t) i (get_or b i 0) past)))

    -- A type's words, read from a buffer and written there again, clean it.
    pub written_cleans : written n t (words_read (places n t) b) b ≡ cleaned n t b
    unfolding cleaned
    written_cleans =
        ext_get_or 0 again (cleaned n t b) (length_written n t _ b room ∙ sym (clean_length ps (extent_of n t) 0 b))
        (λ i l. again_byte i ∙ sym (clean_byte_lem ps (extent_of n t) b i))
