-- Sets and clears of a site block, one after the other (specs/StartClaim).
--
-- In order: what a set answers; what one change leaves; what it answers; what a member shows after it; lists of them; a bit that stays.
-- Assumes nothing.
use Prim.Native.Nat.{ℕ, ◌+◌, ◌-◌, ◌<◌, ◌≤◌}
use mathlib.Core.List.{List, [], ◌∷◌, map}
use mathlib.Core.Bool.{Bool, true, false, cond, not, or-false, and-true, and-false}
use mathlib.Core.Path.{◌≡◌, refl, ap, sym, ◌∙◌}
use mathlib.Core.Logic.{◌⊎◌, ⊎_elim, ⊎_map}
use native.Mathlib.Omega.{arith}
use borrow.Author.Tests.{eqb-true, eqb-false, not-true}
use lib.Dec.{eqb}
use lib.ListN.{length, get_or, drop}
use lib.Seq.{get_or-take, get_or-drop}
use Rattle.wgsl.specs.Types.{Ty}
use Rattle.wgsl.specs.Said.{Said, good, refused, ◌>>=◌, ◌>>◌}
use Rattle.wgsl.specs.Place.{span_of, word_places, store_words}
use Rattle.wgsl.specs.Path.{Target, walk, step_of}
use Rattle.wgsl.specs.Call.{Done, answer_of, set_scalar, set_target}
use Rattle.wgsl.specs.BitField.{bit_at}
use Rattle.wgsl.specs.Site.{with_bit, without_bit, member_of, member_call, shown_in, SiteDone, copied_in, site_set_call, site_answer, site_after, mask_set, clear_call, zero_of, mask_after}
use Rattle.wgsl.specs.SiteClaim.{bytes_in, shown_bytes, IsBlock}
use Rattle.wgsl.specs.StartClaim.{Kept, Change, set, clear, answer_to, left_by, answers_to, left_after, is_clear, is_set, never_clears, never_sets}
use Rattle.wgsl.proofs.Absent.{both_hold, true_not_false}
use Rattle.wgsl.proofs.Said.{good_not_refused, then_is, then_refused}
use Rattle.wgsl.proofs.Word.{length_store_words}
use Rattle.wgsl.proofs.Site.{entry_if, block_is, block_if, member_inside, cleared, words_same, part_same, can_store, shown_room, site_set, site_done}

-- ---- what a set answers

module _ {A : Type 0} (m : Said A) where
  then_answer : (p q : A → Said Done) → ((a : A) → answer_of (p a) ≡ answer_of (q a)) → answer_of (◌>>=◌ m p) ≡ answer_of (◌>>=◌ m q)
  unfolding ◌>>=◌ answer_of
  then_answer p q h = go m
    where
      go : (s : Said A) → answer_of (◌>>=◌ s p) ≡ answer_of (◌>>=◌ s q)
      go (good a) = h a
      go (refused number place) = refl

  next_answer : (p q : Said Done) → answer_of p ≡ answer_of q → answer_of (◌>>◌ m p) ≡ answer_of (◌>>◌ m q)
  unfolding ◌>>◌ answer_of
  next_answer p q h = go m
    where
      go : (s : Said A) → answer_of (◌>>◌ s p) ≡ answer_of (◌>>◌ s q)
      go (good a) = h
      go (refused number place) = refl

-- it does not depend on what the buffer holds
set_answer : (u : Target) (ws a b : List ℕ) → answer_of (set_target u ws a) ≡ answer_of (set_target u ws b)
unfolding set_target set_scalar answer_of
set_answer u ws a b =
    then_answer _ _ _ (λ s. next_answer _ _ _ (next_answer _ _ _ refl))

-- and so on site neither on the buffers nor on the mask, once the member is found
module _ (f : List ℕ) (e k : ℕ) (steps ws : List ℕ) where
  by_member : (mask : ℕ) (x site : List ℕ) (m : Target) → member_call f e k mask x site ≡ good m → site_answer (site_set_call f e k steps ws mask x site) ≡ answer_of (◌>>=◌ (walk 0 m.offset m.shape (map step_of steps)) (λ u. set_target u ws []))
  unfolding site_set_call site_answer answer_of ◌>>=◌
  by_member mask x site m h =
      ap site_answer (then_is _ h) ∙ at (walk 0 m.offset m.shape (map step_of steps))
    where
      stored : (s : Said Done) → site_answer (◌>>=◌ s (λ d. good (site_done d.value d.contents (with_bit mask k)))) ≡ answer_of s
      stored (good d) = refl
      stored (refused number place) = refl

      at : (s : Said Target) → site_answer (◌>>=◌ s (λ u. ◌>>=◌ (set_target u ws (copied_in m mask k x site)) (λ d. good (site_done d.value d.contents (with_bit mask k))))) ≡ answer_of (◌>>=◌ s (λ u. set_target u ws []))
      at (good u) = stored (set_target u ws (copied_in m mask k x site)) ∙ set_answer u ws _ []
      at (refused number place) = refl

  by_none : (mask : ℕ) (x site : List ℕ) {number place : ℕ} → member_call f e k mask x site ≡ refused number place → site_answer (site_set_call f e k steps ws mask x site) ≡ refused number place
  unfolding site_set_call site_answer
  by_none mask x site h = ap site_answer (then_refused _ h)

-- ---- what one change leaves

-- in a block the member is looked for in its type
pub in_type : {f : List ℕ} {e mask : ℕ} {x site : List ℕ} {t : Ty} → IsBlock f e mask x site t → (k : ℕ) → member_call f e k mask x site ≡ member_of t k
unfolding member_call
in_type b k = then_is _ (block_if b)

-- clearing too
in_entry : {f : List ℕ} {e mask : ℕ} {x site : List ℕ} {t : Ty} → IsBlock f e mask x site t → (k : ℕ) → clear_call f e k mask ≡ ◌>>=◌ (member_of t k) (λ m. good (without_bit mask k))
unfolding clear_call
in_entry b k =
    then_is _ (entry_if (record { entry = b.entry; storable = b.storable; block = b.block; within = omega arith }))

-- It leaves a block.
pub left_block : {f : List ℕ} {e : ℕ} {x : List ℕ} {t : Ty} (a : Kept) (c : Change) → IsBlock f e a.mask x a.site t → IsBlock f e (left_by f e x c a).mask x (left_by f e x c a).site t
unfolding left_by mask_set site_after mask_after
left_block {f} {e} {x} {t} a (set k steps ws) b = go (site_set_call f e k steps ws a.mask x a.site) refl
  where
    go : (s : Said SiteDone) → site_set_call f e k steps ws a.mask x a.site ≡ s → IsBlock f e (mask_set a.mask s) x (site_after a.site s) t
    go (good d) h = block_is ((site_set h).again ∙ block_if b)
    go (refused number place) h = b
left_block {f} {e} {x} {t} a (clear k) b = go (clear_call f e k a.mask) refl
  where
    go : (s : Said ℕ) → clear_call f e k a.mask ≡ s → IsBlock f e (mask_after a.mask s) x a.site t
    go (good after) h = block_is ((cleared h).again x a.site ∙ block_if b)
    go (refused number place) h = b

-- ---- what it answers

-- Two blocks of one type answer alike.
pub answers_alike : {f : List ℕ} {e : ℕ} {x y : List ℕ} {t : Ty} (a b : Kept) (c : Change) → IsBlock f e a.mask x a.site t → IsBlock f e b.mask y b.site t → answer_to f e x c a ≡ answer_to f e y c b
unfolding answer_to zero_of ◌>>=◌
answers_alike {f} {e} {x} {y} {t} a b (set k steps ws) p q = go (member_of t k) refl
  where
    go : (s : Said Target) → member_of t k ≡ s → site_answer (site_set_call f e k steps ws a.mask x a.site) ≡ site_answer (site_set_call f e k steps ws b.mask y b.site)
    go (good m) h =
        by_member f e k steps ws a.mask x a.site m (in_type p k ∙ h)
        ∙ sym (by_member f e k steps ws b.mask y b.site m (in_type q k ∙ h))
    go (refused number place) h =
        by_none f e k steps ws a.mask x a.site (in_type p k ∙ h)
        ∙ sym (by_none f e k steps ws b.mask y b.site (in_type q k ∙ h))
answers_alike {f} {e} {x} {y} {t} a b (clear k) p q =
    ap zero_of (in_entry p k) ∙ go (member_of t k) ∙ sym (ap zero_of (in_entry q k))
  where
    go : (s : Said Target) → zero_of (◌>>=◌ s (λ m. good (without_bit a.mask k))) ≡ zero_of (◌>>=◌ s (λ m. good (without_bit b.mask k)))
    go (good m) = refl
    go (refused number place) = refl

-- ---- what a member shows after it

-- the byte at i of two buffers that have the same bytes of a member
byte_same : (n : Target) (a b : List ℕ) → bytes_in n a ≡ bytes_in n b → (i : ℕ) → n.offset ≤ i → i < n.offset + span_of n.shape → get_or a i 0 ≡ get_or b i 0
byte_same n a b same i lo hi =
    sym (at a) ∙ ap (λ (l : List ℕ). get_or l (i - n.offset) 0) same ∙ at b
  where
    at : (c : List ℕ) → get_or (bytes_in n c) (i - n.offset) 0 ≡ get_or c i 0
    at c =
        let is : n.offset + (i - n.offset) ≡ i = omega arith in
        get_or-take (span_of n.shape) (drop n.offset c) (i - n.offset) 0 (omega arith)
        ∙ get_or-drop n.offset c (i - n.offset) 0
        ∙ ap (λ (j : ℕ). get_or c j 0) is

-- what a set on site changes, and what it leaves, in two blocks that show the same bytes of member k, which lies at n
module _ {f : List ℕ} {e : ℕ} {x y : List ℕ} {t : Ty} (a b : Kept) (p : IsBlock f e a.mask x a.site t) (q : IsBlock f e b.mask y b.site t) (k : ℕ) (n : Target) (found : member_of t k ≡ good n) (same : shown_bytes n a.mask k x a.site ≡ shown_bytes n b.mask k y b.site) where
  -- what member k is shown in
  abbrev shown_a : List ℕ
  shown_a = shown_in a.mask k x a.site

  abbrev shown_b : List ℕ
  shown_b = shown_in b.mask k y b.site

  inside : n.offset + span_of n.shape ≤ length shown_a × n.offset + span_of n.shape ≤ length shown_b
  inside =
      let i = (member_inside f e a.mask x a.site t k n (block_if p) found).1 in (
        shown_room n a.mask k x a.site (omega (arith, i, p.factory_room)) (omega (arith, i, p.site_room)),
        shown_room n b.mask k y b.site (omega (arith, i, q.factory_room)) (omega (arith, i, q.site_room)),
      )

  -- a set in member k itself
  set_own : (steps ws : List ℕ) (d d' : SiteDone) → site_set_call f e k steps ws a.mask x a.site ≡ good d → site_set_call f e k steps ws b.mask y b.site ≡ good d' → shown_bytes n d.mask k x d.site ≡ shown_bytes n d'.mask k y d'.site
  set_own steps ws d d' h h' =
      let s = site_set h in
      let s' = site_set h' in
      let m : s.member ≡ n = cc (s.asked, in_type p k, found) in
      let m' : s'.member ≡ n = cc (s'.asked, in_type q k, found) in
      let u : s'.target ≡ s.target = cc (s.led, s'.led, m, m') in
      let c = can_store s.target ws shown_a s.replaced s.would in
      let ps = word_places c.scalar_there s.target.offset in
      let is : s.replaced.contents ≡ store_words ps ws shown_a = cc (s.would, c.stores shown_a) in
      let is' : s'.replaced.contents ≡ store_words ps ws shown_b = cc (s'.would, c.stores shown_b, u) in
      rw m at s.shows
      ∙ ap (bytes_in n) is
      ∙ part_same (span_of n.shape) n.offset (store_words ps ws shown_a) (store_words ps ws shown_b) (rw length_store_words inside.0)
      (rw length_store_words inside.1) (λ i lo hi.
      words_same i ps ws shown_a shown_b (omega (arith, inside.0)) (omega (arith, inside.1)) (byte_same n shown_a shown_b same i lo hi))
      ∙ sym (rw m' at s'.shows ∙ ap (bytes_in n) is')

  -- a set in any member
  set_alike : (j : ℕ) (steps ws : List ℕ) → shown_bytes n (left_by f e x (set j steps ws) a).mask k x (left_by f e x (set j steps ws) a).site ≡ shown_bytes n (left_by f e y (set j steps ws) b).mask k y (left_by f e y (set j steps ws) b).site
  unfolding left_by answer_to site_answer site_after mask_set
  set_alike j steps ws = go _ _ refl refl (answers_alike a b (set j steps ws) p q)
    where
      done_alike : (d d' : SiteDone) (own : Bool) → eqb k j ≡ own → site_set_call f e j steps ws a.mask x a.site ≡ good d → site_set_call f e j steps ws b.mask y b.site ≡ good d' → shown_bytes n d.mask k x d.site ≡ shown_bytes n d'.mask k y d'.site
      done_alike d d' true z h h' =
          let is = eqb-true k j z in
          set_own steps ws d d' (rw (← is) at h) (rw (← is) at h')
      done_alike d d' false z h h' =
          let differ = eqb-false k j z in
          (site_set h).others k n differ (in_type p k ∙ found) ∙ same ∙ sym ((site_set h').others k n differ (in_type q k ∙ found))

      go : (s s' : Said SiteDone) → site_set_call f e j steps ws a.mask x a.site ≡ s → site_set_call f e j steps ws b.mask y b.site ≡ s' → site_answer s ≡ site_answer s' → shown_bytes n (mask_set a.mask s) k x (site_after a.site s) ≡ shown_bytes n (mask_set b.mask s') k y (site_after b.site s')
      go (good d) (good d') h h' z = done_alike d d' (eqb k j) refl h h'
      go (good d) (refused number place) h h' z = good_not_refused refl z
      go (refused number place) (good d') h h' z = good_not_refused refl (sym z)
      go (refused number place) (refused number' place') h h' z = same

  -- a member cleared; where it is member k, both factory buffers have the same bytes of it
  clear_alike : (j : ℕ) → (eqb k j ≡ false) ⊎ (bytes_in n x ≡ bytes_in n y) → shown_bytes n (left_by f e x (clear j) a).mask k x a.site ≡ shown_bytes n (left_by f e y (clear j) b).mask k y b.site
  unfolding left_by answer_to zero_of mask_after shown_in
  clear_alike j either = go _ _ refl refl (answers_alike a b (clear j) p q)
    where
      bits : (own : Bool) → eqb k j ≡ own → (after after' : ℕ) → clear_call f e j a.mask ≡ good after → clear_call f e j b.mask ≡ good after' → bytes_in n (cond (bit_at after k) a.site x) ≡ bytes_in n (cond (bit_at after' k) b.site y)
      bits true z after after' h h' =
          let off : bit_at after k ≡ false = (cleared h).bits k ∙ rw z (and-false (bit_at a.mask k)) in
          let off' : bit_at after' k ≡ false = (cleared h').bits k ∙ rw z (and-false (bit_at b.mask k)) in
          rw (off, off') (⊎_elim (λ (no : eqb k j ≡ false). true_not_false z no) (λ (yes : bytes_in n x ≡ bytes_in n y). yes) either)
      bits false z after after' h h' =
          let on : bit_at after k ≡ bit_at a.mask k = (cleared h).bits k ∙ rw z (and-true (bit_at a.mask k)) in
          let on' : bit_at after' k ≡ bit_at b.mask k = (cleared h').bits k ∙ rw z (and-true (bit_at b.mask k)) in
          rw (on, on') same

      go : (s s' : Said ℕ) → clear_call f e j a.mask ≡ s → clear_call f e j b.mask ≡ s' → zero_of s ≡ zero_of s' → bytes_in n (cond (bit_at (mask_after a.mask s) k) a.site x) ≡ bytes_in n (cond (bit_at (mask_after b.mask s') k) b.site y)
      go (good after) (good after') h h' z = bits (eqb k j) refl after after' h h'
      go (good after) (refused number place) h h' z = good_not_refused refl z
      go (refused number place) (good after') h h' z = good_not_refused refl (sym z)
      go (refused number place) (refused number' place') h h' z = same

-- ---- lists of changes

-- two blocks of one type, each beside its factory buffer, that show the same bytes of a member
pub record AlikeAt (f : List ℕ) (e : ℕ) (t : Ty) (k : ℕ) (n : Target) (x : List ℕ) (a : Kept) (y : List ℕ) (b : Kept) : Type 0 where
  pub here : IsBlock f e a.mask x a.site t
  pub there : IsBlock f e b.mask y b.site t
  pub same : shown_bytes n a.mask k x a.site ≡ shown_bytes n b.mask k y b.site

-- Any list of changes is answered alike in two blocks of one type,
pub list_answers : {f : List ℕ} {e : ℕ} {x y : List ℕ} {t : Ty} (cs : List Change) (a b : Kept) → IsBlock f e a.mask x a.site t → IsBlock f e b.mask y b.site t → answers_to f e x cs a ≡ answers_to f e y cs b
unfolding answers_to
list_answers [] a b p q = refl
list_answers {f} {e} {x} {y} (c ∷ cs) a b p q =
    rw (answers_alike a b c p q, list_answers cs (left_by f e x c a) (left_by f e y c b) (left_block a c p) (left_block b c q)) refl

-- leaves both blocks,
pub left_blocks : {f : List ℕ} {e : ℕ} {x : List ℕ} {t : Ty} (cs : List Change) (a : Kept) → IsBlock f e a.mask x a.site t → IsBlock f e (left_after f e x cs a).mask x (left_after f e x cs a).site t
unfolding left_after
left_blocks [] a p = p
left_blocks {f} {e} {x} (c ∷ cs) a p = left_blocks cs (left_by f e x c a) (left_block a c p)

module _ {f : List ℕ} {e : ℕ} {t : Ty} {k : ℕ} {n : Target} {x y : List ℕ} (found : member_of t k ≡ good n) where
  one_alike : (c : Change) (a b : Kept) → (is_clear k c ≡ false) ⊎ (bytes_in n x ≡ bytes_in n y) → AlikeAt f e t k n x a y b → AlikeAt f e t k n x (left_by f e x c a) y (left_by f e y c b)
  unfolding left_by is_clear
  one_alike (set j steps ws) a b either z = record {
    here = left_block a (set j steps ws) z.here;
    there = left_block b (set j steps ws) z.there;
    same = set_alike a b z.here z.there k n found z.same j steps ws;
  }
  one_alike (clear j) a b either z = record {
    here = left_block a (clear j) z.here;
    there = left_block b (clear j) z.there;
    same = clear_alike a b z.here z.there k n found z.same j either;
  }

  -- and a member that both showed alike they still show alike, unless it is cleared and their factory buffers differ in it.
  pub list_alike : (cs : List Change) (a b : Kept) → (never_clears k cs ≡ true) ⊎ (bytes_in n x ≡ bytes_in n y) → AlikeAt f e t k n x a y b → AlikeAt f e t k n x (left_after f e x cs a) y (left_after f e y cs b)
  unfolding left_after never_clears
  list_alike [] a b either z = z
  list_alike (c ∷ cs) a b either z =
      let first : (is_clear k c ≡ false) ⊎ (bytes_in n x ≡ bytes_in n y) = ⊎_map (λ h. not-true (is_clear k c) (both_hold (not (is_clear k c)) (never_clears k cs) h).0) (λ h. h) either in
      let rest : (never_clears k cs ≡ true) ⊎ (bytes_in n x ≡ bytes_in n y) = ⊎_map (λ h. (both_hold (not (is_clear k c)) (never_clears k cs) h).1) (λ h. h) either in
      list_alike cs (left_by f e x c a) (left_by f e y c b) rest (one_alike c a b first z)

-- ---- a bit that stays

module _ (f : List ℕ) (e : ℕ) (x : List ℕ) (k : ℕ) where
  set_bits : (j : ℕ) (steps ws : List ℕ) (a : Kept) → (bit_at a.mask k ≡ true → bit_at (left_by f e x (set j steps ws) a).mask k ≡ true) × (eqb k j ≡ false → bit_at (left_by f e x (set j steps ws) a).mask k ≡ bit_at a.mask k)
  unfolding left_by mask_set
  set_bits j steps ws a = go (site_set_call f e j steps ws a.mask x a.site) refl
    where
      go : (s : Said SiteDone) → site_set_call f e j steps ws a.mask x a.site ≡ s → (bit_at a.mask k ≡ true → bit_at (mask_set a.mask s) k ≡ true) × (eqb k j ≡ false → bit_at (mask_set a.mask s) k ≡ bit_at a.mask k)
      go (good d) h =
          let bits = (site_set h).bits k in
          (λ on. bits ∙ rw on refl, λ other. bits ∙ rw other (or-false (bit_at a.mask k)))
      go (refused number place) h = (λ on. on, λ other. refl)

  clear_bits : (j : ℕ) (a : Kept) → (bit_at a.mask k ≡ false → bit_at (left_by f e x (clear j) a).mask k ≡ false) × (eqb k j ≡ false → bit_at (left_by f e x (clear j) a).mask k ≡ bit_at a.mask k)
  unfolding left_by mask_after
  clear_bits j a = go (clear_call f e j a.mask) refl
    where
      go : (s : Said ℕ) → clear_call f e j a.mask ≡ s → (bit_at a.mask k ≡ false → bit_at (mask_after a.mask s) k ≡ false) × (eqb k j ≡ false → bit_at (mask_after a.mask s) k ≡ bit_at a.mask k)
      go (good after) h =
          let bits = (cleared h).bits k in
          (λ off. bits ∙ rw off refl, λ other. bits ∙ rw other (and-true (bit_at a.mask k)))
      go (refused number place) h = (λ off. off, λ other. refl)

  -- A bit that is set stays so until its member is cleared,
  pub stays_set : (cs : List Change) (a : Kept) → never_clears k cs ≡ true → bit_at a.mask k ≡ true → bit_at (left_after f e x cs a).mask k ≡ true
  unfolding left_after never_clears is_clear
  stays_set [] a never on = on
  stays_set (set j steps ws ∷ cs) a never on = stays_set cs (left_by f e x (set j steps ws) a) never ((set_bits j steps ws a).0 on)
  stays_set (clear j ∷ cs) a never on =
      let h = both_hold _ _ never in
      stays_set cs (left_by f e x (clear j) a) h.1 ((clear_bits j a).1 (not-true (eqb k j) h.0) ∙ on)

  -- and one that is clear until a scalar is set in its member.
  pub stays_clear : (cs : List Change) (a : Kept) → never_sets k cs ≡ true → bit_at a.mask k ≡ false → bit_at (left_after f e x cs a).mask k ≡ false
  unfolding left_after never_sets is_set
  stays_clear [] a never off = off
  stays_clear (set j steps ws ∷ cs) a never off =
      let h = both_hold _ _ never in
      stays_clear cs (left_by f e x (set j steps ws) a) h.1 ((set_bits j steps ws a).1 (not-true (eqb k j) h.0) ∙ off)
  stays_clear (clear j ∷ cs) a never off = stays_clear cs (left_by f e x (clear j) a) never ((clear_bits j a).0 off)
