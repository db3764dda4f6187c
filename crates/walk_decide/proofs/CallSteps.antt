-- The steps of write and read once 10 is decided (specs/Whole), by what the code finds.
--
-- In order: a type of fixed size; an open type: the elements that words fill, where they end, and the elements that bytes hold; what is
-- left when those are known.
-- Assumes nothing.
use Rattle.std.specs.Prelude.{None, Option, Some, ℕ}
use Prim.Native.Nat.{ℕ, suc, ◌+◌, ◌-◌, ◌*◌, ◌/◌, ◌<◌, ◌≤◌}
use mathlib.Core.Bool.{Bool, true, false, cond, not, ◌&&◌, ◌||◌}
use mathlib.Core.List.{List, ◌++◌}
use mathlib.Core.Option.{some}
use mathlib.Core.Path.{◌≡◌, refl, ap, sym, ◌∙◌}
use native.Mathlib.Omega.{arith}
use native.Mathlib.Nat.{div-mul-le_self, div-le_self}
use borrow.Author.Tests.{eq-eqb, ne_eqb, lt-ltb, le-ltb, eqb-true, eqb-false, leb-true, leb-false}
use lib.Dec.{eqb, leb}
use lib.ListN.{length, drop}
use Rattle.wgsl.specs.Types.{Ty, is_open, everywhere}
use Rattle.wgsl.specs.Size.{present, size_of}
use Rattle.wgsl.specs.Said.{good, refused, ◌>>◌, refuse}
use Rattle.wgsl.specs.Rule.{is_well_formed}
use Rattle.wgsl.specs.Place.{tail_of, extent_of, elements_by, elements_in, places_of, places, word_count, written, words_read, check_words}
use Rattle.wgsl.specs.Call.{is_short, elements_for, is_wrong_count, write_type, read_type, write_elements, write_words, read_elements}
use Rattle.wgsl.proofs.Tail.{closed_tail, closed_extent}
use Rattle.wgsl.proofs.Closed.{closed_shape}
use Rattle.walk_decide.specs.Decide.{elements_of, extent_for, elements_found}

-- ---- a type of fixed size

module _ (t : Ty) (w : everywhere is_well_formed t ≡ true) (o : is_open t ≡ false) where
  closed_places : (n : ℕ) → places n t ≡ places 0 t
  unfolding places
  closed_places n = ap (λ x. places_of x 0) (closed_shape t w o n 0)

  closed_words : (n : ℕ) → word_count n t ≡ word_count 0 t
  unfolding word_count
  closed_words n = ap length (closed_places n)

  module _ (ws b : List ℕ) where
    pub closed_wrong : (length ws ≡ word_count 0 t → ⊥) → write_type t ws b ≡ refused 14 0
    unfolding write_type is_wrong_count ◌>>◌ refuse
    closed_wrong h =
        let n = elements_for (length ws) t in
        rw (closed_words n, ne_eqb (length ws) (word_count 0 t) h) refl

    pub closed_right : length ws ≡ word_count 0 t → write_type t ws b ≡ write_elements 0 t ws b
    unfolding write_type write_elements write_words is_wrong_count written ◌>>◌ refuse
    closed_right e =
        let n = elements_for (length ws) t in
        rw (closed_words n, eq-eqb (length ws) (word_count 0 t) e, o, closed_places n, closed_extent n t o, closed_extent 0 t o) refl

    pub closed_short : length b < present (size_of t) → read_type t b ws ≡ refused 15 0
    unfolding read_type is_short ◌>>◌ refuse
    closed_short h = rw (o, lt-ltb (length b) (present (size_of t)) h) refl

    pub closed_there : present (size_of t) ≤ length b → read_type t b ws ≡ read_elements 0 t b ws
    unfolding read_type read_elements is_short elements_in elements_by ◌>>◌ refuse
    closed_there h = rw (o, le-ltb (length b) (present (size_of t)) h, closed_tail t o) refl

-- ---- an open type

-- which answer it is
abbrev tag : Option ℕ → ℕ
tag (Some k) = suc k
tag None = 0

is_not_no : {A : Type 0} {k : ℕ} → Some k ≡ None → A
is_not_no {k = k} q = let e : suc k ≡ 0 = ap tag q in absurd (omega arith)

is_same : {j k : ℕ} → Some j ≡ Some k → j ≡ k
is_same {j} {k} q = let e : suc j ≡ suc k = ap tag q in omega arith

-- the elements that words fill
module _ (t : Ty) (o : is_open t ≡ true) (fixed unit : ℕ) (words_are : (n : ℕ) → word_count n t ≡ fixed + n * unit) (ws b : List ℕ) where
  abbrev filled : ℕ
  filled = (length ws - fixed) / unit

  elements_are : elements_for (length ws) t ≡ filled
  unfolding elements_for
  elements_are =
      let z : word_count 0 t ≡ fixed = omega (arith, words_are 0) in
      let one : word_count 1 t - word_count 0 t ≡ unit = omega (arith, words_are 0, words_are 1) in
      rw (one, z) refl

  -- the two tests of 14, as `elements_of` makes them
  tests : (p q : Bool) → eqb (length ws) (fixed + filled * unit) ≡ p → eqb filled 0 ≡ q → is_wrong_count t ws ≡ (not p || q)
  unfolding is_wrong_count
  tests p q hp hq = rw (elements_are, words_are filled, hp, hq, o) refl

  answers : (p q : Bool) → eqb (length ws) (fixed + filled * unit) ≡ p → eqb filled 0 ≡ q → elements_of (length ws) fixed unit ≡ cond (p && not q) (Some filled) None
  unfolding elements_of
  answers p q hp hq = rw (hp, hq) refl

  pub open_wrong : elements_of (length ws) fixed unit ≡ None → write_type t ws b ≡ refused 14 0
  unfolding write_type ◌>>◌ refuse
  open_wrong e = go (eqb (length ws) (fixed + filled * unit)) (eqb filled 0) refl refl
    where
      go : (p q : Bool) → eqb (length ws) (fixed + filled * unit) ≡ p → eqb filled 0 ≡ q → write_type t ws b ≡ refused 14 0
      go true true hp hq = rw (tests true true hp hq) refl
      go true false hp hq = is_not_no (sym (answers true false hp hq) ∙ e)
      go false q hp hq = rw (tests false q hp hq) refl

  pub open_right : {k : ℕ} → elements_of (length ws) fixed unit ≡ Some k → (length ws ≡ word_count k t) × (1 ≤ k) × (write_type t ws b ≡ write_elements k t ws b)
  unfolding write_type write_elements ◌>>◌ refuse
  open_right {k} e = go (eqb (length ws) (fixed + filled * unit)) (eqb filled 0) refl refl
    where
      go : (p q : Bool) → eqb (length ws) (fixed + filled * unit) ≡ p → eqb filled 0 ≡ q → (length ws ≡ word_count k t) × (1 ≤ k) × (write_type t ws b ≡ write_elements k t ws b)
      go true true hp hq = is_not_no (sym e ∙ answers true true hp hq)
      go true false hp hq =
          let same : filled ≡ k = is_same (sym (answers true false hp hq) ∙ e) in
          rw (← same) (
            eqb-true (length ws) (fixed + filled * unit) hp ∙ sym (words_are filled),
            (let d : ¬ (filled ≡ 0) = eqb-false filled 0 hq in omega arith),
            rw (tests true false hp hq, elements_are) refl,
          )
      go false q hp hq = is_not_no (sym e ∙ answers false q hp hq)

-- where elements end
module _ (t : Ty) (offset stride : ℕ) (extent_is : (n : ℕ) → extent_of n t ≡ offset + n * stride) (n : ℕ) (ws b : List ℕ) where
  pub extent_short : extent_for (length b) offset stride n ≡ None → write_elements n t ws b ≡ refused 15 0
  unfolding extent_for write_elements ◌>>◌ refuse
  extent_short e = go (leb (offset + n * stride) (length b)) refl
    where
      go : (p : Bool) → leb (offset + n * stride) (length b) ≡ p → write_elements n t ws b ≡ refused 15 0
      go true h = is_not_no {k = offset + n * stride} (sym (rw h refl) ∙ e)
      go false h = rw (extent_is n, lt-ltb (length b) (offset + n * stride) (leb-false (offset + n * stride) (length b) h)) refl

  pub extent_there : {k : ℕ} → extent_for (length b) offset stride n ≡ Some k → (k ≡ extent_of n t) × (k ≤ length b) × (write_elements n t ws b ≡ write_words n t ws b)
  unfolding extent_for write_elements write_words ◌>>◌ refuse
  extent_there {k} e = go (leb (offset + n * stride) (length b)) refl
    where
      go : (p : Bool) → leb (offset + n * stride) (length b) ≡ p → (k ≡ extent_of n t) × (k ≤ length b) × (write_elements n t ws b ≡ write_words n t ws b)
      go true h =
          let same : offset + n * stride ≡ k = is_same (sym (rw h refl) ∙ e) in
          let room = leb-true (offset + n * stride) (length b) h in
          (omega (arith, extent_is n), omega arith, rw (extent_is n, le-ltb (length b) (offset + n * stride) room) refl)
      go false h = is_not_no (sym e ∙ rw h refl)

-- the elements that bytes hold
module _ (bytes offset stride : ℕ) where
  abbrev held : ℕ
  held = (bytes - offset) / stride

  found_zero : elements_found bytes offset stride ≡ None → eqb held 0 ≡ true
  unfolding elements_found
  found_zero e = go (eqb held 0) refl
    where
      go : (p : Bool) → eqb held 0 ≡ p → p ≡ true
      go true h = refl
      go false h = is_not_no {k = held} (sym (rw h refl) ∙ e)

  found_above : {k : ℕ} → elements_found bytes offset stride ≡ Some k → (eqb held 0 ≡ false) × (held ≡ k)
  unfolding elements_found
  found_above {k} e = go (eqb held 0) refl
    where
      go : (p : Bool) → eqb held 0 ≡ p → (p ≡ false) × (held ≡ k)
      go true h = is_not_no (sym e ∙ rw h refl)
      go false h = (refl, is_same (sym (rw h refl) ∙ e))

  -- They end inside the bytes.
  pub found_inside : {k : ℕ} → elements_found bytes offset stride ≡ Some k → offset + k * stride ≤ bytes
  found_inside e =
      let x = found_above e in
      let d : ¬ (held ≡ 0) = eqb-false held 0 x.0 in
      rw (← x.1) (omega (arith, div-mul-le_self (bytes - offset) stride, div-le_self (bytes - offset) stride))

module _ (t : Ty) (o : is_open t ≡ true) (offset stride : ℕ) (tail_is : tail_of t ≡ some (record { offset = offset; stride = stride })) where
  held_is : (bytes : ℕ) → elements_in bytes t ≡ held bytes offset stride
  unfolding elements_in elements_by
  held_is bytes = rw tail_is refl

  -- what 15 says of them
  pub found_short : (b : List ℕ) → elements_found (length b) offset stride ≡ None → is_short t b ≡ true
  unfolding is_short
  found_short b e = rw (o, held_is (length b)) (found_zero (length b) offset stride e)

  pub found_there : (b : List ℕ) {k : ℕ} → elements_found (length b) offset stride ≡ Some k → (is_short t b ≡ false) × (elements_in (length b) t ≡ k)
  unfolding is_short
  found_there b e =
      let x = found_above (length b) offset stride e in
      (rw (o, held_is (length b)) x.0, held_is (length b) ∙ x.1)

  module _ (ws b : List ℕ) where
    pub elements_short : elements_found (length b) offset stride ≡ None → read_type t b ws ≡ refused 15 0
    unfolding read_type ◌>>◌ refuse
    elements_short e = rw (found_short b e) refl

    pub elements_there : {k : ℕ} → elements_found (length b) offset stride ≡ Some k → (offset + k * stride ≤ length b) × (read_type t b ws ≡ read_elements k t b ws)
    unfolding read_type read_elements ◌>>◌ refuse
    elements_there e =
        let x = found_there b e in
        (found_inside (length b) offset stride e, rw (x.0, x.1) refl)

-- ---- what is left

module _ (n : ℕ) (t : Ty) (ws b : List ℕ) where
  pub held_short : length b < extent_of n t → write_elements n t ws b ≡ refused 15 0
  unfolding write_elements ◌>>◌ refuse
  held_short h = rw (lt-ltb (length b) (extent_of n t) h) refl

  pub held_there : extent_of n t ≤ length b → write_elements n t ws b ≡ write_words n t ws b
  unfolding write_elements write_words ◌>>◌ refuse
  held_there h = rw (le-ltb (length b) (extent_of n t) h) refl

  pub stored_bad : {number place : ℕ} → refused number place ≡ check_words 0 (places n t) ws → write_words n t ws b ≡ refused number place
  unfolding write_words ◌>>◌
  stored_bad e = rw (← e) refl

  pub stored_done : good tt ≡ check_words 0 (places n t) ws → write_words n t ws b ≡ good (record { value = extent_of n t; contents = written n t ws b })
  unfolding write_words ◌>>◌
  stored_done e = rw (← e) refl

  pub loaded_few : length ws < word_count n t → read_elements n t b ws ≡ refused 14 0
  unfolding read_elements ◌>>◌ refuse
  loaded_few h = rw (lt-ltb (length ws) (word_count n t) h) refl

  pub loaded_done : word_count n t ≤ length ws → read_elements n t b ws ≡ good (record { value = word_count n t; contents = words_read (places n t) b ++ drop (word_count n t) ws })
  unfolding read_elements ◌>>◌ refuse
  loaded_done h = rw (le-ltb (length ws) (word_count n t) h) refl
