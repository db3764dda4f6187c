-- Reading (crates/wgsl, specs/Call) by what the code finds: the laws of crates/walk_decide (proofs/Calls), over the numbers of a layout.
--
-- In order: once the entry is decided; a type of fixed size; an open type.
-- Assumes nothing.
use Rattle.std.specs.Prelude.{None, Some}
use Prim.Native.Nat.{ℕ, ◌<◌, ◌≤◌}
use mathlib.Core.Bool.{true, false}
use mathlib.Core.List.{List, ◌++◌}
use mathlib.Core.Path.{◌≡◌, ◌∙◌}
use native.Mathlib.Omega.{arith}
use lib.ListN.{length, drop}
use Rattle.wgsl.specs.Types.{Ty, is_open}
use Rattle.wgsl.specs.Said.{good, refused}
use Rattle.wgsl.specs.Place.{extent_of, places, word_count, words_read}
use Rattle.wgsl.specs.Call.{entry_for, read_call, read_type, read_elements}
use Rattle.wgsl.proofs.Said.{then_is, then_refused}
use Rattle.wgsl.proofs.Opened.{opened_extent}
use Rattle.layout_values.specs.declared.value.Value.{Value}
use Rattle.layout_values.specs.Value.{words_in}
use Rattle.walk_decide.specs.declared.Rest.{Rest}
use Rattle.walk_decide.specs.Decide.{elements_found, rest_from}
use Rattle.walk_decide.specs.Whole.{Ready, Tailed, TailedBy}
use Rattle.walk_decide.proofs.Whole.{ready_words}
use Rattle.walk_decide.proofs.ReadyBounds.{size_is, tailed_open}
use Rattle.walk_decide.proofs.CallSteps.{closed_short, closed_there, elements_short, elements_there, loaded_few, loaded_done}

-- ---- once the entry is decided

module _ (f : List ℕ) (e : ℕ) (b ws : List ℕ) where
  pub read_refused : {number place : ℕ} → entry_for true f e b ≡ refused number place → read_call f e b ws ≡ refused number place
  unfolding read_call
  read_refused h = then_refused _ h

  pub read_allowed : {t : Ty} → entry_for true f e b ≡ good t → read_call f e b ws ≡ read_type t b ws
  unfolding read_call read_type
  read_allowed h = then_is _ h

-- ---- a type of fixed size

module _ {ms : List ℕ} {table : List Value} {e : ℕ} {l : Value} {t : Ty} (r : Ready ms table e l t) (o : is_open t ≡ false) (b ws : List ℕ) where
  pub few_bytes : length b < l.size → read_type t b ws ≡ refused 15 0
  few_bytes h = closed_short t r.well_formed o ws b (rw (size_is r) at h)

  enough : l.size ≤ length b → read_type t b ws ≡ read_elements 0 t b ws
  enough h = closed_there t r.well_formed o ws b (rw (size_is r) at h)

  pub few_words : l.size ≤ length b → length ws < words_in l → read_type t b ws ≡ refused 14 0
  few_words h k = enough h ∙ loaded_few 0 t ws b (omega (arith, ready_words r))

  pub all_read : l.size ≤ length b → words_in l ≤ length ws → read_type t b ws ≡ good (record { value = word_count 0 t; contents = words_read (places 0 t) b ++ drop (word_count 0 t) ws })
  all_read h k = enough h ∙ loaded_done 0 t ws b (omega (arith, ready_words r))

-- ---- an open type

-- the tail that is found
pub tailed_by : {ms : List ℕ} {table : List Value} {e : ℕ} {l : Value} {x : Rest} {t : Ty} → Tailed ms table e l t → x ≡ rest_from ms table l → TailedBy ms table e x t
tailed_by y is = record { layout = _; tailed = y; tail_is = is }

module _ {ms : List ℕ} {table : List Value} {e : ℕ} {x : Rest} {t : Ty} (y : TailedBy ms table e x t) (b ws : List ℕ) where
  pub no_elements : elements_found (length b) x.offset x.value.stride ≡ None → read_type t b ws ≡ refused 15 0
  no_elements h =
      let z = y.tailed in
      elements_short t (tailed_open z) x.offset x.value.stride (rw y.tail_is z.opened.tail_is) ws b h

  pub some_elements : {n : ℕ} → elements_found (length b) x.offset x.value.stride ≡ Some n → (extent_of n t ≤ length b) × (read_type t b ws ≡ read_elements n t b ws)
  some_elements {n} h =
      let z = y.tailed in
      let there = elements_there t (tailed_open z) x.offset x.value.stride (rw y.tail_is z.opened.tail_is) ws b h in
      (rw (opened_extent z.opened n, ← y.tail_is) there.0, there.1)
