-- Writing (crates/wgsl, specs/Call) by what the code finds: the laws of crates/walk_decide (proofs/Calls), over the numbers of a layout.
--
-- In order: once the entry is decided; a type of fixed size; an open type.
-- Assumes nothing.
use Rattle.std.specs.Prelude.{None, Some}
use Prim.Native.Nat.{ℕ, ◌+◌, ◌*◌, ◌<◌, ◌≤◌}
use mathlib.Core.Bool.{true, false}
use mathlib.Core.List.{List}
use mathlib.Core.Path.{◌≡◌, sym, ◌∙◌}
use lib.ListN.{length}
use Rattle.wgsl.specs.Types.{Ty, is_open}
use Rattle.wgsl.specs.Said.{good, refused}
use Rattle.wgsl.specs.Place.{extent_of, word_count}
use Rattle.wgsl.specs.Call.{entry_for, write_call, write_type, write_elements, write_words}
use Rattle.wgsl.proofs.Said.{then_is, then_refused}
use Rattle.wgsl.proofs.Opened.{opened_extent}
use Rattle.wgsl.proofs.Tail.{closed_extent}
use Rattle.layout_values.specs.declared.value.Value.{Value}
use Rattle.layout_values.specs.Value.{words_in}
use Rattle.walk_decide.specs.declared.Rest.{Rest}
use Rattle.walk_decide.specs.Decide.{elements_of, extent_for}
use Rattle.walk_decide.specs.Whole.{Ready, TailedBy}
use Rattle.walk_decide.proofs.Whole.{ready_words}
use Rattle.walk_decide.proofs.ReadyBounds.{size_is, tailed_open, tailed_words}
use Rattle.walk_decide.proofs.CallSteps.{closed_wrong, closed_right, open_wrong, open_right, extent_short, extent_there, held_short, held_there}

-- ---- once the entry is decided

module _ (f : List ℕ) (e : ℕ) (ws b : List ℕ) where
  pub write_refused : {number place : ℕ} → entry_for true f e b ≡ refused number place → write_call f e ws b ≡ refused number place
  unfolding write_call
  write_refused h = then_refused _ h

  pub write_allowed : {t : Ty} → entry_for true f e b ≡ good t → write_call f e ws b ≡ write_type t ws b
  unfolding write_call write_type
  write_allowed h = then_is _ h

-- ---- a type of fixed size

pub fixed_extent : {ms : List ℕ} {table : List Value} {e : ℕ} {l : Value} {t : Ty} → Ready ms table e l t → is_open t ≡ false → l.size ≡ extent_of 0 t
fixed_extent {t = t} r o = size_is r ∙ sym (closed_extent 0 t o)

module _ {ms : List ℕ} {table : List Value} {e : ℕ} {l : Value} {t : Ty} (r : Ready ms table e l t) (o : is_open t ≡ false) (ws b : List ℕ) where
  pub wrong_words : (length ws ≡ words_in l → ⊥) → write_type t ws b ≡ refused 14 0
  wrong_words h = closed_wrong t r.well_formed o ws b (λ q. h (q ∙ ready_words r))

  right : length ws ≡ words_in l → write_type t ws b ≡ write_elements 0 t ws b
  right h = closed_right t r.well_formed o ws b (h ∙ sym (ready_words r))

  pub few_bytes : length ws ≡ words_in l → length b < l.size → write_type t ws b ≡ refused 15 0
  few_bytes h k = right h ∙ held_short 0 t ws b (rw (fixed_extent r o) at k)

  pub all_there : length ws ≡ words_in l → l.size ≤ length b → write_type t ws b ≡ write_words 0 t ws b
  all_there h k = right h ∙ held_there 0 t ws b (rw (fixed_extent r o) at k)

-- ---- an open type

module _ {ms : List ℕ} {table : List Value} {e : ℕ} {x : Rest} {t : Ty} (y : TailedBy ms table e x t) (ws b : List ℕ) where
  words_are : (n : ℕ) → word_count n t ≡ x.fixed + n * x.value.unit
  words_are n = rw y.tail_is (tailed_words y.tailed n)

  extent_is : (n : ℕ) → extent_of n t ≡ x.offset + n * x.value.stride
  extent_is n = rw y.tail_is (opened_extent y.tailed.opened n)

  pub no_elements : elements_of (length ws) x.fixed x.value.unit ≡ None → write_type t ws b ≡ refused 14 0
  no_elements h = open_wrong t (tailed_open y.tailed) x.fixed x.value.unit words_are ws b h

  pub some_elements : {n : ℕ} → elements_of (length ws) x.fixed x.value.unit ≡ Some n → (length ws ≡ word_count n t) × (1 ≤ n) × (write_type t ws b ≡ write_elements n t ws b)
  some_elements h = open_right t (tailed_open y.tailed) x.fixed x.value.unit words_are ws b h

  pub no_room : (n : ℕ) → extent_for (length b) x.offset x.value.stride n ≡ None → write_elements n t ws b ≡ refused 15 0
  no_room n h = extent_short t x.offset x.value.stride extent_is n ws b h

  pub room : (n : ℕ) {k : ℕ} → extent_for (length b) x.offset x.value.stride n ≡ Some k → (k ≡ extent_of n t) × (k ≤ length b) × (write_elements n t ws b ≡ write_words n t ws b)
  room n h = extent_there t x.offset x.value.stride extent_is n ws b h
