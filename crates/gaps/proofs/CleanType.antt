-- Cleaning (crates/wgsl, specs/Clean) by what the code finds: the laws of crates/walk_decide (proofs/CallSteps), over the numbers of a layout.
--
-- In order: once the entry is decided; a type of fixed size; an open type; an entry with n elements, swept.
-- Assumes nothing.
use Rattle.std.specs.Prelude.{None, Some}
use Prim.Native.Nat.{ℕ, ◌+◌, ◌*◌, ◌<◌, ◌≤◌}
use mathlib.Core.Bool.{true, false}
use mathlib.Core.List.{List}
use mathlib.Core.Path.{◌≡◌, refl, ap, sym, ◌∙◌}
use native.Mathlib.Omega.{arith}
use borrow.Author.Tests.{lt-ltb, le-ltb}
use lib.ListN.{length}
use Rattle.wgsl.specs.Round.{limit}
use Rattle.wgsl.specs.Types.{Ty, is_open}
use Rattle.wgsl.specs.Said.{good, refused, ◌>>◌, refuse}
use Rattle.wgsl.specs.Place.{extent_of, elements_by, elements_in, shape_of, places_of, places}
use Rattle.wgsl.specs.Claim.{Ordered}
use Rattle.wgsl.specs.Call.{entry_for, is_short}
use Rattle.wgsl.specs.Clean.{cleaned, done_from, clean_type, clean_call}
use Rattle.wgsl.proofs.Said.{then_is, then_refused}
use Rattle.wgsl.proofs.Tail.{closed_tail}
use Rattle.wgsl.proofs.Opened.{opened_extent}
use Rattle.layout_values.specs.declared.value.Value.{Value}
use Rattle.runs.specs.Fold.{over_places}
use Rattle.walk_decide.specs.declared.Rest.{Rest}
use Rattle.walk_decide.specs.Decide.{elements_found, rest_from}
use Rattle.walk_decide.specs.Whole.{Ready, Tailed, TailedBy, Whole}
use Rattle.walk_decide.proofs.Whole.{both_parts}
use Rattle.walk_decide.proofs.ReadyBounds.{size_is, tailed_open}
use Rattle.walk_decide.proofs.CallSteps.{found_inside, found_short, found_there}
use Rattle.gaps_sweep.specs.Sweep.{Swept, sweeping, swept_to, Sweeps}
use Rattle.gaps_sweep.proofs.Sweep.{Keeps, keeps_both, sweep_keeps, keeps_to, keeps_countable, start_countable, any_number}
use Rattle.gaps_sweep.proofs.Cleaned.{sweep_cleans}

-- ---- once the entry is decided

module _ (f : List ℕ) (e : ℕ) (b : List ℕ) where
  pub clean_refused : {number place : ℕ} → entry_for true f e b ≡ refused number place → clean_call f e b ≡ refused number place
  unfolding clean_call
  clean_refused h = then_refused _ h

  pub clean_allowed : {t : Ty} → entry_for true f e b ≡ good t → clean_call f e b ≡ clean_type t b
  unfolding clean_call clean_type
  clean_allowed h = then_is _ h

-- ---- a type of fixed size

module _ {ms : List ℕ} {table : List Value} {e : ℕ} {l : Value} {t : Ty} (r : Ready ms table e l t) (o : is_open t ≡ false) (b : List ℕ) where
  pub few_bytes : length b < l.size → clean_type t b ≡ refused 15 0
  unfolding clean_type is_short ◌>>◌ refuse
  few_bytes h = rw (o, ← size_is r, lt-ltb (length b) l.size h) refl

  pub all_cleaned : l.size ≤ length b → clean_type t b ≡ good (done_from (extent_of 0 t) b (cleaned 0 t b))
  unfolding clean_type is_short elements_in elements_by ◌>>◌ refuse
  all_cleaned h = rw (o, ← size_is r, le-ltb (length b) l.size h, closed_tail t o) refl

-- ---- an open type

pub tailed_by : {ms : List ℕ} {table : List Value} {e : ℕ} {l : Value} {x : Rest} {t : Ty} → Tailed ms table e l t → x ≡ rest_from ms table l → TailedBy ms table e x t
tailed_by {l = l} y is = record { layout = l; tailed = y; tail_is = is }

module _ {ms : List ℕ} {table : List Value} {e : ℕ} {x : Rest} {t : Ty} (y : TailedBy ms table e x t) (b : List ℕ) where
  pub no_elements : elements_found (length b) x.offset x.value.stride ≡ None → clean_type t b ≡ refused 15 0
  unfolding clean_type ◌>>◌ refuse
  no_elements h =
      let z = y.tailed in
      rw (found_short t (tailed_open z) x.offset x.value.stride (rw y.tail_is z.opened.tail_is) b h) refl

  -- They end inside the bytes.
  pub some_elements : {n : ℕ} → elements_found (length b) x.offset x.value.stride ≡ Some n → (x.offset + n * x.value.stride ≡ extent_of n t) × (extent_of n t ≤ length b) × (clean_type t b ≡ good (done_from (extent_of n t) b (cleaned n t b)))
  unfolding clean_type ◌>>◌ refuse
  some_elements {n} h =
      let z = y.tailed in
      let there = found_there t (tailed_open z) x.offset x.value.stride (rw y.tail_is z.opened.tail_is) b h in
      let extent : x.offset + n * x.value.stride ≡ extent_of n t = rw y.tail_is (sym (opened_extent z.opened n)) in
      (extent, rw (← extent) (found_inside (length b) x.offset x.value.stride h), rw (there.0, there.1) refl)

-- ---- an entry with n elements

-- What sweeping both parts and then what is left keeps of the buffer b.
pub kept_whole : {ms : List ℕ} {table : List Value} {e : ℕ} {x : Rest} {t : Ty} {n : ℕ} (w : Whole ms table e x t n) {start fixed both all : Swept} (extent : ℕ) → Sweeps (places_of (shape_of 0 t) 0) start fixed → Sweeps (places_of w.rest x.offset) fixed both → all ≡ swept_to extent both → Keeps start all
kept_whole w {both = both} extent f m is =
    keeps_both (keeps_both (sweep_keeps _ f) (sweep_keeps _ m)) (rw is (keeps_to extent both))

-- What is counted at the end, and where the first is, lies in the buffer.
pub few_told : (b : List ℕ) (extent : ℕ) {s : Swept} → Keeps (record { bytes = b; from = 0; changed = 0; first = extent }) s → extent ≤ length b → length b ≤ limit → (s.changed ≤ limit) × (s.first ≤ limit)
few_told b extent keeps inside few = (
  omega (arith, keeps.long, few, (keeps_countable keeps (start_countable b 0 extent)).counted),
  omega (arith, keeps.long, few, keeps.first_low inside),
)

-- Both parts swept, and then what is left up to the extent, are the whole cleaned.
pub swept_whole : {ms : List ℕ} {table : List Value} {e : ℕ} {x : Rest} {t : Ty} {n : ℕ} (w : Whole ms table e x t n) → Ordered (places n t) 0 (extent_of n t) → (b : List ℕ) → extent_of n t ≤ length b → (s : Swept) → s ≡ swept_to (extent_of n t) (over_places sweeping (places_of w.rest x.offset) 0 (over_places sweeping (places_of (shape_of 0 t) 0) 0 (record { bytes = b; from = 0; changed = 0; first = extent_of n t }))) → record { changed = s.changed; first = s.first; contents = s.bytes } ≡ done_from (extent_of n t) b (cleaned n t b)
unfolding cleaned
swept_whole {x = x} {t = t} {n = n} w o b room s is =
    let start : Swept = record { bytes = b; from = 0; changed = 0; first = extent_of n t } in
    let fixed = over_places sweeping (places_of (shape_of 0 t) 0) 0 start in
    let both = any_number (places_of w.rest x.offset) 0 x.fixed fixed ∙ sym (both_parts w sweeping start) in
    sweep_cleans (places n t) (extent_of n t) b o room s (is ∙ ap (swept_to (extent_of n t)) both)
