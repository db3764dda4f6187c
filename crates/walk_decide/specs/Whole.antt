-- What writing and reading whole entries ask of the table (the steps of the two calls are crates/wgsl's, specs/Call).
--
-- In order: an entry of the table; an open entry; an entry with n elements.
-- Definitions only. Assumes nothing.
use Rattle.std.specs.Prelude.{ℕ, ◌+◌, ◌*◌, ◌<◌, ◌≤◌, ◌⊎◌, ◌≡◌, true, List, ◌++◌}
use Rattle.wgsl.specs.Types.{Ty, runtime, everywhere}
use Rattle.wgsl.specs.Size.{is_storable}
use Rattle.wgsl.specs.Rule.{is_well_formed}
use Rattle.wgsl.specs.Place.{extent_of, Shape, shape_of, span_of, places_of, places, word_count}
use Rattle.wgsl.specs.Shapes.{Opened}
use Rattle.layout_values.specs.declared.value.Value.{Value}
use Rattle.layout_values.specs.Value.{value_of}
use Rattle.runs.specs.Run.{run_places}
use Rattle.walk_trees.specs.Slot.{run_at, Counted, RunAsks, with_count}
use Rattle.walk_trees.specs.Tree.{Many, Tree}
use Rattle.walk_decide.specs.declared.Rest.{Rest}
use Rattle.walk_decide.specs.Decide.{rest_from, Findable}

-- ---- an entry of the table

-- a run of words of this width over all the bytes of the type with n elements
pub record Covered (t : Ty) (n width : ℕ) : Type 0 where
  pub two_or_four : (width ≡ 2) ⊎ (width ≡ 4)
  pub count : ℕ
  pub places_are : places n t ≡ run_places count width 0
  pub extent_is : extent_of n t ≡ count * width

-- entry e, of the storable type t and the value l
pub record Ready (ms : List ℕ) (table : List Value) (e : ℕ) (l : Value) (t : Ty) : Type 0 where
  pub is_layout : l ≡ value_of l.stride l.reference t
  pub well_formed : everywhere is_well_formed t ≡ true
  pub storable : is_storable t ≡ true
  pub counted : Counted l
  pub run_asks : RunAsks table e
  pub tree : Tree ms table e (shape_of 0 t)
  pub covered : (run_at table e ≡ 0 → ⊥) → (n : ℕ) → Covered t n (run_at table e)

-- ---- an open entry

pub record Tailed (ms : List ℕ) (table : List Value) (e : ℕ) (l : Value) (t : Ty) : Type 0 where
  pub ready : Ready ms table e l t
  pub findable : Findable ms table l
  pub element : Ty
  pub opened : Opened t element (record { offset = (rest_from ms table l).offset; stride = (rest_from ms table l).value.stride })
  pub fixed_is : word_count 0 t ≡ (rest_from ms table l).fixed
  pub many : (n : ℕ) → Many ms table (with_count n (rest_from ms table l).value) (shape_of n (runtime element))
  pub unit_is : (n : ℕ) → word_count n element ≡ (rest_from ms table l).value.unit
  pub unit_above : 0 < (rest_from ms table l).value.unit

-- .. whose tail is x
pub record TailedBy (ms : List ℕ) (table : List Value) (e : ℕ) (x : Rest) (t : Ty) : Type 0 where
  pub layout : Value
  pub tailed : Tailed ms table e layout t
  pub tail_is : x ≡ rest_from ms table layout

-- ---- an entry with n elements

-- entry e, of the type t with n elements: its fixed part, and the tail x after it
pub record Whole (ms : List ℕ) (table : List Value) (e : ℕ) (x : Rest) (t : Ty) (n : ℕ) : Type 0 where
  pub run_asks : RunAsks table e
  pub tree : Tree ms table e (shape_of 0 t)
  pub rest : Shape
  pub many : Many ms table x.value rest
  pub places_are : places n t ≡ places 0 t ++ places_of rest x.offset
  pub fixed_is : word_count 0 t ≡ x.fixed
  pub fixed_inside : span_of (shape_of 0 t) ≤ extent_of n t
  pub rest_inside : x.offset + span_of rest ≤ extent_of n t
  pub covered : (run_at table e ≡ 0 → ⊥) → Covered t n (run_at table e)
