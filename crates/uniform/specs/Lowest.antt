-- The lowest broken entry (crates/wgsl, specs/Uniform), upward from entry 0: what is told of each entry, by what is told of those that it
-- refers to.
--
-- In order: what an entry refers to, by its value; the lowest number told of some entries; what is told of an entry; what it means; the
-- answer.
-- Definitions only. Assumes nothing.
use Rattle.std.specs.Prelude.{ℕ, zero, suc, ◌+◌, ◌*◌, ◌<◌, ◌≤◌, min, ◌≡◌, true, false, cond, List, [], ◌∷◌, eqb, ltb, length, get_or}
use Rattle.wgsl.specs.Types.{Ty, is_scalar_kind, struct_kind}
use Rattle.wgsl.specs.File.{most_types, member_fields_length}
use Rattle.wgsl.specs.Said.{Said, good, refused}
use Rattle.wgsl.specs.Uniform.{is_broken}
use Rattle.wgsl.specs.Claim.{Reaches}
use Rattle.layout_values.specs.declared.value.Value.{Value}
use Rattle.layout_values.specs.Value.{value_at}
use Rattle.walk_trees.specs.Slot.{member_at}
use Rattle.uniform_rules.specs.Keeps.{keeps_by, KeepsAsk}

-- ---- what an entry refers to

-- the types of so many members, whose entries of `length` bytes begin at byte m
unfoldable pub types_at : List ℕ → ℕ → ℕ → ℕ → List ℕ
types_at ms length zero m = []
types_at ms length (suc count) m = (member_at ms m).type ∷ types_at ms length count (m + length)

-- these entries are there, and something is told of so many entries, their types among them
unfoldable pub TypesInside : List ℕ → ℕ → ℕ → ℕ → ℕ → Type 0
TypesInside ms told long zero m = Unit {0}
TypesInside ms told long (suc count) m =
    (m + member_fields_length ≤ length ms) × ((member_at ms m).type < told) × TypesInside ms told long count (m + long)

-- what an entry of the value l refers to
unfoldable pub refers_by : List ℕ → Value → List ℕ
refers_by ms l =
    cond (is_scalar_kind l.kind) []
    (cond (eqb l.kind struct_kind) (types_at ms l.stride l.count (l.reference * l.stride)) (l.reference ∷ []))

pub record RefersInside (ms : List ℕ) (told : ℕ) (l : Value) : Type 0 where
  pub members : l.kind ≡ struct_kind → TypesInside ms told l.stride l.count (l.reference * l.stride)
  pub reference : is_scalar_kind l.kind ≡ false → (l.kind ≡ struct_kind → ⊥) → l.reference < told

-- ---- the lowest number told of some entries

-- none
abbrev pub no_entry : ℕ
no_entry = most_types

unfoldable pub lowest_among : List ℕ → List ℕ → ℕ
lowest_among told [] = no_entry
lowest_among told (r ∷ rs) = min (get_or told r 0) (lowest_among told rs)

-- ---- what is told of entry k, whatever it refers to being lower

unfoldable pub lowest_by : List ℕ → List Value → List ℕ → ℕ → ℕ
lowest_by ms table told k =
    let l : Value = value_at table k in
    let low : ℕ = lowest_among told (refers_by ms l) in
    cond (ltb low no_entry) low (cond (keeps_by ms table l) no_entry k)

pub record LowestAsks (ms : List ℕ) (table : List Value) (told k : ℕ) : Type 0 where
  pub inside : k < length table
  pub few : k < no_entry
  pub refers_inside : RefersInside ms told (value_at table k)
  pub keeps_ask : KeepsAsk ms table (value_at table k)

-- ---- what it means

-- n is the lowest broken entry among entry k and those that it reaches, or none
pub record IsLowest (f : List ℕ) (ts : List Ty) (k n : ℕ) : Type 0 where
  pub lowest : (j : ℕ) → Reaches f k j → is_broken ts j ≡ true → n ≤ j
  pub there : n < no_entry → Reaches f k n × (is_broken ts n ≡ true)
  pub bounded : n ≤ no_entry

-- ---- the answer

unfoldable pub verdict_of : ℕ → Said ℕ
verdict_of low = cond (eqb low no_entry) (good 0) (refused 19 low)
