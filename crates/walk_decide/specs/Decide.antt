-- What reading and writing decide before they store anything, in the words of crates/wgsl (specs/Call).
--
-- In order: how many elements there are; what lies after the fixed part.
-- Definitions only. Assumes nothing.
use Rattle.std.specs.Prelude.{ℕ, ◌+◌, ◌-◌, ◌*◌, ◌/◌, ◌<◌, ◌≤◌, ◌≡◌, cond, not, ◌&&◌, List, eqb, leb, length, None, Option, Some}
use Rattle.wgsl.specs.Types.{runtime_kind}
use Rattle.layout_values.specs.declared.value.Value.{Value}
use Rattle.layout_values.specs.Value.{value_at, words_in}
use Rattle.walk_trees.specs.declared.Slot.{Slot}
use Rattle.walk_trees.specs.Slot.{with_count, slot_in, SlotsAsk}
use Rattle.walk_decide.specs.declared.Rest.{Rest}

-- ---- how many elements there are

-- "the words beyond the fixed part are a positive multiple of one element's": how many elements
unfoldable pub elements_of : ℕ → ℕ → ℕ → Option ℕ
elements_of words fixed unit =
    let n : ℕ = (words - fixed) / unit in
    cond (eqb words (fixed + n * unit) && not (eqb n 0)) (Some n) None

-- "array offset + elements x stride", if so many bytes are there
unfoldable pub extent_for : ℕ → ℕ → ℕ → ℕ → Option ℕ
extent_for bytes offset stride n = cond (leb (offset + n * stride) bytes) (Some (offset + n * stride)) None

-- "elements = floor((length - array offset) / stride), at least 1"
unfoldable pub elements_found : ℕ → ℕ → ℕ → Option ℕ
elements_found bytes offset stride =
    let n : ℕ = (bytes - offset) / stride in
    cond (eqb n 0) None (Some n)

-- ---- what lies after the fixed part

-- the last member of a struct with the value l
abbrev pub last_slot : List ℕ → List Value → Value → Slot
last_slot ms table l = slot_in ms table l.stride (l.reference * l.stride) 0 (l.count - 1)

-- the runtime array that an entry with the value l is or ends in
unfoldable pub rest_from : List ℕ → List Value → Value → Rest
rest_from ms table l =
    cond (eqb l.kind runtime_kind) (record { value = l; offset = 0; fixed = 0 })
    (record { value = value_at table (last_slot ms table l).ty; offset = (last_slot ms table l).start; fixed = l.unit })

-- what finding it asks
pub record Findable (ms : List ℕ) (table : List Value) (l : Value) : Type 0 where
  pub some_members : (l.kind ≡ runtime_kind → ⊥) → 1 ≤ l.count
  pub slots_ask : (l.kind ≡ runtime_kind → ⊥) → SlotsAsk ms table l.stride (l.reference * l.stride) 0 (l.count - 1)
  pub inside : (l.kind ≡ runtime_kind → ⊥) → (last_slot ms table l).ty < length table

-- so many of its elements
unfoldable pub open_rest : Rest → ℕ → Rest
open_rest x n = record { value = with_count n x.value; offset = x.offset; fixed = x.fixed }

-- nothing after the fixed part: no words of four bytes
unfoldable pub closed_rest : Value → Rest
closed_rest l =
    record {
      value = record { kind = 0; narrow = 4; reference = 0; count = 0; unit = 0; stride = 0; size = 0; align = 0 };
      offset = 0;
      fixed = words_in l;
    }
