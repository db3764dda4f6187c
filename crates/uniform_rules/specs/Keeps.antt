-- The rules of the uniform profile for one type (crates/wgsl, specs/Uniform), by its value and the slots of its members.
--
-- In order: one member; all members of a struct; what placing them asks; every kind.
-- Definitions only. Assumes nothing.
use Rattle.std.specs.Prelude.{ℕ, zero, suc, ◌+◌, ◌*◌, ◌%◌, max, ◌≡◌, Bool, true, cond, not, ◌&&◌, ◌||◌, List, eqb, leb}
use Rattle.wgsl.specs.Round.{up}
use Rattle.wgsl.specs.Types.{array_kind, atomic_kind, struct_kind}
use Rattle.wgsl.specs.Uniform.{uniform_unit}
use Rattle.layout_values.specs.declared.value.Value.{Value}
use Rattle.walk_trees.specs.declared.Slot.{Slot}
use Rattle.walk_trees.specs.Slot.{member_value, slot_at, SlotAsks}

-- ---- one member

-- a type of this kind is a struct or an array
unfoldable pub is_raised : ℕ → Bool
is_raised kind = leb array_kind kind && leb kind struct_kind && not (eqb kind atomic_kind)

-- a member of the value l may start there
unfoldable pub start_keeps : Value → ℕ → ℕ → Bool
start_keeps l earliest start = leb earliest start && (not (is_raised l.kind) || eqb (start % uniform_unit) 0)

-- where those after it may start
unfoldable pub earliest_by : Value → ℕ → ℕ → ℕ
earliest_by l earliest start =
    cond (eqb l.kind struct_kind) (max earliest (start + up uniform_unit l.size)) earliest

-- ---- all members of a struct, whose entries of so many bytes begin at byte m; the one before them ended at `end`

unfoldable pub slots_keep : List ℕ → List Value → ℕ → ℕ → ℕ → ℕ → ℕ → Bool
slots_keep ms table length zero m end earliest = true
slots_keep ms table length (suc count) m end earliest =
    let l : Value = member_value ms table m in
    let s : Slot = slot_at ms table m end in
    start_keeps l earliest s.start
    && slots_keep ms table length count (m + length) s.end (earliest_by l earliest s.start)

-- all of them can be placed
unfoldable pub SlotsAll : List ℕ → List Value → ℕ → ℕ → ℕ → ℕ → Type 0
SlotsAll ms table length zero m end = Unit {0}
SlotsAll ms table length (suc count) m end =
    SlotAsks ms table m end × SlotsAll ms table length count (m + length) (slot_at ms table m end).end

-- ---- every kind

unfoldable pub keeps_by : List ℕ → List Value → Value → Bool
keeps_by ms table l =
    cond (eqb l.kind struct_kind) (slots_keep ms table l.stride l.count (l.reference * l.stride) 0 0)
    (cond (is_raised l.kind) (eqb (l.stride % uniform_unit) 0) (not (eqb l.kind atomic_kind)))

-- what asking it takes: the members of a struct can be placed
pub record KeepsAsk (ms : List ℕ) (table : List Value) (l : Value) : Type 0 where
  pub slots_all : l.kind ≡ struct_kind → SlotsAll ms table l.stride l.count (l.reference * l.stride) 0
