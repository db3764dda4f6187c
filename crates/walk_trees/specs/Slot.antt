-- Where a member lies, by the table and the member entries of a file; and which words lie one after the other.
--
-- In order: words that lie one after the other; the elements of an array; a member's place; a member further on.
-- Definitions only. Assumes nothing.
use Rattle.std.specs.Prelude.{ℕ, zero, suc, ◌+◌, ◌*◌, ◌<◌, ◌≤◌, cond, List, eqb, ltb, length}
use Rattle.layout_members.specs.Given.{or_own}
use Rattle.wgsl.specs.Round.{IsPower, up, limit}
use Rattle.wgsl.specs.File.{MemberEntry, member_entry_from, given_size, given_align, member_fields_length}
use Rattle.wgsl.specs.Types.{array_kind, runtime_kind}
use Rattle.layout_values.specs.declared.value.Value.{Value}
use Rattle.layout_values.specs.Value.{value_at, words_in}
use Rattle.walk_trees.specs.declared.Series.{Series}
use Rattle.walk_trees.specs.declared.Slot.{Slot}

-- ---- words that lie one after the other

-- so many words of this width fill so many bytes: the width, else 0
unfoldable pub touching : ℕ → ℕ → ℕ → ℕ
touching bytes words width = cond (eqb bytes (words * width)) width 0

-- the width of a type's words, where they fill its size; else 0
unfoldable pub packed_as : Value → ℕ
packed_as l = cond (eqb l.size 0) 0 (touching l.size (words_in l) l.narrow)

-- the width of the words of each part of a type that is no struct, where they lie one after the other; else 0
unfoldable pub part_width : List Value → Value → ℕ
part_width table l =
    cond (ltb l.kind array_kind) l.narrow
    (cond (ltb runtime_kind l.kind) l.narrow (packed_as (value_at table l.reference)))

-- the width of the words of entry e, whatever the number of its elements, where they lie one after the other; else 0
unfoldable pub run_at : List Value → ℕ → ℕ
run_at table e =
    let l : Value = value_at table e in
    cond (eqb l.kind runtime_kind) (touching l.stride l.unit (part_width table l)) (packed_as l)

-- the words of a value are within the limit
abbrev pub Counted : Value → Type 0
Counted l = words_in l ≤ limit

-- what an array refers to is there
pub record Referring (table : List Value) (l : Value) : Type 0 where
  pub inside : array_kind ≤ l.kind → l.kind ≤ runtime_kind → l.reference < length table
  pub counted : array_kind ≤ l.kind → l.kind ≤ runtime_kind → Counted (value_at table l.reference)

-- what looking for the run of entry e asks
pub record RunAsks (table : List Value) (e : ℕ) : Type 0 where
  pub inside : e < length table
  pub counted : Counted (value_at table e)
  pub referring : Referring table (value_at table e)

-- a value, but for its count
unfoldable pub with_count : ℕ → Value → Value
with_count n l =
    record {
      kind = l.kind;
      narrow = l.narrow;
      reference = l.reference;
      count = n;
      unit = l.unit;
      stride = l.stride;
      size = l.size;
      align = l.align;
    }

-- ---- the elements of an array

abbrev pub series_of : Value → Series
series_of l = record { count = l.count; unit = l.unit; stride = l.stride }

-- ---- a member's place; its entry begins at byte m of the member entries

abbrev pub member_at : List ℕ → ℕ → MemberEntry
member_at ms m = member_entry_from ms m

-- the value of a member's type
abbrev pub member_value : List ℕ → List Value → ℕ → Value
member_value ms table m = value_at table (member_at ms m).type

abbrev pub member_align : List ℕ → List Value → ℕ → ℕ
member_align ms table m = or_own (given_align (member_at ms m)) (member_value ms table m).align

abbrev pub member_size : List ℕ → List Value → ℕ → ℕ
member_size ms table m = or_own (given_size (member_at ms m)) (member_value ms table m).size

-- the member at m, where the one before it ended at `end`
unfoldable pub slot_at : List ℕ → List Value → ℕ → ℕ → Slot
slot_at ms table m end =
    record {
      ty = (member_at ms m).type;
      start = up (member_align ms table m) end;
      end = up (member_align ms table m) end + member_size ms table m;
      words = words_in (member_value ms table m);
    }

-- its entry and its type's value are there, and its start is within the limit
pub record SlotAsks (ms : List ℕ) (table : List Value) (m end : ℕ) : Type 0 where
  pub inside : m + member_fields_length ≤ length ms
  pub type_inside : (member_at ms m).type < length table
  pub counted : Counted (member_value ms table m)
  pub power : IsPower (member_align ms table m)
  pub low : up (member_align ms table m) end ≤ limit

-- ---- a member further on, where member entries are so many bytes long

-- member i of those from m on, where the one before them ended at `end`
unfoldable pub slot_in : List ℕ → List Value → ℕ → ℕ → ℕ → ℕ → Slot
slot_in ms table length m end zero = slot_at ms table m end
slot_in ms table length m end (suc i) = slot_in ms table length (m + length) (slot_at ms table m end).end i

-- it and those before it can be placed
unfoldable pub SlotsAsk : List ℕ → List Value → ℕ → ℕ → ℕ → ℕ → Type 0
SlotsAsk ms table length m end zero = SlotAsks ms table m end
SlotsAsk ms table length m end (suc i) =
    SlotAsks ms table m end × SlotsAsk ms table length (m + length) (slot_at ms table m end).end i
