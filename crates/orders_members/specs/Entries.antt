-- The members of a struct, by the member entries of an accepted file and its table.
--
-- In order: one member entry; so many of them, one after the other; the members of an entry; a member's key.
-- Definitions only. Assumes nothing.
use Rattle.std.specs.Prelude.{ℕ, zero, suc, ◌+◌, ◌*◌, ◌<◌, ◌≤◌, true, cond, List, ◌≡◌, length}
use Rattle.std.proofs.Math.Option.{Option}
use Rattle.wgsl.specs.Types.{Ty, struct, Members, no_more, member, is_runtime, everywhere, struct_kind}
use Rattle.wgsl.specs.Size.{given_or, present, align_of}
use Rattle.wgsl.specs.File.{given_size, given_align, rest_is_zero, member_fields_length}
use Rattle.wgsl.specs.Rule.{count_of, member_allowed, given_size_fits, given_align_fits, is_well_formed}
use Rattle.layout_values.specs.declared.value.Value.{Value}
use Rattle.layout_values.specs.Value.{value_of}
use Rattle.walk_trees.specs.Slot.{member_at, member_value}

-- ---- one member entry

-- the entry at byte m of the member entries is of the type t, with this size and align given, and has passed 5 to 7
pub record Entered (bytes : List ℕ) (table : List Value) (m : ℕ) (t : Ty) (size align : Option ℕ) : Type 0 where
  pub inside : m + member_fields_length ≤ length bytes
  pub type_inside : (member_at bytes m).type < length table
  pub value_is : member_value bytes table m ≡ value_of (member_value bytes table m).stride (member_value bytes table m).reference t
  pub well_formed : everywhere is_well_formed t ≡ true
  pub size_is : given_size (member_at bytes m) ≡ size
  pub align_is : given_align (member_at bytes m) ≡ align
  pub rest_zero : rest_is_zero (member_at bytes m) ≡ true
  pub allowed : member_allowed true t ≡ true
  pub size_fits : given_size_fits t size ≡ true
  pub align_fits : given_align_fits t align ≡ true

-- ---- so many of them

-- so many member entries of `long` bytes from byte m on are these members
pub data Entries (bytes : List ℕ) (table : List Value) (long : ℕ) : ℕ → ℕ → Members → Type 0 where
  none : {m : ℕ} → Entries bytes table long zero m no_more
  more : {c m : ℕ} {t : Ty} {size align : Option ℕ} {ms : Members} → Entered bytes table m t size align → Entries bytes table long c (m + long) ms → Entries bytes table long (suc c) m (member t size align ms)

-- ---- the members of an entry

-- a struct of the value l, whose members are ms
pub record Struct (bytes : List ℕ) (table : List Value) (l : Value) (ms : Members) : Type 0 where
  pub number : ℕ
  pub value_is : l ≡ value_of l.stride l.reference (struct number ms)
  pub well_formed : everywhere is_well_formed (struct number ms) ≡ true
  pub kind_is : l.kind ≡ struct_kind
  pub count_is : l.count ≡ count_of ms
  pub entries : Entries bytes table l.stride l.count (l.reference * l.stride) ms
  pub few : l.count ≤ 1024
  pub inside : (l.reference + l.count) * l.stride ≤ length bytes

-- ---- a member's key

-- its alignment, given or its type's; 0 of a runtime array
unfoldable pub key_of : Ty → Option ℕ → ℕ
key_of t align = cond (is_runtime t) 0 (present (given_or align (align_of t)))
