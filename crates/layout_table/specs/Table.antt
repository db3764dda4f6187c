-- What the table promises: the values of all entries of an accepted file, in the words of crates/wgsl.
--
-- In order: the whole table; the entry that a call speaks of; the lower entries of one that is judged.
-- Definitions only. Assumes nothing.
use Rattle.std.specs.Prelude.{ℕ, ◌+◌, ◌*◌, ◌<◌, ◌≤◌, ◌≡◌, List, length, Err, Ok, Result}
use Rattle.wgsl.specs.Types.{Ty}
use Rattle.wgsl.specs.Said.{Said, good, refused, ◌>>=◌}
use Rattle.wgsl.specs.File as wgsl
use Rattle.wgsl.specs.File.{trailer_of, TypeEntry, type_entry_at, most_members}
use Rattle.wgsl.specs.Rule.{types_of}
use Rattle.wgsl.specs.Call.{entry_of}
use Rattle.said.specs.Refusal.{number_of, place_of}
use Rattle.file.specs.Fields.{trailer_is}
use Rattle.file.specs.Members.{members_start, member_length}
use Rattle.layout_values.specs.Value.{value_of, values_of}
use Rattle.layout_structs.specs.SoFar.{Lower}
use Rattle.layout_table.specs.declared.Ground.{Ground}
use Rattle.said.specs.declared.refusal.Refusal.{Refusal}
use Rattle.file.specs.declared.trailer.Trailer.{Trailer}
use Rattle.layout_values.specs.declared.value.Value.{Value}

-- ---- the whole table

-- the trailer of an accepted file, and its values
pub record Table : Type 0 where
  pub trailer : wgsl.Trailer
  pub values : List Value

-- "A table of 256 layouts"; none where the file is refused
unfoldable pub table_of : List ℕ → Said Table
table_of f = do
  ts ← types_of f
  good (record { trailer = trailer_of f; values = values_of f ts })

abbrev pub said_table : Result Trailer Refusal → List Value → Said Table
said_table (Ok t) table = good (record { trailer = trailer_is t; values = table })
said_table (Err r) table = refused (number_of r) (place_of r)

-- the trailer alone
unfoldable pub accepted_trailer : List ℕ → Said wgsl.Trailer
accepted_trailer f = do
  ts ← types_of f
  good (trailer_of f)

abbrev pub said_checked : Result Trailer Refusal → Said wgsl.Trailer
said_checked (Ok t) = good (trailer_is t)
said_checked (Err r) = refused (number_of r) (place_of r)

-- ---- the entry that a call speaks of

-- entry e, of the type t
unfoldable pub ground_of : List ℕ → ℕ → Ty → Ground
ground_of f e t =
    record {
      value = value_of (member_length f) (type_entry_at f e).reference t;
      start = members_start f;
      end = members_start f + member_length f * (trailer_of f).members;
    }

-- an entry, and the table that it stands in
pub record InTable : Type 0 where
  pub ground : Ground
  pub table : List Value

-- 1 to 7, 24, 8
unfoldable pub ground_in : List ℕ → ℕ → Said InTable
ground_in f e = do
  ts ← types_of f
  t ← entry_of f e
  good (record { ground = ground_of f e t; table = values_of f ts })

abbrev pub said_ground : Result Ground Refusal → List Value → Said InTable
said_ground (Ok g) table = good (record { ground = g; table = table })
said_ground (Err r) table = refused (number_of r) (place_of r)

-- ---- the lower entries of one that is judged

-- entry k of a file whose trailer is good, with the fields e, over the lower ones, whose types are ts: its M member entries begin at `base`
-- and are so long
pub record Upward (f : List ℕ) (k : ℕ) (e : TypeEntry) (base members long : ℕ) (table : List Value) (ts : List Ty) : Type 0 where
  pub is_entry : e ≡ type_entry_at f k
  pub base_is : base ≡ members_start f
  pub members_is : members ≡ (trailer_of f).members
  pub long_is : long ≡ member_length f
  pub inside : base + long * members ≤ length f
  pub few : members ≤ most_members
  pub lower : Lower f table k ts
  pub table_inside : k < length table
