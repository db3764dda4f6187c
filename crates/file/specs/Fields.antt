-- What the code's records of a file's fields say, in the words of crates/wgsl.
-- Definitions only. Assumes nothing.
use Rattle.std.specs.Prelude.{ℕ, Err, Ok, Result}
use Rattle.wgsl.specs.Said.{Said, good, refused}
use Rattle.wgsl.specs.File as wgsl
use Rattle.file.specs.declared.trailer.Trailer.{Trailer}
use Rattle.file.specs.declared.fields.TypeEntry.{TypeEntry}
use Rattle.file.specs.declared.fields.MemberEntry.{MemberEntry}
use Rattle.said.specs.Refusal.{number_of, place_of}
use Rattle.said.specs.declared.refusal.Refusal.{Refusal}

abbrev pub trailer_over : ℕ → ℕ → ℕ → ℕ → wgsl.Trailer
trailer_over types members start form = record { types = types; members = members; start = start; form = form }

abbrev pub trailer_is : Trailer → wgsl.Trailer
trailer_is t = record { types = t.types; members = t.members; start = t.start; form = t.form }

abbrev pub said_trailer : Result Trailer Refusal → Said wgsl.Trailer
said_trailer (Ok t) = good (trailer_is t)
said_trailer (Err r) = refused (number_of r) (place_of r)

abbrev pub entry_is : TypeEntry → wgsl.TypeEntry
entry_is e =
    record {
      kind = e.kind;
      columns = e.columns;
      rows = e.rows;
      zero3 = e.zero3;
      reference = e.reference;
      zero6 = e.zero6;
      count = e.count;
    }

abbrev pub member_is : MemberEntry → wgsl.MemberEntry
member_is m = record { type = m.ty; flags = m.flags; size = m.size; align = m.align }
