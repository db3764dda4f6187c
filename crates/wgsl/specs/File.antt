-- The layout file, as fields of numbers (01, "The layout file").
--
-- In order: the trailer; type entries; member entries; what the flags of a member say; the refusals 1 to 4.
-- Not here: what an entry's fields mean, and which are allowed (`Rule`).
-- A file is a list of bytes. Definitions only. Assumes nothing.
use Rattle.std.specs.Prelude.{ℕ, ◌+◌, ◌-◌, ◌*◌, ◌/◌, ◌%◌, List, Bool, cond, not, ◌&&◌, ◌||◌, length, eqb, ltb, leb}
use Rattle.std.proofs.Math.Option.{Option, none, some}
use Rattle.wgsl.specs.Number.{load}
use Rattle.wgsl.specs.Said.{Said, good, ◌>>◌, refuse}

-- "a 10-byte trailer: types T (u16), members M (u16), start S (u32), form (u16, always 1)"
pub record Trailer : Type 0 where
  pub types : ℕ
  pub members : ℕ
  pub start : ℕ
  pub form : ℕ

abbrev pub trailer_length : ℕ
trailer_length = 10

abbrev pub type_entry_length : ℕ
type_entry_length = 12

-- by the file's form: "M member entries of 12 bytes follow"; E7: "Form 2 has 16-byte member entries"
unfoldable pub member_entry_length : ℕ → ℕ
member_entry_length form = cond (eqb form 2) 16 12

-- "T is 1 to 256, M is 0 to 1,024."
abbrev pub most_types : ℕ
most_types = 256

abbrev pub most_members : ℕ
most_members = 1024

-- "The file ends in a 10-byte trailer"
unfoldable pub trailer_of : List ℕ → Trailer
trailer_of f =
    let at : ℕ = length f - trailer_length in
    record { types = load 2 f at; members = load 2 f (at + 2); start = load 4 f (at + 4); form = load 2 f (at + 8) }

-- "So the length is S + 12 x (T + M) + 10."; E7: "its length is S + 12 x T + 16 x M + 10"
unfoldable pub length_by : Trailer → ℕ
length_by r = r.start + (type_entry_length * r.types + member_entry_length r.form * r.members) + trailer_length

-- "Type entry: byte 0 kind, 1 columns, 2 rows, 3 zero, 4-5 reference (u16), 6-7 zero, 8-11 count (u32)."
pub record TypeEntry : Type 0 where
  pub kind : ℕ
  pub columns : ℕ
  pub rows : ℕ
  pub zero3 : ℕ
  pub reference : ℕ
  pub zero6 : ℕ
  pub count : ℕ

unfoldable pub type_entry_from : List ℕ → ℕ → TypeEntry
type_entry_from f at =
    record {
      kind = load 1 f at;
      columns = load 1 f (at + 1);
      rows = load 1 f (at + 2);
      zero3 = load 1 f (at + 3);
      reference = load 2 f (at + 4);
      zero6 = load 2 f (at + 6);
      count = load 4 f (at + 8);
    }

-- "T type entries of 12 bytes begin at byte S"
unfoldable pub type_entry_at : List ℕ → ℕ → TypeEntry
type_entry_at f k = type_entry_from f ((trailer_of f).start + type_entry_length * k)

-- "Member entry: type (u16), flags (u16), size (u32), align (u32)."
pub record MemberEntry : Type 0 where
  pub type : ℕ
  pub flags : ℕ
  pub size : ℕ
  pub align : ℕ

-- the bytes of these four: what is read of a member entry, however long it is
abbrev pub member_fields_length : ℕ
member_fields_length = 12

unfoldable pub member_entry_from : List ℕ → ℕ → MemberEntry
member_entry_from f at =
    record { type = load 2 f at; flags = load 2 f (at + 2); size = load 4 f (at + 4); align = load 4 f (at + 8) }

-- "M member entries of 12 bytes follow"
unfoldable pub member_entry_at : List ℕ → ℕ → MemberEntry
member_entry_at f m =
    let r : Trailer = trailer_of f in
    member_entry_from f (r.start + type_entry_length * r.types + member_entry_length r.form * m)

-- "Flag bit 0 says a size is given, bit 1 an align"
unfoldable pub size_is_given : MemberEntry → Bool
size_is_given m = eqb (m.flags % 2) 1

unfoldable pub align_is_given : MemberEntry → Bool
align_is_given m = eqb (m.flags / 2 % 2) 1

unfoldable pub given_size : MemberEntry → Option ℕ
given_size m = cond (size_is_given m) (some m.size) none

unfoldable pub given_align : MemberEntry → Option ℕ
given_align m = cond (align_is_given m) (some m.align) none

-- "other bits and fields not given are zero"
unfoldable pub rest_is_zero : MemberEntry → Bool
rest_is_zero m = eqb (m.flags / 4) 0 && (size_is_given m || eqb m.size 0) && (align_is_given m || eqb m.align 0)

unfoldable pub between : ℕ → ℕ → ℕ → Bool
between low high n = leb low n && leb n high

-- Refusals 1 to 4: "file below 10 bytes", "form not 1" (E7: "2 now means neither 1 nor 2"), "T or M outside its range", "length not as the trailer says".
unfoldable pub check_trailer : List ℕ → Said Trailer
check_trailer f = do
  let r = trailer_of f
  refuse 1 0 (ltb (length f) trailer_length)
  refuse 2 0 (not (between 1 2 r.form))
  refuse 3 0 (not (between 1 most_types r.types && between 0 most_members r.members))
  refuse 4 0 (not (eqb (length f) (length_by r)))
  good r
