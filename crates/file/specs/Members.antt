-- Where the member entries of a file lie.
-- Definitions only. Assumes nothing.
use Rattle.std.specs.Prelude.{ℕ, ◌+◌, ◌*◌, List, take, drop}
use Rattle.wgsl.specs.File.{Trailer, trailer_of, type_entry_length, member_entry_length}

-- how long each is
abbrev pub member_length : List ℕ → ℕ
member_length f = member_entry_length (trailer_of f).form

-- where they begin
unfoldable pub members_start : List ℕ → ℕ
members_start f = let r : Trailer = trailer_of f in r.start + type_entry_length * r.types

-- "M member entries of 12 bytes follow": the bytes of all of them
unfoldable pub member_bytes : List ℕ → List ℕ
member_bytes f =
    let r : Trailer = trailer_of f in
    take (member_length f * r.members) (drop (members_start f) f)
