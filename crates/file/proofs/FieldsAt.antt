-- A record whose fields are the numbers at their places is the one that the file holds (crates/wgsl, specs/File).
--
-- In order: a type entry; a member entry; the trailer.
-- Assumes nothing.
use Prim.Native.Nat.{ℕ, ◌+◌, ◌-◌}
use mathlib.Core.List.{List}
use mathlib.Core.Path.{◌≡◌}
use lib.ListN.{length}
use Rattle.wgsl.specs.Number.{load}
use Rattle.wgsl.specs.File.{TypeEntry, type_entry_from, MemberEntry, member_entry_from, Trailer, trailer_of}

pub type_entry_is : (f : List ℕ) (at : ℕ) (e : TypeEntry) → e.kind ≡ load 1 f at → e.columns ≡ load 1 f (at + 1) → e.rows ≡ load 1 f (at + 2) → e.zero3 ≡ load 1 f (at + 3) → e.reference ≡ load 2 f (at + 4) → e.zero6 ≡ load 2 f (at + 6) → e.count ≡ load 4 f (at + 8) → e ≡ type_entry_from f at
unfolding type_entry_from
type_entry_is f at e kind columns rows zero3 reference zero6 count =
    rw (← kind, ← columns, ← rows, ← zero3, ← reference, ← zero6, ← count)

pub member_entry_is : (f : List ℕ) (at : ℕ) (e : MemberEntry) → e.type ≡ load 2 f at → e.flags ≡ load 2 f (at + 2) → e.size ≡ load 4 f (at + 4) → e.align ≡ load 4 f (at + 8) → e ≡ member_entry_from f at
unfolding member_entry_from
member_entry_is f at e type flags size align = rw (← type, ← flags, ← size, ← align)

pub trailer_is_lem : (f : List ℕ) (r : Trailer) → r.types ≡ load 2 f (length f - 10) → r.members ≡ load 2 f (length f - 10 + 2) → r.start ≡ load 4 f (length f - 10 + 4) → r.form ≡ load 2 f (length f - 10 + 8) → r ≡ trailer_of f
unfolding trailer_of
trailer_is_lem f r types members start form = rw (← types, ← members, ← start, ← form)
