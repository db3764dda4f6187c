-- A file put out in another form is the file that `moved_to` says (crates/wgsl, specs/Form).
--
-- In order: its bytes; its length; where its parts lie; room for it, or none.
-- Assumes nothing.
use Prim.Native.Nat.{ℕ, zero, suc, ◌+◌, ◌*◌, ◌<◌, ◌≤◌}
use mathlib.Core.List.{List, ◌++◌, append_assoc}
use mathlib.Core.Path.{◌≡◌, refl, ap, ◌∙◌}
use native.Mathlib.Nat.{mul-suc, mul-zero, zero-add}
use native.Mathlib.Omega.{arith}
use borrow.Author.Tests.{lt-ltb}
use lib.ListN.{length, take, drop}
use lib.Seq.{sets-eq}
use Rattle.wgsl.specs.Number.{bytes_of}
use Rattle.wgsl.specs.Said.{good, refused}
use Rattle.wgsl.specs.File.{Trailer, trailer_of, member_entry_length, length_by}
use Rattle.wgsl.specs.Call.{answer_of, contents_of}
use Rattle.wgsl.specs.Form.{member_place, entries_with, trailer_as, moved_to, filled, put_out}
use Rattle.wgsl.proofs.Said.{refuse_yes}
use Rattle.wgsl.proofs.Number.{length_bytes_of}
use Rattle.wgsl.proofs.Trailed.{Trailed}
use Rattle.wgsl.proofs.Moved.{moved_trailed}
use Rattle.wgsl.proofs.MoveCall.{room_good}
use Rattle.file.specs.Fields.{trailer_over}
use Rattle.said.proofs.Answered.{answered_done}
use Rattle.puts.specs.Put.{Put}
use Rattle.forms.specs.Entries.{entries_from, file_with}

-- ---- its bytes

-- where the next member entry begins
place_next : (f : List ℕ) (m : ℕ) → member_place f m + member_entry_length (trailer_of f).form ≡ member_place f (suc m)
unfolding member_place
place_next f m = omega (arith, mul-suc (member_entry_length (trailer_of f).form) m)

entries_are : (f name : List ℕ) (n m : ℕ) → entries_from f (member_entry_length (trailer_of f).form) name n (member_place f m) ≡ entries_with f name n m
unfolding entries_from entries_with
entries_are f name zero m = refl
entries_are f name (suc n) m = rw (place_next f m, entries_are f name n (suc m)) (append_assoc (take 12 (drop (member_place f m) f)) name (entries_with f name n (suc m)))

file_is : (f name : List ℕ) (form : ℕ) → file_with f (member_place f 0) (member_entry_length (trailer_of f).form) (trailer_of f).members name (bytes_of 2 form) ≡ moved_to form name f
unfolding file_with moved_to trailer_as
file_is f name form = rw (entries_are f name (trailer_of f).members 0) refl

-- ---- its length

pub new_long : {f : List ℕ} {r : Trailer} → Trailed f r → (form : ℕ) (name : List ℕ) → 1 ≤ form → form ≤ 2 → 12 + length name ≡ member_entry_length form → length (moved_to form name f) ≡ length_by (trailer_over r.types r.members r.start form)
new_long t form name low high wide = (moved_trailed t form name low high wide).long

-- ---- where its parts lie

module _ {f : List ℕ} {r : Trailer} (t : Trailed f r) {from long members : ℕ} (first : from ≡ r.start + 12 * r.types) (each : long ≡ member_entry_length r.form) (many : members ≡ r.members) where
  from_is : from ≡ member_place f 0
  unfolding member_place
  from_is = rw (← t.is, mul-zero) (omega (arith, first))

  -- the file that was given is its bytes before the entries, these, and its trailer
  pub given_long : from + long * members + 10 ≡ length f
  unfolding length_by
  given_long = rw (each, many) (omega (arith, first, t.long))

  module _ (form : ℕ) (name bytes : List ℕ) (low : 1 ≤ form) (high : form ≤ 2) (wide : 12 + length name ≡ member_entry_length form) (are : bytes ≡ bytes_of 2 form) where
    pub new_file : file_with f from long members name bytes ≡ moved_to form name f
    new_file = rw (from_is, each, many, are, t.is) (file_is f name form)

    pub new_fits : {room : ℕ} → length (moved_to form name f) ≤ room → from + (12 + length name) * members + (8 + length bytes) ≤ room
    unfolding length_by
    new_fits h = rw (wide, many, are, length_bytes_of) (omega (arith, first, new_long t form name low high wide, h))

-- ---- room for it, or none

pub no_room : (new out : List ℕ) → length out < length new → put_out new out ≡ refused 15 0
unfolding put_out
no_room new out h = refuse_yes _ (lt-ltb (length out) (length new) h)

pub put_whole : {out out' : List ℕ} {r : ℕ} (new : List ℕ) → length new ≤ length out → Put out 0 new r out' → (good r ≡ answer_of (put_out new out)) × (out' ≡ contents_of out (put_out new out))
unfolding filled
put_whole {out} {out'} {r} new room p =
    answered_done out (room_good new out room) (omega (arith, p.next)) (p.bytes ∙ sets-eq new out 0 (omega arith) ∙ ap (λ n. new ++ drop n out) (zero-add (length new)))
