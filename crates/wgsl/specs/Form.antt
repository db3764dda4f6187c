-- The two forms of a layout file, and the moves between them (02, E7).
--
-- In order: names; a file in the other form; the two calls.
-- Definitions only. Assumes nothing.
use Rattle.std.specs.Prelude.{ℕ, zero, suc, ◌+◌, ◌-◌, ◌*◌, List, [], ◌++◌, Bool, true, not, ◌&&◌, length, take, drop, replicate, eqb, ltb}
use Rattle.wgsl.specs.Number.{load, bytes_of}
use Rattle.wgsl.specs.Said.{Said, good, ◌>>=◌, ◌>>◌, refuse}
use Rattle.wgsl.specs.File.{Trailer, check_trailer, trailer_of, trailer_length, type_entry_length, member_entry_length, member_fields_length}
use Rattle.wgsl.specs.Rule.{types_of}
use Rattle.wgsl.specs.Call.{Done}

-- where member entry m begins
unfoldable pub member_place : List ℕ → ℕ → ℕ
member_place f m =
    let r : Trailer = trailer_of f in
    r.start + type_entry_length * r.types + member_entry_length r.form * m

-- ---- names

-- "the last 4 bytes a name number (u32, 0 for none)"
unfoldable pub name_at : List ℕ → ℕ → ℕ
name_at f m = load 4 f (member_place f m + member_fields_length)

-- no one of the first n members has a name
unfoldable pub nameless : List ℕ → ℕ → Bool
nameless f zero = true
nameless f (suc n) = nameless f n && eqb (name_at f n) 0

-- ---- a file in the other form

-- the fields of n member entries from number m on, each with `name` after them
unfoldable pub entries_with : List ℕ → List ℕ → ℕ → ℕ → List ℕ
entries_with f name zero m = []
entries_with f name (suc n) m = take member_fields_length (drop (member_place f m) f) ++ (name ++ entries_with f name n (suc m))

-- the trailer, with another form
unfoldable pub trailer_as : ℕ → List ℕ → List ℕ
trailer_as form f = take 8 (drop (length f - trailer_length) f) ++ bytes_of 2 form

-- "keeps the bytes before S", and the type entries
unfoldable pub moved_to : ℕ → List ℕ → List ℕ → List ℕ
moved_to form name f =
    take (member_place f 0) f ++ (entries_with f name (trailer_of f).members 0 ++ trailer_as form f)

-- "0 for none", in 4 bytes
abbrev pub no_name : List ℕ
no_name = replicate 4 0

-- "sets names to 0"
unfoldable pub to_form2 : List ℕ → List ℕ
to_form2 f = moved_to 2 no_name f

unfoldable pub to_form1 : List ℕ → List ℕ
to_form1 f = moved_to 1 [] f

-- ---- the two calls

-- 1, then 2: "a form 1 file given to the move back, or a form 2 file to the move on"; then 3 to 7, 24
unfoldable pub form_is : ℕ → List ℕ → Said (Unit {0})
form_is form f = do
  refuse 1 0 (ltb (length f) trailer_length)
  refuse 2 0 (not (eqb (trailer_of f).form form))
  ts ← types_of f
  good tt

-- "Either answers the new length; later output bytes stay."
unfoldable pub filled : List ℕ → List ℕ → Done
filled new out = record { value = length new; contents = new ++ drop (length new) out }

-- 15, "output too small"
unfoldable pub put_out : List ℕ → List ℕ → Said Done
put_out new out = do
  refuse 15 0 (ltb (length out) (length new))
  good (filled new out)

unfoldable pub move_on_call : List ℕ → List ℕ → Said Done
move_on_call f out = do
  form_is 1 f
  put_out (to_form2 f) out

-- 20: "a name not 0, after 1 to 7"; E12: 24 "before E7's 20"
unfoldable pub move_back_call : List ℕ → List ℕ → Said Done
move_back_call f out = do
  form_is 2 f
  refuse 20 0 (not (nameless f (trailer_of f).members))
  put_out (to_form1 f) out

-- ---- an old reader

-- the trailer as it was read before E7: "2: form not 1"
unfoldable pub old_trailer : List ℕ → Said Trailer
old_trailer f = do
  refuse 1 0 (ltb (length f) trailer_length)
  refuse 2 0 (not (eqb (trailer_of f).form 1))
  check_trailer f
