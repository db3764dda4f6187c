-- Cleaning the gaps (02, E9).
--
-- In order: the bytes that scalars cover; the buffer without rubbish; where before and after differ; the call.
-- That the places of a type's words are the bytes of its scalar paths is a law (proofs/Requests, `covered_by_path`).
-- Definitions only. Assumes nothing.
use Rattle.std.specs.Prelude.{ℕ, suc, ◌+◌, List, [], ◌∷◌, Bool, true, false, cond, not, ◌&&◌, ◌||◌, length, eqb, leb, ltb}
use Rattle.wgsl.specs.Types.{Ty}
use Rattle.wgsl.specs.Said.{Said, good, refused, ◌>>=◌, ◌>>◌, refuse}
use Rattle.wgsl.specs.Place.{Place, places, extent_of, elements_in}
use Rattle.wgsl.specs.Call.{entry_for, is_short}

-- ---- the bytes that scalars cover

-- byte i is one of the place's
unfoldable pub is_inside : Place → ℕ → Bool
is_inside p i = leb p.at i && ltb i (p.at + p.width)

-- byte i is one of a scalar's, whose words lie at these places
unfoldable pub is_covered : List Place → ℕ → Bool
is_covered [] i = false
is_covered (p ∷ ps) i = is_inside p i || is_covered ps i

-- ---- the buffer without rubbish

-- "zeroes .. every byte of a storable entry's extent that no scalar path covers": what byte i becomes
unfoldable pub clean_byte : List Place → ℕ → ℕ → ℕ → ℕ
clean_byte ps extent i byte = cond (ltb i extent && not (is_covered ps i)) 0 byte

-- the bytes of a buffer, the first of which is byte i
unfoldable pub clean_from : List Place → ℕ → ℕ → List ℕ → List ℕ
clean_from ps extent i [] = []
clean_from ps extent i (byte ∷ b) = clean_byte ps extent i byte ∷ clean_from ps extent (suc i) b

-- a buffer that holds a type; "For open types the extent is the array offset plus whole elements": n of them
unfoldable pub cleaned : ℕ → Ty → List ℕ → List ℕ
cleaned n t b = clean_from (places n t) (extent_of n t) 0 b

-- ---- where before and after differ

-- "The count is the number of places where before and after differ"
unfoldable pub differing : List ℕ → List ℕ → ℕ
differing [] after = 0
differing (x ∷ before) [] = 0
differing (x ∷ before) (y ∷ after) = cond (eqb x y) (differing before after) (suc (differing before after))

-- "the offset of the first (the extent itself if none)", where the lists begin at byte i
unfoldable pub first_differing : ℕ → ℕ → List ℕ → List ℕ → ℕ
first_differing extent i [] after = extent
first_differing extent i (x ∷ before) [] = extent
first_differing extent i (x ∷ before) (y ∷ after) = cond (eqb x y) (first_differing extent (suc i) before after) i

-- ---- the call

-- "returns how many bytes it changed and the offset of the first", and what the buffer holds at the end
pub record CleanDone : Type 0 where
  pub changed : ℕ
  pub first : ℕ
  pub contents : List ℕ

-- from what the buffer was to what it is
unfoldable pub done_from : ℕ → List ℕ → List ℕ → CleanDone
done_from extent before after =
    record { changed = differing before after; first = first_differing extent 0 before after; contents = after }

-- "Refusals: 8, 17, 9, 10, 15, none new."
unfoldable pub clean_type : Ty → List ℕ → Said CleanDone
clean_type t b = do
  refuse 15 0 (is_short t b)
  good (done_from (extent_of (elements_in (length b) t) t) b (cleaned (elements_in (length b) t) t b))

unfoldable pub clean_call : List ℕ → ℕ → List ℕ → Said CleanDone
clean_call f e b = do
  t ← entry_for true f e b
  clean_type t b

-- ---- answers, and what is lent

-- "returns how many bytes it changed"
unfoldable pub changed_of : Said CleanDone → Said ℕ
changed_of (good d) = good d.changed
changed_of (refused number place) = refused number place

-- "and the offset of the first"; "A refusal changes nothing lent"
unfoldable pub first_after : ℕ → Said CleanDone → ℕ
first_after before (good d) = d.first
first_after before (refused number place) = before

unfoldable pub clean_after : List ℕ → Said CleanDone → List ℕ
clean_after before (good d) = d.contents
clean_after before (refused number place) = before
