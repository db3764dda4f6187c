-- What is claimed of the definitions of specs/, in the order of document 01. Each proof is one citation: read the statements.
--
-- What they say beyond the definitions of the calls stands in specs/Claim and specs/Demand. `Witness` has a file for each that meets its
-- hypotheses.
-- Not here: what is claimed of code (each function's contract), ranks and common types (`Rank`).
-- Assumes nothing.
use Prim.Native.Nat.{ℕ, ◌+◌, ◌^◌, ◌<◌, ◌≤◌}
use mathlib.Core.Bool.{true}
use mathlib.Core.List.{List, [], ◌∷◌, ◌++◌, Memᴰ}
use mathlib.Core.Option.{some}
use mathlib.Core.Path.{◌≡◌, refl, sym, ◌∙◌}
use lib.Dec.{T}
use lib.ListN.{length, get_or, take, drop, get_elem?}
use Rattle.wgsl.specs.Number.{load, store}
use Rattle.wgsl.specs.Round.{IsUp, up, IsPower, is_power, limit}
use Rattle.wgsl.specs.Types.{Scalar, Ty, struct, Members, is_open, everywhere}
use Rattle.wgsl.specs.Size.{align_of, offsets_of, numbers_of, has_layout}
use Rattle.wgsl.specs.Said.{good, refused}
use Rattle.wgsl.specs.Rule.{is_well_formed, judged, types_below, types_of}
use Rattle.wgsl.specs.Place.{extent_of, elements_in, shape_of, Place, places, word_count, word_places}
use Rattle.wgsl.specs.Call.{Done, entry_of, contents_of, read_call, write_call, view_call, set_call}
use Rattle.wgsl.specs.Case.{cases_pass}
use Rattle.wgsl.specs.Claim.{Outside, Lowest, Ordered, types_in, member_step, LaidOut, HasRoom, GoodIf, CanRead, CanWrite, CanView, CanSet, Wrote, Read, PlacesFit}
use Rattle.wgsl.specs.Demand.{Given, Leading, DemandThree, OnePath}
use Rattle.wgsl.proofs.Number as number
use Rattle.wgsl.proofs.Round as round
use Rattle.wgsl.proofs.Power as power
use Rattle.wgsl.proofs.Accepted as accepted
use Rattle.wgsl.proofs.Entry as entry
use Rattle.wgsl.proofs.Count as count
use Rattle.wgsl.proofs.Call as call
use Rattle.wgsl.proofs.MemberPath as members
use Rattle.wgsl.proofs.Good as goods
use Rattle.wgsl.proofs.PlaceFit.{places_fit}
use Rattle.wgsl.proofs.OnePath as ways
use Rattle.wgsl.proofs.Demand.{demand_three}
use Rattle.wgsl.proofs.Case.{cases_pass_lem}

-- ---- numbers in bytes, at any width

-- A number that fits its width is read back from where it was stored.
pub stored_is_read : (k : ℕ) (b : List ℕ) (at n : ℕ) → at + k ≤ length b → n < 256 ^ k → load k (store k b at n) at ≡ n
stored_is_read = number.load_store

-- A store changes no byte outside its own.
pub store_stays_inside : (k : ℕ) (b : List ℕ) (at n i : ℕ) → Outside at k i → get_or (store k b at n) i 0 ≡ get_or b i 0
store_stays_inside = number.store_other

-- ---- rounding up and powers of two

-- "up(a, n) is the least multiple of a not below n", and nothing else is.
pub rounding : (a n : ℕ) → 0 < a → IsUp a n (up a n)
rounding = round.up_is_up

pub rounding_unique : {a n r s : ℕ} → IsUp a n r → IsUp a n s → r ≡ s
rounding_unique = round.up_unique

-- The test for a power of two holds of powers of two alone, and of every one of 32 bits.
pub power_test_sound : (a : ℕ) → is_power a ≡ true → IsPower a
power_test_sound = power.power_tested

pub power_test_complete : (a : ℕ) → a < 2 ^ 32 → IsPower a → is_power a ≡ true
power_test_complete = power.power_found

-- ---- accepted files

-- An accepted file's entry is judged over the types of lower entries alone.
pub refers_downwards : (f : List ℕ) (n : ℕ) (ts : List Ty) → types_below f n ≡ good ts → (k : ℕ) → k < n → (t : Ty) × (get_elem? ts k ≡ some t) × (judged f (take k ts) k ≡ good t)
refers_downwards = accepted.below_entry

-- Its type is well formed, and so is every type within.
pub well_formed : (f : List ℕ) (ts : List Ty) → types_of f ≡ good ts → (k : ℕ) (t : Ty) → get_elem? ts k ≡ some t → everywhere is_well_formed t ≡ true
well_formed = accepted.accepted_well_formed

-- A refusal 5 to 7 names the lowest bad entry, and in it 5 comes before 6 and 6 before 7.
pub lowest_bad_entry : {number place : ℕ} (f : List ℕ) (n : ℕ) → types_below f n ≡ refused number place → Lowest f n number place
lowest_bad_entry = accepted.below_lowest

-- Every alignment of every entry of an accepted file is a power of two, at most 2 ^ 31.
pub alignments : (f : List ℕ) (ts : List Ty) → types_of f ≡ good ts → (k : ℕ) (t : Ty) → get_elem? ts k ≡ some t → (a : ℕ) → align_of t ≡ some a → IsPower a × (a ≤ 2 ^ 31)
alignments = entry.entry_align

-- Every number of an accepted file is at most 4,294,967,295.
pub numbers_within_limit : (f : List ℕ) (ts : List Ty) → types_of f ≡ good ts → (k : ℕ) (t : Ty) → get_elem? ts k ≡ some t → (n : ℕ) → Memᴰ (some n) (numbers_of t) → n ≤ limit
numbers_within_limit = entry.entry_limit

-- ---- places

-- The places of an entry with a layout are in rising order, share no byte and lie inside the extent, for any number of elements.
pub places_in_order : (f : List ℕ) (e : ℕ) (t : Ty) → entry_of f e ≡ good t → has_layout t ≡ true → (n : ℕ) → Ordered (places n t) 0 (extent_of n t)
places_in_order = call.entry_places

-- A type with an alignment, if it is open with an element, has at least one word.
pub some_words : (n : ℕ) (t : Ty) (a : ℕ) → everywhere is_well_formed t ≡ true → align_of t ≡ some a → (is_open t ≡ true → 1 ≤ n) → 1 ≤ word_count n t
some_words = count.words_positive

-- ---- where members lie

-- The step to member i of a struct leads to the i-th of its offsets ("a member starts at up(its align, end of the one before) ..") and to
-- the member's own type: what writing, reading and paths go by is what sizes and offsets say.
pub members_lie : {f : List ℕ} {e : ℕ} {b : List ℕ} {k : ℕ} {ms : Members} → LaidOut f e b (struct k ms) → HasRoom (struct k ms) b → (i o : ℕ) (t : Ty) → get_elem? (offsets_of (some 0) ms) i ≡ some (some o) → get_elem? (types_in ms) i ≡ some t → view_call f e (member_step i ∷ []) b ≡ good (record { offset = o; shape = shape_of (elements_in (length b) (struct k ms)) t })
members_lie = members.member_path

-- ---- when a call is good

-- Each is good exactly if none of the conditions of its refusals holds; so it refuses exactly if one does.
pub reading_good_if : (f : List ℕ) (e : ℕ) (b ws : List ℕ) → GoodIf (read_call f e b ws) (CanRead f e b ws)
reading_good_if = goods.read_good_if

pub writing_good_if : (f : List ℕ) (e : ℕ) (ws b : List ℕ) → GoodIf (write_call f e ws b) (CanWrite f e ws b)
writing_good_if = goods.write_good_if

pub viewing_good_if : (f : List ℕ) (e : ℕ) (steps b : List ℕ) → GoodIf (view_call f e steps b) (CanView f e steps b)
viewing_good_if = goods.view_good_if

pub setting_good_if : (f : List ℕ) (e : ℕ) (steps ws b : List ℕ) → GoodIf (set_call f e steps ws b) (CanSet f e steps ws b)
setting_good_if = goods.set_good_if

-- ---- writing and reading

-- What a write that is not refused leaves: as many bytes as the extent, the words at their places, zero elsewhere, later bytes as they
-- were; both counts follow from the type and the number of words.
pub writing : (f : List ℕ) (e : ℕ) (ws b : List ℕ) (d : Done) → write_call f e ws b ≡ good d → Wrote f e ws b d
writing = call.write_wrote

-- What a read that is not refused leaves: a word for each place, later words as they were.
pub reading : (f : List ℕ) (e : ℕ) (b ws : List ℕ) (d : Done) → read_call f e b ws ≡ good d → Read f e b ws d
reading = call.read_read

-- Reading exactly the bytes written gives the same words.
pub reading_what_was_written : (f : List ℕ) (e : ℕ) (ws b : List ℕ) (d : Done) → write_call f e ws b ≡ good d → (vs : List ℕ) → length ws ≤ length vs → read_call f e (take d.value d.contents) vs ≡ good (record { value = length ws; contents = ws ++ drop (length ws) vs })
reading_what_was_written = call.read_of_write

-- ---- refusals

-- A refused call leaves what it was lent as it was.
pub refusal_changes_nothing : (before : List ℕ) (number place : ℕ) → contents_of before (refused number place) ≡ before
unfolding contents_of
refusal_changes_nothing before number place = refl

-- The place of every refusal of every call has 32 bits, on any file, entry, path, words and buffer.
pub refused_places_fit : (f : List ℕ) → PlacesFit f
refused_places_fit = places_fit

-- A claim that says what an answer is, leaves no choice: two answers that it allows are the same.
pub one_answer : {A : Type 0} {said r s : A} → r ≡ said → s ≡ said → r ≡ s
one_answer p q = p ∙ sym q

-- ---- the marked cases, and demand 3 (specs/Demand)

pub marked_cases : T cases_pass
marked_cases = cases_pass_lem

pub demand_3 : {f : List ℕ} {e : ℕ} {b : List ℕ} (g : Given f e b) → DemandThree g
demand_3 = demand_three

-- A path to a scalar leads to the places of its words, and each place has exactly one such path.
pub path_has_place : {f : List ℕ} {e : ℕ} {b path : List ℕ} {a : ℕ} {s : Scalar} (g : Given f e b) → Leading f e b path a s → (p : Place) → Memᴰ p (word_places s a) → Memᴰ p (places 0 g.type)
path_has_place = ways.path_has_place

pub place_has_one_path : {f : List ℕ} {e : ℕ} {b : List ℕ} (g : Given f e b) (p : Place) → Memᴰ p (places 0 g.type) → OnePath g p
place_has_one_path = ways.place_has_one_path
