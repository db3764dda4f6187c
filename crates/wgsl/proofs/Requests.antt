-- What is claimed of the definitions of document 02, request by request. Each proof is one citation: read the statements.
--
-- Here: E1, strides; E2, bit fields; E4, vectors of three bools; E5, the uniform profile; E6, scalars of 64 bits; E7, the two forms of a
-- file; E8, factory sheet and site block; E9, the gaps cleaned; E10, a better member order; E11, the two starts of a site block; E12, members
-- that nobody names; E13, common types in any order and grouping; E14, literals converted.
-- That the places of refusals fit and what the calls have in common with those of 01 stands in Claims.
-- Assumes nothing.
use Prim.Native.Nat.{ℕ, ◌+◌, ◌-◌, ◌*◌, ◌%◌, ◌^◌, ◌<◌, ◌≤◌, max, min}
use mathlib.Core.Bool.{true, false, cond}
use mathlib.Core.List.{List, ◌∷◌, [], ◌++◌, map, Memᴰ}
use mathlib.Core.Option.{Option, none, some}
use mathlib.Core.Path.{◌≡◌}
use lib.Dec.{T}
use lib.IntN.{pos, ◌-ℤ◌}
use lib.ListN.{length, get_or, get_elem?, take, drop}
use Rattle.wgsl.specs.Number.{load}
use Rattle.wgsl.specs.Round.{up, limit}
use Rattle.wgsl.specs.Types.{Scalar, Ty, array, runtime, struct, Members, everywhere, scalar_kind}
use Rattle.wgsl.specs.Size.{present, width_of, size_of, align_of, own_stride_of, is_storable}
use Rattle.wgsl.specs.Said.{good, refused}
use Rattle.wgsl.specs.Rule.{scalar_of_kind, is_well_formed, count_of, types_below, types_of}
use Rattle.wgsl.specs.Place.{shape_of, span_of, one, elements_in, Place, words_for, word_places, places, word_count, words_read}
use Rattle.wgsl.specs.Call.{Done, entry_of, entry_for, read_call, write_call, set_call, rank_call, common_call}
use Rattle.wgsl.specs.Path.{Target, walk, step_of}
use Rattle.wgsl.specs.Rank.{scalar_rank, rank_of, Candidate, common_of_all}
use Rattle.wgsl.specs.BitField.{start_of, bits_of, bit_at, extracted_u32, extracted_i32, repeated_top, inserted, signed_of, bit_extracted, bit_inserted}
use Rattle.wgsl.specs.BitFieldCase.{field_cases_pass}
use Rattle.wgsl.specs.BitFieldCall.{is_integer, is_signed, FoundInteger, integer_of, integer_at, extract_call, insert_call}
use Rattle.wgsl.specs.Uniform.{reaches, uniform_call}
use Rattle.wgsl.specs.File.{Trailer, trailer_of, check_trailer}
use Rattle.wgsl.specs.Form.{member_place, name_at, to_form1, to_form2, filled, move_on_call, move_back_call, old_trailer}
use Rattle.wgsl.specs.Claim.{IsAccepted, Stray, Holds, together, IsStride, ByElement, HoldsBool, LaidOut, Stored, HasRoom, GoodIf, CanField, Reaches, CanUniform, LowestBroken, SameReached, SameAnswers, OfForm, CanMoveOn, CanMoveBack, member_step}
use Rattle.wgsl.specs.Site.{block_in, member_of, SiteDone, inheriting_call, fresh_call, site_set_call, clear_call}
use Rattle.wgsl.specs.SiteClaim.{bytes_in, shown_bytes, IsBlock, SetOnSite, Cleared}
use Rattle.wgsl.specs.StartClaim.{Fresh, Kept, made_fresh, made_inheriting, Change, answers_to, left_after, never_sets, ShowAlike, Independent}
use Rattle.wgsl.specs.Clean.{is_covered, CleanDone, clean_call}
use Rattle.wgsl.specs.CleanClaim.{OnPath, extent_in, CanClean, Cleans}
use Rattle.wgsl.specs.Demand.{Given, Leading, Words, SetThenRead}
use Rattle.wgsl.specs.StrideCase.{stride_cases_pass}
use Rattle.wgsl.specs.BoolCase.{bool_cases_pass}
use Rattle.wgsl.specs.UniformCase.{uniform_cases_pass}
use Rattle.wgsl.specs.WideCase.{wide_cases_pass}
use Rattle.wgsl.specs.FormCase.{form_cases_pass}
use Rattle.wgsl.specs.SiteCase.{site_cases_pass}
use Rattle.wgsl.specs.StartCase.{start_cases_pass}
use Rattle.wgsl.specs.StrayCase.{stray_cases_pass}
use Rattle.wgsl.specs.CleanCase.{clean_cases_pass}
use Rattle.wgsl.specs.Order.{planned_order, plan_call, end_of, order_call}
use Rattle.wgsl.specs.OrderClaim.{IsPlanned, CanPlan, Accepted, CanOrder}
use Rattle.wgsl.specs.OrderCase.{order_cases_pass}
use Rattle.wgsl.specs.CommonClaim.{SameMembers, PartOf, Grouping, members_in, common_of_grouping, grouping_call, Same, IsCommon, AllEntries, SameCommon, Alike}
use Rattle.wgsl.specs.CommonCase.{common_cases_pass}
use Rattle.wgsl.specs.Literal.{Format, worth, rounded, Literal, unit_of, in_format, pattern_bits, convert_call}
use Rattle.wgsl.specs.LiteralClaim.{IsNearest, IsFloat, literal_in, format_of, widened}
use Rattle.wgsl.specs.LiteralCase.{literal_cases_pass}
use Rattle.wgsl.proofs.Stride as stride
use Rattle.wgsl.proofs.StrideCase.{stride_cases_pass_lem}
use Rattle.wgsl.proofs.BitField as field
use Rattle.wgsl.proofs.BitFieldCase.{field_cases_pass_lem}
use Rattle.wgsl.proofs.BitFieldCall as calls
use Rattle.wgsl.proofs.HoldsBool as bools
use Rattle.wgsl.proofs.BoolCase.{bool_cases_pass_lem}
use Rattle.wgsl.proofs.Uniform as uniform
use Rattle.wgsl.proofs.UniformPart as part
use Rattle.wgsl.proofs.UniformCase.{uniform_cases_pass_lem}
use Rattle.wgsl.proofs.ScalarWords as scalar-words
use Rattle.wgsl.proofs.Wide as wide
use Rattle.wgsl.proofs.WideCase.{wide_cases_pass_lem}
use Rattle.wgsl.proofs.MoveCall as moves
use Rattle.wgsl.proofs.FormCase.{form_cases_pass_lem}
use Rattle.wgsl.proofs.Site as blocks
use Rattle.wgsl.proofs.SiteCase.{site_cases_pass_lem}
use Rattle.wgsl.proofs.Start as start
use Rattle.wgsl.proofs.Starts as starts
use Rattle.wgsl.proofs.StartCase.{start_cases_pass_lem}
use Rattle.wgsl.proofs.StrayFile as strays
use Rattle.wgsl.proofs.StrayCase.{stray_cases_pass_lem}
use Rattle.wgsl.proofs.CleanPath as clean-path
use Rattle.wgsl.proofs.CleanCall as clean-call
use Rattle.wgsl.proofs.CleanSame as clean-same
use Rattle.wgsl.proofs.CleanCase.{clean_cases_pass_lem}
use Rattle.wgsl.proofs.OrderPlanned as planned
use Rattle.wgsl.proofs.OrderCall as order-call
use Rattle.wgsl.proofs.OrderCase.{order_cases_pass_lem}
use Rattle.wgsl.proofs.Rank as rank
use Rattle.wgsl.proofs.Common as common
use Rattle.wgsl.proofs.SameType as same_type
use Rattle.wgsl.proofs.CommonCall as common-call
use Rattle.wgsl.proofs.CommonCase.{common_cases_pass_lem}
use Rattle.wgsl.proofs.Nearest as nearest
use Rattle.wgsl.proofs.Literal as literal
use Rattle.wgsl.proofs.LiteralCall as literal-call
use Rattle.wgsl.proofs.LiteralCase.{literal_cases_pass_lem}

-- ---- E1: strides

-- "for any type with size and alignment, the size rounded up to the alignment; for a runtime array, its element's stride; else absent":
-- these three say what a type's stride is, and nothing else is that.
pub strides : (t : Ty) → IsStride t (own_stride_of t)
strides = stride.stride_is

pub strides_unique : (t : Ty) {r s : Option ℕ} → IsStride t r → IsStride t s → r ≡ s
strides_unique = stride.stride_unique

-- "the element's number, which is 01's stride of an array": the elements of every accepted array lie by it,
pub array_by_element : (k : ℕ) (t : Ty) → everywhere is_well_formed (array k t) ≡ true → ByElement (array k t) t (λ n. k)
array_by_element = stride.array_stride

-- and those of every accepted runtime array, of any number of elements.
pub runtime_by_element : (t : Ty) → everywhere is_well_formed (runtime t) ≡ true → ByElement (runtime t) t (λ n. n)
runtime_by_element = stride.runtime_stride

-- Of a type with size and alignment it is the larger of the two: every size is a multiple of the alignment, but for a vector's of three.
pub stride_is_larger : (t : Ty) (a z : ℕ) → everywhere is_well_formed t ≡ true → align_of t ≡ some a → size_of t ≡ some z → up a z ≡ max a z
stride_is_larger = stride.up_larger

-- It is at most 4,294,967,295 for every entry of an accepted file, so no file is refused for it.
pub strides_within_limit : (f : List ℕ) (ts : List Ty) → types_of f ≡ good ts → (k : ℕ) (t : Ty) → get_elem? ts k ≡ some t → (n : ℕ) → own_stride_of t ≡ some n → n ≤ limit
strides_within_limit = stride.entry_stride

-- The request's own numbers, and its listing.
pub stride_cases_lem : T stride_cases_pass
stride_cases_lem = stride_cases_pass_lem

-- ---- E2: bits

-- "With o = min(offset, 32) and c = min(count, 32 - o)": a field lies inside the word.
pub field_within : (offset count : ℕ) → start_of offset + bits_of offset count ≤ 32
field_within = field.field_within

-- "the c bits from o": bit j of the result is bit o + j of e below c, and 0 above;
pub extract_bit : (e offset count j : ℕ) → bit_at (extracted_u32 e offset count) j ≡ bit_extracted false e (start_of offset) (bits_of offset count) j
extract_bit = field.extract_bit

-- "a signed field repeats its top bit above", which is bit o + c - 1 of e.
pub extract_signed_bit : (e offset count j : ℕ) → 1 ≤ bits_of offset count → j < 32 → bit_at (extracted_i32 e offset count) j ≡ bit_extracted (bit_at e (start_of offset + bits_of offset count - 1)) e (start_of offset) (bits_of offset count) j
extract_signed_bit = field.extract_signed_bit

-- As a number a signed field is what its bits say, less 2 ^ c where the top one is set.
pub extract_number : (e offset count : ℕ) → signed_of (extracted_i32 e offset count) ≡ cond (bit_at (extracted_u32 e offset count) (bits_of offset count - 1)) (pos (extracted_u32 e offset count) -ℤ pos (2 ^ bits_of offset count)) (pos (extracted_u32 e offset count))
extract_number = field.extract_number

-- "Insertion puts the new value's low c bits at those places and changes no other bit", and no other word has these bits.
pub insert_bit : (e new offset count j : ℕ) → bit_at (inserted e new offset count) j ≡ bit_inserted e new (start_of offset) (bits_of offset count) j
insert_bit = field.insert_bit

pub insert_only : (e new offset count r : ℕ) → e < 2 ^ 32 → r < 2 ^ 32 → ((j : ℕ) → j < 32 → bit_at r j ≡ bit_inserted e new (start_of offset) (bits_of offset count) j) → r ≡ inserted e new offset count
insert_only = field.insert_only

-- Two words with the same bits are the same: what is said of every bit leaves no choice.
pub word_unique : (a b : ℕ) → a < 2 ^ 32 → b < 2 ^ 32 → ((j : ℕ) → j < 32 → bit_at a j ≡ bit_at b j) → a ≡ b
word_unique = field.word_unique

-- "Extracting a freshly inserted field gives it back, cut to c bits, and for i32 with the top one of them repeated above."
pub extract_inserted : (e new offset count : ℕ) → extracted_u32 (inserted e new offset count) offset count ≡ new % 2 ^ bits_of offset count
extract_inserted = field.extract_inserted

pub extract_inserted_signed : (e new offset count : ℕ) → extracted_i32 (inserted e new offset count) offset count ≡ repeated_top (bits_of offset count) (new % 2 ^ bits_of offset count)
extract_inserted_signed = field.extract_inserted_signed

-- All 32 bits are the word itself; no bit at all is 0, and inserts nothing.
pub extract_whole : (e offset count : ℕ) → e < 2 ^ 32 → start_of offset ≡ 0 → bits_of offset count ≡ 32 → (extracted_u32 e offset count ≡ e) × (extracted_i32 e offset count ≡ e)
extract_whole = field.extract_whole

pub extract_none : (e offset count : ℕ) → bits_of offset count ≡ 0 → (extracted_u32 e offset count ≡ 0) × (extracted_i32 e offset count ≡ 0)
extract_none = field.extract_none

pub insert_none : (e new offset count : ℕ) → bits_of offset count ≡ 0 → inserted e new offset count ≡ e
insert_none = field.insert_none

-- The request's own numbers, and those on each side of an edge.
pub field_cases_lem : T field_cases_pass
field_cases_lem = field_cases_pass_lem

-- ---- E2: at a path

-- Both calls are good exactly if the entry is stored, the buffer has room and the steps lead to one i32 or u32.
pub extracting_good_if : (f : List ℕ) (e : ℕ) (steps b : List ℕ) (offset count : ℕ) → GoodIf (extract_call f e steps b offset count) (CanField f e steps b)
extracting_good_if = calls.extract_good_if

pub inserting_good_if : (f : List ℕ) (e : ℕ) (steps b : List ℕ) (new offset count : ℕ) → GoodIf (insert_call f e steps new offset count b) (CanField f e steps b)
inserting_good_if = calls.insert_good_if

-- An insertion at a path is a set with the word that has the field in it,
pub insertion_is_set : {f : List ℕ} {e : ℕ} {b path : List ℕ} {a : ℕ} {s : Scalar} → Leading f e b path a s → is_integer s ≡ true → ((i : ℕ) → get_or b i 0 < 256) → (new offset count : ℕ) → insert_call f e path new offset count b ≡ set_call f e path (inserted (load 4 b a) new offset count ∷ []) b
insertion_is_set = calls.insertion_is_set

-- so demand 3 holds of it: the bytes outside its scalar stay, and of all words that are read that one changes.
pub insertion_alone : {f : List ℕ} {e : ℕ} {b path : List ℕ} {a : ℕ} {s : Scalar} (g : Given f e b) → Leading f e b path a s → is_integer s ≡ true → ((i : ℕ) → get_or b i 0 < 256) → (new offset count : ℕ) (ws : List ℕ) → word_count 0 g.type ≤ length ws → (x : SetThenRead g path a s (inserted (load 4 b a) new offset count ∷ []) ws) × (insert_call f e path new offset count b ≡ good (record { value = a; contents = x.b' }))
insertion_alone = calls.insertion_alone

-- What is extracted after an insertion is the field that was inserted.
pub extraction_after_insertion : (f : List ℕ) (e : ℕ) (path b : List ℕ) → ((i : ℕ) → get_or b i 0 < 256) → (new offset count : ℕ) (x : FoundInteger) → integer_at f e path b ≡ good x → (d : Done) → insert_call f e path new offset count b ≡ good d → extract_call f e path d.contents offset count ≡ good (cond (is_signed x.scalar) (repeated_top (bits_of offset count) (new % 2 ^ bits_of offset count)) (new % 2 ^ bits_of offset count))
extraction_after_insertion = calls.extraction_after_insertion

-- ---- E4: vectors of three bools

-- "Bool stays not storable": a type that holds a bool anywhere is not,
pub bool_not_storable : (t : Ty) → HoldsBool t → is_storable t ≡ false
bool_not_storable = bools.bool_not_storable

-- so write, read and set refuse its entry with 10 as soon as it has a layout. Demands 2 and 3 speak of storable entries alone.
pub bool_refused : {f : List ℕ} {e : ℕ} {b : List ℕ} {t : Ty} → LaidOut f e b t → HoldsBool t → entry_for true f e b ≡ refused 10 0
bool_refused = bools.bool_refused

-- The request's own numbers, what takes such vectors, and what refuses them.
pub bool_cases_lem : T bool_cases_pass
bool_cases_lem = bool_cases_pass_lem

-- ---- E5: the uniform profile

-- "Answer whether an entry may live there": the call is good exactly if the entry's type has a fixed size, is storable, and every type
-- within it keeps the rules.
pub uniform_good_if : (f : List ℕ) (e : ℕ) → GoodIf (uniform_call f e) (CanUniform f e)
uniform_good_if = uniform.uniform_good_if

-- "A refusal names the lowest broken entry .. among the one asked and those it reaches": it is reached and broken, and none lower is;
pub uniform_names : (f : List ℕ) (e k : ℕ) → uniform_call f e ≡ refused 19 k → (ts : List Ty) × (types_of f ≡ good ts) × LowestBroken f ts e k
uniform_names = uniform.uniform_names

-- and no other entry is that.
pub uniform_names_one : {f : List ℕ} {ts : List Ty} {e j k : ℕ} → LowestBroken f ts e j → LowestBroken f ts e k → j ≡ k
uniform_names_one = uniform.names_one

-- What the call tests step by step is what an entry reaches.
pub reached_by_steps : (f : List ℕ) (ts : List Ty) → types_of f ≡ good ts → {e : ℕ} {t : Ty} → get_elem? ts e ≡ some t → (k : ℕ) → (Reaches f e k → reaches f e k ≡ true) × (reaches f e k ≡ true → Reaches f e k)
reached_by_steps = uniform.reached_by_steps

-- A type that is good is good wherever it is a part: no refusal of any entry names what a good entry reaches.
pub good_never_named : (f : List ℕ) (e k p v : ℕ) → uniform_call f k ≡ good v → Reaches f k p → uniform_call f e ≡ refused 19 p → ⊥
good_never_named = part.good_never_named

-- An entry that is not reached never matters: two files that say the same of every entry that e reaches give the same answer.
pub unreached_never_matters : (f g : List ℕ) (e : ℕ) → SameReached f g e → uniform_call f e ≡ uniform_call g e
unreached_never_matters = part.same_reached

-- The rules on each side of their edges.
pub uniform_cases_lem : T uniform_cases_pass
uniform_cases_lem = uniform_cases_pass_lem

-- ---- E6: scalars of 64 bits

-- "the statement about word order is given once over the words a scalar takes": as many as its bytes by four, rounded up,
pub words_taken : (s : Scalar) (at : ℕ) → length (word_places s at) ≡ words_for (present (width_of s))
words_taken = scalar-words.scalar_length

-- of which the k-th begins at byte 4 x k and holds four bytes, or those that are left,
pub word_lies : (s : Scalar) (at k : ℕ) (p : Place) → get_elem? (word_places s at) k ≡ some p → (p.at ≡ at + 4 * k) × (p.width ≡ min 4 (present (width_of s) - 4 * k))
word_lies = scalar-words.word_lies

-- "low first": together they are the number that the scalar's bytes hold, and no other words are.
pub words_low_first : (s : Scalar) (b : List ℕ) (at : ℕ) → load (present (width_of s)) b at ≡ together (words_read (word_places s at) b)
words_low_first = scalar-words.words_low_first

pub one_word_list : (ws vs : List ℕ) → length ws ≡ length vs → Words ws → Words vs → together ws ≡ together vs → ws ≡ vs
one_word_list = scalar-words.together_one

-- After a set of words the scalar's bytes hold the number that they are together.
pub set_number : {f : List ℕ} {e : ℕ} {b path : List ℕ} {a : ℕ} {s : Scalar} (g : Given f e b) → Leading f e b path a s → (new : List ℕ) (h : Holds (present (width_of s)) a new) (ws : List ℕ) (room : word_count 0 g.type ≤ length ws) → (x : SetThenRead g path a s new ws) → load (present (width_of s)) x.b' a ≡ together new
set_number = wide.set_number

-- They rank to themselves, and nothing else to them.
pub wide_to_itself : (s t : Scalar) (r : ℕ) → present (width_of s) ≡ 8 → scalar_rank s t ≡ some r → s ≡ t
wide_to_itself = wide.wide_to_itself

pub none_to_wide : (s t : Scalar) (r : ℕ) → present (width_of t) ≡ 8 → scalar_rank s t ≡ some r → s ≡ t
none_to_wide = wide.none_to_wide

-- E2 stays for i32 and u32: a 64-bit scalar there is refused by 14.
pub no_wide_field : (u : Target) (s : Scalar) → u.shape ≡ one s → present (width_of s) ≡ 8 → integer_of u ≡ refused 14 0
no_wide_field = wide.no_wide_field

-- The request's own numbers, and the edges of its refusals.
pub wide_cases_lem : T wide_cases_pass
wide_cases_lem = wide_cases_pass_lem

-- ---- E7: the two forms of a layout file

-- "form 2 gives form 1's answers with names ignored": a file and the form 1 file without its names get the same answer from every call.
pub names_ignored : (f : List ℕ) (r : Trailer) → check_trailer f ≡ good r → SameAnswers f (to_form1 f)
names_ignored = moves.names_ignored

-- The move on is good exactly if it is given a form 1 file that passes 1 to 7 and, since E12, 24, and room;
pub move_on_good_if : (f out : List ℕ) → GoodIf (move_on_call f out) (CanMoveOn f out)
move_on_good_if = moves.move_on_good_if

-- "the move back accepts a form 2 file that passes 1 to 7 and has room exactly if all names of its M members are 0".
pub move_back_good_if : (f out : List ℕ) → GoodIf (move_back_call f out) (CanMoveBack f out)
move_back_good_if = moves.move_back_good_if

-- "Either answers the new length; later output bytes stay": the file in the other form, and behind it what was there.
pub move_on_leaves : {f out : List ℕ} → CanMoveOn f out → move_on_call f out ≡ good (filled (to_form2 f) out)
move_on_leaves = moves.move_on_leaves

pub move_back_leaves : {f out : List ℕ} → CanMoveBack f out → move_back_call f out ≡ good (filled (to_form1 f) out)
move_back_leaves = moves.move_back_leaves

-- "its length is S + 12 x T + 16 x M + 10",
pub on_length : {f : List ℕ} → OfForm 1 f → length (to_form2 f) ≡ (trailer_of f).start + 12 * (trailer_of f).types + 16 * (trailer_of f).members + 10
on_length = moves.on_length

-- "sets names to 0",
pub on_nameless : {f : List ℕ} → OfForm 1 f → (m : ℕ) → m < (trailer_of (to_form2 f)).members → name_at (to_form2 f) m ≡ 0
on_nameless = moves.on_nameless

-- "and keeps the bytes before S" (and the type entries behind them).
pub on_keeps : {f : List ℕ} → OfForm 1 f → take (member_place f 0) (to_form2 f) ≡ take (member_place f 0) f
on_keeps = moves.on_keeps

-- What a move that is not refused has put out answers as the given file,
pub on_same : (f out : List ℕ) (d : Done) → move_on_call f out ≡ good d → SameAnswers f (take d.value d.contents)
on_same = moves.on_same

pub back_same : (f out : List ℕ) (d : Done) → move_back_call f out ≡ good d → SameAnswers f (take d.value d.contents)
back_same = moves.back_same

-- and "there and back gives the same bytes", from either form.
pub on_then_back : (f out : List ℕ) (d : Done) → move_on_call f out ≡ good d → (out' : List ℕ) → ((i : ℕ) → get_or f i 0 < 256) → length f ≤ length out' → move_back_call (take d.value d.contents) out' ≡ good (filled f out')
on_then_back = moves.on_then_back

pub back_then_on : (f out : List ℕ) (d : Done) → move_back_call f out ≡ good d → (out' : List ℕ) → ((i : ℕ) → get_or f i 0 < 256) → length f ≤ length out' → move_on_call (take d.value d.contents) out' ≡ good (filled f out')
back_then_on = moves.back_then_on

-- "An old reader still answers 2."
pub old_reader : {f : List ℕ} → OfForm 2 f → old_trailer f ≡ refused 2 0
old_reader = moves.old_reader

-- The edges of the two calls.
pub form_cases_lem : T form_cases_pass
form_cases_lem = form_cases_pass_lem

-- ---- E8: factory sheet and site block

-- A block is good exactly if it is a struct of fixed size that may be stored, with at most 64 members and no mask bits beyond them, and
-- both buffers have its size.
pub block_is : {f : List ℕ} {e mask : ℕ} {factory site : List ℕ} {t : Ty} → block_in f e mask factory site ≡ good t → IsBlock f e mask factory site t
block_is = blocks.block_is

pub block_if : {f : List ℕ} {e mask : ℕ} {factory site : List ℕ} {t : Ty} → IsBlock f e mask factory site t → block_in f e mask factory site ≡ good t
block_if = blocks.block_if

-- "mask 0", of an inheriting block since E11: no member is the site's.
pub inheriting_shows : (f : List ℕ) (e mask : ℕ) → inheriting_call f e ≡ good mask → (mask ≡ 0) × ((k : ℕ) → bit_at mask k ≡ false)
inheriting_shows = blocks.inheriting_shows

-- "the member then shows its old bytes with that scalar replaced"; "Other bits and bytes stay"; every other member shows what it showed, and
-- the result is a block again: over any mask and any site buffer.
pub site_set : {f : List ℕ} {e k : ℕ} {steps ws : List ℕ} {mask : ℕ} {factory site : List ℕ} {d : SiteDone} → site_set_call f e k steps ws mask factory site ≡ good d → SetOnSite f e k steps ws mask factory site d
site_set = blocks.site_set

-- "Clearing drops the bit and moves no byte": the others stay, and it is a block again.
pub site_cleared : {f : List ℕ} {e k mask after : ℕ} → clear_call f e k mask ≡ good after → Cleared f e k mask after
site_cleared = blocks.cleared

-- "the path starts at its type": it is the path of a view without its first step.
pub site_path : (t : Ty) (k : ℕ) (m : Target) (steps : List ℕ) → k < 2 ^ 31 → member_of t k ≡ good m → walk 0 0 (shape_of 0 t) (map step_of (member_step k ∷ steps)) ≡ walk 1 m.offset m.shape (map step_of steps)
site_path = blocks.site_path

-- A member lies inside the struct.
pub site_member_inside : (f : List ℕ) (e mask : ℕ) (factory site : List ℕ) (t : Ty) (k : ℕ) (m : Target) → block_in f e mask factory site ≡ good t → member_of t k ≡ good m → m.offset + span_of m.shape ≤ present (size_of t)
site_member_inside f e mask factory site t k m b h = (blocks.member_inside f e mask factory site t k m b h).1

-- The edges of the four calls.
pub site_cases_lem : T site_cases_pass
site_cases_lem = site_cases_pass_lem

-- ---- E9: clean the gaps

-- "every byte of a storable entry's extent that no scalar path covers": the bytes that the places of the words cover, by which cleaning is
-- defined, are exactly those of the scalars that paths lead to. "For open types" too.
pub covered_by_path : {f : List ℕ} {e : ℕ} {b : List ℕ} {t : Ty} → Stored f e b t → HasRoom t b → (i : ℕ) → (is_covered (places (elements_in (length b) t) t) i ≡ true → OnPath f e b i) × (OnPath f e b i → is_covered (places (elements_in (length b) t) t) i ≡ true)
covered_by_path = clean-path.covered_by_path

-- "Refusals: 8, 17, 9, 10, 15, none new": cleaning is good exactly if none of these is due.
pub clean_good_if : (f : List ℕ) (e : ℕ) (b : List ℕ) → GoodIf (clean_call f e b) (CanClean f e b)
clean_good_if = clean-call.clean_good_if

-- "zeroes, in place, every byte of a storable entry's extent that no scalar path covers, and returns how many bytes it changed and the offset
-- of the first (the extent itself if none). The count is the number of places where before and after differ, never more than the extent less
-- the scalars' bytes. All words read as before; doing it again changes 0."
pub clean_did : {f : List ℕ} {e : ℕ} {b : List ℕ} {d : CleanDone} → clean_call f e b ≡ good d → Cleans f e b d
clean_did = clean-call.clean_did

-- "file comparisons fail": two buffers that hold the same words hold, once cleaned, the same bytes in the extent;
pub clean_same_words : (f : List ℕ) (e : ℕ) (b b' ws : List ℕ) {d d' : CleanDone} {r : Done} {t : Ty} → entry_of f e ≡ good t → clean_call f e b ≡ good d → clean_call f e b' ≡ good d' → read_call f e b ws ≡ good r → read_call f e b' ws ≡ good r → ((i : ℕ) → get_or b i 0 < 256) → ((i : ℕ) → get_or b' i 0 < 256) → (extent_in t b ≡ extent_in t b') × (take (extent_in t b) d.contents ≡ take (extent_in t b) d'.contents)
clean_same_words = clean-same.clean_same_words

-- and a buffer cleaned is what writing the words that are read from it leaves.
pub clean_is_write : (f : List ℕ) (e : ℕ) (b ws : List ℕ) {d : CleanDone} {r : Done} {t : Ty} → entry_of f e ≡ good t → clean_call f e b ≡ good d → read_call f e b ws ≡ good r → ((i : ℕ) → get_or b i 0 < 256) → write_call f e (take r.value r.contents) b ≡ good (record { value = extent_in t b; contents = d.contents })
clean_is_write = clean-same.clean_is_write

-- Each kind of gap, and the edges of the refusals.
pub clean_cases_lem : T clean_cases_pass
clean_cases_lem = clean_cases_pass_lem

-- ---- E10: a better member order

-- "the order by falling member alignment, ties as they stood, a runtime array kept last": the planner's list has every member position and
-- nothing else, and whatever stands in it goes before all that stands after it;
pub planned_order_lem : (k : ℕ) (ms : Members) → everywhere is_well_formed (struct k ms) ≡ true → IsPlanned ms (planned_order ms)
planned_order_lem = planned.planned_order_lem

-- no other list is so;
pub planned_one : {ms : Members} {a b : List ℕ} → IsPlanned ms a → IsPlanned ms b → a ≡ b
planned_one = planned.planned_one

-- and it has as many positions as there are members.
pub planned_length : (k : ℕ) (ms : Members) → everywhere is_well_formed (struct k ms) ≡ true → length (planned_order ms) ≡ count_of ms
planned_length = planned.planned_length

-- "9 where the entry isn't a struct; then, from the planner, 14 where the lent list is shorter than the members": the planner is good exactly
-- if none of these is due,
pub plan_good_if : (f : List ℕ) (e : ℕ) (lent : List ℕ) → GoodIf (plan_call f e lent) (CanPlan f e lent)
plan_good_if = order-call.plan_good_if

-- and then it answers how many members there are and puts that order into the list; later places stay.
pub plan_leaves : {f : List ℕ} {e : ℕ} {lent : List ℕ} (c : CanPlan f e lent) → plan_call f e lent ≡ good (record { value = count_of c.members; contents = planned_order c.members ++ drop (count_of c.members) lent })
plan_leaves = order-call.plan_leaves

-- "accepted exactly if": "every member position appears once", "a runtime array is still last, no number passes 01's limit", "and the end is
-- smaller"; "from the checker 23 for any order not accepted, wrong lengths included".
pub order_good_if : (f : List ℕ) (e : ℕ) (order : List ℕ) → GoodIf (order_call f e order) (CanOrder f e order)
order_good_if = order-call.order_good_if

-- "An accepted order answers the new end.": the end of the struct with its members in that order, laid out as any struct is.
pub order_answers : {f : List ℕ} {e : ℕ} {order : List ℕ} (c : CanOrder f e order) → order_call f e order ≡ good (end_of e c.new)
order_answers = order-call.order_answers

-- An order makes one list of members.
pub order_new_one : {k : ℕ} {ms : Members} {order : List ℕ} {new other : Members} → Accepted k ms order new → Accepted k ms order other → new ≡ other
order_new_one = order-call.order_new_one

-- An order with no gain and orders with one, each way not to be accepted, and the edges of the refusals.
pub order_cases_lem : T order_cases_pass
order_cases_lem = order_cases_pass_lem

-- ---- E11: fresh site blocks start as copies

-- "the fresh copy gives all that asking for a member gives, up to 15": it is good exactly if none of these is due.
pub fresh_good_if : (f : List ℕ) (e : ℕ) (factory site : List ℕ) → GoodIf (fresh_call f e factory site) ((t : Ty) × IsBlock f e 0 factory site t)
fresh_good_if = start.fresh_good_if

-- "a fresh block has the factory's bytes copied into the site buffer and every member's bit set": every member shows these bytes, whichever
-- factory buffer lies beside it; later bytes of the site buffer stay; it is a block.
pub fresh_did : {f : List ℕ} {e : ℕ} {factory site : List ℕ} {d : SiteDone} → fresh_call f e factory site ≡ good d → (t : Ty) × Fresh f e factory site d t
fresh_did = start.fresh_did

-- "E8's answers after any set or clear stand, from either start": any sets and clears are answered alike, and after them an ask for any
-- member finds it in the same place with the same bytes; the inheriting block may lie in another site buffer.
pub starts_agree : (f : List ℕ) (e : ℕ) (factory site : List ℕ) (d : SiteDone) → fresh_call f e factory site ≡ good d → (mask : ℕ) → inheriting_call f e ≡ good mask → (other : List ℕ) (t : Ty) → block_in f e mask factory other ≡ good t → (cs : List Change) → (answers_to f e factory cs (made_fresh d) ≡ answers_to f e factory cs (made_inheriting other mask)) × ShowAlike f e factory t (left_after f e factory cs (made_fresh d)) (left_after f e factory cs (made_inheriting other mask))
starts_agree = starts.starts_agree

-- The same of any two blocks that show alike.
pub changes_alike : {f : List ℕ} {e : ℕ} {factory : List ℕ} {t : Ty} {a b : Kept} → ShowAlike f e factory t a b → (cs : List Change) → (answers_to f e factory cs a ≡ answers_to f e factory cs b) × ShowAlike f e factory t (left_after f e factory cs a) (left_after f e factory cs b)
changes_alike = starts.changes_alike

-- "When the factory sheet changed, boards in the field changed with it.": a fresh block does not, until a member is cleared;
pub fresh_independent : (f : List ℕ) (e : ℕ) (factory site : List ℕ) (d : SiteDone) → fresh_call f e factory site ≡ good d → (other : List ℕ) (t : Ty) → block_in f e 0 other site ≡ good t → (cs : List Change) → Independent f e factory other t cs (made_fresh d)
fresh_independent = starts.fresh_independent

-- an inheriting one shows of a member what lies in the factory buffer beside it, x, until a scalar is set in it.
pub inheriting_follows : (f : List ℕ) (e mask : ℕ) → inheriting_call f e ≡ good mask → (factory site : List ℕ) (cs : List Change) (k : ℕ) → never_sets k cs ≡ true → (n : Target) (x : List ℕ) → shown_bytes n (left_after f e factory cs (made_inheriting site mask)).mask k x (left_after f e factory cs (made_inheriting site mask)).site ≡ bytes_in n x
inheriting_follows = starts.inheriting_follows

-- The edges of the fresh copy, and the two starts side by side.
pub start_cases_lem : T start_cases_pass
start_cases_lem = start_cases_pass_lem

-- ---- E12: members that nobody names

-- "A table whose M members are not each named by at least one struct is refused.": a file is accepted exactly if 1 to 7 pass and some struct,
-- used or not, names every member.
pub accepted_if : (f : List ℕ) → GoodIf (types_of f) (IsAccepted f)
accepted_if = strays.accepted_if

-- "24, place the lowest such member": 24 is of that member, where 1 to 7 pass,
pub stray_is : (f : List ℕ) (place : ℕ) → types_of f ≡ refused 24 place → Stray f place
stray_is = strays.stray_is

-- that member is refused so,
pub stray_refused : (f : List ℕ) (place : ℕ) → Stray f place → types_of f ≡ refused 24 place
stray_refused = strays.stray_refused

-- and there is no other.
pub stray_one : {f : List ℕ} {a b : ℕ} → Stray f a → Stray f b → a ≡ b
stray_one = strays.stray_one

-- "after all entries have passed 5 to 7": an entry that is refused comes first.
pub entries_first : (f : List ℕ) {number place : ℕ} → check_trailer f ≡ good (trailer_of f) → types_below f (trailer_of f).types ≡ refused number place → types_of f ≡ refused number place
entries_first = strays.entries_first

-- Members named once and twice, strays at each end and between, and 24 among the other refusals.
pub stray_cases_lem : T stray_cases_pass
stray_cases_lem = stray_cases_pass_lem

-- ---- E13: any order of operands

-- "It is about types": of one accepted file, types that are the same by structure, structs by entry number, are equal.
pub same_is_equal : (f : List ℕ) (a b : ℕ) {s t : Ty} → entry_of f a ≡ good s → entry_of f b ≡ good t → Same s t → s ≡ t
same_is_equal = same_type.same_is_equal

-- "the common type of a list is the same type, .. whatever the order .. of its members, repeats included": first of types,
pub common_any_order : (cs ds : List Candidate) → SameMembers cs ds → SameCommon (common_of_all cs) (common_of_all ds)
common_any_order = common.any_order

-- "or grouping",
pub common_any_grouping : (g : Grouping Candidate) (cs : List Candidate) → SameMembers (members_in g) cs → SameCommon (common_of_grouping g) (common_of_all cs)
common_any_grouping = common.any_grouping

-- and a list of which a part has none has none.
pub common_of_part : (cs ds : List Candidate) → PartOf cs ds → common_of_all cs ≡ none → common_of_all ds ≡ none
common_of_part = common.part_none

-- The same of the call `common`, on any file, for any numbers: entries of one type, or one refusal.
pub any_order : (f es fs : List ℕ) → SameMembers es fs → Alike f (common_call f es) (common_call f fs)
any_order = common-call.any_order

-- Part by part, and then together, the same.
pub any_grouping : (f : List ℕ) (g : Grouping ℕ) (es : List ℕ) → SameMembers (members_in g) es → AllEntries f es → Alike f (grouping_call f g) (common_call f es)
any_grouping = common-call.any_grouping

-- 18 of a part is 18 of the whole.
pub part_refused : (f es fs : List ℕ) → PartOf es fs → AllEntries f fs → common_call f es ≡ refused 18 0 → common_call f fs ≡ refused 18 0
part_refused = common-call.part_refused

-- A list with a number that is no entry gives 8, and no grouping of it is answered.
pub no_entry_lem : (f es : List ℕ) (e : ℕ) {ts : List Ty} → types_of f ≡ good ts → length ts ≤ e → Memᴰ e es → common_call f es ≡ refused 8 0
no_entry_lem = common-call.no_entry_lem

pub no_entry_grouped : (f : List ℕ) (g : Grouping ℕ) (e n : ℕ) {ts : List Ty} → types_of f ≡ good ts → length ts ≤ e → Memᴰ e (members_in g) → grouping_call f g ≡ good n → ⊥
no_entry_grouped = common-call.no_entry_grouped

-- "An empty list gives 18"
pub empty_list : (f : List ℕ) {ts : List Ty} → types_of f ≡ good ts → common_call f [] ≡ refused 18 0
empty_list = common-call.empty_list

-- Why the order does not count: the call is good exactly if one of the list is there to which all of it convert, and such a one is the answer.
pub common_good_if : (f es : List ℕ) → GoodIf (common_call f es) ((c : ℕ) × IsCommon f c es)
common_good_if = common-call.common_good_if

pub common_is : (f es : List ℕ) (c : ℕ) → common_call f es ≡ good c → IsCommon f c es
common_is = common-call.common_is

-- "Where a converts to b and b to c, a converts to c and the ranks add up": of types, and of the call `rank`.
pub rank_adds : (a b c : Ty) {r s : ℕ} → rank_of a b ≡ some r → rank_of b c ≡ some s → rank_of a c ≡ some (r + s)
rank_adds = rank.rank_add

pub ranks_add_up : (f : List ℕ) (a b c r s : ℕ) → rank_call f a b ≡ good r → rank_call f b c ≡ good s → rank_call f a c ≡ good (r + s)
ranks_add_up = common-call.ranks_add_up

-- Entries have the rank 0 exactly if their types are equal.
pub rank_zero : (f : List ℕ) (a b : ℕ) (t : Ty) → entry_of f a ≡ good t → entry_of f b ≡ good t → rank_call f a b ≡ good 0
rank_zero = common-call.rank_zero

pub zero_rank : (f : List ℕ) (a b : ℕ) → rank_call f a b ≡ good 0 → (t : Ty) × (entry_of f a ≡ good t) × (entry_of f b ≡ good t)
zero_rank = common-call.zero_rank

-- Orders and groupings with one answer, with two numbers of one type, with 18 and with 8; ranks that add up.
pub common_cases_lem : T common_cases_pass
common_cases_lem = common_cases_pass_lem

-- ---- E14: converting the literals

-- "Floats are rounded to nearest, ties to even, defined over whole numbers": no pattern of d digits, whose number is in units of u, is nearer
-- to n, and of two as near it is the even one;
pub rounded_nearest : (d u n : ℕ) → 0 < d → 0 < u → IsNearest d u n (rounded d u n)
rounded_nearest = nearest.rounded_nearest

-- there is no other such.
pub nearest_one : (d u n : ℕ) {r t : ℕ} → 0 < u → IsNearest d u n r → IsNearest d u n t → r ≡ t
nearest_one = nearest.nearest_unique

-- Exact values stay,
pub exact_stays : (f : Format) (m : ℕ) → 0 < f.digits → rounded f.digits (unit_of f) (unit_of f * worth f.digits m) ≡ m
exact_stays = literal.exact_stays

-- and a larger literal never rounds to a smaller number.
pub order_kept : (f : Format) (n n' : ℕ) → 0 < f.digits → n ≤ n' → rounded f.digits (unit_of f) n ≤ rounded f.digits (unit_of f) n'
order_kept = literal.order_kept

-- "one statement over the width of the target serves all": what a literal becomes in a format is the nearest, finite, with its sign, of zero
-- too; and what is so, it becomes: so where there is none, none is given.
pub float_is : (f : Format) (l : Literal) → 0 < f.digits → {p : ℕ} → in_format f l ≡ some p → IsFloat f l p
float_is = literal.float_is

pub float_if : (f : Format) (l : Literal) → 0 < f.digits → {p : ℕ} → IsFloat f l p → in_format f l ≡ some p
float_if = literal.float_if

pub float_one : (f : Format) (l : Literal) → 0 < f.digits → {p q : ℕ} → IsFloat f l p → IsFloat f l q → p ≡ q
float_one = literal.float_one

-- The same of the call, from any kind to a float of another.
pub convert_float : (a b c : ℕ) {s t : Scalar} (f : Format) {p : ℕ} → scalar_of_kind a ≡ some s → scalar_of_kind c ≡ some t → (scalar_kind s ≡ scalar_kind t → ⊥) → format_of t ≡ some f → convert_call a b c ≡ good p → (l : Literal) × (literal_in s (b % 2 ^ pattern_bits s) ≡ some l) × IsFloat f l p
convert_float = literal-call.convert_float

-- "the same type unchanged": every pattern of every scalar, NaN and infinities too.
pub convert_same : (a b : ℕ) {s : Scalar} → scalar_of_kind a ≡ some s → convert_call a b a ≡ good (b % 2 ^ pattern_bits s)
convert_same = literal-call.convert_same

-- "Integers out of range are refused.": what is converted to an i32 or a u32 is the same number, and each of these is had so.
pub convert_i32 : (b p : ℕ) → b < 2 ^ 64 → convert_call 5 b 1 ≡ good p → b ≡ widened p
convert_i32 = literal-call.convert_i32

pub convert_i32_if : (p : ℕ) → p < 2 ^ 32 → convert_call 5 (widened p) 1 ≡ good p
convert_i32_if = literal-call.convert_i32_if

pub convert_u32 : (b p : ℕ) → b < 2 ^ 64 → convert_call 5 b 2 ≡ good p → b ≡ p
convert_u32 = literal-call.convert_u32

pub convert_u32_if : (p : ℕ) → p < 2 ^ 32 → convert_call 5 p 2 ≡ good p
convert_u32_if = literal-call.convert_u32_if

-- A conversion exists exactly where there is a rank between the two scalars: what converts has one, and where there is one, zero converts.
pub convert_ranked : (a b c : ℕ) {s t : Scalar} {p : ℕ} → scalar_of_kind a ≡ some s → scalar_of_kind c ≡ some t → convert_call a b c ≡ good p → (r : ℕ) × (scalar_rank s t ≡ some r)
convert_ranked = literal-call.convert_ranked

pub ranked_convert : (a c : ℕ) {s t : Scalar} {r : ℕ} → scalar_of_kind a ≡ some s → scalar_of_kind c ≡ some t → scalar_rank s t ≡ some r → (p : ℕ) × (convert_call a 0 c ≡ good p)
ranked_convert = literal-call.ranked_convert

-- The answer has the bits of its kind, and no higher ones.
pub convert_bits : (a b c : ℕ) {t : Scalar} {p : ℕ} → scalar_of_kind c ≡ some t → convert_call a b c ≡ good p → p < 2 ^ pattern_bits t
convert_bits = literal-call.convert_bits

-- "Refusals: 25", and no other.
pub convert_refuses : (a b c : ℕ) {number place : ℕ} → convert_call a b c ≡ refused number place → (number ≡ 25) × (place ≡ 0)
convert_refuses = literal-call.convert_refuses

-- Each edge of each target, ties, subnormals, negative zero, the ranges of integers, and what is refused.
pub literal_cases_lem : T literal_cases_pass
literal_cases_lem = literal_cases_pass_lem
