-- What the laws of proofs/Claims and Requests say: the predicates that they use.
--
-- In order: bytes; the lowest bad entry; strides; places; where members lie; paths; bools; the entry that a call is about; when a call is
-- good; what a call leaves; the uniform profile; the places of refusals.
-- Not here: demand 3 (`Demand`).
-- Definitions only. Assumes nothing.
use Rattle.std.specs.Prelude.{ℕ, zero, suc, ◌+◌, ◌*◌, ◌^◌, ◌<◌, ◌≤◌, Bool, true, false, not, ◌⊎◌, ◌≡◌, length, get_or, take, drop}
use mathlib.Core.List.{List, [], ◌∷◌, map, Memᴰ}
use Rattle.std.proofs.Math.Option.{Option, none, some}
use Rattle.std.proofs.Math.ListN.{get_elem?}
use Rattle.wgsl.specs.Round.{up, limit}
use Rattle.wgsl.specs.Types.{Scalar, bool, i32, u32, f32, f16, abstract_int, abstract_float, i64, u64, f64, Ty, scalar, vector, matrix, array, runtime, atomic, struct, Members, no_more, member, struct_kind, is_runtime, is_open, everywhere}
use Rattle.wgsl.specs.Size.{present, width_of, size_of, align_of, stride_of, own_stride_of, fits_limit, has_layout, is_storable}
use Rattle.wgsl.specs.Said.{Said, good, refused}
use Rattle.wgsl.specs.File.{trailer_of, type_entry_at, check_trailer}
use Rattle.wgsl.specs.Rule.{type_of_entry, is_allowed, given_fits, types_below, types_of}
use Rattle.wgsl.specs.Place.{extent_of, elements_in, Shape, one, parts, field, shape_of, Place, words_over, words_for, places, word_count, words_read}
use Rattle.wgsl.specs.Path as path
use Rattle.wgsl.specs.Path.{Step, step_of}
use Rattle.wgsl.specs.Call.{Done, check_of, entry_of, size_call, align_call, min_size_call, layout_call, read_call, write_call, view_call, set_call, rank_call, common_call}
use Rattle.wgsl.specs.BitFieldCall.{is_integer, extract_call, insert_call}
use Rattle.wgsl.specs.Listing.{listed}
use Rattle.wgsl.specs.Form.{name_at, to_form2, to_form1, move_on_call, move_back_call}
use Rattle.wgsl.specs.Site.{inheriting_call, fresh_call, member_call, site_set_call, clear_call}
use Rattle.wgsl.specs.Clean.{clean_call}
use Rattle.wgsl.specs.Order.{plan_call, order_call}
use Rattle.wgsl.specs.Literal.{convert_call}
use Rattle.wgsl.specs.Uniform.{is_uniform, refers_to, is_broken, uniform_call}

-- ---- bytes

-- byte i is none of the k bytes from `at`
abbrev pub Outside : ℕ → ℕ → ℕ → Type 0
Outside at k i = (i < at) ⊎ (at + k ≤ i)

-- the m bytes from a and the n bytes from b share none
abbrev pub Apart : ℕ → ℕ → ℕ → ℕ → Type 0
Apart a m b n = (a + m ≤ b) ⊎ (b + n ≤ a)

-- ---- the lowest bad entry

-- Why entry k, over the types of the lower entries, is refused with a number: "in it 5 before 6 before 7".
pub data Broken (f : List ℕ) (ts : List Ty) (k : ℕ) : ℕ → Type 0 where
  -- 5: "any rule above for an entry or its members is broken, but the two under 6"
  no_type : type_of_entry f ts k ≡ none → Broken f ts k 5
  not_allowed : (t : Ty) → type_of_entry f ts k ≡ some t → is_allowed t ≡ false → Broken f ts k 5
  -- 6: "the sentence on a given size or on a given align is broken", and nothing that 5 names
  not_given : (t : Ty) → type_of_entry f ts k ≡ some t → is_allowed t ≡ true → given_fits t ≡ false → Broken f ts k 6
  -- 7: "a number too large", and nothing that 5 or 6 name
  too_large : (t : Ty) → type_of_entry f ts k ≡ some t → is_allowed t ≡ true → given_fits t ≡ true → fits_limit t ≡ false → Broken f ts k 7

-- The entry at `place` is the lowest bad one below n, and is refused with that number.
pub record Lowest (f : List ℕ) (n number place : ℕ) : Type 0 where
  pub low : place < n
  pub types : List Ty
  pub good_below : types_below f place ≡ good types
  pub broken : Broken f types place number

-- ---- members that nobody names (E12)

-- a struct among the entries below n names member m: its entry, whether anything refers to it or not
pub record NamedBy (f : List ℕ) (n m : ℕ) : Type 0 where
  pub entry : ℕ
  pub low : entry < n
  pub is_struct : (type_entry_at f entry).kind ≡ struct_kind
  pub from : (type_entry_at f entry).reference ≤ m
  pub to : m < (type_entry_at f entry).reference + (type_entry_at f entry).count

-- The member at `place` is the lowest of the file that no struct names, and nothing else is wrong with it.
pub record Stray (f : List ℕ) (place : ℕ) : Type 0 where
  pub types : List Ty
  pub entries_good : types_below f (trailer_of f).types ≡ good types
  pub trailer_good : check_trailer f ≡ good (trailer_of f)
  pub there : place < (trailer_of f).members
  pub unnamed : NamedBy f (trailer_of f).types place → ⊥
  pub lowest : (m : ℕ) → m < place → NamedBy f (trailer_of f).types m

-- 1 to 7 pass, and a struct names every member
pub record IsAccepted (f : List ℕ) : Type 0 where
  pub types : List Ty
  pub trailer_good : check_trailer f ≡ good (trailer_of f)
  pub entries_good : types_below f (trailer_of f).types ≡ good types
  pub named : (m : ℕ) → m < (trailer_of f).members → NamedBy f (trailer_of f).types m

-- ---- strides

-- r is a type's stride (E1), in its three cases
pub record IsStride (t : Ty) (r : Option ℕ) : Type 0 where
  -- "for any type with size and alignment, the size rounded up to the alignment;"
  pub rounded : (a z : ℕ) → align_of t ≡ some a → size_of t ≡ some z → r ≡ some (up a z)
  -- "for a runtime array, its element's stride;"
  pub of_element : (u : Ty) → t ≡ runtime u → r ≡ own_stride_of u
  -- "else absent."
  pub absent : is_runtime t ≡ false → (align_of t ≡ none) ⊎ (size_of t ≡ none) → r ≡ none

-- "the element's number, which is 01's stride of an array": a type has parts of type `element`, and each begins that number after the one
-- before, whatever is written, read or walked. `count` of them where there are n elements of a runtime array.
pub record ByElement (t element : Ty) (count : ℕ → ℕ) : Type 0 where
  pub array_stride : own_stride_of element ≡ stride_of element
  pub shape : (n : ℕ) → shape_of n t ≡ parts (count n) (present (own_stride_of element)) (shape_of n element)

-- ---- places

-- the places lie between lo and hi, each past the end of the one before
unfoldable pub Ordered : List Place → ℕ → ℕ → Type 0
Ordered [] lo hi = lo ≤ hi
Ordered (p ∷ ps) lo hi = (lo ≤ p.at) × Ordered ps (p.at + p.width) hi

-- byte i lies in none of the places
unfoldable pub Uncovered : List Place → ℕ → Type 0
Uncovered [] i = Unit {0}
Uncovered (p ∷ ps) i = Outside p.at p.width i × Uncovered ps i

-- each word is one that its place can hold
unfoldable pub Fit : List Place → List ℕ → Type 0
Fit [] ws = Unit {0}
Fit (p ∷ ps) [] = Unit {0}
Fit (p ∷ ps) (w ∷ ws) = (w < 256 ^ p.width) × Fit ps ws

-- ws are words that a scalar of so many bytes at `at` can hold: as many as it takes, each one that its place can hold
pub record Holds (bytes at : ℕ) (ws : List ℕ) : Type 0 where
  pub count : length ws ≡ words_for bytes
  pub words_fit : Fit (words_over (words_for bytes) bytes at) ws

-- the number that words hold together, the lowest first
unfoldable pub together : List ℕ → ℕ
together [] = 0
together (w ∷ ws) = w + 2 ^ 32 * together ws

-- ---- where members lie

-- the types of the members, in their order
unfoldable pub types_in : Members → List Ty
types_in no_more = []
types_in (member t size align ms) = t ∷ types_in ms

-- the u32 that is the step to member i
unfoldable pub member_step : ℕ → ℕ
member_step i = 2 ^ 31 + i

-- ---- paths

-- the steps lead from a shape at an offset to a shape at an offset: each is one that the shape has
pub data Leads : ℕ → Shape → List Step → ℕ → Shape → Type 0 where
  here : {off : ℕ} {x : Shape} → Leads off x [] off x
  part : {off n stride i a : ℕ} {x y : Shape} {steps : List Step} → i < n → Leads (off + i * stride) x steps a y → Leads off (parts n stride x) (path.index i ∷ steps) a y
  first : {off offset a : ℕ} {x rest y : Shape} {steps : List Step} → Leads (off + offset) x steps a y → Leads off (field offset x rest) (path.member zero ∷ steps) a y
  later : {off offset i a : ℕ} {x rest y : Shape} {steps : List Step} → Leads off rest (path.member i ∷ steps) a y → Leads off (field offset x rest) (path.member (suc i) ∷ steps) a y

-- ---- bools

unfoldable pub is_bool : Scalar → Bool
is_bool bool = true
is_bool i32 = false
is_bool u32 = false
is_bool f32 = false
is_bool f16 = false
is_bool abstract_int = false
is_bool abstract_float = false
is_bool i64 = false
is_bool u64 = false
is_bool f64 = false

-- of a type itself, and not of those within it: its scalar is no bool
unfoldable pub is_no_bool : Ty → Bool
is_no_bool (scalar s) = not (is_bool s)
is_no_bool (vector n s) = not (is_bool s)
is_no_bool (matrix c r s) = not (is_bool s)
is_no_bool (array n t) = true
is_no_bool (runtime t) = true
is_no_bool (atomic s) = not (is_bool s)
is_no_bool (struct k ms) = true

-- a type that holds a bool anywhere
abbrev pub HoldsBool : Ty → Type 0
HoldsBool t = everywhere is_no_bool t ≡ false

-- ---- the entry that a call is about

-- entry e of an accepted file has the type t, and neither 8 nor 17 nor 9 is due
pub record LaidOut (f : List ℕ) (e : ℕ) (b : List ℕ) (t : Ty) : Type 0 where
  pub entry : entry_of f e ≡ good t
  pub within : length b ≤ limit
  pub layout : has_layout t ≡ true

-- the same, and 10 is not due
pub record Stored (f : List ℕ) (e : ℕ) (b : List ℕ) (t : Ty) : Type 0 where
  pub entry : entry_of f e ≡ good t
  pub within : length b ≤ limit
  pub layout : has_layout t ≡ true
  pub storable : is_storable t ≡ true

-- 15 is not due to read, view or set: the buffer holds the size, or of an open type one whole element
abbrev pub HasRoom : Ty → List ℕ → Type 0
HasRoom t b = extent_of 1 t ≤ length b

-- ---- when a call is good

-- A call is good exactly if P holds: so it refuses exactly if P does not.
pub record GoodIf {A : Type 0} (said : Said A) (P : Type 0) : Type 0 where
  pub if_so : P → (a : A) × (said ≡ good a)
  pub only_if : (a : A) → said ≡ good a → P

-- None of 14, 15, 16 is due to write: the words are as many as the type with some number of elements has, at least one if it is open;
-- there is room for them, and each is one that its place can hold.
pub record CanWrite (f : List ℕ) (e : ℕ) (ws b : List ℕ) : Type 0 where
  pub type : Ty
  pub stored : Stored f e b type
  pub elements : ℕ
  pub some_elements : is_open type ≡ true → 1 ≤ elements
  pub count : length ws ≡ word_count elements type
  pub room : extent_of elements type ≤ length b
  pub words_fit : Fit (places elements type) ws

-- Neither 15 nor 14 is due to read.
pub record CanRead (f : List ℕ) (e : ℕ) (b ws : List ℕ) : Type 0 where
  pub type : Ty
  pub stored : Stored f e b type
  pub room : HasRoom type b
  pub enough : word_count (elements_in (length b) type) type ≤ length ws

-- Neither 15 nor 11 to 13 is due to view: every step is one that the shape before it has.
pub record CanView (f : List ℕ) (e : ℕ) (steps b : List ℕ) : Type 0 where
  pub type : Ty
  pub laid : LaidOut f e b type
  pub room : HasRoom type b
  pub offset : ℕ
  pub shape : Shape
  pub valid : Leads 0 (shape_of (elements_in (length b) type) type) (map step_of steps) offset shape

-- Nor 14 nor 16 to set: the steps lead to one scalar, which takes so many words and can hold these.
pub record CanSet (f : List ℕ) (e : ℕ) (steps ws b : List ℕ) : Type 0 where
  pub type : Ty
  pub stored : Stored f e b type
  pub room : HasRoom type b
  pub offset : ℕ
  pub scalar_there : Scalar
  pub valid : Leads 0 (shape_of (elements_in (length b) type) type) (map step_of steps) offset (one scalar_there)
  pub holds : Holds (present (width_of scalar_there)) offset ws

-- To extract and to insert a field: the steps lead to one i32 or u32.
pub record CanField (f : List ℕ) (e : ℕ) (steps b : List ℕ) : Type 0 where
  pub type : Ty
  pub stored : Stored f e b type
  pub room : HasRoom type b
  pub offset : ℕ
  pub scalar_there : Scalar
  pub valid : Leads 0 (shape_of (elements_in (length b) type) type) (map step_of steps) offset (one scalar_there)
  pub integer : is_integer scalar_there ≡ true

-- ---- what a call leaves

-- What a write that is not refused has done. An open type's array then has so many elements.
pub record Wrote (f : List ℕ) (e : ℕ) (ws b : List ℕ) (d : Done) : Type 0 where
  pub type : Ty
  pub elements : ℕ
  pub stored : Stored f e b type
  pub some_elements : is_open type ≡ true → 1 ≤ elements
  pub count : length ws ≡ word_count elements type
  pub value_is : d.value ≡ extent_of elements type
  pub fits : extent_of elements type ≤ length b
  pub length_same : length d.contents ≡ length b
  pub words_there : words_read (places elements type) d.contents ≡ ws
  pub zero_elsewhere : (i : ℕ) → i < d.value → Uncovered (places elements type) i → get_or d.contents i 0 ≡ 0
  pub later_stay : (i : ℕ) → d.value ≤ i → get_or d.contents i 0 ≡ get_or b i 0

-- What a read that is not refused has done. An open type's array has so many elements in the buffer.
pub record Read (f : List ℕ) (e : ℕ) (b ws : List ℕ) (d : Done) : Type 0 where
  pub type : Ty
  pub elements : ℕ
  pub stored : Stored f e b type
  pub elements_are : elements ≡ elements_in (length b) type
  pub fits : extent_of elements type ≤ length b
  pub value_is : d.value ≡ word_count elements type
  pub words_are : take d.value d.contents ≡ words_read (places elements type) b
  pub later_stay : drop d.value d.contents ≡ drop d.value ws
  pub length_same : length d.contents ≡ length ws

-- ---- the uniform profile

-- entry e reaches entry k: it is e, or e refers to an entry that reaches it
pub data Reaches (f : List ℕ) : ℕ → ℕ → Type 0 where
  itself : {e : ℕ} → Reaches f e e
  onward : {e r k : ℕ} → Memᴰ r (refers_to f e) → Reaches f r k → Reaches f e k

-- None of 1 to 10 and 19 is due: entry e has a type that may live in a uniform buffer.
pub record CanUniform (f : List ℕ) (e : ℕ) : Type 0 where
  pub type : Ty
  pub entry : entry_of f e ≡ good type
  pub uniform : is_uniform type ≡ true

-- Entry k is the lowest broken one among entry e and those that it reaches; ts are the types of the file's entries.
pub record LowestBroken (f : List ℕ) (ts : List Ty) (e k : ℕ) : Type 0 where
  pub reached : Reaches f e k
  pub broken : is_broken ts k ≡ true
  pub lowest : (j : ℕ) → Reaches f e j → is_broken ts j ≡ true → k ≤ j

-- Two files say the same of every entry that e reaches: its type, and what it refers to.
pub record SameReached (f g : List ℕ) (e : ℕ) : Type 0 where
  pub types : List Ty
  pub types' : List Ty
  pub accepted : types_of f ≡ good types
  pub accepted' : types_of g ≡ good types'
  pub same_type : (k : ℕ) → Reaches f e k → get_elem? types k ≡ get_elem? types' k
  pub same_references : (k : ℕ) → Reaches f e k → refers_to f k ≡ refers_to g k

-- ---- the places of refusals

-- a refusal's place is a number of 32 bits
abbrev pub PlaceFits : {A : Type 0} → Said A → Type 0
PlaceFits said = (number place : ℕ) → said ≡ refused number place → place < 2 ^ 32

-- the same of every call, whatever it is asked
pub record PlacesFit (f : List ℕ) : Type 0 where
  pub check : PlaceFits (check_of f)
  pub size : (e : ℕ) → PlaceFits (size_call f e)
  pub align : (e : ℕ) → PlaceFits (align_call f e)
  pub minimum_size : (e : ℕ) → PlaceFits (min_size_call f e)
  pub layout : (e : ℕ) → PlaceFits (layout_call f e)
  pub read : (e : ℕ) (b ws : List ℕ) → PlaceFits (read_call f e b ws)
  pub write : (e : ℕ) (ws b : List ℕ) → PlaceFits (write_call f e ws b)
  pub view : (e : ℕ) (steps b : List ℕ) → PlaceFits (view_call f e steps b)
  pub set : (e : ℕ) (steps ws b : List ℕ) → PlaceFits (set_call f e steps ws b)
  pub extract : (e : ℕ) (steps b : List ℕ) (offset count : ℕ) → PlaceFits (extract_call f e steps b offset count)
  pub insert : (e : ℕ) (steps : List ℕ) (new offset count : ℕ) (b : List ℕ) → PlaceFits (insert_call f e steps new offset count b)
  pub uniform : (e : ℕ) → PlaceFits (uniform_call f e)
  pub rank : (x y : ℕ) → PlaceFits (rank_call f x y)
  pub common : (es : List ℕ) → PlaceFits (common_call f es)
  pub to_form_2 : (out : List ℕ) → PlaceFits (move_on_call f out)
  pub to_form_1 : (out : List ℕ) → PlaceFits (move_back_call f out)
  pub site_inheriting : (e : ℕ) → PlaceFits (inheriting_call f e)
  pub site_fresh : (e : ℕ) (factory site : List ℕ) → PlaceFits (fresh_call f e factory site)
  pub site_clear : (e k mask : ℕ) → PlaceFits (clear_call f e k mask)
  pub site_member : (e k mask : ℕ) (factory site : List ℕ) → PlaceFits (member_call f e k mask factory site)
  pub site_set : (e k : ℕ) (steps ws : List ℕ) (mask : ℕ) (factory site : List ℕ) → PlaceFits (site_set_call f e k steps ws mask factory site)
  pub clean : (e : ℕ) (b : List ℕ) → PlaceFits (clean_call f e b)
  pub plan_order : (e : ℕ) (lent : List ℕ) → PlaceFits (plan_call f e lent)
  pub check_order : (e : ℕ) (order : List ℕ) → PlaceFits (order_call f e order)
  pub convert : (from bits to : ℕ) → PlaceFits (convert_call from bits to)

-- ---- two files with the same answers

-- two files get the same answer from every call, whatever it is asked: value, place and everything lent; and the listing's text, where
-- it reads them
pub record SameAnswers (f g : List ℕ) : Type 0 where
  pub check : check_of f ≡ check_of g
  pub size : (e : ℕ) → size_call f e ≡ size_call g e
  pub align : (e : ℕ) → align_call f e ≡ align_call g e
  pub minimum_size : (e : ℕ) → min_size_call f e ≡ min_size_call g e
  pub layout : (e : ℕ) → layout_call f e ≡ layout_call g e
  pub read : (e : ℕ) (b ws : List ℕ) → read_call f e b ws ≡ read_call g e b ws
  pub write : (e : ℕ) (ws b : List ℕ) → write_call f e ws b ≡ write_call g e ws b
  pub view : (e : ℕ) (steps b : List ℕ) → view_call f e steps b ≡ view_call g e steps b
  pub set : (e : ℕ) (steps ws b : List ℕ) → set_call f e steps ws b ≡ set_call g e steps ws b
  pub extract : (e : ℕ) (steps b : List ℕ) (offset count : ℕ) → extract_call f e steps b offset count ≡ extract_call g e steps b offset count
  pub insert : (e : ℕ) (steps : List ℕ) (new offset count : ℕ) (b : List ℕ) → insert_call f e steps new offset count b ≡ insert_call g e steps new offset count b
  pub uniform : (e : ℕ) → uniform_call f e ≡ uniform_call g e
  pub rank : (x y : ℕ) → rank_call f x y ≡ rank_call g x y
  pub common : (es : List ℕ) → common_call f es ≡ common_call g es
  pub listing : listed (types_of f) ≡ listed (types_of g)
  pub site_inheriting : (e : ℕ) → inheriting_call f e ≡ inheriting_call g e
  pub site_fresh : (e : ℕ) (factory site : List ℕ) → fresh_call f e factory site ≡ fresh_call g e factory site
  pub site_clear : (e k mask : ℕ) → clear_call f e k mask ≡ clear_call g e k mask
  pub site_member : (e k mask : ℕ) (factory site : List ℕ) → member_call f e k mask factory site ≡ member_call g e k mask factory site
  pub site_set : (e k : ℕ) (steps ws : List ℕ) (mask : ℕ) (factory site : List ℕ) → site_set_call f e k steps ws mask factory site ≡ site_set_call g e k steps ws mask factory site
  pub clean : (e : ℕ) (b : List ℕ) → clean_call f e b ≡ clean_call g e b
  pub plan_order : (e : ℕ) (lent : List ℕ) → plan_call f e lent ≡ plan_call g e lent
  pub check_order : (e : ℕ) (order : List ℕ) → order_call f e order ≡ order_call g e order

-- ---- the two forms

-- f has this form, and none of 1 to 7 and 24 is due
pub record OfForm (form : ℕ) (f : List ℕ) : Type 0 where
  pub is_form : (trailer_of f).form ≡ form
  pub types : List Ty
  pub accepted : types_of f ≡ good types

-- none of 1 to 7, 24 and 15 is due to the move on: a form 1 file, and room
pub record CanMoveOn (f out : List ℕ) : Type 0 where
  pub file : OfForm 1 f
  pub room : length (to_form2 f) ≤ length out

-- "the move back accepts a form 2 file that passes 1 to 7" (since E12 24 too) "and has room exactly if all names of its M members are 0"
pub record CanMoveBack (f out : List ℕ) : Type 0 where
  pub file : OfForm 2 f
  pub no_names : (m : ℕ) → m < (trailer_of f).members → name_at f m ≡ 0
  pub room : length (to_form1 f) ≤ length out
