-- The public calls: for each its answer, and the final contents of what was lent (01, "Sizes and places", "Numbers that say no").
--
-- In order: check; the four questions; the entry that a call with a buffer is about; read; write; view; set; rank; common.
-- The steps of each call stand in 01's order: "Every call gives 1 to 4 in that order, then the lowest bad entry ..; then 8, 17, 9, 10 as
-- they apply (10 on read, write, set only). Then read: 15, 14. Write: 14, 15, 16. View: 15, then the first bad step. Set: the same, then
-- 14, 16."
-- What is left of a call once its entry or its target is known has a name of its own, which stands before the call: from `set_call` upward,
-- its refusals are read in their order.
-- Definitions only. Assumes nothing.
use Rattle.std.specs.Prelude.{ℕ, ◌-◌, ◌/◌, List, [], ◌∷◌, ◌++◌, map, Bool, true, false, cond, not, ◌&&◌, ◌||◌, length, take, drop, eqb, ltb}
use Rattle.std.proofs.Math.Option.{Option, none, some}
use Rattle.std.proofs.Math.ListN.{get_elem?}
use Rattle.wgsl.specs.Round.{within_limit}
use Rattle.wgsl.specs.Types.{Scalar, Ty, is_open}
use Rattle.wgsl.specs.Size.{present, width_of, size_of, align_of, min_size_of, own_stride_of, has_layout, is_storable}
use Rattle.wgsl.specs.Said.{Said, good, refused, ◌>>=◌, ◌>>◌, refuse, or_refuse}
use Rattle.wgsl.specs.Rule.{types_of}
use Rattle.wgsl.specs.Place.{Shape, one, parts, field, whole, shape_of, span_of, words_for, word_places, places, word_count, extent_of, elements_in, store_words, written, words_read, check_words}
use Rattle.wgsl.specs.Path.{Target, walk, step_of}
use Rattle.wgsl.specs.Rank.{Candidate, rank_of, common_of_all}

-- ---- check

-- 1 to 7, 24: how many entries the file has
unfoldable pub check_of : List ℕ → Said ℕ
check_of f = do
  ts ← types_of f
  good (length ts)

-- ---- the four questions

-- 8: "entry number not below T"
unfoldable pub entry_of : List ℕ → ℕ → Said Ty
entry_of f e = do
  ts ← types_of f
  or_refuse 8 0 (get_elem? ts e)

-- 9: "size, minimum size or alignment asked alone and absent"
unfoldable pub size_call : List ℕ → ℕ → Said ℕ
size_call f e = do
  t ← entry_of f e
  or_refuse 9 0 (size_of t)

unfoldable pub align_call : List ℕ → ℕ → Said ℕ
align_call f e = do
  t ← entry_of f e
  or_refuse 9 0 (align_of t)

unfoldable pub min_size_call : List ℕ → ℕ → Said ℕ
min_size_call f e = do
  t ← entry_of f e
  or_refuse 9 0 (min_size_of t)

-- "(the layout answer marks it absent instead)"; E1: "The layout answer of every entry is to carry its stride as well"
pub record Layout : Type 0 where
  pub size : Option ℕ
  pub align : Option ℕ
  pub min_size : Option ℕ
  pub stride : Option ℕ

unfoldable pub layout_of : Ty → Layout
layout_of t = record { size = size_of t; align = align_of t; min_size = min_size_of t; stride = own_stride_of t }

unfoldable pub layout_call : List ℕ → ℕ → Said Layout
layout_call f e = do
  t ← entry_of f e
  good (layout_of t)

-- ---- calls with a buffer

-- a call's value, and what the buffer or the words that it was lent to change hold at the end
pub record Done : Type 0 where
  pub value : ℕ
  pub contents : List ℕ

unfoldable pub answer_of : Said Done → Said ℕ
answer_of (good d) = good d.value
answer_of (refused number place) = refused number place

-- "A refusal changes nothing lent"
unfoldable pub contents_of : List ℕ → Said Done → List ℕ
contents_of before (good d) = d.contents
contents_of before (refused number place) = before

-- 17: "data buffer above 4,294,967,295 bytes", then 9: "read, write, view or set without a layout", then 10: "not storable", which is said
-- "on read, write, set only": `stored` says whether the call is one of these
unfoldable pub allowed : Bool → Ty → ℕ → Said (Unit {0})
allowed stored t bytes = do
  refuse 17 0 (not (within_limit bytes))
  refuse 9 0 (not (has_layout t))
  refuse 10 0 (stored && not (is_storable t))

-- the type of the entry that a call is about: 8, then these
unfoldable pub entry_for : Bool → List ℕ → ℕ → List ℕ → Said Ty
entry_for stored f e b = do
  t ← entry_of f e
  allowed stored t (length b)
  good t

-- 15: "buffer below the size; an open type with no whole element"
unfoldable pub is_short : Ty → List ℕ → Bool
is_short t b = cond (is_open t) (eqb (elements_in (length b) t) 0) (ltb (length b) (present (size_of t)))

-- ---- read

-- "It fills as many words as there are scalars and answers that number; later words stay." (since E6, as many as its scalars take)
-- 14: too few words. An open type has n elements.
unfoldable pub read_elements : ℕ → Ty → List ℕ → List ℕ → Said Done
read_elements n t b ws = do
  refuse 14 0 (ltb (length ws) (word_count n t))
  good (record { value = word_count n t; contents = words_read (places n t) b ++ drop (word_count n t) ws })

-- "Reading takes the first size bytes.": 15 comes first
unfoldable pub read_type : Ty → List ℕ → List ℕ → Said Done
read_type t b ws = do
  refuse 15 0 (is_short t b)
  read_elements (elements_in (length b) t) t b ws

unfoldable pub read_call : List ℕ → ℕ → List ℕ → List ℕ → Said Done
read_call f e b ws = do
  t ← entry_for true f e b
  read_type t b ws

-- ---- write

-- how many elements so many words fill: "the words beyond the fixed part", by "one element's"
unfoldable pub elements_for : ℕ → Ty → ℕ
elements_for words t = (words - word_count 0 t) / (word_count 1 t - word_count 0 t)

-- 14: "Writing takes exactly as many words as scalars" (since E6, as many as its scalars take) "; for an open type the words beyond the
-- fixed part are a positive multiple of one element's."
unfoldable pub is_wrong_count : Ty → List ℕ → Bool
is_wrong_count t ws =
    not (eqb (length ws) (word_count (elements_for (length ws) t) t)) || (is_open t && eqb (elements_for (length ws) t) 0)

-- "It fills the size .. The answer gives the byte count." 16: a word that its place cannot hold. An open type has n elements.
unfoldable pub write_words : ℕ → Ty → List ℕ → List ℕ → Said Done
write_words n t ws b = do
  check_words 0 (places n t) ws
  good (record { value = extent_of n t; contents = written n t ws b })

-- 15 comes before it,
unfoldable pub write_elements : ℕ → Ty → List ℕ → List ℕ → Said Done
write_elements n t ws b = do
  refuse 15 0 (ltb (length b) (extent_of n t))
  write_words n t ws b

-- and 14 before that
unfoldable pub write_type : Ty → List ℕ → List ℕ → Said Done
write_type t ws b = do
  refuse 14 0 (is_wrong_count t ws)
  write_elements (elements_for (length ws) t) t ws b

unfoldable pub write_call : List ℕ → ℕ → List ℕ → List ℕ → Said Done
write_call f e ws b = do
  t ← entry_for true f e b
  write_type t ws b

-- ---- view

-- the target of a path: 15, "then the first bad step"
unfoldable pub target_in : Ty → List ℕ → List ℕ → Said Target
target_in t path b = do
  refuse 15 0 (is_short t b)
  walk 0 0 (shape_of (elements_in (length b) t) t) (map step_of path)

-- the same of an entry: a view, and a set up to its target
unfoldable pub target_call : Bool → List ℕ → ℕ → List ℕ → List ℕ → Said Target
target_call stored f e path b = do
  t ← entry_for stored f e b
  target_in t path b

unfoldable pub view_call : List ℕ → ℕ → List ℕ → List ℕ → Said Target
view_call f e path b = target_call false f e path b

-- "Viewing answers the offset"
unfoldable pub offset_of : Said Target → Said ℕ
offset_of (good t) = good t.offset
offset_of (refused number place) = refused number place

-- "the bytes of the target are handed back as that part of the caller's own buffer (when refused, the empty part at its start)"
unfoldable pub part_of : Said Target → List ℕ → List ℕ
part_of (good t) b = take (span_of t.shape) (drop t.offset b)
part_of (refused number place) b = []

-- where that part begins in the caller's own buffer
unfoldable pub part_start : Said Target → ℕ
part_start (good t) = t.offset
part_start (refused number place) = 0

-- ---- set

-- 14: "set on no single scalar"
unfoldable pub scalar_at : Shape → Option Scalar
scalar_at (one s) = some s
scalar_at (parts n stride x) = none
scalar_at (field offset x rest) = none
scalar_at (whole z) = none

-- "Setting changes one scalar at a path." It answers the scalar's offset. 14: "Setting takes a word list of that length. Refusals: 14 for
-- another length" (E6). 16: a word that the scalar cannot hold.
unfoldable pub set_scalar : Scalar → ℕ → List ℕ → List ℕ → Said Done
set_scalar s at ws b = do
  refuse 14 0 (not (eqb (length ws) (words_for (present (width_of s)))))
  check_words 0 (word_places s at) ws
  good (record { value = at; contents = store_words (word_places s at) ws b })

-- 14 comes before it
unfoldable pub set_target : Target → List ℕ → List ℕ → Said Done
set_target target ws b = do
  s ← or_refuse 14 0 (scalar_at target.shape)
  set_scalar s target.offset ws b

unfoldable pub set_call : List ℕ → ℕ → List ℕ → List ℕ → List ℕ → Said Done
set_call f e path ws b = do
  target ← target_call true f e path b
  set_target target ws b

-- ---- rank and common

-- 18: "no rank"
unfoldable pub rank_call : List ℕ → ℕ → ℕ → Said ℕ
rank_call f a b = do
  s ← entry_of f a
  t ← entry_of f b
  or_refuse 18 0 (rank_of s t)

-- every number listed is below T, else 8
unfoldable pub entries_of : List Ty → List ℕ → Said (List Candidate)
entries_of ts [] = good []
entries_of ts (e ∷ es) = do
  t ← or_refuse 8 0 (get_elem? ts e)
  rest ← entries_of ts es
  good (record { number = e; type = t } ∷ rest)

-- 18: "no common type, or an empty list"; "the answer is an entry number"
unfoldable pub common_call : List ℕ → List ℕ → Said ℕ
common_call f es = do
  ts ← types_of f
  entries ← entries_of ts es
  common ← or_refuse 18 0 (common_of_all entries)
  good common.number
