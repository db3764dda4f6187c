-- Where a type's scalars lie, and what writing and reading them means (01, "Sizes and places").
--
-- In order: open types and their elements; the shape of a type in a buffer; the places of its words; bytes written and words read.
-- Not here: refusals (`Call`).
-- An open type's shape depends on how many elements its array holds, the first argument `n` below; no other type's does.
-- Definitions only. Assumes nothing.
use Rattle.std.specs.Prelude.{ℕ, zero, suc, ◌+◌, ◌-◌, ◌*◌, ◌/◌, ◌^◌, min, List, [], ◌∷◌, ◌++◌, map, Bool, not, length, drop, replicate, ltb}
use Rattle.std.proofs.Math.Option.{Option, none, some}
use Rattle.wgsl.specs.Round.{up}
use Rattle.wgsl.specs.Number.{load, store}
use Rattle.wgsl.specs.Types.{Scalar, Ty, scalar, vector, matrix, array, runtime, atomic, struct, Members, no_more, member}
use Rattle.wgsl.specs.Size.{present, width_of, vector_align, member_start, member_end, size_of, align_of, stride_of}
use Rattle.wgsl.specs.Said.{Said, good, ◌>>◌, refuse}

-- the runtime array that a type is or ends in: its "array offset", and its stride
pub record Tail : Type 0 where
  pub offset : ℕ
  pub stride : ℕ

-- the tail of a struct whose last member is of this type and starts at this offset
unfoldable pub tail_at : Option ℕ → Ty → Option Tail
tail_at offset (scalar s) = none
tail_at offset (vector n s) = none
tail_at offset (matrix c r s) = none
tail_at offset (array n t) = none
tail_at offset (runtime t) = some (record { offset = present offset; stride = present (stride_of t) })
tail_at offset (atomic s) = none
tail_at offset (struct k ms) = none

-- the tail of members, where the one before the first ended at `end`; `before` is its own tail
unfoldable pub members_tail : Option Tail → Option ℕ → Members → Option Tail
members_tail before end no_more = before
members_tail before end (member t size align ms) =
    members_tail (tail_at (member_start end align (align_of t)) t) (member_end end align (align_of t) size (size_of t)) ms

unfoldable pub tail_of : Ty → Option Tail
tail_of (scalar s) = none
tail_of (vector n s) = none
tail_of (matrix c r s) = none
tail_of (array n t) = none
tail_of (runtime t) = tail_at (some 0) (runtime t)
tail_of (atomic s) = none
tail_of (struct k ms) = members_tail none (some 0) ms

-- "It fills the size (open: array offset + elements x stride, no padding after)"
unfoldable pub extent_by : ℕ → Option ℕ → Option Tail → ℕ
extent_by n size none = present size
extent_by n size (some tail) = tail.offset + n * tail.stride

unfoldable pub extent_of : ℕ → Ty → ℕ
extent_of n t = extent_by n (size_of t) (tail_of t)

-- "Open: elements = floor((length - array offset) / stride)". A type that is not open holds none.
unfoldable pub elements_by : ℕ → Option Tail → ℕ
elements_by bytes none = 0
elements_by bytes (some tail) = (bytes - tail.offset) / tail.stride

unfoldable pub elements_in : ℕ → Ty → ℕ
elements_in bytes t = elements_by bytes (tail_of t)

-- A type as it lies in a buffer.
pub data Shape : Type 0 where
  one : Scalar → Shape
  -- so many parts, each a stride after the one before
  parts : ℕ → ℕ → Shape → Shape
  -- a member at an offset, and the members after it
  field : ℕ → Shape → Shape → Shape
  -- past the last member of a struct: how many bytes the struct takes
  whole : ℕ → Shape

-- "a column has rows x scalar size"
unfoldable pub column : ℕ → Scalar → Shape
column r s = parts r (present (width_of s)) (one s)

unfoldable mutual
  pub shape_of : ℕ → Ty → Shape
  shape_of n (scalar s) = one s
  shape_of n (vector k s) = column k s
  shape_of n (matrix c r s) = parts c (present (vector_align r s)) (column r s)
  shape_of n (array k t) = parts k (present (stride_of t)) (shape_of n t)
  shape_of n (runtime t) = parts n (present (stride_of t)) (shape_of n t)
  -- "an atomic counts as one scalar, of the type it refers to"
  shape_of n (atomic s) = one s
  shape_of n (struct k ms) = fields_of n (extent_of n (struct k ms)) (some 0) ms

  -- the members of a struct of z bytes, where the one before the first ended at `end`
  pub fields_of : ℕ → ℕ → Option ℕ → Members → Shape
  fields_of n z end no_more = whole z
  fields_of n z end (member t size align ms) =
      field (present (member_start end align (align_of t))) (shape_of n t)
      (fields_of n z (member_end end align (align_of t) size (size_of t)) ms)

-- the bytes that a shape takes: "A target has its type's size, whatever size a member gives"
unfoldable pub span_of : Shape → ℕ
span_of (one s) = present (width_of s)
span_of (parts n stride x) = n * stride
span_of (field offset x rest) = span_of rest
span_of (whole z) = z

-- where one word lies, and in how many bytes
pub record Place : Type 0 where
  pub at : ℕ
  pub width : ℕ

-- n words over so many bytes at `at`: word k holds four of them, from byte 4 x k on, or the rest
unfoldable pub words_over : ℕ → ℕ → ℕ → List Place
words_over zero bytes at = []
words_over (suc n) bytes at = record { at = at; width = min 4 bytes } ∷ words_over n (bytes - 4) (at + 4)

-- "A 64-bit scalar takes two words, low first" (E6): how many words hold so many bytes, and where those of a scalar lie
unfoldable pub words_for : ℕ → ℕ
words_for bytes = up 4 bytes / 4

unfoldable pub word_places : Scalar → ℕ → List Place
word_places s at = words_over (words_for (present (width_of s))) (present (width_of s)) at

-- what f gives at `at`, at + stride, ..: n of them
unfoldable pub repeated : {A : Type 0} → ℕ → ℕ → (ℕ → List A) → ℕ → List A
repeated zero stride f at = []
repeated (suc n) stride f at = f at ++ repeated n stride f (at + stride)

-- "Its words are its scalars in order of offset": their places, where the shape begins at `at`
unfoldable pub places_of : Shape → ℕ → List Place
places_of (one s) at = word_places s at
places_of (parts n stride x) at = repeated n stride (λ p. places_of x p) at
places_of (field offset x rest) at = places_of x (at + offset) ++ places_of rest at
places_of (whole z) at = []

unfoldable pub places : ℕ → Ty → List Place
places n t = places_of (shape_of n t) 0

unfoldable pub word_count : ℕ → Ty → ℕ
word_count n t = length (places n t)

-- the words, each at its place
unfoldable pub store_words : List Place → List ℕ → List ℕ → List ℕ
store_words [] ws b = b
store_words (p ∷ ps) [] b = b
store_words (p ∷ ps) (w ∷ ws) b = store_words ps ws (store p.width b p.at w)

-- "zero where no scalar lies; later bytes stay"
unfoldable pub written : ℕ → Ty → List ℕ → List ℕ → List ℕ
written n t ws b = store_words (places n t) ws (replicate (extent_of n t) 0 ++ drop (extent_of n t) b)

-- the words at their places
unfoldable pub words_read : List Place → List ℕ → List ℕ
words_read ps b = map (λ p. load p.width b p.at) ps

-- "f16 as bits in 0 to 65,535": a word has 32 bits, so no other scalar refuses one
unfoldable pub can_hold : Place → ℕ → Bool
can_hold p w = ltb w (256 ^ p.width)

-- Refusal 16, at "the lowest position .. of .. a bad word in the words", the first of which has number k
unfoldable pub check_words : ℕ → List Place → List ℕ → Said (Unit {0})
check_words k [] ws = good tt
check_words k (p ∷ ps) [] = good tt
check_words k (p ∷ ps) (w ∷ ws) = do
  refuse 16 k (not (can_hold p w))
  check_words (suc k) ps ws
