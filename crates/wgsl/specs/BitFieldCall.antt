-- Bit fields at a path: the two calls of 02, E2.
--
-- In order: which scalars have fields; extraction; insertion.
-- "Then a call that does it at a path to one i32 or u32 of a storable entry. Refusals: as for set; 14 also for a scalar of another type."
-- Definitions only. Assumes nothing.
use Rattle.std.specs.Prelude.{ℕ, Bool, true, false, cond, not, List, [], ◌∷◌}
use Rattle.wgsl.specs.Number.{load}
use Rattle.wgsl.specs.Types.{Scalar, bool, i32, u32, f32, f16, abstract_int, abstract_float, i64, u64, f64}
use Rattle.wgsl.specs.Size.{present, width_of}
use Rattle.wgsl.specs.Said.{Said, good, ◌>>=◌, ◌>>◌, refuse, or_refuse}
use Rattle.wgsl.specs.Place.{word_places, store_words}
use Rattle.wgsl.specs.Path.{Target}
use Rattle.wgsl.specs.Call.{Done, target_call, scalar_at}
use Rattle.wgsl.specs.BitField.{extracted_u32, extracted_i32, inserted}

-- ---- which scalars have fields

-- "one i32 or u32" (an atomic counts as the scalar that it refers to)
unfoldable pub is_integer : Scalar → Bool
is_integer bool = false
is_integer i32 = true
is_integer u32 = true
is_integer f32 = false
is_integer f16 = false
is_integer abstract_int = false
is_integer abstract_float = false
is_integer i64 = false
is_integer u64 = false
is_integer f64 = false

-- of these two, the signed one
unfoldable pub is_signed : Scalar → Bool
is_signed bool = false
is_signed i32 = true
is_signed u32 = false
is_signed f32 = false
is_signed f16 = false
is_signed abstract_int = false
is_signed abstract_float = false
is_signed i64 = false
is_signed u64 = false
is_signed f64 = false

-- where the one i32 or u32 lies that a path leads to, and which of the two it is
pub record FoundInteger : Type 0 where
  pub offset : ℕ
  pub scalar : Scalar

-- "14 also for a scalar of another type"
unfoldable pub integer_of : Target → Said FoundInteger
integer_of target = do
  s ← or_refuse 14 0 (scalar_at target.shape)
  refuse 14 0 (not (is_integer s))
  good (record { offset = target.offset; scalar = s })

-- "as for set"
unfoldable pub integer_at : List ℕ → ℕ → List ℕ → List ℕ → Said FoundInteger
integer_at f e path b = do
  target ← target_call true f e path b
  integer_of target

-- its word
unfoldable pub word_of : FoundInteger → List ℕ → ℕ
word_of x b = load (present (width_of x.scalar)) b x.offset

-- ---- extraction

-- the field of a word: "and a signed field repeats its top bit above"
unfoldable pub extracted_as : Scalar → ℕ → ℕ → ℕ → ℕ
extracted_as s w offset count = cond (is_signed s) (extracted_i32 w offset count) (extracted_u32 w offset count)

-- The answer is the field as a word; of an i32, as its pattern.
unfoldable pub extract_call : List ℕ → ℕ → List ℕ → List ℕ → ℕ → ℕ → Said ℕ
extract_call f e path b offset count = do
  x ← integer_at f e path b
  good (extracted_as x.scalar (word_of x b) offset count)

-- ---- insertion

-- It answers the scalar's offset, as a set does.
unfoldable pub insert_call : List ℕ → ℕ → List ℕ → ℕ → ℕ → ℕ → List ℕ → Said Done
insert_call f e path new offset count b = do
  x ← integer_at f e path b
  good (record { value = x.offset; contents = store_words (word_places x.scalar x.offset) (inserted (word_of x b) new offset count ∷ []) b })
