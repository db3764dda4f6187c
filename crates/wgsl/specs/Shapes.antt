-- What the functions of the library ask of shapes (specs/Place): that they are laid out as they should be, how many words they have, and
-- where an open type opens. No claim of a public call speaks of it, so it need not be believed.
-- Definitions only. Assumes nothing.
use Rattle.std.specs.Prelude.{ℕ, ◌+◌, ◌*◌, ◌%◌, ◌<◌, ◌≤◌, ◌++◌, ◌≡◌}
use Rattle.std.proofs.Math.Option.{some}
use Rattle.wgsl.specs.Types.{Ty, runtime}
use Rattle.wgsl.specs.Size.{present, width_of, stride_of}
use Rattle.wgsl.specs.Place.{Tail, tail_of, Shape, one, parts, field, whole, shape_of, span_of, words_for, places_of, places}

-- ---- laid out as it should be

-- every scalar of the shape has a size that divides m
unfoldable pub Divides : Shape → ℕ → Type 0
Divides (one s) m = m % present (width_of s) ≡ 0
Divides (parts n stride x) m = Divides x m
Divides (field offset x rest) m = Divides x m × Divides rest m
Divides (whole z) m = Unit {0}

-- these are the members that are left of a struct, or its end, and the first of them begins at lo or later
unfoldable pub From : Shape → ℕ → Type 0
From (one s) lo = ⊥
From (parts n stride x) lo = ⊥
From (field offset x rest) lo = lo ≤ offset
From (whole z) lo = lo ≤ z

-- scalars have a size; parts fit their stride; members follow each other inside the struct; strides and offsets suit the scalars
unfoldable pub Sound : Shape → Type 0
Sound (one s) = 0 < present (width_of s)
Sound (parts n stride x) = Sound x × (span_of x ≤ stride) × Divides x stride
Sound (field offset x rest) = Sound x × Sound rest × From rest (offset + span_of x) × Divides x offset
Sound (whole z) = Unit {0}

-- ---- its words

-- how many words a shape takes
unfoldable pub shape_words : Shape → ℕ
shape_words (one s) = words_for (present (width_of s))
shape_words (parts n stride x) = n * shape_words x
shape_words (field offset x rest) = shape_words x + shape_words rest
shape_words (whole z) = 0

-- ---- open types

-- an open type whose runtime array has elements of the type u
pub record Opened (t u : Ty) (tail : Tail) : Type 0 where
  pub tail_is : tail_of t ≡ some tail
  pub stride_is : tail.stride ≡ present (stride_of u)
  pub places_are : (n : ℕ) → places n t ≡ places 0 t ++ places_of (shape_of n (runtime u)) tail.offset
