-- A bit field's scalar (crates/wgsl, specs/BitFieldCall) as the code has it.
-- Definitions only. Assumes nothing.
use Rattle.std.specs.Prelude.{ℕ, ◌+◌, ◌≤◌, true, List, [], ◌∷◌, ◌≡◌, length}
use Rattle.wgsl.specs.Types.{scalar_kind}
use Rattle.wgsl.specs.Round.{limit}
use Rattle.wgsl.specs.Size.{present, width_of}
use Rattle.wgsl.specs.Said.{Said, good, refused}
use Rattle.wgsl.specs.BitFieldCall.{is_integer, FoundInteger, word_of}
use Rattle.wgsl.specs.Place.{word_places, store_words}
use Rattle.wgsl.specs.BitField.{inserted}
use Rattle.said.specs.declared.target.Target.{Target}

-- the scalar as the code has it
abbrev pub found_is : FoundInteger → Target
found_is x = record { offset = x.offset; size = present (width_of x.scalar); scalar = scalar_kind x.scalar }

abbrev pub found_in : Said FoundInteger → Said Target
found_in (good x) = good (found_is x)
found_in (refused number place) = refused number place

-- the i32 or u32 x as the code has it, inside a buffer of so many bytes
pub record Integer (t : Target) (x : FoundInteger) (bytes : ℕ) : Type 0 where
  pub is : t ≡ found_is x
  pub integer : is_integer x.scalar ≡ true
  pub inside : x.offset + 4 ≤ bytes
  pub within : bytes ≤ limit

-- the buffer with new bits in the field of the scalar
abbrev pub FieldPut : Target → ℕ → ℕ → ℕ → List ℕ → List ℕ → Type 0
FieldPut t new offset count before after =
    (x : FoundInteger) → Integer t x (length before) → after ≡ store_words (word_places x.scalar x.offset) (inserted (word_of x before) new offset count ∷ []) before
