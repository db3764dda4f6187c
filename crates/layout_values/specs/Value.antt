-- What the table holds of a type, and what becomes of an entry, in the words of crates/wgsl.
--
-- In order: a type's narrowest word, its parts; its value; a table of values; the verdict on an entry's type; values that are some type's.
-- Definitions only. Assumes nothing.
use Rattle.std.specs.Prelude.{ℕ, suc, ◌-◌, ◌*◌, min, ◌≡◌, true, cond, List, [], ◌∷◌, ◌++◌, eqb, length, get_or, replicate, Err, Ok, Result}
use Rattle.std.proofs.Math.Option.{Option, none, some}
use Rattle.wgsl.specs.Types.{Scalar, Ty, scalar, vector, matrix, array, runtime, atomic, struct, Members, no_more, member, everywhere, kind_of, struct_kind}
use Rattle.wgsl.specs.Size.{present, width_of, vector_align, size_of, align_of, stride_of, fits_limit, has_layout, is_stored}
use Rattle.wgsl.specs.File.{type_entry_at, most_types}
use Rattle.file.specs.Members.{member_length}
use Rattle.wgsl.specs.Rule.{count_of, is_allowed, given_fits, is_well_formed}
use Rattle.wgsl.specs.Place.{words_for, word_count}
use Rattle.layout_values.specs.declared.value.Value.{Value}
use Rattle.said.specs.declared.refusal.Refusal.{Refusal}
use Rattle.said.specs.declared.refusal.Refusal.TheVariants as refusal
use Rattle.layout_values.specs.declared.value.Broken.{Broken}
use Rattle.layout_values.specs.declared.value.Broken.TheVariants.{Given, Large, Rule}

-- ---- a type's numbers

-- the bytes that each word of a scalar takes, if it may be stored
unfoldable pub stored_width : Scalar → ℕ
stored_width s = cond (is_stored s) (min 4 (present (width_of s))) 0

-- the words of a scalar
abbrev pub scalar_words : Scalar → ℕ
scalar_words s = words_for (present (width_of s))

-- the fewest bytes that one of its words takes; 0 where one of its scalars may not be stored
unfoldable mutual
  pub narrow_of : Ty → ℕ
  narrow_of (scalar s) = stored_width s
  narrow_of (vector n s) = stored_width s
  narrow_of (matrix c r s) = stored_width s
  narrow_of (array n t) = narrow_of t
  narrow_of (runtime t) = narrow_of t
  narrow_of (atomic s) = stored_width s
  narrow_of (struct k ms) = narrowest ms

  pub narrowest : Members → ℕ
  narrowest no_more = 4
  narrowest (member t size align ms) = min (narrow_of t) (narrowest ms)

-- the words of a type that has a layout, with no element of a runtime array
unfoldable pub fixed_words : Ty → ℕ
fixed_words t = cond (has_layout t) (word_count 0 t) 0

-- parts: a vector's scalars, a matrix's columns, an array's elements; a scalar and an atomic are one; of a struct its members
pub record Part : Type 0 where
  -- how many; of a runtime array none
  pub count : ℕ
  -- the words of one; of a struct all its words
  pub words : ℕ
  -- from one to the next; of a struct, none
  pub stride : Option ℕ

unfoldable pub parts_of : Ty → Part
parts_of (scalar s) = record { count = 1; words = scalar_words s; stride = width_of s }
parts_of (vector n s) = record { count = n; words = scalar_words s; stride = width_of s }
parts_of (matrix c r s) = record { count = c; words = r * scalar_words s; stride = vector_align r s }
parts_of (array n t) = record { count = n; words = fixed_words t; stride = stride_of t }
parts_of (runtime t) = record { count = 0; words = fixed_words t; stride = stride_of t }
parts_of (atomic s) = record { count = 1; words = scalar_words s; stride = width_of s }
parts_of (struct k ms) = record { count = count_of ms; words = word_count 0 (struct k ms); stride = none }

-- the same of a struct: from one member entry to the next, which are so long
unfoldable pub stride_in : ℕ → Ty → Option ℕ
stride_in long (scalar s) = (parts_of (scalar s)).stride
stride_in long (vector n s) = (parts_of (vector n s)).stride
stride_in long (matrix c r s) = (parts_of (matrix c r s)).stride
stride_in long (array n t) = (parts_of (array n t)).stride
stride_in long (runtime t) = (parts_of (runtime t)).stride
stride_in long (atomic s) = (parts_of (atomic s)).stride
stride_in long (struct k ms) = some long

-- ---- its value

-- the value of a type whose entry has this reference, in a file whose member entries are so long
unfoldable pub value_of : ℕ → ℕ → Ty → Value
value_of long reference t =
    record {
      kind = kind_of t;
      narrow = narrow_of t;
      reference = reference;
      count = (parts_of t).count;
      unit = cond (has_layout t) (parts_of t).words 0;
      stride = present (stride_in long t);
      size = present (size_of t);
      align = present (align_of t);
    }

-- its words, with no element of a runtime array
unfoldable pub words_in : Value → ℕ
words_in l = cond (eqb l.kind struct_kind) l.unit (l.count * l.unit)

-- ---- a table of values

-- before it is filled
abbrev pub blank_value : Value
blank_value = record { kind = 0; narrow = 0; reference = 0; count = 0; unit = 0; stride = 0; size = 0; align = 0 }

-- "A table of 256 layouts": before it is filled
unfoldable pub blank_table : List Value
blank_table = replicate most_types blank_value

-- the value of entry e
unfoldable pub value_at : List Value → ℕ → Value
value_at table e = get_or table e blank_value

-- the values of types whose entries are those of a file from entry k on
unfoldable pub values_from : List ℕ → ℕ → List Ty → List Value
values_from f k [] = []
values_from f k (t ∷ ts) = value_of (member_length f) (type_entry_at f k).reference t ∷ values_from f (suc k) ts

-- the table of a file with these types: their values, and blanks past them
unfoldable pub values_of : List ℕ → List Ty → List Value
values_of f ts = values_from f 0 ts ++ replicate (most_types - length ts) blank_value

-- ---- the verdict on an entry's type

-- 5, 6 or 7, or the value
unfoldable pub verdict_on : ℕ → ℕ → Ty → Result Value Broken
verdict_on long reference t =
    cond (is_allowed t) (cond (given_fits t) (cond (fits_limit t) (Ok (value_of long reference t)) (Err Large)) (Err Given)) (Err Rule)

-- the same of an entry with this reference whose fields make a type, or none
unfoldable pub made_of : ℕ → ℕ → Option Ty → Result Value Broken
made_of long reference (some t) = verdict_on long reference t
made_of long reference none = Err Rule

-- ---- values that are some type's

-- a value in the table: that of a type that the file's rules leave
pub record Known (l : Value) : Type 0 where
  pub type : Ty
  pub is : l ≡ value_of l.stride l.reference type
  pub well_formed : everywhere is_well_formed type ≡ true

-- ---- why an entry has no value

-- its refusal
abbrev pub refusal_at : Broken → ℕ → Refusal
refusal_at Rule entry = refusal.Rule entry
refusal_at Given entry = refusal.Given entry
refusal_at Large entry = refusal.Large entry
