-- What a walk finds at an entry, by its layout (specs/Way): a scalar, parts, or a struct.
--
-- In order: a part; what an entry is; types with a size; every kind.
-- Assumes nothing.
use Prim.Native.Nat.{ℕ, ◌*◌, ◌<◌, ◌≤◌}
use mathlib.Core.Bool.{true, ◌||◌, or-true}
use mathlib.Core.List.{List}
use mathlib.Core.Logic.{inl}
use mathlib.Core.Option.{Option, some}
use mathlib.Core.Path.{◌≡◌, sym, ap, ◌∙◌}
use native.Mathlib.Omega.{arith}
use native.Mathlib.Nat.{mul-one}
use borrow.Author.Tests.{eq-eqb, ne_eqb}
use lib.ListN.{length, get_elem?}
use Rattle.wgsl.specs.Round.{up}
use Rattle.wgsl.specs.Types.{Scalar, Ty, scalar, vector, matrix, array, runtime, Members, is_open, scalar_kind, is_scalar_kind, kind_of, struct_kind}
use Rattle.wgsl.specs.Size.{both, is_present, present, width_of, vector_size, vector_align, size_of, align_of, has_layout}
use Rattle.wgsl.specs.File.{type_entry_at}
use Rattle.wgsl.specs.Place.{Shape, one, parts, words_for, column, shape_of, fields_of, span_of}
use Rattle.wgsl.proofs.Absent.{both_hold, hold_both, present_some, some_present, both_some}
use Rattle.wgsl.proofs.Passed.{matrix_passed, runtime_passed}
use Rattle.wgsl.proofs.Align.{width_power, vector_align_lem}
use Rattle.wgsl.proofs.Count.{matrix_word}
use Rattle.wgsl.proofs.AtEntry.{Refers, to_none, to_vector, to_matrix, to_array, to_runtime, to_atomic, to_members}
use Rattle.file.specs.Members.{member_length}
use Rattle.layout_values.specs.declared.value.Value.{Value}
use Rattle.layout_values.specs.Value.{parts_of, stride_in, value_of, value_at}
use Rattle.wgsl.proofs.ScalarKind.{scalar_kind_is}
use Rattle.walk_shapes.specs.Basis.{Basis}
use Rattle.walk_shapes.proofs.Basis.{basis_inside, basis_layout, basis_well_formed, basis_refers}
use Rattle.walk_path.specs.declared.enter.Stand.TheVariants.{Entry, Column}
use Rattle.walk_path.specs.Way.{size_at, parts_at, Stands, at_entry, at_column}
use Rattle.walk_path.proofs.SizeAt.{kind_there, inner_size}

-- ---- a part

-- a part, of the shape y, of an entry with the layout l: a column over the entry that it refers to, or that entry
pub record Part (ts : List Ty) (table : List Value) (n : ℕ) (l : Value) (y : Shape) : Type 0 where
  pub inside : l.reference < length table
  pub as_column : l.kind ≡ 8 → Stands ts n (Column l.unit l.reference) y × (l.unit * (value_at table l.reference).size ≡ span_of y)
  pub as_entry : (l.kind ≡ 8 → ⊥) → Stands ts n (Entry l.reference) y × (size_at table n l.reference ≡ span_of y)

-- ---- what an entry is

pub data EntryFound (ts : List Ty) (table : List Value) (n e : ℕ) : Shape → Type 0 where
  -- kinds 0 to 6, and 13 to 15
  a_scalar : (s : Scalar) → (value_at table e).kind ≡ scalar_kind s → is_scalar_kind (value_at table e).kind ≡ true → EntryFound ts table n e (one s)
  an_atomic : (s : Scalar) → (value_at table e).kind ≡ 11 → (value_at table e).reference < length table → (value_at table (value_at table e).reference).kind ≡ scalar_kind s → EntryFound ts table n e (one s)
  -- kinds 7 to 10
  of_parts : {count stride : ℕ} {y : Shape} → 7 ≤ (value_at table e).kind → (value_at table e).kind ≤ 10 → parts_at table n e ≡ count → (value_at table e).stride ≡ stride → Part ts table n (value_at table e) y → EntryFound ts table n e (parts count stride y)
  of_members : (z : ℕ) (end : Option ℕ) (ms : Members) → (value_at table e).kind ≡ struct_kind → EntryFound ts table n e (fields_of n z end ms)

-- ---- types with a size

record Sized (t : Ty) : Type 0 where
  aligned : is_present (align_of t) ≡ true
  sized : is_present (size_of t) ≡ true

sized_layout : {t : Ty} → Sized t → has_layout t ≡ true
unfolding has_layout
sized_layout {t} x =
    hold_both (is_present (align_of t)) (is_open t || is_present (size_of t)) x.aligned (rw x.sized (or-true (is_open t)))

-- a scalar that has a width
wide_scalar : {s : Scalar} {w : ℕ} → width_of s ≡ some w → Sized (scalar s)
unfolding align_of size_of
wide_scalar e = record { aligned = some_present e; sized = some_present e }

-- the scalar of a vector has a size
vector_sized : (c : ℕ) (s : Scalar) → has_layout (vector c s) ≡ true → Sized (scalar s)
unfolding has_layout is_open size_of vector_size
vector_sized c s h =
    let z = present_some (vector_size c s) (both_hold (is_present (align_of (vector c s))) (is_present (vector_size c s)) h).1 in
    wide_scalar (both_some ◌*◌ (some c) (width_of s) z.0 z.1).right_is

-- the element of an array has one
array_sized : (c : ℕ) (t : Ty) → has_layout (array c t) ≡ true → Sized t
unfolding has_layout align_of is_open size_of
array_sized c t h =
    let has = both_hold (is_present (align_of t)) _ h in
    let z = present_some (both ◌*◌ (some c) (both up (align_of t) (size_of t))) has.1 in
    let outer = both_some ◌*◌ (some c) (both up (align_of t) (size_of t)) z.0 z.1 in
    record { aligned = has.0; sized = some_present (both_some up (align_of t) (size_of t) outer.right outer.right_is).right_is }

-- ---- every kind

module _ {f : List ℕ} {ts : List Ty} {ms : List ℕ} {table : List Value} (basis : Basis f ts ms table) (n e : ℕ) where
  -- the parts of a runtime array, and of the others
  runtime_parts : (value_at table e).kind ≡ 10 → parts_at table n e ≡ n
  unfolding parts_at
  runtime_parts is = rw (eq-eqb (value_at table e).kind 10 is)

  other_parts : ((value_at table e).kind ≡ 10 → ⊥) → parts_at table n e ≡ (value_at table e).count
  unfolding parts_at
  other_parts other = rw (ne_eqb (value_at table e).kind 10 other)

  module _ {t : Ty} (there : get_elem? ts e ≡ some t) where
    kind : (value_at table e).kind ≡ kind_of t
    kind = kind_there basis e t there

    reference : (value_at table e).reference ≡ (type_entry_at f e).reference
    unfolding value_of
    reference = ap (λ (l : Value). l.reference) (basis_layout basis e t there)

    count : (value_at table e).count ≡ (parts_of t).count
    unfolding value_of
    count = ap (λ (l : Value). l.count) (basis_layout basis e t there)

    unit : has_layout t ≡ true → (value_at table e).unit ≡ (parts_of t).words
    unfolding value_of
    unit h = ap (λ (l : Value). l.unit) (basis_layout basis e t there) ∙ rw h

    stride : (value_at table e).stride ≡ present (stride_in (member_length f) t)
    unfolding value_of
    stride = ap (λ (l : Value). l.stride) (basis_layout basis e t there)

    -- a part that is an entry
    entry_part : {u : Ty} → (kind_of t ≡ 8 → ⊥) → get_elem? ts (type_entry_at f e).reference ≡ some u → Sized u → Part ts table n (value_at table e) (shape_of n u)
    entry_part {u} other found x =
        record {
          inside = rw reference (basis_inside basis _ u found);
          as_column = λ q. absurd (other (sym kind ∙ q));
          as_entry = λ q. rw reference (
            at_entry found (sized_layout x),
            inner_size basis n _ u found (sized_layout x) (inl x.sized),
          );
        }

  -- a part that is a column
  column_part : {c r : ℕ} {s : Scalar} → get_elem? ts e ≡ some (matrix c r s) → has_layout (matrix c r s) ≡ true → get_elem? ts (type_entry_at f e).reference ≡ some (scalar s) → Sized (scalar s) → Part ts table n (value_at table e) (column r s)
  unfolding kind_of parts_of value_of column span_of size_of present
  column_part {c} {r} {s} there h found x =
      let passed = matrix_passed c r s (basis_well_formed basis e (matrix c r s) there) in
      let w = present_some (width_of s) x.sized in
      let above : 0 < present (width_of s) = rw w.1 (omega (arith, (width_power s w.0 w.1).low)) in
      let rows : r * words_for (present (width_of s)) ≡ r = ap (λ (i : ℕ). r * i) (matrix_word s passed.2 above) ∙ mul-one r in
      record {
        inside = rw (reference there) (basis_inside basis _ (scalar s) found);
        as_column = λ q. rw (reference there, unit there h ∙ rows) (
          at_column found (sized_layout x),
          ap (λ (l : Value). r * l.size) (basis_layout basis _ (scalar s) found),
        );
        as_entry = λ q. absurd (q (kind there));
      }

  -- the scalar of a matrix, and the element of a runtime array, have sizes
  matrix_sized : {c r : ℕ} {s : Scalar} → get_elem? ts e ≡ some (matrix c r s) → has_layout (matrix c r s) ≡ true → Sized (scalar s)
  unfolding has_layout align_of
  matrix_sized {c} {r} {s} there h =
      let a = present_some (vector_align r s) (both_hold (is_present (vector_align r s)) _ h).0 in
      wide_scalar (vector_align_lem r s a.0 (matrix_passed c r s (basis_well_formed basis e (matrix c r s) there)).1 a.1).width_is

  runtime_sized : {t : Ty} → get_elem? ts e ≡ some (runtime t) → Sized t
  runtime_sized {t} there =
      let p = runtime_passed t (basis_well_formed basis e (runtime t) there) in
      record { aligned = some_present p.aligned_is; sized = some_present p.own_is }

  -- An entry with a layout is a scalar, an atomic, has parts, or is a struct.
  pub found : {t : Ty} → get_elem? ts e ≡ some t → has_layout t ≡ true → EntryFound ts table n e (shape_of n t)
  unfolding kind_of stride_in parts_of shape_of column
  found {t} there h = go (basis_refers basis e t there) there h
    where
      go : {t : Ty} → Refers f ts e (type_entry_at f e) t → get_elem? ts e ≡ some t → has_layout t ≡ true → EntryFound ts table n e (shape_of n t)
      go (to_none s) there h =
          let is : (value_at table e).kind ≡ scalar_kind s = kind there in
          a_scalar s is (rw is (scalar_kind_is s))
      go (to_vector s down found) there h =
          let is : (value_at table e).kind ≡ 7 = kind there in
          of_parts (omega arith) (omega arith) (other_parts (λ q. omega arith) ∙ count there) (stride there)
          (entry_part there (λ q. omega arith) found (vector_sized _ s h))
      go (to_matrix s down found) there h =
          let is : (value_at table e).kind ≡ 8 = kind there in
          of_parts (omega arith) (omega arith) (other_parts (λ q. omega arith) ∙ count there) (stride there)
          (column_part there h found (matrix_sized there h))
      go (to_array u down found) there h =
          let is : (value_at table e).kind ≡ 9 = kind there in
          of_parts (omega arith) (omega arith) (other_parts (λ q. omega arith) ∙ count there) (stride there)
          (entry_part there (λ q. omega arith) found (array_sized _ u h))
      go (to_runtime u no-count down found) there h =
          let is : (value_at table e).kind ≡ 10 = kind there in
          of_parts (omega arith) (omega arith) (runtime_parts is) (stride there)
          (entry_part there (λ q. omega arith) found (runtime_sized there))
      go (to_atomic s down found) there h =
          an_atomic s (kind there) (rw (reference there) (basis_inside basis _ (scalar s) found))
          (rw (reference there) (kind_there basis _ (scalar s) found))
      go (to_members ms are within) there h = of_members _ _ ms (kind there)
