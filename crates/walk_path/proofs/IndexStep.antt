-- What an index step leads to (crates/wgsl, specs/Path), at an entry and at a matrix's column (specs/Way).
--
-- In order: where a walk stands; entries without parts; the part of an entry; the scalar of a column; the one scalar.
-- Assumes nothing.
use Rattle.std.specs.Prelude.{Ok}
use Prim.Native.Nat.{ℕ, ◌+◌, ◌*◌, ◌<◌, ◌≤◌}
use mathlib.Core.Bool.{true, false}
use mathlib.Core.List.{List}
use mathlib.Core.Option.{Option}
use mathlib.Core.Path.{◌≡◌, refl, sym, ap, ◌∙◌}
use native.Mathlib.Omega.{arith}
use native.Mathlib.Nat.{suc-mul, mod_self, mul-le-mul_right}
use borrow.Author.Tests.{lt-ltb, le-ltb}
use lib.ListN.{length}
use Rattle.wgsl.specs.Round.{limit}
use Rattle.wgsl.specs.Types as types
use Rattle.wgsl.specs.Types.{Scalar, Ty, Members, no_more, is_scalar_kind}
use Rattle.wgsl.specs.Size.{is_present, present, width_of, size_of, align_of, has_layout}
use Rattle.wgsl.specs.Said.{good, refused}
use Rattle.wgsl.specs.Place.{Shape, one, column, shape_of, fields_of, span_of}
use Rattle.wgsl.specs.Path.{index, member, enter}
use Rattle.wgsl.specs.Shapes.{Divides, Sound}
use Rattle.wgsl.proofs.ScalarKind.{kind_clash}
use Rattle.wgsl.proofs.Absent.{both_hold, present_some, present_is, true_not_false}
use Rattle.wgsl.proofs.Align.{width_power}
use Rattle.wgsl.proofs.Path.{target}
use Rattle.layout_values.specs.declared.value.Value.{Value}
use Rattle.layout_values.specs.Value.{value_of, value_at}
use Rattle.walk_shapes.specs.Basis.{Basis}
use Rattle.walk_shapes.proofs.Basis.{basis_inside, basis_layout}
use Rattle.walk_path.specs.declared.enter.Stand.{Stand}
use Rattle.walk_path.specs.declared.enter.Stand.TheVariants.{Entry, Column}
use Rattle.walk_path.specs.Way.{size_at, parts_at, Parted, Stands, at_entry, at_column, Standing, Enters}
use Rattle.said.specs.Target.{kind_in}
use Rattle.walk_path.proofs.SizeAt.{step_inside, size_within, sound_at}
use Rattle.walk_path.proofs.EntryFound.{Part, EntryFound, a_scalar, an_atomic, of_parts, of_members, found}

-- ---- where a walk stands

-- a column of r scalars s over the entry e
record InColumn (ts : List Ty) (table : List Value) (n r e : ℕ) (x : Shape) : Type 0 where
  s : Scalar
  shape_is : x ≡ column r s
  there : e < length table
  size_is : (value_at table e).size ≡ present (width_of s)
  below : Stands ts n (Entry e) (one s)

module _ {f : List ℕ} {ts : List Ty} {ms : List ℕ} {table : List Value} (basis : Basis f ts ms table) where
  inside_of : {n e : ℕ} {x : Shape} → Stands ts n (Entry e) x → e < length table
  inside_of (at_entry {e} {t} there has) = basis_inside basis e t there

  found_of : {n e : ℕ} {x : Shape} → Stands ts n (Entry e) x → EntryFound ts table n e x
  found_of (at_entry there has) = found basis _ _ there has

  in_column : {n r e : ℕ} {x : Shape} → Stands ts n (Column r e) x → InColumn ts table n r e x
  unfolding value_of size_of shape_of
  in_column (at_column {e = e} {s} there has) =
      record {
        s = s;
        shape_is = refl;
        there = basis_inside basis e _ there;
        size_is = ap (λ (l : Value). l.size) (basis_layout basis e _ there);
        below = at_entry there has;
      }

  -- What a walk stands at is laid out soundly.
  pub stands_sound : {n : ℕ} {p : Stand} {x : Shape} → Stands ts n p x → Sound x
  unfolding has_layout align_of column Sound span_of Divides
  stands_sound (at_entry there has) = (sound_at basis _ _ there has).0
  stands_sound (at_column {s = s} there has) =
      let w = present_some (width_of s) (both_hold (is_present (width_of s)) _ has).0 in
      let wide : present (width_of s) ≡ w.0 = ap present w.1 ∙ present_is w.0 in
      (omega (arith, (width_power s w.0 w.1).low), omega arith, mod_self (present (width_of s)))

module _ {f : List ℕ} {ts : List Ty} {ms : List ℕ} {table : List Value} {n e : ℕ} {x : Shape} (at : Standing f ts ms table n (Entry e) x) where
  pub entry_inside : e < length table
  entry_inside = inside_of at.basis at.stands

  pub entry_found : EntryFound ts table n e x
  entry_found = found_of at.basis at.stands

-- ---- an entry without parts

members_no_index : (n z : ℕ) (end : Option ℕ) (ms : Members) (i j : ℕ) → enter j (fields_of n z end ms) (index i) ≡ refused 13 j
unfolding enter fields_of
members_no_index n z end no_more i j = refl
members_no_index n z end (types.member t size align ms) i j = refl

-- "index step on a struct, scalar or atomic"
pub no_index : {ts : List Ty} {table : List Value} {n e : ℕ} {x : Shape} → EntryFound ts table n e x → (7 ≤ (value_at table e).kind → (value_at table e).kind ≤ 10 → ⊥) → (i j : ℕ) → enter j x (index i) ≡ refused 13 j
unfolding enter
no_index (a_scalar s is low) none i j = refl
no_index (an_atomic s is lower below) none i j = refl
no_index (of_parts low high count stride part) none i j = absurd (none low high)
no_index (of_members z end ms is) none i j = members_no_index _ z end ms i j

-- ---- the part of an entry

-- "index not below the count"
pub past_end : {ts : List Ty} {table : List Value} {n e : ℕ} {x : Shape} → EntryFound ts table n e x → 7 ≤ (value_at table e).kind → (value_at table e).kind ≤ 10 → (i : ℕ) → parts_at table n e ≤ i → (j : ℕ) → enter j x (index i) ≡ refused 12 j
unfolding enter
past_end (a_scalar s is under) low high i h j = absurd (kind_clash _ _ under refl low (omega arith))
past_end (an_atomic s is lower below) low high i h j = absurd (omega arith)
past_end (of_parts {count = c} under over count stride part) low high i h j = rw (le-ltb i c (rw count at h))
past_end (of_members z end ms is) low high i h j = absurd (omega arith)

-- part i of entry e, of the shape x
record Indexed (ts : List Ty) (table : List Value) (n e i : ℕ) (x : Shape) : Type 0 where
  y : Shape
  part : Part ts table n (value_at table e) y
  enters : (j : ℕ) → enter j x (index i) ≡ good (record { offset = i * (value_at table e).stride; shape = y })

indexed : {ts : List Ty} {table : List Value} {n e i : ℕ} {x : Shape} → EntryFound ts table n e x → Parted table n e i → Indexed ts table n e i x
unfolding enter
indexed (a_scalar s is under) has = absurd (kind_clash _ _ under refl has.low (omega (arith, has.high)))
indexed (an_atomic s is lower below) has = absurd (omega (arith, has.high))
indexed {i = i} (of_parts {count = c} {y = y} low high count stride part) has =
    let h : i < c = omega (arith, has.inside) in
    record { y = y; part = part; enters = λ j. rw (lt-ltb i c h, stride) }
indexed (of_members z end ms is) has = absurd (omega (arith, has.high))

module _ {f : List ℕ} {ts : List Ty} {ms : List ℕ} {table : List Value} {n e i : ℕ} {x : Shape} (at : Standing f ts ms table n (Entry e) x) (has : Parted table n e i) where
  here : Indexed ts table n e i x
  here = indexed (entry_found at) has

  -- it lies within the limit
  inside : i * (value_at table e).stride + span_of here.y ≤ limit
  inside =
      let sound = stands_sound at.basis at.stands in
      omega (arith, (step_inside 0 x (index i) (target (i * (value_at table e).stride) here.y) sound (here.enters 0)).1, at.within)

  -- So the layout below is there, and the numbers that are worked out are within the limit.
  pub part_inside : (value_at table e).reference < length table
  part_inside = here.part.inside

  pub part_offset : i * (value_at table e).stride ≤ limit
  part_offset = omega (arith, inside)

  pub column_size : (value_at table e).kind ≡ 8 → (value_at table e).unit * (value_at table (value_at table e).reference).size ≤ limit
  column_size is = omega (arith, inside, (here.part.as_column is).1)

  pub part_size : ((value_at table e).kind ≡ 8 → ⊥) → (value_at table (value_at table e).reference).kind ≡ 10 → n * (value_at table (value_at table e).reference).stride ≤ limit
  part_size other = size_within table n (value_at table e).reference (omega (arith, inside, (here.part.as_entry other).1))

  -- The step leads to a matrix's column,
  pub column_enters : (value_at table e).kind ≡ 8 → Enters ts n (Ok (record { offset = i * (value_at table e).stride; size = (value_at table e).unit * (value_at table (value_at table e).reference).size; stand = Column (value_at table e).unit (value_at table e).reference })) x (index i)
  unfolding Enters
  column_enters is = (here.y, (here.part.as_column is).0, (here.part.as_column is).1, here.enters)

  -- and else to the entry below.
  pub part_enters : ((value_at table e).kind ≡ 8 → ⊥) → Enters ts n (Ok (record { offset = i * (value_at table e).stride; size = size_at table n (value_at table e).reference; stand = Entry (value_at table e).reference })) x (index i)
  unfolding Enters
  part_enters other = (here.y, (here.part.as_entry other).0, (here.part.as_entry other).1, here.enters)

-- ---- the scalar of a column

column_indexed : (r : ℕ) (s : Scalar) (i j : ℕ) → i < r → enter j (column r s) (index i) ≡ good (target (i * present (width_of s)) (one s))
unfolding enter column
column_indexed r s i j h = rw (lt-ltb i r h)

module _ {f : List ℕ} {ts : List Ty} {ms : List ℕ} {table : List Value} {n r e : ℕ} {x : Shape} (at : Standing f ts ms table n (Column r e) x) where
  own : InColumn ts table n r e x
  own = in_column at.basis at.stands

  pub column_inside : e < length table
  column_inside = own.there

  pub column_past : (i : ℕ) → r ≤ i → (j : ℕ) → enter j x (index i) ≡ refused 12 j
  unfolding enter column
  column_past i h j = rw (own.shape_is, le-ltb i r h)

  pub column_no_member : (i j : ℕ) → enter j x (member i) ≡ refused 11 j
  unfolding enter column
  column_no_member i j = rw own.shape_is

  pub scalar_offset : (i : ℕ) → i < r → i * (value_at table e).size ≤ limit
  unfolding column span_of
  scalar_offset i h =
      let w : ℕ = present (width_of own.s) in
      let span : r * w ≤ limit = rw own.shape_is at at.within in
      rw own.size_is (omega (arith, mul-le-mul_right w h, suc-mul i w))

  pub scalar_enters : (i : ℕ) → i < r → Enters ts n (Ok (record { offset = i * (value_at table e).size; size = (value_at table e).size; stand = Entry e })) x (index i)
  unfolding Enters span_of
  scalar_enters i h =
      let s : Scalar = own.s in (
        one s,
        own.below,
        own.size_is,
        λ j. ap (λ (y : Shape). enter j y (index i)) own.shape_is ∙ column_indexed r s i j h
            ∙ ap (λ (w : ℕ). good (target (i * w) (one s))) (sym own.size_is),
      )

  pub column_no_scalar : kind_in x ≡ 7
  unfolding column kind_in
  column_no_scalar = rw own.shape_is

-- ---- the one scalar

members_no_scalar : (n z : ℕ) (end : Option ℕ) (ms : Members) → kind_in (fields_of n z end ms) ≡ 7
unfolding kind_in fields_of
members_no_scalar n z end no_more = refl
members_no_scalar n z end (types.member t size align ms) = refl

-- A scalar's layout says its kind.
pub its_scalar : {ts : List Ty} {table : List Value} {n e : ℕ} {x : Shape} → EntryFound ts table n e x → is_scalar_kind (value_at table e).kind ≡ true → (value_at table e).kind ≡ kind_in x
unfolding kind_in
its_scalar (a_scalar s is under) low = is
its_scalar (an_atomic s is lower below) low = absurd (kind_clash _ 11 low (sym is) (omega arith) (omega arith))
its_scalar (of_parts under over count stride part) low = absurd (kind_clash _ _ low refl under (omega arith))
its_scalar (of_members z end ms is) low = absurd (kind_clash _ 12 low (sym is) (omega arith) (omega arith))

-- An atomic's layout refers to its scalar's.
pub atomic_scalar : {ts : List Ty} {table : List Value} {n e : ℕ} {x : Shape} → EntryFound ts table n e x → (value_at table e).kind ≡ 11 → ((value_at table e).reference < length table) × ((value_at table (value_at table e).reference).kind ≡ kind_in x)
unfolding kind_in
atomic_scalar (a_scalar s is under) eleven = absurd (kind_clash _ 11 under (sym eleven) (omega arith) (omega arith))
atomic_scalar (an_atomic s is lower below) eleven = (lower, below)
atomic_scalar (of_parts under over count stride part) eleven = absurd (omega arith)
atomic_scalar (of_members z end ms is) eleven = absurd (omega arith)

-- Parts and structs are no one scalar.
pub no_scalar_lem : {ts : List Ty} {table : List Value} {n e : ℕ} {x : Shape} → EntryFound ts table n e x → is_scalar_kind (value_at table e).kind ≡ false → ((value_at table e).kind ≡ 11 → ⊥) → kind_in x ≡ 7
unfolding kind_in
no_scalar_lem (a_scalar s is under) high other = true_not_false under high
no_scalar_lem (an_atomic s is lower below) high other = absurd (other is)
no_scalar_lem (of_parts under over count stride part) high other = refl
no_scalar_lem (of_members z end ms is) high other = members_no_scalar _ z end ms
