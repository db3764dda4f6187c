-- The parts of a type, as the value of its entry says them (`Says`).
--
-- In order: the value of each entry says its parts; parts that are runs; parts that are elements (crates/walk_trees, specs/Tree, `Runs`
-- and `Many`); what is stored.
-- Assumes nothing.
use Prim.Native.Nat.{ℕ, zero, suc, ◌<◌, ◌≤◌}
use mathlib.Core.Bool.{true}
use mathlib.Core.List.{List}
use mathlib.Core.Logic.{◌⊎◌, inl, inr, ⊎_elim}
use mathlib.Core.Option.{some}
use mathlib.Core.Path.{◌≡◌, refl, sym, ap, ◌∙◌}
use native.Mathlib.Omega.{arith}
use borrow.Author.Tests.{lt-ltb, le-ltb}
use lib.ListN.{get_elem?}
use Rattle.wgsl.specs.Types.{Ty, scalar, vector, matrix, array, runtime, atomic, struct, Members, scalar_kind, kind_of, struct_kind}
use Rattle.wgsl.specs.Size.{present, stride_of, is_storable}
use Rattle.wgsl.specs.File.{type_entry_at}
use Rattle.wgsl.specs.Rule.{count_of}
use Rattle.wgsl.specs.Place.{parts, shape_of}
use Rattle.file.specs.Members.{member_bytes, member_length}
use Rattle.layout_values.specs.declared.value.Value.{Value}
use Rattle.layout_values.specs.Value.{narrow_of, fixed_words, parts_of, stride_in, value_of, value_at}
use Rattle.wgsl.proofs.ScalarKind.{scalar_range, scalar_kind_is}
use Rattle.walk_trees.specs.Slot.{packed_as, part_width, Referring}
use Rattle.walk_trees.specs.Tree.{Runs, Many, runs, each, Tree}
use Rattle.walk_shapes.specs.Basis.{Basis}
use Rattle.walk_shapes.proofs.Basis.{basis_layout, basis_well_formed}
use Rattle.walk_shapes.proofs.Widths.{narrow_width, shape_wide}
use Rattle.walk_shapes.proofs.Kept.{Kept, kept, kept_words, kept_layout, Element, element_shape, element_fits}
use Rattle.walk_shapes.proofs.PartRun.{packed_of, packed_value, parts_in, part_run, part_narrow, parts_words, parts_span, parts_fit, parts_places}
use Rattle.walk_shapes.proofs.Over.{Over, over_at, value_referring}

module _ {f : List ℕ} {ts : List Ty} {ms : List ℕ} {table : List Value} (basis : Basis f ts ms table) where
  -- the layout l says the parts of t, whose runtime array has n elements
  pub record Says (l : Value) (n : ℕ) (t : Ty) : Type 0 where
    pub referring : Referring table l
    pub width_is : part_width table l ≡ part_run t
    pub narrow_is : l.narrow ≡ narrow_of t
    pub unit_is : l.unit ≡ (parts_of t).words
    pub stride_is : l.stride ≡ present (parts_of t).stride
    pub count_is : l.count ≡ parts_in n t

  element_packed : (r : ℕ) (u : Ty) → get_elem? ts r ≡ some u → packed_as (value_at table r) ≡ packed_of u
  element_packed r u there = rw (basis_layout basis r u there) (packed_value (member_length f) (type_entry_at f r).reference u)

  value_width : (long e r : ℕ) (t : Ty) → Over ts e r t → (kind_of t ≡ struct_kind → ⊥) → part_width table (value_of long r t) ≡ part_run t
  unfolding Over part_width value_of kind_of part_run narrow_of
  value_width long e r (scalar s) o h =
      ⊎_elim (λ (low : scalar_kind s ≤ 6). rw (lt-ltb (scalar_kind s) 9 (omega arith)))
      (λ (high : (13 ≤ scalar_kind s) × (scalar_kind s ≤ 15)).
      rw (le-ltb (scalar_kind s) 9 (omega (arith, high.0)), lt-ltb 10 (scalar_kind s) (omega (arith, high.0))))
      (scalar_range (scalar_kind s) (scalar_kind_is s))
  value_width long e r (vector n s) o h = refl
  value_width long e r (matrix c m s) o h = refl
  value_width long e r (array n u) o h = element_packed r u o.1
  value_width long e r (runtime u) o h = element_packed r u o.1
  value_width long e r (atomic s) o h = refl
  value_width long e r (struct k ns) o h = absurd (h refl)

  parts_count : (t : Ty) → (kind_of t ≡ struct_kind → ⊥) → (parts_of t).count ≡ parts_in 0 t
  unfolding parts_of parts_in kind_of
  parts_count (scalar s) h = refl
  parts_count (vector n s) h = refl
  parts_count (matrix c m s) h = refl
  parts_count (array n u) h = refl
  parts_count (runtime u) h = refl
  parts_count (atomic s) h = refl
  parts_count (struct k ns) h = absurd (h refl)

  -- what is no struct has the stride of its parts
  parts_stride : (long : ℕ) (t : Ty) → (kind_of t ≡ struct_kind → ⊥) → stride_in long t ≡ (parts_of t).stride
  unfolding stride_in kind_of
  parts_stride long (scalar s) h = refl
  parts_stride long (vector n s) h = refl
  parts_stride long (matrix c m s) h = refl
  parts_stride long (array n u) h = refl
  parts_stride long (runtime u) h = refl
  parts_stride long (atomic s) h = refl
  parts_stride long (struct k ns) h = absurd (h refl)

  value_says : (long e r : ℕ) (t : Ty) → Over ts e r t → (kind_of t ≡ struct_kind → ⊥) → Kept t → Says (value_of long r t) 0 t
  unfolding value_of
  value_says long e r t o h k =
      record {
        referring = value_referring basis long e r t o;
        width_is = value_width long e r t o h;
        narrow_is = refl;
        unit_is = rw (kept_layout k);
        stride_is = ap present (parts_stride long t h);
        count_is = parts_count t h;
      }

  -- The value of an entry has the kind of its type,
  pub kind_is : (e : ℕ) (t : Ty) → get_elem? ts e ≡ some t → (value_at table e).kind ≡ kind_of t
  unfolding value_of
  kind_is e t there = ap (λ (l : Value). l.kind) (basis_layout basis e t there)

  -- refers to what the entry refers to,
  pub reference_is : (e : ℕ) (t : Ty) → get_elem? ts e ≡ some t → (value_at table e).reference ≡ (type_entry_at f e).reference
  unfolding value_of
  reference_is e t there = ap (λ (l : Value). l.reference) (basis_layout basis e t there)

  -- says of a struct how long its member entries are, how many, and which is the first,
  pub struct_says : (e : ℕ) {members : Members} → get_elem? ts e ≡ some (struct e members) → ((value_at table e).stride ≡ member_length f) × ((value_at table e).count ≡ count_of members) × ((value_at table e).reference ≡ (type_entry_at f e).reference)
  unfolding value_of stride_in parts_of present
  struct_says e {members} there =
      let l = basis_layout basis e (struct e members) there in
      (ap (λ (v : Value). v.stride) l, ap (λ (v : Value). v.count) l, ap (λ (v : Value). v.reference) l)

  -- and says the parts of its type, unless that is a struct.
  pub says_at : (e : ℕ) (t : Ty) → get_elem? ts e ≡ some t → (kind_of t ≡ struct_kind → ⊥) → Kept t → Says (value_at table e) 0 t
  says_at e t there plain x =
      rw (basis_layout basis e t there) (value_says (member_length f) e (type_entry_at f e).reference t (over_at basis e t there) plain x)

  -- parts that are runs
  pub runs_say : {l : Value} {n : ℕ} {t : Ty} → Says l n t → Kept t → 0 < part_run t → Runs table l (shape_of n t)
  runs_say {l} {n} {t} s k h =
      record {
        referring = s.referring;
        narrow_is = s.width_is ∙ part_narrow t h ∙ sym s.narrow_is;
        runs_are = record {
          width = rw s.narrow_is (narrow_width t k.plain);
          fits = rw (s.unit_is, s.narrow_is, s.stride_is) (parts_fit t k h);
          places_are = λ at. rw (s.count_is, s.unit_is, s.narrow_is, s.stride_is) (parts_places n t k h at);
          span_is = rw (s.count_is, s.stride_is) (parts_span n t h);
          words_are = rw (s.count_is, s.unit_is) (parts_words n t k h);
        };
      }

  zero_or_more : (n : ℕ) → (n ≡ 0) ⊎ (0 < n)
  zero_or_more zero = inl refl
  zero_or_more (suc n) = inr (omega arith)

  -- parts that are elements of the type u: runs, or trees of their own
  pub many_say : {l : Value} {n : ℕ} {t u : Ty} → Says l n t → Kept t → Element u → narrow_of t ≡ narrow_of u → (parts_of t).words ≡ fixed_words u → present (parts_of t).stride ≡ present (stride_of u) → shape_of n t ≡ parts (parts_in n t) (present (stride_of u)) (shape_of n u) → Tree (member_bytes f) table l.reference (shape_of 0 u) → Many (member_bytes f) table l (shape_of n t)
  many_say {l} {n} {t} {u} s k x narrow unit stride shape tree =
      let step : l.stride ≡ present (stride_of u) = s.stride_is ∙ stride in
      ⊎_elim
      (λ (z : part_run t ≡ 0).
      rw (shape, element_shape x n, ← s.count_is, ← step)
      (each {l = l} {y = shape_of 0 u} (record {
        referring = s.referring;
        no_run = s.width_is ∙ z;
        wide = λ q. shape_wide 0 u x.element.plain (λ p. q (s.narrow_is ∙ narrow ∙ p));
        fits = rw step (element_fits x);
        words_are = sym (s.unit_is ∙ unit ∙ kept_words x.element);
      }) tree))
      (λ (h : 0 < part_run t). runs (runs_say s k h)) (zero_or_more (part_run t))

  -- The type of a storable entry is kept.
  pub kept_at : (e : ℕ) (t : Ty) → get_elem? ts e ≡ some t → is_storable t ≡ true → Kept t
  kept_at e t there h = kept t (basis_well_formed basis e t there) h
