-- The table and the member entries of an accepted file describe the shapes of its storable types (crates/walk_trees, specs/Tree).
--
-- In order: the words of an entry; an entry over lower ones; every entry; a runtime array with n elements.
-- Not here: what an entry refers to (`Over`), its parts (`Says`).
-- Assumes nothing.
use Prim.Native.Nat.{ℕ, zero, suc, ◌*◌, ◌<◌}
use mathlib.Core.Bool.{true}
use mathlib.Core.List.{List}
use mathlib.Core.Logic.{⊎_elim}
use mathlib.Core.Option.{some}
use mathlib.Core.Path.{◌≡◌, refl, sym, ap, ap₂, ◌∙◌}
use native.Mathlib.Omega.{arith}
use lib.ListN.{get_elem?}
use Rattle.wgsl.specs.Types.{Ty, scalar, vector, matrix, array, runtime, atomic, struct, Members, kind_of, struct_kind}
use Rattle.wgsl.specs.Size.{present, stride_of, is_storable}
use Rattle.wgsl.specs.File.{type_entry_at}
use Rattle.wgsl.specs.Rule.{count_of}
use Rattle.wgsl.specs.Place.{parts, extent_of, shape_of, span_of}
use Rattle.wgsl.proofs.AtEntry.{Refers, to_none, to_vector, to_matrix, to_array, to_runtime, to_atomic, to_members}
use Rattle.runs.specs.Run.{run_places}
use Rattle.file.specs.Members.{member_bytes, member_length}
use Rattle.layout_values.specs.declared.value.Value.{Value}
use Rattle.layout_values.specs.Value.{narrow_of, fixed_words, parts_of, stride_in, value_of, words_in, value_at}
use Rattle.wgsl.proofs.ScalarKind.{no_scalar_kind}
use Rattle.layout_values.proofs.WordsIn.{value_words}
use Rattle.walk_trees.specs.Slot.{packed_as, part_width, with_count}
use Rattle.walk_trees.specs.Tree.{Valued, Many, runs, Tree, many, members}
use Rattle.walk_shapes.specs.Basis.{Basis}
use Rattle.walk_shapes.proofs.Basis.{basis_inside, basis_layout, basis_refers}
use Rattle.walk_shapes.proofs.Widths.{narrow_width, shape_wide}
use Rattle.walk_shapes.proofs.Counted.{fixed_counted}
use Rattle.walk_shapes.proofs.MemberRead.{count_from}
use Rattle.walk_shapes.proofs.Kept.{Kept, kept_words, Element, array_element, runtime_element, struct_members_lem}
use Rattle.walk_shapes.proofs.MembersLeft.{left}
use Rattle.walk_shapes.proofs.PartRun.{packed_of, packed_value, packed_narrow, run_span, run_places_lem, parts_in, part_run}
use Rattle.walk_shapes.proofs.Over.{Over, over_at}
use Rattle.walk_shapes.proofs.Says.{Says, kind_is, reference_is, says_at, runs_say, many_say, kept_at}

module _ {f : List ℕ} {ts : List Ty} {ms : List ℕ} {table : List Value} (basis : Basis f ts ms table) where
  -- ---- the words of an entry

  valued : (e : ℕ) (t : Ty) → get_elem? ts e ≡ some t → Kept t → Valued table e (shape_of 0 t)
  unfolding value_of
  valued e t there x =
      let r = (type_entry_at f e).reference in
      let layout : value_at table e ≡ value_of (member_length f) r t = basis_layout basis e t there in
      let count : words_in (value_at table e) ≡ fixed_words t = rw layout (value_words (member_length f) r t) in
      let packed : packed_as (value_at table e) ≡ packed_of t = rw layout (packed_value (member_length f) r t) in
      record {
        inside = basis_inside basis e t there;
        words_are = sym (count ∙ kept_words x);
        counted = rw count (fixed_counted t x.well);
        run_is =
            λ h at.
            let p : packed_of t ≡ 4 = sym packed ∙ h in
            let pos : 0 < packed_of t = omega arith in
            run_places_lem t x pos at ∙ ap₂ (λ (n w : ℕ). run_places n w at) (sym count) (sym (packed_narrow t pos) ∙ p);
        run_fits =
            λ h.
            let p : packed_of t ≡ 4 = sym packed ∙ h in
            let pos : 0 < packed_of t = omega arith in
            let w : narrow_of t ≡ 4 = sym (packed_narrow t pos) ∙ p in
            rw count (let s : fixed_words t * 4 ≡ span_of (shape_of 0 t) = rw w at (run_span t x pos) in omega arith);
        wide = λ h. shape_wide 0 t x.plain (λ q. h (ap (λ (l : Value). l.narrow) layout ∙ q));
      }

  -- ---- an entry over lower ones

  module _ (e : ℕ) (below : (i : ℕ) (u : Ty) → i < e → get_elem? ts i ≡ some u → Kept u → Tree (member_bytes f) table i (shape_of 0 u)) where
    -- one whose parts are runs
    runs_tree : (t : Ty) → get_elem? ts e ≡ some t → Kept t → (kind_of t ≡ struct_kind → ⊥) → 0 < part_run t → Tree (member_bytes f) table e (shape_of 0 t)
    runs_tree t there x plain h =
        let says = says_at basis e t there plain x in
        many (valued e t there x) (λ q. plain (sym (kind_is basis e t there) ∙ q)) (λ q. absurd (omega (arith, says.width_is)))
        (runs (runs_say basis says x h))

    -- one whose parts are elements of a lower entry's type
    element_tree : (t u : Ty) → get_elem? ts e ≡ some t → Kept t → (kind_of t ≡ struct_kind → ⊥) → Element u → (type_entry_at f e).reference < e → get_elem? ts (type_entry_at f e).reference ≡ some u → narrow_of t ≡ narrow_of u → (parts_of t).words ≡ fixed_words u → present (parts_of t).stride ≡ present (stride_of u) → shape_of 0 t ≡ parts (parts_in 0 t) (present (stride_of u)) (shape_of 0 u) → Tree (member_bytes f) table e (shape_of 0 t)
    element_tree t u there x plain y down found narrow unit stride shape =
        let same = reference_is basis e t there in
        many (valued e t there x) (λ q. plain (sym (kind_is basis e t there) ∙ q)) (λ q. omega arith)
        (many_say basis (says_at basis e t there plain x) x y narrow unit stride shape
        (rw same (below (type_entry_at f e).reference u down found y.element)))

    scalar_positive : (t : Ty) → Kept t → part_run t ≡ narrow_of t → 0 < part_run t
    scalar_positive t x q =
        ⊎_elim (λ (h : narrow_of t ≡ 2). omega arith) (λ (h : narrow_of t ≡ 4). omega arith) (narrow_width t x.plain)

    struct_stride : (j : ℕ) (ns : Members) → get_elem? ts e ≡ some (struct j ns) → (value_at table e).stride ≡ member_length f
    unfolding value_of stride_in present
    struct_stride j ns there = ap (λ (l : Value). l.stride) (basis_layout basis e (struct j ns) there)

    struct_count : (j : ℕ) (ns : Members) → get_elem? ts e ≡ some (struct j ns) → (value_at table e).count ≡ count_of ns
    unfolding value_of parts_of
    struct_count j ns there = ap (λ (l : Value). l.count) (basis_layout basis e (struct j ns) there)

    step : {t : Ty} → Refers f ts e (type_entry_at f e) t → get_elem? ts e ≡ some t → Kept t → Tree (member_bytes f) table e (shape_of 0 t)
    unfolding kind_of part_run narrow_of parts_of parts_in shape_of
    step (to_none s) there x = runs_tree (scalar s) there x (no_scalar_kind s 12 (omega arith) (omega arith)) (scalar_positive (scalar s) x refl)
    step (to_vector s down found) there x = runs_tree (vector _ s) there x (λ h. omega arith) (scalar_positive (vector _ s) x refl)
    step (to_matrix s down found) there x = runs_tree (matrix _ _ s) there x (λ h. omega arith) (scalar_positive (matrix _ _ s) x refl)
    step (to_array u down found) there x =
        element_tree (array _ u) u there x (λ h. omega arith) (array_element x) down found refl refl refl refl
    step (to_runtime u none down found) there x =
        element_tree (runtime u) u there x (λ h. omega arith) (runtime_element x) down found refl refl refl refl
    step (to_atomic s down found) there x = runs_tree (atomic s) there x (λ h. omega arith) (scalar_positive (atomic s) x refl)
    step (to_members ns are within) there x =
        let long = struct_stride e ns there in
        members (valued e (struct e ns) there x) (kind_is basis e (struct e ns) there)
        (rw (struct_count e ns there, count_from f _ _ _ ns are, reference_is basis e (struct e ns) there, long)
        (left f ts ms table basis e long below (type_entry_at f e).count (type_entry_at f e).reference 0
        (extent_of 0 (struct e ns)) ns are within (struct_members_lem x)))

  below_tree : (b e : ℕ) (t : Ty) → e < b → get_elem? ts e ≡ some t → Kept t → Tree (member_bytes f) table e (shape_of 0 t)
  below_tree zero e t h there x = absurd (omega arith)
  below_tree (suc b) e t h there x =
      step e (λ i u l found y. below_tree b i u (omega arith) found y) (basis_refers basis e t there) there x

  -- ---- every entry

  pub trees : (e : ℕ) (t : Ty) → get_elem? ts e ≡ some t → is_storable t ≡ true → Tree ms table e (shape_of 0 t)
  trees e t there h = rw basis.members_are (below_tree (suc e) e t (omega arith) there (kept_at basis e t there h))

  -- ---- a runtime array with n elements

  runtime_says : (e n : ℕ) (u : Ty) → get_elem? ts e ≡ some (runtime u) → Kept (runtime u) → Says basis (with_count n (value_at table e)) n (runtime u)
  unfolding with_count parts_in part_width kind_of
  runtime_says e n u there k =
      let s = says_at basis e (runtime u) there (λ h. omega arith) k in
      record {
        referring = record { inside = s.referring.inside; counted = s.referring.counted };
        width_is = s.width_is;
        narrow_is = s.narrow_is;
        unit_is = s.unit_is;
        stride_is = s.stride_is;
        count_is = refl;
      }

  pub runtime_many : (e : ℕ) (u : Ty) → get_elem? ts e ≡ some (runtime u) → is_storable (runtime u) ≡ true → (n : ℕ) → Many ms table (with_count n (value_at table e)) (shape_of n (runtime u))
  unfolding with_count Over narrow_of parts_of parts_in shape_of
  runtime_many e u there h n =
      let k = kept_at basis e (runtime u) there h in
      let x = runtime_element k in
      let o = over_at basis e (runtime u) there in
      let same = reference_is basis e (runtime u) there in
      rw basis.members_are
      (many_say basis (runtime_says e n u there k) k x refl refl refl refl
      (rw same (below_tree e (type_entry_at f e).reference u o.0 o.1 x.element)))
