-- Entries whose type is one run (crates/walk_trees, specs/Slot, `run_at`).
--
-- In order: the run that is told of a value, and of a runtime array's; it is all of the type; what looking for it asks.
-- Assumes nothing.
use Prim.Native.Nat.{ℕ, ◌*◌, ◌<◌}
use mathlib.Core.Bool.{true}
use mathlib.Core.List.{List}
use mathlib.Core.Logic.{◌⊎◌}
use mathlib.Core.Option.{some}
use mathlib.Core.Path.{◌≡◌, ◌∙◌}
use native.Mathlib.Omega.{arith}
use native.Mathlib.Nat.{pos_of_ne-zero}
use borrow.Author.Tests.{eq-eqb, ne_eqb}
use lib.ListN.{get_elem?}
use Rattle.wgsl.specs.Types.{Ty, scalar, vector, matrix, array, runtime, atomic, struct, kind_of}
use Rattle.wgsl.specs.Size.{present, stride_of, is_storable}
use Rattle.wgsl.specs.File.{type_entry_at}
use Rattle.wgsl.specs.Place.{extent_of, shape_of, places_of}
use Rattle.runs.specs.Run.{run_places}
use Rattle.file.specs.Members.{member_length}
use Rattle.layout_values.specs.Value.{narrow_of, fixed_words, parts_of, value_of, value_at}
use Rattle.wgsl.proofs.ScalarKind.{no_scalar_kind}
use Rattle.walk_trees.specs.Slot.{part_width, touching, run_at, RunAsks}
use Rattle.walk_shapes.specs.Basis.{Basis}
use Rattle.walk_shapes.proofs.Basis.{basis_inside, basis_layout}
use Rattle.walk_shapes.proofs.Kept.{Kept}
use Rattle.walk_shapes.proofs.PartRun.{packed_of, packed_value, packed_narrow, packed_all, part_run, runtime_all}
use Rattle.walk_shapes.proofs.Widths.{narrow_width}
use Rattle.walk_shapes.proofs.Over.{over_at, element_counted, value_referring}
use Rattle.walk_shapes.proofs.Says.{kind_is, says_at, kept_at}
use Rattle.layout_values.specs.declared.value.Value.{Value}

module _ {f : List ℕ} {ts : List Ty} {ms : List ℕ} {table : List Value} (basis : Basis f ts ms table) where
  -- the run of a value that is no runtime array's, and of a runtime array's
  packed_run : (e : ℕ) (t : Ty) → get_elem? ts e ≡ some t → (kind_of t ≡ 10 → ⊥) → run_at table e ≡ packed_of t
  unfolding run_at value_of
  packed_run e t there h =
      rw (basis_layout basis e t there, ne_eqb (kind_of t) 10 h) (packed_value (member_length f) (type_entry_at f e).reference t)

  run_ten : (e : ℕ) → (value_at table e).kind ≡ 10 → run_at table e ≡ touching (value_at table e).stride (value_at table e).unit (part_width table (value_at table e))
  unfolding run_at
  run_ten e h = rw (eq-eqb (value_at table e).kind 10 h)

  touching_same : {a b c x y z : ℕ} → a ≡ x → b ≡ y → c ≡ z → touching a b c ≡ touching x y z
  touching_same p q r = rw (p, q, r)

  runtime_run : (e : ℕ) (u : Ty) → get_elem? ts e ≡ some (runtime u) → Kept (runtime u) → run_at table e ≡ touching (present (stride_of u)) (fixed_words u) (packed_of u)
  unfolding kind_of parts_of part_run
  runtime_run e u there k =
      let s = says_at basis e (runtime u) there (λ h. omega arith) k in
      run_ten e (kind_is basis e (runtime u) there) ∙ touching_same s.stride_is s.unit_is s.width_is

  -- Where the run of an entry is told, its words lie one after the other, over all the bytes of the type with n elements.
  pub whole_run : (e : ℕ) (t : Ty) → get_elem? ts e ≡ some t → is_storable t ≡ true → (run_at table e ≡ 0 → ⊥) → (n : ℕ) → (count : ℕ) × ((at : ℕ) → places_of (shape_of n t) at ≡ run_places count (run_at table e) at) × (extent_of n t ≡ count * run_at table e) × ((run_at table e ≡ 2) ⊎ (run_at table e ≡ 4))
  unfolding kind_of narrow_of
  whole_run e t there h run n = go t there (kept_at basis e t there h)
    where
      closed : (t : Ty) → get_elem? ts e ≡ some t → Kept t → (kind_of t ≡ 10 → ⊥) → (count : ℕ) × ((at : ℕ) → places_of (shape_of n t) at ≡ run_places count (run_at table e) at) × (extent_of n t ≡ count * run_at table e) × ((run_at table e ≡ 2) ⊎ (run_at table e ≡ 4))
      closed t there k kind =
          let pos : 0 < packed_of t = pos_of_ne-zero (λ q. run (packed_run e t there kind ∙ q)) in
          let a = packed_all t k pos n in
          let width : run_at table e ≡ narrow_of t = packed_run e t there kind ∙ packed_narrow t pos in
          rw width (fixed_words t, a.0, a.1, narrow_width t k.plain)

      go : (t : Ty) → get_elem? ts e ≡ some t → Kept t → (count : ℕ) × ((at : ℕ) → places_of (shape_of n t) at ≡ run_places count (run_at table e) at) × (extent_of n t ≡ count * run_at table e) × ((run_at table e ≡ 2) ⊎ (run_at table e ≡ 4))
      go (scalar s) there k = closed (scalar s) there k (no_scalar_kind s 10 (omega arith) (omega arith))
      go (vector c s) there k = closed (vector c s) there k (λ q. omega arith)
      go (matrix c r s) there k = closed (matrix c r s) there k (λ q. omega arith)
      go (array c u) there k = closed (array c u) there k (λ q. omega arith)
      go (runtime u) there k =
          let a = runtime_all u k (run_at table e) (runtime_run e u there k) (pos_of_ne-zero run) n in
          (n * fixed_words u, a.0, a.1, rw a.2 (narrow_width (runtime u) k.plain))
      go (atomic s) there k = closed (atomic s) there k (λ q. omega arith)
      go (struct j ns) there k = closed (struct j ns) there k (λ q. omega arith)

  -- What looking for it asks.
  pub run_asks : (e : ℕ) (t : Ty) → get_elem? ts e ≡ some t → RunAsks table e
  run_asks e t there =
      record {
        inside = basis_inside basis e t there;
        counted = element_counted basis e t there;
        referring = rw (basis_layout basis e t there) (value_referring basis (member_length f) e (type_entry_at f e).reference t (over_at basis e t there));
      }
