-- What the entries of an accepted file refer to.
--
-- In order: the element of an array is a lower entry's type (`Over`); what a value refers to is there (crates/walk_trees, specs/Slot,
-- `Referring`).
-- Assumes nothing.
use Prim.Native.Nat.{ℕ, ◌<◌, ◌≤◌}
use mathlib.Core.List.{List}
use mathlib.Core.Option.{some}
use mathlib.Core.Path.{◌≡◌, refl}
use native.Mathlib.Omega.{arith}
use lib.ListN.{get_elem?}
use Rattle.wgsl.specs.Types.{Ty, scalar, vector, matrix, array, runtime, atomic, struct, kind_of}
use Rattle.wgsl.specs.File.{TypeEntry, type_entry_at}
use Rattle.wgsl.proofs.AtEntry.{Refers, to_none, to_vector, to_matrix, to_array, to_runtime, to_atomic, to_members}
use Rattle.file.specs.Members.{member_length}
use Rattle.layout_values.specs.Value.{value_of, words_in, value_at}
use Rattle.wgsl.proofs.ScalarKind.{no_scalar_kind}
use Rattle.layout_values.proofs.WordsIn.{value_words}
use Rattle.walk_trees.specs.Slot.{Referring}
use Rattle.walk_shapes.specs.Basis.{Basis}
use Rattle.walk_shapes.proofs.Basis.{basis_inside, basis_layout, basis_well_formed, basis_refers}
use Rattle.walk_shapes.proofs.Counted.{fixed_counted}
use Rattle.layout_values.specs.declared.value.Value.{Value}

-- the element of an array is a lower entry's type
unfoldable pub Over : List Ty → ℕ → ℕ → Ty → Type 0
Over ts e r (scalar s) = Unit {0}
Over ts e r (vector n s) = Unit {0}
Over ts e r (matrix c m s) = Unit {0}
Over ts e r (array n u) = (r < e) × (get_elem? ts r ≡ some u)
Over ts e r (runtime u) = (r < e) × (get_elem? ts r ≡ some u)
Over ts e r (atomic s) = Unit {0}
Over ts e r (struct k ms) = Unit {0}

refers_over : {f : List ℕ} {ts : List Ty} {e : ℕ} {x : TypeEntry} {t : Ty} → Refers f ts e x t → Over ts e x.reference t
unfolding Over
refers_over (to_none s) = tt
refers_over (to_vector s down found) = tt
refers_over (to_matrix s down found) = tt
refers_over (to_array u down found) = (down, found)
refers_over (to_runtime u none down found) = (down, found)
refers_over (to_atomic s down found) = tt
refers_over (to_members ms are within) = tt

module _ {f : List ℕ} {ts : List Ty} {ms : List ℕ} {table : List Value} (basis : Basis f ts ms table) where
  -- So it is of each entry.
  pub over_at : (e : ℕ) (t : Ty) → get_elem? ts e ≡ some t → Over ts e (type_entry_at f e).reference t
  over_at e t there = refers_over (basis_refers basis e t there)

  -- The words of an entry's value are within the limit.
  pub element_counted : (r : ℕ) (u : Ty) → get_elem? ts r ≡ some u → words_in (value_at table r) ≤ 4294967295
  element_counted r u there =
      rw (basis_layout basis r u there, value_words (member_length f) (type_entry_at f r).reference u) (fixed_counted u (basis_well_formed basis r u there))

  -- What a value refers to is there.
  pub value_referring : (long e r : ℕ) (t : Ty) → Over ts e r t → Referring table (value_of long r t)
  unfolding Over value_of kind_of
  value_referring long e r (scalar s) o =
      record { inside = λ h g. absurd (no_scalar_kind s _ (omega arith) (omega arith) refl); counted = λ h g. absurd (no_scalar_kind s _ (omega arith) (omega arith) refl) }
  value_referring long e r (vector n s) o = record { inside = λ h g. absurd (omega arith); counted = λ h g. absurd (omega arith) }
  value_referring long e r (matrix c m s) o = record { inside = λ h g. absurd (omega arith); counted = λ h g. absurd (omega arith) }
  value_referring long e r (array n u) o =
      record { inside = λ h g. basis_inside basis r u o.1; counted = λ h g. element_counted r u o.1 }
  value_referring long e r (runtime u) o =
      record { inside = λ h g. basis_inside basis r u o.1; counted = λ h g. element_counted r u o.1 }
  value_referring long e r (atomic s) o = record { inside = λ h g. absurd (omega arith); counted = λ h g. absurd (omega arith) }
  value_referring long e r (struct k ns) o = record { inside = λ h g. absurd (omega arith); counted = λ h g. absurd (omega arith) }
