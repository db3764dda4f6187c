-- What an entry's fields say of its type, kind by kind (specs/Rule): the table of kinds read backwards.
--
-- In order: scalars; vectors, matrices, atomics; arrays and runtime arrays; structs; there is no other kind.
-- In all of them entry k makes the type t over the types ts of the lower entries, and x are its fields.
-- Assumes nothing.
use Prim.Native.Nat.{ℕ, zero, suc, ◌+◌, ◌-◌, ◌<◌, ◌≤◌}
use mathlib.Core.Bool.{Bool, true, false, cond, ◌&&◌}
use mathlib.Core.List.{List, [], ◌∷◌}
use mathlib.Core.Option.{some, some-injective}
use mathlib.Core.Path.{◌≡◌, refl, ap, sym, ◌∙◌}
use native.Mathlib.Omega.{arith}
use borrow.Author.Tests.{ne_eqb, leb-true, leb-false, ltb-false, eqb-true}
use lib.Dec.{ltb, leb, eqb}
use lib.ListN.{get_elem?}
use Rattle.wgsl.specs.Types.{Scalar, bool, i32, u32, f32, f16, abstract_int, abstract_float, i64, u64, f64, Ty, scalar, vector, matrix, array, runtime, atomic, struct, Members, scalar_kind, is_scalar_kind}
use Rattle.wgsl.specs.File.{trailer_of, TypeEntry, type_entry_at}
use Rattle.wgsl.specs.Rule.{when, and_then, unused, scalar_of_kind, scalar_in, lower, members_from, scalar_made, vector_made, matrix_made, array_made, runtime_made, atomic_made, struct_made, over_made, type_made, type_of_entry}
use Rattle.wgsl.proofs.Absent.{both_hold, some_not_none}
use Rattle.wgsl.proofs.ScalarKind.{no_scalar_lem}
use Rattle.wgsl.proofs.Said.{when_some, and_then_some}

low_kind : (kind : ℕ) (s : Scalar) → get_elem? (bool ∷ i32 ∷ u32 ∷ f32 ∷ f16 ∷ abstract_int ∷ abstract_float ∷ []) kind ≡ some s → scalar_kind s ≡ kind
unfolding scalar_kind
low_kind zero s e = rw (← some-injective bool s e)
low_kind (suc zero) s e = rw (← some-injective i32 s e)
low_kind (suc (suc zero)) s e = rw (← some-injective u32 s e)
low_kind (suc (suc (suc zero))) s e = rw (← some-injective f32 s e)
low_kind (suc (suc (suc (suc zero)))) s e = rw (← some-injective f16 s e)
low_kind (suc (suc (suc (suc (suc zero))))) s e = rw (← some-injective abstract_int s e)
low_kind (suc (suc (suc (suc (suc (suc zero)))))) s e = rw (← some-injective abstract_float s e)
low_kind (suc (suc (suc (suc (suc (suc (suc kind))))))) s e = some_not_none e refl

high_kind : (n : ℕ) (s : Scalar) → get_elem? (i64 ∷ u64 ∷ f64 ∷ []) n ≡ some s → scalar_kind s ≡ 13 + n
unfolding scalar_kind
high_kind zero s e = rw (← some-injective i64 s e)
high_kind (suc zero) s e = rw (← some-injective u64 s e)
high_kind (suc (suc zero)) s e = rw (← some-injective f64 s e)
high_kind (suc (suc (suc n))) s e = some_not_none e refl

pub scalar_kind_lem : (kind : ℕ) (s : Scalar) → scalar_of_kind kind ≡ some s → scalar_kind s ≡ kind
unfolding scalar_of_kind
scalar_kind_lem kind s e = go (ltb kind 13) refl e
  where
    go : (b : Bool) → ltb kind 13 ≡ b → cond b (get_elem? (bool ∷ i32 ∷ u32 ∷ f32 ∷ f16 ∷ abstract_int ∷ abstract_float ∷ []) kind) (get_elem? (i64 ∷ u64 ∷ f64 ∷ []) (kind - 13)) ≡ some s → scalar_kind s ≡ kind
    go true q h = low_kind kind s h
    go false q h = omega (arith, high_kind (kind - 13) s h, ltb-false kind 13 q)

scalar_in_lem : (t : Ty) (s : Scalar) → scalar_in t ≡ some s → t ≡ scalar s
unfolding scalar_in
scalar_in_lem (scalar u) s e = ap scalar (some-injective u s e)
scalar_in_lem (vector n u) s e = some_not_none e refl
scalar_in_lem (matrix c r u) s e = some_not_none e refl
scalar_in_lem (array n t) s e = some_not_none e refl
scalar_in_lem (runtime t) s e = some_not_none e refl
scalar_in_lem (atomic u) s e = some_not_none e refl
scalar_in_lem (struct k ms) s e = some_not_none e refl

-- t is made of the scalar that the reference r leads to
pub record OverScalar (ts : List Ty) (r : ℕ) (t : Ty) (make : Scalar → Ty) : Type 0 where
  pub element : Scalar
  pub type_is : t ≡ make element
  pub element_is : get_elem? ts r ≡ some (scalar element)

over_scalar_lem : (ts : List Ty) (r : ℕ) (t : Ty) (make : Scalar → Ty) (test : Bool) → when test (and_then (and_then (lower ts r) scalar_in) (λ s. some (make s))) ≡ some t → OverScalar ts r t make
unfolding lower
over_scalar_lem ts r t make test m =
    let s = and_then_some _ _ (when_some _ _ m).1 in
    let u = and_then_some _ _ s.first in
    record {
      element = s.value;
      type_is = sym (some-injective _ _ s.after);
      element_is = u.first ∙ ap some (scalar_in_lem u.value s.value u.after);
    }

-- t is made of the type that the reference r leads to
pub record OverType (ts : List Ty) (r : ℕ) (t : Ty) (make : Ty → Ty) : Type 0 where
  pub element : Ty
  pub type_is : t ≡ make element
  pub element_is : get_elem? ts r ≡ some element

over_type : (ts : List Ty) (r : ℕ) (t : Ty) (make : Ty → Ty) (test : Bool) → when test (and_then (lower ts r) (λ u. some (make u))) ≡ some t → OverType ts r t make
unfolding lower
over_type ts r t make test m =
    let u = and_then_some _ _ (when_some _ _ m).1 in
    record { element = u.value; type_is = sym (some-injective _ _ u.after); element_is = u.first }

-- t is a struct of the members that the fields name
pub record OverMembers (f : List ℕ) (ts : List Ty) (k : ℕ) (t : Ty) (first count : ℕ) : Type 0 where
  pub members : Members
  pub type_is : t ≡ struct k members
  pub members_are : members_from f ts count first ≡ some members
  pub within : first + count ≤ (trailer_of f).members

module _ (f : List ℕ) (ts : List Ty) (k : ℕ) (t : Ty) (made : type_of_entry f ts k ≡ some t) where
  here : type_made f ts k (type_entry_at f k) ≡ some t
  unfolding type_of_entry
  here = (when_some _ _ made).1

  -- An entry of a scalar's kind makes that scalar.
  pub scalar_entry : is_scalar_kind (type_entry_at f k).kind ≡ true → (s : Scalar) × (t ≡ scalar s) × (scalar_kind s ≡ (type_entry_at f k).kind)
  unfolding type_made scalar_made
  scalar_entry h =
      let x : TypeEntry = type_entry_at f k in
      let m : scalar_made x ≡ some t = rw h at here in
      let s = and_then_some _ _ (when_some _ _ m).1 in
      (s.value, sym (some-injective _ _ s.after), scalar_kind_lem x.kind s.value s.first)

  test : (kind m : ℕ) → (type_entry_at f k).kind ≡ kind → eqb (type_entry_at f k).kind m ≡ eqb kind m
  test kind m e = ap (λ (n : ℕ). eqb n m) e

  not_scalar : (kind : ℕ) → (type_entry_at f k).kind ≡ kind → is_scalar_kind kind ≡ false → cond (eqb kind 12) (struct_made f ts k (type_entry_at f k)) (over_made (lower ts (type_entry_at f k).reference) (type_entry_at f k)) ≡ some t
  unfolding type_made
  not_scalar kind e low =
      let l : is_scalar_kind (type_entry_at f k).kind ≡ false = ap is_scalar_kind e ∙ low in
      rw (l, test kind 12 e) at here

  -- An entry of kind 7 makes a vector of the scalar that it refers to.
  pub vector_entry : (type_entry_at f k).kind ≡ 7 → OverScalar ts (type_entry_at f k).reference t (vector (type_entry_at f k).rows)
  unfolding over_made vector_made
  vector_entry e = over_scalar_lem ts _ t _ _ (rw (test 7 7 e) at (not_scalar 7 e (no_scalar_lem 7 (omega arith) (omega arith))))

  -- An entry of kind 8 makes a matrix of the scalar that it refers to.
  pub matrix_entry : (type_entry_at f k).kind ≡ 8 → OverScalar ts (type_entry_at f k).reference t (matrix (type_entry_at f k).columns (type_entry_at f k).rows)
  unfolding over_made matrix_made
  matrix_entry e = over_scalar_lem ts _ t _ _ (rw (test 8 7 e, test 8 8 e) at (not_scalar 8 e (no_scalar_lem 8 (omega arith) (omega arith))))

  -- An entry of kind 9 makes an array of the type that it refers to.
  pub array_entry : (type_entry_at f k).kind ≡ 9 → OverType ts (type_entry_at f k).reference t (array (type_entry_at f k).count)
  unfolding over_made array_made
  array_entry e = over_type ts _ t _ _ (rw (test 9 7 e, test 9 8 e, test 9 9 e) at (not_scalar 9 e (no_scalar_lem 9 (omega arith) (omega arith))))

  -- An entry of kind 10 makes a runtime array of the type that it refers to.
  pub runtime_entry : (type_entry_at f k).kind ≡ 10 → OverType ts (type_entry_at f k).reference t runtime
  unfolding over_made runtime_made
  runtime_entry e =
      over_type ts _ t _ _ (rw (test 10 7 e, test 10 8 e, test 10 9 e, test 10 10 e) at (not_scalar 10 e (no_scalar_lem 10 (omega arith) (omega arith))))

  -- It has no count.
  pub runtime_count : (type_entry_at f k).kind ≡ 10 → (type_entry_at f k).count ≡ 0
  unfolding over_made runtime_made unused
  runtime_count e =
      let x : TypeEntry = type_entry_at f k in
      let m = when_some _ _ (rw (test 10 7 e, test 10 8 e, test 10 9 e, test 10 10 e) at (not_scalar 10 e (no_scalar_lem 10 (omega arith) (omega arith)))) in
      let columns = both_hold (eqb x.columns 0) (eqb x.rows 0 && (eqb x.count 0 && true)) m.0 in
      let rows = both_hold (eqb x.rows 0) (eqb x.count 0 && true) columns.1 in
      eqb-true x.count 0 (both_hold (eqb x.count 0) true rows.1).0

  -- An entry of kind 11 makes an atomic of the scalar that it refers to.
  pub atomic_entry : (type_entry_at f k).kind ≡ 11 → OverScalar ts (type_entry_at f k).reference t atomic
  unfolding over_made atomic_made
  atomic_entry e =
      over_scalar_lem ts _ t _ _
      (rw (test 11 7 e, test 11 8 e, test 11 9 e, test 11 10 e, test 11 11 e) at (not_scalar 11 e (no_scalar_lem 11 (omega arith) (omega arith))))

  -- An entry of kind 12 makes a struct of the members that it names.
  pub struct_entry : (type_entry_at f k).kind ≡ 12 → OverMembers f ts k t (type_entry_at f k).reference (type_entry_at f k).count
  unfolding struct_made
  struct_entry e =
      let x : TypeEntry = type_entry_at f k in
      let w = when_some _ _ (not_scalar 12 e (no_scalar_lem 12 (omega arith) (omega arith))) in
      let m = and_then_some _ _ w.1 in
      let fits = leb (x.reference + x.count) (trailer_of f).members in
      record {
        members = m.value;
        type_is = sym (some-injective _ _ m.after);
        members_are = m.first;
        within = leb-true _ _ (both_hold (unused (x.columns ∷ x.rows ∷ [])) fits w.0).1;
      }

  -- There is no kind above 12 but the scalars'.
  pub kind_bounded : is_scalar_kind (type_entry_at f k).kind ≡ false → (type_entry_at f k).kind ≤ 12
  unfolding type_made over_made
  kind_bounded other = go (leb (type_entry_at f k).kind 12) refl
    where
      go : (b : Bool) → leb (type_entry_at f k).kind 12 ≡ b → (type_entry_at f k).kind ≤ 12
      go true q = leb-true _ _ q
      go false q =
          let x : ℕ = (type_entry_at f k).kind in
          let h : 12 < x = leb-false x 12 q in
          some_not_none here
          (rw (other, ne_eqb x 12 (λ e. omega arith), ne_eqb x 7 (λ e. omega arith), ne_eqb x 8 (λ e. omega arith), ne_eqb x 9 (λ e. omega arith), ne_eqb x 10 (λ e. omega arith), ne_eqb x 11 (λ e. omega arith)))
