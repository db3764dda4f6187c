-- Entries of an accepted file: where they lie, and what they refer to (proofs/Accepted, proofs/Fields).
--
-- In order: lists read by number; an entry of an accepted file; what its fields say of its type, kind by kind; the entry that it refers
-- to; all kinds at once.
-- Assumes nothing.
use Prim.Native.Nat.{ℕ, zero, suc, ◌+◌, ◌-◌, ◌*◌, ◌<◌, ◌≤◌}
use mathlib.Core.Bool.{Bool, true, false}
use mathlib.Core.List.{List, [], ◌∷◌}
use mathlib.Core.Option.{none, some}
use mathlib.Core.Path.{◌≡◌, refl, sym, ◌∙◌}
use native.Mathlib.Omega.{arith}
use lib.ListN.{length, take, get_or, get_elem?}
use Rattle.wgsl.specs.Types.{Scalar, Ty, scalar, vector, matrix, array, runtime, atomic, struct, Members, scalar_kind, is_scalar_kind}
use Rattle.wgsl.specs.Said.{good}
use Rattle.wgsl.specs.File.{trailer_of, length_by, TypeEntry, type_entry_at}
use Rattle.wgsl.specs.Rule.{members_from, type_of_entry, types_of}
use Rattle.wgsl.proofs.Absent.{some_not_none}
use Rattle.wgsl.proofs.Judged.{judged_good}
use Rattle.wgsl.proofs.Accepted.{accepted, below_entry}
use Rattle.wgsl.proofs.ScalarKind.{other_range, no_scalar_lem}
use Rattle.wgsl.proofs.Fields.{OverScalar, OverType, OverMembers, scalar_entry, vector_entry, matrix_entry, array_entry, runtime_entry, runtime_count, atomic_entry, struct_entry, kind_bounded}

module _ {A : Type 0} where
  -- An element that is found has a number below the length.
  pub get_elem_low : (l : List A) (i : ℕ) {a : A} → get_elem? l i ≡ some a → i < length l
  get_elem_low [] i e = some_not_none e refl
  get_elem_low (b ∷ l) zero e = omega arith
  get_elem_low (b ∷ l) (suc i) e = omega (arith, get_elem_low l i e)

  -- An element of the first n is one of the list, with a number below n.
  pub get_elem_first : (n : ℕ) (l : List A) (i : ℕ) {a : A} → get_elem? (take n l) i ≡ some a → (i < n) × (get_elem? l i ≡ some a)
  get_elem_first zero l i e = some_not_none e refl
  get_elem_first (suc n) [] i e = some_not_none e refl
  get_elem_first (suc n) (b ∷ l) zero e = (omega arith, e)
  get_elem_first (suc n) (b ∷ l) (suc i) e = let h = get_elem_first n l i e in (omega arith, h.1)

  -- Past the end there is none.
  pub get_elem_past : (l : List A) (i : ℕ) → length l ≤ i → get_elem? l i ≡ none
  get_elem_past [] i h = refl
  get_elem_past (b ∷ l) zero h = absurd (omega arith)
  get_elem_past (b ∷ l) (suc i) h = get_elem_past l i (omega arith)

  -- The element that is found is the one that `get_or` gives.
  pub get_elem_get_d : (l : List A) (i : ℕ) (d : A) → i < length l → get_elem? l i ≡ some (get_or l i d)
  get_elem_get_d [] i d h = absurd (omega arith)
  get_elem_get_d (b ∷ l) zero d h = refl
  get_elem_get_d (b ∷ l) (suc i) d h = get_elem_get_d l i d (omega arith)

module _ (f : List ℕ) (ts : List Ty) (good_file : types_of f ≡ good ts) where
  -- The bytes of an entry lie inside the file.
  pub entry_inside : (start k : ℕ) → start ≡ (trailer_of f).start → k < length ts → start + 12 * k + 12 ≤ length f
  unfolding length_by
  entry_inside start k s h =
      let a = accepted f ts good_file in
      omega (arith, a.trailer_good.long, a.count)

  -- An entry makes its type over the types of the lower entries.
  pub entry_made : (k : ℕ) (t : Ty) → get_elem? ts k ≡ some t → type_of_entry f (take k ts) k ≡ some t
  entry_made k t e =
      let a = accepted f ts good_file in
      let low : k < (trailer_of f).types = omega (arith, get_elem_low ts k e, a.count) in
      let (u, is, g) = below_entry f (trailer_of f).types ts a.types_below_lem k low in
      (judged_good g).made ∙ sym is ∙ e

whole_scalar : (k : ℕ) (ts : List Ty) {r : ℕ} {t : Ty} {make : Scalar → Ty} → OverScalar (take k ts) r t make → OverScalar ts r t make
whole_scalar k ts h =
    record { element = h.element; type_is = h.type_is; element_is = (get_elem_first k ts _ h.element_is).1 }

whole_type : (k : ℕ) (ts : List Ty) {r : ℕ} {t : Ty} {make : Ty → Ty} → OverType (take k ts) r t make → OverType ts r t make
whole_type k ts h =
    record { element = h.element; type_is = h.type_is; element_is = (get_elem_first k ts _ h.element_is).1 }

-- Entry k of an accepted file: its type t and its fields x.
pub record At (f : List ℕ) (ts : List Ty) (k : ℕ) (t : Ty) (x : TypeEntry) : Type 0 where
  pub good_file : types_of f ≡ good ts
  pub type_is : get_elem? ts k ≡ some t
  pub fields_are : x ≡ type_entry_at f k

module _ {f : List ℕ} {ts : List Ty} {k : ℕ} {t : Ty} {x : TypeEntry} (at : At f ts k t x) where
  made : type_of_entry f (take k ts) k ≡ some t
  made = entry_made f ts at.good_file k t at.type_is

  pub scalar_lies_at : is_scalar_kind x.kind ≡ true → (s : Scalar) × (t ≡ scalar s) × (scalar_kind s ≡ x.kind)
  scalar_lies_at h = rw at.fields_are (scalar_entry f (take k ts) k t made (rw at.fields_are at h))

  pub vector_at : x.kind ≡ 7 → OverScalar ts x.reference t (vector x.rows)
  vector_at h = rw at.fields_are (whole_scalar k ts (vector_entry f (take k ts) k t made (rw at.fields_are at h)))

  pub matrix_at : x.kind ≡ 8 → OverScalar ts x.reference t (matrix x.columns x.rows)
  matrix_at h = rw at.fields_are (whole_scalar k ts (matrix_entry f (take k ts) k t made (rw at.fields_are at h)))

  pub array_at : x.kind ≡ 9 → OverType ts x.reference t (array x.count)
  array_at h = rw at.fields_are (whole_type k ts (array_entry f (take k ts) k t made (rw at.fields_are at h)))

  pub runtime_at : x.kind ≡ 10 → OverType ts x.reference t runtime
  runtime_at h = rw at.fields_are (whole_type k ts (runtime_entry f (take k ts) k t made (rw at.fields_are at h)))

  pub runtime_at_count : x.kind ≡ 10 → x.count ≡ 0
  runtime_at_count h = rw at.fields_are (runtime_count f (take k ts) k t made (rw at.fields_are at h))

  pub atomic_at : x.kind ≡ 11 → OverScalar ts x.reference t atomic
  atomic_at h = rw at.fields_are (whole_scalar k ts (atomic_entry f (take k ts) k t made (rw at.fields_are at h)))

  pub struct_at : x.kind ≡ 12 → OverMembers f (take k ts) k t x.reference x.count
  struct_at h = rw at.fields_are (struct_entry f (take k ts) k t made (rw at.fields_are at h))

  pub kind_high : is_scalar_kind x.kind ≡ false → x.kind ≤ 12
  kind_high h = rw at.fields_are (kind_bounded f (take k ts) k t made (rw at.fields_are at h))

  -- An entry of kind 7 to 11 refers to an entry of a lower number.
  pub reference_lower : is_scalar_kind x.kind ≡ false → (x.kind ≡ 12 → ⊥) → x.reference < k
  reference_lower h not_struct = rw at.fields_are (low ((type_entry_at f k).kind - 7) (omega (arith, six)))
    where
      other : is_scalar_kind (type_entry_at f k).kind ≡ false
      other = rw at.fields_are at h

      six : 6 < (type_entry_at f k).kind
      six = (other_range _ other).0

      low : (n : ℕ) → (type_entry_at f k).kind ≡ n + 7 → (type_entry_at f k).reference < k
      low zero e = (get_elem_first k ts _ (vector_entry f (take k ts) k t made e).element_is).0
      low (suc zero) e = (get_elem_first k ts _ (matrix_entry f (take k ts) k t made e).element_is).0
      low (suc (suc zero)) e = (get_elem_first k ts _ (array_entry f (take k ts) k t made e).element_is).0
      low (suc (suc (suc zero))) e = (get_elem_first k ts _ (runtime_entry f (take k ts) k t made e).element_is).0
      low (suc (suc (suc (suc zero)))) e = (get_elem_first k ts _ (atomic_entry f (take k ts) k t made e).element_is).0
      low (suc (suc (suc (suc (suc n))))) e =
          let r : (type_entry_at f k).kind ≤ 12 = kind_bounded f (take k ts) k t made other in
          let same : (type_entry_at f k).kind ≡ 12 = omega arith in
          absurd (not_struct (rw at.fields_are same))

-- what entry k, with the fields x, makes its type of
pub data Refers (f : List ℕ) (ts : List Ty) (k : ℕ) (x : TypeEntry) : Ty → Type 0 where
  to_none : (s : Scalar) → Refers f ts k x (scalar s)
  to_vector : (s : Scalar) → x.reference < k → get_elem? ts x.reference ≡ some (scalar s) → Refers f ts k x (vector x.rows s)
  to_matrix : (s : Scalar) → x.reference < k → get_elem? ts x.reference ≡ some (scalar s) → Refers f ts k x (matrix x.columns x.rows s)
  to_array : (u : Ty) → x.reference < k → get_elem? ts x.reference ≡ some u → Refers f ts k x (array x.count u)
  to_runtime : (u : Ty) → x.count ≡ 0 → x.reference < k → get_elem? ts x.reference ≡ some u → Refers f ts k x (runtime u)
  to_atomic : (s : Scalar) → x.reference < k → get_elem? ts x.reference ≡ some (scalar s) → Refers f ts k x (atomic s)
  to_members : (ms : Members) → members_from f (take k ts) x.count x.reference ≡ some ms → x.reference + x.count ≤ (trailer_of f).members → Refers f ts k x (struct k ms)

-- An entry makes its type of what it refers to.
pub refers : {f : List ℕ} {ts : List Ty} {k : ℕ} {t : Ty} {x : TypeEntry} → At f ts k t x → Refers f ts k x t
refers {f} {ts} {k} {t} {x} at = go (is_scalar_kind x.kind) refl
  where
    low : (n : ℕ) → x.kind ≡ n + 7 → n < 5 → x.reference < k
    low n e h = reference_lower at (no_scalar_lem _ (omega arith) (omega arith)) (λ q. omega arith)

    over : (n : ℕ) → x.kind ≡ n + 7 → x.kind ≤ 12 → Refers f ts k x t
    over zero e high =
        let o = vector_at at e in
        rw o.type_is (to_vector o.element (low 0 e (omega arith)) o.element_is)
    over (suc zero) e high =
        let o = matrix_at at e in
        rw o.type_is (to_matrix o.element (low 1 e (omega arith)) o.element_is)
    over (suc (suc zero)) e high =
        let o = array_at at e in
        rw o.type_is (to_array o.element (low 2 e (omega arith)) o.element_is)
    over (suc (suc (suc zero))) e high =
        let o = runtime_at at e in
        rw o.type_is (to_runtime o.element (runtime_at_count at e) (low 3 e (omega arith)) o.element_is)
    over (suc (suc (suc (suc zero)))) e high =
        let o = atomic_at at e in
        rw o.type_is (to_atomic o.element (low 4 e (omega arith)) o.element_is)
    over (suc (suc (suc (suc (suc zero))))) e high =
        let o = struct_at at e in
        rw o.type_is (to_members o.members o.members_are o.within)
    over (suc (suc (suc (suc (suc (suc n)))))) e high = absurd (omega arith)

    go : (b : Bool) → is_scalar_kind x.kind ≡ b → Refers f ts k x t
    go true q = let (s, is, of) = scalar_lies_at at q in rw is (to_none s)
    go false q =
        let h : 6 < x.kind = (other_range _ q).0 in
        over (x.kind - 7) (omega arith) (kind_high at q)
