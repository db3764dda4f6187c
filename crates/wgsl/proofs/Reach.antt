-- The entries that an entry reaches (specs/Uniform; specs/Claim, `Reaches`).
--
-- In order: one of some numbers; what an entry of an accepted file refers to, by its type; it is lower, and so is what an entry reaches;
-- by steps and by the relation, an entry reaches the same.
-- Not here: what holds of every type that is reached (`ReachedTypes`).
-- Assumes nothing.
use Prim.Native.Nat.{ℕ, zero, suc, ◌+◌, ◌-◌, ◌<◌, ◌≤◌}
use mathlib.Core.Bool.{Bool, true, false, or-true}
use mathlib.Core.List.Memᴰ
use mathlib.Core.List.{List, [], ◌∷◌, Memᴰ}
use mathlib.Core.Logic.{⊎_elim}
use mathlib.Core.Option.{some}
use mathlib.Core.Path.{◌≡◌, refl}
use native.Mathlib.Omega.{arith}
use borrow.Author.Tests.{eqb-true, eq-eqb}
use lib.Dec.{eqb}
use lib.ListN.{take, get_elem?}
use Rattle.wgsl.specs.Types.{Ty, scalar, vector, matrix, array, runtime, atomic, struct, Members, is_scalar_kind}
use Rattle.wgsl.specs.Said.{good}
use Rattle.wgsl.specs.File.{TypeEntry, type_entry_at, member_entry_at}
use Rattle.wgsl.specs.Rule.{lower, members_from, types_of}
use Rattle.wgsl.specs.Uniform.{member_types, refers_to, any_of, reaches_by}
use Rattle.wgsl.specs.Claim.{Reaches, itself, onward}
use Rattle.wgsl.proofs.Absent.{either_holds, true_not_false}
use Rattle.wgsl.proofs.Said.{when_some, and_then_some}
use Rattle.wgsl.proofs.ScalarKind.{other_range}
use Rattle.wgsl.proofs.AtEntry.{get_elem_first, At, scalar_lies_at, vector_at, matrix_at, array_at, runtime_at, atomic_at, struct_at, kind_high, Refers, to_none, to_vector, to_matrix, to_array, to_runtime, to_atomic, to_members, refers}

-- ---- one of some numbers

any_found : (p : ℕ → Bool) (l : List ℕ) → any_of p l ≡ true → (r : ℕ) × Memᴰ r l × (p r ≡ true)
unfolding any_of
any_found p [] e = true_not_false e refl
any_found p (n ∷ l) e =
    ⊎_elim (λ (h : p n ≡ true). (n, Memᴰ.head refl, h))
    (λ (h : any_of p l ≡ true). let (r, m, q) = any_found p l h in (r, Memᴰ.tail m, q)) (either_holds (p n) (any_of p l) e)

any_there : (p : ℕ → Bool) (l : List ℕ) {r : ℕ} → Memᴰ r l → p r ≡ true → any_of p l ≡ true
unfolding any_of
any_there p [] m e = absurd (Memᴰ.not-nil m)
any_there p (n ∷ l) {r} m e =
    ⊎_elim (λ (q : r ≡ n). let h : p n ≡ true = rw q at e in rw h)
    (λ (q : Memᴰ r l). rw (any_there p l q e) (or-true (p n))) (Memᴰ.cases_cons m)

-- ---- what an entry refers to, by its type

unfoldable pub links_of : List ℕ → TypeEntry → Ty → List ℕ
links_of f e (scalar s) = []
links_of f e (vector n s) = e.reference ∷ []
links_of f e (matrix c r s) = e.reference ∷ []
links_of f e (array n t) = e.reference ∷ []
links_of f e (runtime t) = e.reference ∷ []
links_of f e (atomic s) = e.reference ∷ []
links_of f e (struct k ms) = member_types f e.count e.reference

links_at : {f : List ℕ} {ts : List Ty} {k : ℕ} {t : Ty} → At f ts k t (type_entry_at f k) → refers_to f k ≡ links_of f (type_entry_at f k) t
unfolding refers_to links_of
links_at {f} {ts} {k} {t} at = go (is_scalar_kind (type_entry_at f k).kind) refl
  where
    over : is_scalar_kind (type_entry_at f k).kind ≡ false → (n : ℕ) → (type_entry_at f k).kind ≡ n + 7 → (type_entry_at f k).kind ≤ 12 → refers_to f k ≡ links_of f (type_entry_at f k) t
    over q zero e high = rw ((vector_at at e).type_is, q, e)
    over q (suc zero) e high = rw ((matrix_at at e).type_is, q, e)
    over q (suc (suc zero)) e high = rw ((array_at at e).type_is, q, e)
    over q (suc (suc (suc zero))) e high = rw ((runtime_at at e).type_is, q, e)
    over q (suc (suc (suc (suc zero)))) e high = rw ((atomic_at at e).type_is, q, e)
    over q (suc (suc (suc (suc (suc zero))))) e high = rw ((struct_at at e).type_is, q, e)
    over q (suc (suc (suc (suc (suc (suc n)))))) e high = absurd (omega arith)

    go : (b : Bool) → is_scalar_kind (type_entry_at f k).kind ≡ b → refers_to f k ≡ links_of f (type_entry_at f k) t
    go true q = let (s, is, of) = scalar_lies_at at q in rw (is, q)
    go false q =
        let h : 6 < (type_entry_at f k).kind = (other_range _ q).0 in
        over q ((type_entry_at f k).kind - 7) (omega arith) (kind_high at q)

-- entry r of a file with these types, lower than k
pub record Lower (ts : List Ty) (k r : ℕ) : Type 0 where
  pub low : r < k
  pub type : Ty
  pub there : get_elem? ts r ≡ some type

module _ (f : List ℕ) (ts : List Ty) (good_file : types_of f ≡ good ts) where
  pub at : {k : ℕ} {t : Ty} → get_elem? ts k ≡ some t → At f ts k t (type_entry_at f k)
  at there = record { good_file = good_file; type_is = there; fields_are = refl }

  pub links : (k : ℕ) {t : Ty} → get_elem? ts k ≡ some t → refers_to f k ≡ links_of f (type_entry_at f k) t
  links k there = links_at (at there)

  -- ---- what is referred to is lower

  member_lower : (k c m : ℕ) (ms : Members) {r : ℕ} → members_from f (take k ts) c m ≡ some ms → Memᴰ r (member_types f c m) → Lower ts k r
  unfolding members_from member_types lower
  member_lower k zero m ms e h = absurd (Memᴰ.not-nil h)
  member_lower k (suc c) m ms {r} e h =
      let t = and_then_some _ _ (when_some _ _ e).1 in
      let rest = and_then_some _ _ t.after in
      ⊎_elim
      (λ (q : r ≡ (member_entry_at f m).type).
      let found = get_elem_first k ts _ t.first in
      rw q (record { low = found.0; type = t.value; there = found.1 }))
      (λ (q : Memᴰ r (member_types f c (suc m))). member_lower k c (suc m) rest.value rest.first q) (Memᴰ.cases_cons h)

  one_lower : {k r i : ℕ} {u : Ty} → Memᴰ r (i ∷ []) → i < k → get_elem? ts i ≡ some u → Lower ts k r
  one_lower {u = u} m low below = rw (Memᴰ.eq_of_singleton m) (record { low = low; type = u; there = below })

  linked_lower : {k r : ℕ} {t : Ty} → Refers f ts k (type_entry_at f k) t → Memᴰ r (links_of f (type_entry_at f k) t) → Lower ts k r
  unfolding links_of
  linked_lower (to_none s) m = absurd (Memᴰ.not-nil m)
  linked_lower (to_vector s low below) m = one_lower m low below
  linked_lower (to_matrix s low below) m = one_lower m low below
  linked_lower (to_array u low below) m = one_lower m low below
  linked_lower (to_runtime u none low below) m = one_lower m low below
  linked_lower (to_atomic s low below) m = one_lower m low below
  linked_lower {k} (to_members ms are within) m = member_lower k _ _ ms are m

  pub refers_lower : {k r : ℕ} {t : Ty} → get_elem? ts k ≡ some t → Memᴰ r (refers_to f k) → Lower ts k r
  refers_lower {k} there m = linked_lower (refers (at there)) (rw (links k there) at m)

  -- What an entry reaches is there, and no higher than it.
  pub reached_there : {e k : ℕ} {t : Ty} → get_elem? ts e ≡ some t → Reaches f e k → (k ≤ e) × ((u : Ty) × (get_elem? ts k ≡ some u))
  reached_there {t = t} there itself = (omega arith, (t, there))
  reached_there there (onward m rest) =
      let x = refers_lower there m in
      let y = reached_there x.there rest in
      (omega (arith, x.low, y.0), y.1)

-- ---- by steps, and by the relation

-- What is reached is the entry itself, or is reached from one that it refers to.
pub reach_cases : {A : Type 0} {f : List ℕ} {e k : ℕ} → Reaches f e k → (k ≡ e → A) → ((r : ℕ) → Memᴰ r (refers_to f e) → Reaches f r k → A) → A
reach_cases itself here on = here refl
reach_cases (onward m rest) here on = on _ m rest

-- What is found by steps is reached,
pub reach_sound : (f : List ℕ) (n k e : ℕ) → reaches_by f n k e ≡ true → Reaches f e k
unfolding reaches_by
reach_sound f zero k e h = rw (eqb-true e k h) itself
reach_sound f (suc n) k e h =
    ⊎_elim (λ (q : eqb e k ≡ true). rw (eqb-true e k q) itself)
    (λ (q : any_of (λ r. reaches_by f n k r) (refers_to f e) ≡ true).
    let (r, m, g) = any_found (λ r. reaches_by f n k r) (refers_to f e) q in
    onward m (reach_sound f n k r g))
    (either_holds (eqb e k) (any_of (λ r. reaches_by f n k r) (refers_to f e)) h)

-- and what is reached is found by as many steps as the entry's number.
pub reach_complete : (f : List ℕ) (ts : List Ty) → types_of f ≡ good ts → {e k : ℕ} {t : Ty} → get_elem? ts e ≡ some t → Reaches f e k → (n : ℕ) → e ≤ n → reaches_by f n k e ≡ true
unfolding reaches_by
reach_complete f ts g {e} there itself zero h = eq-eqb e e refl
reach_complete f ts g {e} there itself (suc n) h = rw (eq-eqb e e refl)
reach_complete f ts g there (onward m rest) zero h = absurd (omega (arith, (refers_lower f ts g there m).low))
reach_complete f ts g {e} {k} there (onward m rest) (suc n) h =
    let x = refers_lower f ts g there m in
    rw (any_there (λ r. reaches_by f n k r) (refers_to f e) m (reach_complete f ts g x.there rest n (omega (arith, x.low)))) (or-true (eqb e k))
