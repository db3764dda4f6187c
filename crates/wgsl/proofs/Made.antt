-- What an entry makes out of lower ones (specs/Rule, `type_of_entry`).
--
-- In order: the types that it can make (`Made`); what holds of every type within.
-- Assumes nothing.
use Prim.Native.Nat.{ℕ, zero, suc}
use mathlib.Core.Bool.{Bool, true, false, cond}
use mathlib.Core.List.{List}
use mathlib.Core.Option.{Option, none, some, some-injective}
use mathlib.Core.Path.{◌≡◌, refl}
use lib.Dec.{eqb}
use lib.ListN.{get_elem?}
use Rattle.wgsl.specs.Types.{Scalar, Ty, scalar, vector, matrix, array, runtime, atomic, struct, Members, no_more, is_scalar_kind, everywhere, every_member}
use Rattle.wgsl.specs.File.{TypeEntry, type_entry_at}
use Rattle.wgsl.specs.Rule.{when, and_then, lower, members_from, scalar_made, vector_made, matrix_made, array_made, runtime_made, atomic_made, struct_made, over_made, type_made, type_of_entry}
use Rattle.wgsl.proofs.Absent.{hold_both, some_not_none}
use Rattle.wgsl.proofs.Said.{when_some, and_then_some}

-- What entry k can make over the types of the lower entries: the types within are of these, and a struct carries the number k.
pub data Made (f : List ℕ) (ts : List Ty) (k : ℕ) : Ty → Type 0 where
  made_scalar : (s : Scalar) → Made f ts k (scalar s)
  made_vector : (n : ℕ) (s : Scalar) → Made f ts k (vector n s)
  made_matrix : (c r : ℕ) (s : Scalar) → Made f ts k (matrix c r s)
  made_array : (i n : ℕ) (t : Ty) → get_elem? ts i ≡ some t → Made f ts k (array n t)
  made_runtime : (i : ℕ) (t : Ty) → get_elem? ts i ≡ some t → Made f ts k (runtime t)
  made_atomic : (s : Scalar) → Made f ts k (atomic s)
  made_struct : (n m : ℕ) (ms : Members) → members_from f ts n m ≡ some ms → Made f ts k (struct k ms)

module _ (f : List ℕ) (ts : List Ty) (k : ℕ) where
  abbrev Makes : Option Ty → Type 0
  Makes o = (t : Ty) → o ≡ some t → Made f ts k t

  makes_none : Makes none
  makes_none t e = some_not_none e refl

  makes_cond : (test : Bool) {x y : Option Ty} → Makes x → Makes y → Makes (cond test x y)
  makes_cond true g h = g
  makes_cond false g h = h

  makes_then : {A : Type 0} (test : Bool) (o : Option A) (make : A → Ty) → ((a : A) → o ≡ some a → Made f ts k (make a)) → Makes (when test (and_then o (λ a. some (make a))))
  makes_then test o make h t e =
      let s = and_then_some _ _ (when_some _ _ e).1 in
      rw (← some-injective _ _ s.after) (h s.value s.first)

  -- An entry makes such a type.
  pub entry_made : (t : Ty) → type_of_entry f ts k ≡ some t → Made f ts k t
  unfolding type_of_entry type_made over_made scalar_made vector_made matrix_made array_made runtime_made atomic_made struct_made lower
  entry_made t e =
      let x : TypeEntry = type_entry_at f k in
      makes_cond (is_scalar_kind x.kind) (makes_then _ _ _ (λ s h. made_scalar s))
      (makes_cond (eqb x.kind 12) (makes_then _ _ _ (λ ms h. made_struct x.count x.reference ms h))
      (makes_cond (eqb x.kind 7) (makes_then _ _ _ (λ s h. made_vector x.rows s))
      (makes_cond (eqb x.kind 8) (makes_then _ _ _ (λ s h. made_matrix x.columns x.rows s))
      (makes_cond (eqb x.kind 9) (makes_then _ _ _ (λ u h. made_array x.reference x.count u h))
      (makes_cond (eqb x.kind 10) (makes_then _ _ _ (λ u h. made_runtime x.reference u h))
      (makes_cond (eqb x.kind 11) (makes_then _ _ _ (λ s h. made_atomic s)) makes_none)))))) t (when_some _ _ e).1

module _ (p : Ty → Bool) (ts : List Ty) (all : (i : ℕ) (u : Ty) → get_elem? ts i ≡ some u → everywhere p u ≡ true) where
  members_everywhere : (f : List ℕ) (n m : ℕ) (ms : Members) → members_from f ts n m ≡ some ms → every_member p ms ≡ true
  unfolding members_from every_member lower
  members_everywhere f zero m ms e = let z : ms ≡ no_more = cc in rw z
  members_everywhere f (suc n) m ms e =
      let first = and_then_some _ _ (when_some _ _ e).1 in
      let rest = and_then_some _ _ first.after in
      let z = some-injective _ _ rest.after in
      rw (← z)
      (hold_both (everywhere p first.value) (every_member p rest.value) (all _ _ first.first)
      (members_everywhere f n (suc m) rest.value rest.first))

-- A test that holds of every type of the lower entries, and of an entry's type itself, holds of every type within that.
pub made_everywhere : (p : Ty → Bool) (f : List ℕ) (ts : List Ty) (k : ℕ) (t : Ty) → type_of_entry f ts k ≡ some t → ((i : ℕ) (u : Ty) → get_elem? ts i ≡ some u → everywhere p u ≡ true) → p t ≡ true → everywhere p t ≡ true
unfolding everywhere
made_everywhere p f ts k t e all = go (entry_made f ts k t e)
  where
    go : {u : Ty} → Made f ts k u → p u ≡ true → everywhere p u ≡ true
    go (made_scalar s) h = h
    go (made_vector n s) h = h
    go (made_matrix c r s) h = h
    go (made_array i n u x) h = hold_both (p (array n u)) (everywhere p u) h (all i u x)
    go (made_runtime i u x) h = hold_both (p (runtime u)) (everywhere p u) h (all i u x)
    go (made_atomic s) h = h
    go (made_struct n m ms x) h =
        hold_both (p (struct k ms)) (every_member p ms) h (members_everywhere p ts all f n m ms x)
