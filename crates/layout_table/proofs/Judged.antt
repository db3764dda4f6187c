-- What becomes of entry k of a file: the verdict that the code works out (`made_of` of crates/layout_values) is that of crates/wgsl.
--
-- In order: a good trailer, and where entries and members lie; the kinds of an entry; the verdict; the entries up to one that is
-- refused or laid out.
-- Assumes nothing.
use Rattle.std.specs.Prelude.{Err, Ok, Result}
use Prim.Native.Nat.{ℕ, zero, suc, ◌+◌, ◌-◌, ◌*◌, ◌<◌}
use mathlib.Core.Bool.{Bool, true, false, not, cond}
use mathlib.Core.List.{List, [], ◌∷◌, ◌++◌}
use mathlib.Core.Option.{Option, none, some}
use mathlib.Core.Path.{◌≡◌, refl, sym, ap, ◌∙◌}
use native.Mathlib.Omega.{arith}
use borrow.Author.Tests.{ne_eqb}
use lib.Dec.{eqb}
use Rattle.wgsl.specs.Types.{Ty, struct_kind, is_scalar_kind}
use Rattle.wgsl.specs.Size.{fits_limit}
use Rattle.wgsl.specs.Said.{Said, good, refused, ◌>>=◌, ◌>>◌, refuse, or_refuse}
use Rattle.wgsl.specs.File.{Trailer, trailer_of, TypeEntry, type_entry_at, type_entry_from, check_trailer, type_entry_length}
use Rattle.wgsl.specs.Rule.{when, unused, lower, scalar_made, over_made, vector_made, matrix_made, array_made, runtime_made, atomic_made, and_then, struct_made, type_made, type_of_entry, is_allowed, given_fits, judged, types_below, all_named, types_of}
use Rattle.wgsl.proofs.ScalarKind.{no_scalar_lem}
use Rattle.wgsl.proofs.Said.{good_not_refused, then_is, then_refused}
use Rattle.wgsl.proofs.Trailed.{Trailed}
use Rattle.file.specs.Members.{members_start}
use Rattle.layout_values.specs.Value.{value_of, verdict_on, made_of}
use Rattle.layout_values.specs.declared.value.Value.{Value}
use Rattle.layout_values.specs.declared.value.Broken.{Broken}
use Rattle.layout_values.specs.declared.value.Broken.TheVariants.{Given, Large, Rule}

-- ---- a good trailer

-- The types of a file whose trailer is good, and which members are named.
pub types_of_lem : (f : List ℕ) (r : Trailer) → check_trailer f ≡ good r → types_of f ≡ ◌>>=◌ (types_below f r.types) (λ ts. ◌>>◌ (all_named f r.types r.members) (good ts))
unfolding types_of
types_of_lem f r e = then_is _ e

-- Where the entries and the members lie.
module _ {f : List ℕ} {r : Trailer} {start : ℕ} (t : Trailed f r) (at : start ≡ r.start) where
  pub is_entry : {e : TypeEntry} (k : ℕ) → e ≡ type_entry_from f (start + type_entry_length * k) → e ≡ type_entry_at f k
  unfolding type_entry_at
  is_entry k h = rw (← t.is, ← at) h

  pub base_is : {types : ℕ} → types ≡ r.types → start + type_entry_length * types ≡ members_start f
  unfolding members_start
  base_is h = rw (← t.is, ← at, ← h)

  pub members_are : {members : ℕ} → members ≡ r.members → members ≡ (trailer_of f).members
  members_are h = rw (← t.is) h

-- ---- the kinds of an entry

when_none : {A : Type 0} (test : Bool) → ◌≡◌ {A = Option A} (when test none) none
unfolding when
when_none true = refl
when_none false = refl

-- Over a type that is not there nothing is made.
over_missing : (e : TypeEntry) → over_made none e ≡ none
unfolding over_made vector_made matrix_made array_made runtime_made atomic_made and_then
over_missing e =
    simp when_none (chosen (eqb e.kind 7) (eqb e.kind 8) (eqb e.kind 9) (eqb e.kind 10) (eqb e.kind 11))
  where
    chosen : (a b c d g : Bool) → ◌≡◌ {A = Option Ty} (cond a none (cond b none (cond c none (cond d none (cond g none none))))) none
    chosen true b c d g = refl
    chosen false true c d g = refl
    chosen false false true d g = refl
    chosen false false false true g = refl
    chosen false false false false true = refl
    chosen false false false false false = refl

module _ (f : List ℕ) (ts : List Ty) (k long r : ℕ) {e : TypeEntry} (is : e ≡ type_entry_at f k) where
  pub entry_used : unused (e.zero3 ∷ e.zero6 ∷ []) ≡ false → (Err Rule) ≡ made_of long r (type_of_entry f ts k)
  unfolding type_of_entry when made_of
  entry_used h = rw (← is, h)

  module _ (zeros : unused (e.zero3 ∷ e.zero6 ∷ []) ≡ true) where
    pub entry_scalar : is_scalar_kind e.kind ≡ true → made_of long r (scalar_made e) ≡ made_of long r (type_of_entry f ts k)
    unfolding type_of_entry when type_made
    entry_scalar h = rw (← is, zeros, h)

    pub entry_struct : e.kind ≡ struct_kind → made_of long r (struct_made f ts k e) ≡ made_of long r (type_of_entry f ts k)
    unfolding type_of_entry when type_made
    entry_struct h = rw (← is, zeros, no_scalar_lem e.kind (omega arith) (omega arith), h)

    module _ (high : is_scalar_kind e.kind ≡ false) (other : e.kind ≡ struct_kind → ⊥) where
      pub entry_over : {i : ℕ} (t : Ty) → i ≡ e.reference → lower ts i ≡ some t → made_of long r (over_made (some t) e) ≡ made_of long r (type_of_entry f ts k)
      unfolding type_of_entry when type_made
      entry_over t q h = rw (← is, zeros, high, ne_eqb e.kind struct_kind other, ← q, h)

      pub entry_missing : lower ts e.reference ≡ none → (Err Rule) ≡ made_of long r (type_of_entry f ts k)
      unfolding type_of_entry when type_made made_of
      entry_missing h =
          rw (← is, zeros, high, ne_eqb e.kind struct_kind other, h, over_missing e)

-- ---- the verdict

-- what the verdict on entry k says
unfoldable pub says : ℕ → Result Value Broken → Said Value
says k (Ok l) = good l
says k (Err Rule) = refused 5 k
says k (Err Given) = refused 6 k
says k (Err Large) = refused 7 k

-- an entry's type, as the layout of it
unfoldable valued : ℕ → ℕ → Said Ty → Said Value
valued long r (good t) = good (value_of long r t)
valued long r (refused number place) = refused number place

steps : (k long r : ℕ) (t : Ty) (a b c : Bool) → valued long r (◌>>◌ (refuse 5 k (not a)) (◌>>◌ (refuse 6 k (not b)) (◌>>◌ (refuse 7 k (not c)) (good t)))) ≡ says k (cond a (cond b (cond c (Ok (value_of long r t)) (Err Large)) (Err Given)) (Err Rule))
unfolding valued says ◌>>◌ refuse
steps k long r t true true true = refl
steps k long r t true true false = refl
steps k long r t true false c = refl
steps k long r t false b c = refl

-- "in it 5 before 6 before 7"
judged_says : (f : List ℕ) (ts : List Ty) (k long r : ℕ) → valued long r (judged f ts k) ≡ says k (made_of long r (type_of_entry f ts k))
unfolding judged ◌>>=◌ or_refuse valued says made_of verdict_on
judged_says f ts k long r = go (type_of_entry f ts k)
  where
    go : (o : Option Ty) → valued long r (◌>>=◌ (or_refuse 5 k o) (λ t. ◌>>◌ (refuse 5 k (not (is_allowed t))) (◌>>◌ (refuse 6 k (not (given_fits t))) (◌>>◌ (refuse 7 k (not (fits_limit t))) (good t))))) ≡ says k (made_of long r o)
    go (some t) = steps k long r t (is_allowed t) (given_fits t) (fits_limit t)
    go none = refl

valued_refused : {number place : ℕ} (long r : ℕ) (s : Said Ty) → valued long r s ≡ refused number place → s ≡ refused number place
unfolding valued
valued_refused long r (good t) e = good_not_refused refl e
valued_refused long r (refused number place) e = cc

valued_good : {l : Value} (long r : ℕ) (s : Said Ty) → valued long r s ≡ good l → (t : Ty) × (s ≡ good t) × (l ≡ value_of long r t)
unfolding valued
valued_good long r (good t) e = (t, refl, cc)
valued_good long r (refused number place) e = good_not_refused e refl

-- ---- the entries up to a bad one

-- A refusal stays.
refused_next : {number place : ℕ} (f : List ℕ) (k : ℕ) → types_below f k ≡ refused number place → types_below f (suc k) ≡ refused number place
unfolding types_below
refused_next f k e = then_refused _ e

refused_more : {number place : ℕ} (f : List ℕ) (k d : ℕ) → types_below f k ≡ refused number place → types_below f (k + d) ≡ refused number place
refused_more f k zero e = rw (let z : k + 0 ≡ k = omega arith in z) e
refused_more f k (suc d) e =
    rw (let z : k + suc d ≡ suc (k + d) = omega arith in z) (refused_next f (k + d) (refused_more f k d e))

module _ {ts : List Ty} {m : (Result Value Broken)} (f : List ℕ) (k long r : ℕ) (below : types_below f k ≡ good ts) (made : m ≡ made_of long r (type_of_entry f ts k)) where
  -- The types up to an entry that is refused.
  pub entry_refused : {number place : ℕ} (n : ℕ) → says k m ≡ refused number place → k < n → types_below f n ≡ refused number place
  unfolding types_below
  entry_refused {number} {place} n e h =
      let bad : judged f ts k ≡ refused number place =
      valued_refused long r (judged f ts k) (judged_says f ts k long r ∙ ap (says k) (sym made) ∙ e) in
      let next : types_below f (suc k) ≡ refused number place = then_is _ below ∙ then_refused _ bad in
      let z : n ≡ suc k + (n - suc k) = omega arith in
      rw z (refused_more f (suc k) (n - suc k) next)

  -- The types up to an entry that has a layout.
  pub entry_laid : (l : Value) → m ≡ Ok l → (t : Ty) × (types_below f (suc k) ≡ good (ts ++ (t ∷ []))) × (l ≡ value_of long r t)
  unfolding types_below says
  entry_laid l e =
      let v = valued_good long r (judged f ts k) (judged_says f ts k long r ∙ ap (says k) (sym made ∙ e)) in
      (v.0, then_is _ below ∙ then_is _ v.1, v.2)
