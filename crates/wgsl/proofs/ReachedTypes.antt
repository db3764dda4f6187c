-- A test that holds of every type within a type holds of the type of every entry that its entry reaches, and the other way round (specs/Types,
-- `everywhere`; specs/Claim, `Reaches`).
--
-- A vector, a matrix and an atomic hold a scalar and no type, where their entry refers to one; so the test is one that scalars pass.
-- In order: from a type to what its entry refers to, and to what it reaches; from there to the type.
-- Assumes nothing.
use Prim.Native.Nat.{ℕ, zero, suc, ◌<◌}
use mathlib.Core.Bool.{Bool, true}
use mathlib.Core.List.{List, [], ◌∷◌, Memᴰ}
use mathlib.Core.Logic.{⊎_elim}
use mathlib.Core.Option.{some, some-injective}
use mathlib.Core.Path.{◌≡◌, refl, sym, ◌∙◌}
use native.Mathlib.Omega.{arith}
use lib.ListN.{take, get_elem?}
use Rattle.wgsl.specs.Types.{Scalar, Ty, scalar, array, runtime, struct, Members, no_more, everywhere, every_member}
use Rattle.wgsl.specs.Said.{good}
use Rattle.wgsl.specs.File.{type_entry_at, member_entry_at}
use Rattle.wgsl.specs.Rule.{lower, members_from, types_of}
use Rattle.wgsl.specs.Uniform.{member_types, refers_to}
use Rattle.wgsl.specs.Claim.{Reaches, itself, onward}
use Rattle.wgsl.proofs.Absent.{both_hold, hold_both}
use Rattle.wgsl.proofs.Said.{when_some, and_then_some}
use Rattle.wgsl.proofs.AtEntry.{get_elem_first, Refers, to_none, to_vector, to_matrix, to_array, to_runtime, to_atomic, to_members, refers}
use Rattle.wgsl.proofs.Reach.{links_of, at, links, refers_lower}

module _ (f : List ℕ) (ts : List Ty) (good_file : types_of f ≡ good ts) (p : Ty → Bool) (scalars : (s : Scalar) → p (scalar s) ≡ true) where
  -- a test of every type within members, of one of them
  member_everywhere : (k c m : ℕ) (ms : Members) {r : ℕ} {u : Ty} → members_from f (take k ts) c m ≡ some ms → every_member p ms ≡ true → Memᴰ r (member_types f c m) → get_elem? ts r ≡ some u → everywhere p u ≡ true
  unfolding members_from member_types lower every_member
  member_everywhere k zero m ms e h i there = absurd (mathlib.Core.List.Memᴰ.not-nil i)
  member_everywhere k (suc c) m ms {r} {u} e h i there =
      let t = and_then_some _ _ (when_some _ _ e).1 in
      let rest = and_then_some _ _ t.after in
      let q = some-injective _ _ rest.after in
      let both = both_hold (everywhere p t.value) (every_member p rest.value) (rw (← q) at h) in
      ⊎_elim
      (λ (same : r ≡ (member_entry_at f m).type).
      let found = (get_elem_first k ts _ t.first).1 in
      let is : t.value ≡ u = some-injective _ _ (sym found ∙ rw same at there) in
      rw (← is) both.0)
      (λ (later : Memᴰ r (member_types f c (suc m))).
      member_everywhere k c (suc m) rest.value rest.first both.1 later there)
      (mathlib.Core.List.Memᴰ.cases_cons i)

  one_everywhere : {r i : ℕ} {t u : Ty} → Memᴰ r (i ∷ []) → get_elem? ts i ≡ some t → everywhere p t ≡ true → get_elem? ts r ≡ some u → everywhere p u ≡ true
  one_everywhere m below h there =
      let is = some-injective _ _ (sym below ∙ rw (mathlib.Core.List.Memᴰ.eq_of_singleton m) at there) in
      rw (← is) h

  linked_everywhere : {k r : ℕ} {t u : Ty} → Refers f ts k (type_entry_at f k) t → everywhere p t ≡ true → Memᴰ r (links_of f (type_entry_at f k) t) → get_elem? ts r ≡ some u → everywhere p u ≡ true
  unfolding links_of everywhere
  linked_everywhere (to_none s) h m there = absurd (mathlib.Core.List.Memᴰ.not-nil m)
  linked_everywhere (to_vector s low below) h m there = one_everywhere m below (scalars s) there
  linked_everywhere (to_matrix s low below) h m there = one_everywhere m below (scalars s) there
  linked_everywhere (to_array v low below) h m there =
      one_everywhere m below (both_hold (p (array _ v)) (everywhere p v) h).1 there
  linked_everywhere (to_runtime v none low below) h m there =
      one_everywhere m below (both_hold (p (runtime v)) (everywhere p v) h).1 there
  linked_everywhere (to_atomic s low below) h m there = one_everywhere m below (scalars s) there
  linked_everywhere {k} (to_members ms are within) h m there =
      member_everywhere k _ _ ms are (both_hold (p (struct k ms)) (every_member p ms) h).1 m there

  refers_everywhere : (k : ℕ) {r : ℕ} {t u : Ty} → get_elem? ts k ≡ some t → everywhere p t ≡ true → Memᴰ r (refers_to f k) → get_elem? ts r ≡ some u → everywhere p u ≡ true
  refers_everywhere k there h m below =
      linked_everywhere (refers (at f ts good_file there)) h (rw (links f ts good_file k there) at m) below

  -- What holds of every type within a type, holds of every type within one that is reached.
  pub reached_everywhere : {e k : ℕ} {t u : Ty} → get_elem? ts e ≡ some t → everywhere p t ≡ true → Reaches f e k → get_elem? ts k ≡ some u → everywhere p u ≡ true
  reached_everywhere there h itself below = rw (← some-injective _ _ (sym there ∙ below)) h
  reached_everywhere there h (onward m rest) below =
      let x = refers_lower f ts good_file there m in
      reached_everywhere x.there (refers_everywhere _ there h m x.there) rest below

  -- ---- the other way round

  members_everywhere : (k c m : ℕ) (ms : Members) → members_from f (take k ts) c m ≡ some ms → ((r : ℕ) (u : Ty) → Memᴰ r (member_types f c m) → get_elem? ts r ≡ some u → everywhere p u ≡ true) → every_member p ms ≡ true
  unfolding members_from member_types lower every_member
  members_everywhere k zero m ms e h = let q : ms ≡ no_more = cc in rw q
  members_everywhere k (suc c) m ms e h =
      let t = and_then_some _ _ (when_some _ _ e).1 in
      let rest = and_then_some _ _ t.after in
      let found = (get_elem_first k ts _ t.first).1 in
      rw (← some-injective _ _ rest.after)
      (hold_both (everywhere p t.value) (every_member p rest.value) (h _ t.value (mathlib.Core.List.Memᴰ.head refl) found)
      (members_everywhere k c (suc m) rest.value rest.first (λ r u i. h r u (mathlib.Core.List.Memᴰ.tail i))))

  linked_all : {k : ℕ} {t : Ty} → Refers f ts k (type_entry_at f k) t → p t ≡ true → ((r : ℕ) (u : Ty) → Memᴰ r (links_of f (type_entry_at f k) t) → get_elem? ts r ≡ some u → everywhere p u ≡ true) → everywhere p t ≡ true
  unfolding links_of everywhere
  linked_all (to_none s) here h = here
  linked_all (to_vector s low below) here h = here
  linked_all (to_matrix s low below) here h = here
  linked_all (to_array v low below) here h = hold_both (p (array _ v)) (everywhere p v) here (h _ v (mathlib.Core.List.Memᴰ.head refl) below)
  linked_all (to_runtime v none low below) here h = hold_both (p (runtime v)) (everywhere p v) here (h _ v (mathlib.Core.List.Memᴰ.head refl) below)
  linked_all (to_atomic s low below) here h = here
  linked_all {k} (to_members ms are within) here h =
      hold_both (p (struct k ms)) (every_member p ms) here (members_everywhere k _ _ ms are h)

  below_all : (n e : ℕ) (t : Ty) → e < n → get_elem? ts e ≡ some t → ((k : ℕ) (u : Ty) → Reaches f e k → get_elem? ts k ≡ some u → p u ≡ true) → everywhere p t ≡ true
  below_all zero e t low there h = absurd (omega arith)
  below_all (suc n) e t low there h =
      linked_all (refers (at f ts good_file there)) (h e t itself there) (λ r u m below.
      let i : Memᴰ r (refers_to f e) = rw (links f ts good_file e there) m in
      let x = refers_lower f ts good_file there i in
      below_all n r u (omega (arith, x.low)) below (λ k v reach. h k v (onward i reach)))

  -- What holds of the type of every entry that is reached, holds of every type within the type.
  pub everywhere_reached : {e : ℕ} {t : Ty} → get_elem? ts e ≡ some t → ((k : ℕ) (u : Ty) → Reaches f e k → get_elem? ts k ≡ some u → p u ≡ true) → everywhere p t ≡ true
  everywhere_reached {e} {t} there h = below_all (suc e) e t (omega arith) there h
