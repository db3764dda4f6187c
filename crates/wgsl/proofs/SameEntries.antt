-- What a file says is what its entries say: files with the same entries have the same types, wherever and in whatever form these lie.
--
-- In order: members; one entry; the entries below one; all.
-- Assumes nothing.
use Prim.Native.Nat.{ℕ, zero, suc, ◌+◌, ◌<◌, ◌≤◌}
use mathlib.Core.Bool.{Bool, true, false, ◌&&◌}
use mathlib.Core.List.{List, [], ◌∷◌, ◌++◌}
use mathlib.Core.Option.{Option, some}
use mathlib.Core.Path.{◌≡◌, refl, ap, sym, ◌∙◌}
use native.Mathlib.Omega.{arith}
use borrow.Author.Tests.{leb-true}
use lib.Dec.{leb}
use Rattle.wgsl.specs.Types.{Ty, struct, Members}
use Rattle.wgsl.specs.Said.{Said, good, refused, ◌>>=◌}
use Rattle.wgsl.specs.File.{Trailer, TypeEntry, trailer_of, type_entry_at, member_entry_at, check_trailer}
use Rattle.wgsl.specs.Rule.{when, and_then, unused, members_from, struct_made, type_made, type_of_entry, judged, types_below, is_named, all_named, types_of}
use Rattle.wgsl.proofs.Said.{then_is}
use Rattle.wgsl.proofs.Trailed.{trailed}

bind_same : {A B : Type 0} (m : Said A) (p q : A → Said B) → ((a : A) → p a ≡ q a) → ◌>>=◌ m p ≡ ◌>>=◌ m q
unfolding ◌>>=◌
bind_same (good a) p q h = h a
bind_same (refused number place) p q h = refl

pub record SameEntries (f g : List ℕ) : Type 0 where
  pub types : (trailer_of f).types ≡ (trailer_of g).types
  pub members : (trailer_of f).members ≡ (trailer_of g).members
  pub entry : (k : ℕ) → k < (trailer_of f).types → type_entry_at f k ≡ type_entry_at g k
  pub member : (m : ℕ) → m < (trailer_of f).members → member_entry_at f m ≡ member_entry_at g m

pub same_back : {f g : List ℕ} → SameEntries f g → SameEntries g f
same_back same = record {
  types = sym same.types;
  members = sym same.members;
  entry = λ k h. sym (same.entry k (rw same.types h));
  member = λ m h. sym (same.member m (rw same.members h));
}

module _ {f g : List ℕ} (same : SameEntries f g) where
  members_same : (ts : List Ty) (n m : ℕ) → m + n ≤ (trailer_of f).members → members_from f ts n m ≡ members_from g ts n m
  unfolding members_from
  members_same ts zero m h = refl
  members_same ts (suc n) m h = rw (same.member m (omega arith), members_same ts n (suc m) (omega arith))

  struct_same : (ts : List Ty) (k : ℕ) (e : TypeEntry) → struct_made f ts k e ≡ struct_made g ts k e
  unfolding struct_made when
  struct_same ts k e =
      rw (← same.members)
      (go (unused (e.columns ∷ e.rows ∷ [])) (leb (e.reference + e.count) (trailer_of f).members) refl)
    where
      go : (a b : Bool) → leb (e.reference + e.count) (trailer_of f).members ≡ b → when (a && b) (and_then (members_from f ts e.count e.reference) (λ ms. some (struct k ms))) ≡ when (a && b) (and_then (members_from g ts e.count e.reference) (λ ms. some (struct k ms)))
      go true true q = ap (λ (o : Option Members). and_then o (λ ms. some (struct k ms))) (members_same ts _ _ (leb-true _ _ q))
      go true false q = refl
      go false b q = refl

  entry_same : (ts : List Ty) (k : ℕ) → k < (trailer_of f).types → type_of_entry f ts k ≡ type_of_entry g ts k
  unfolding type_of_entry type_made
  entry_same ts k h = rw (same.entry k h, struct_same ts k (type_entry_at g k))

  judged_same : (ts : List Ty) (k : ℕ) → k < (trailer_of f).types → judged f ts k ≡ judged g ts k
  unfolding judged
  judged_same ts k h = rw (entry_same ts k h)

  below_same : (n : ℕ) → n ≤ (trailer_of f).types → types_below f n ≡ types_below g n
  unfolding types_below
  below_same zero h = refl
  below_same (suc n) h =
      rw (below_same n (omega arith)) (bind_same (types_below g n) _ _ (λ ts. ap (λ (s : Said Ty). ◌>>=◌ s (λ t. good (ts ++ (t ∷ [])))) (judged_same ts n (omega arith))))

  named_same : (n : ℕ) → n ≤ (trailer_of f).types → (m : ℕ) → is_named f n m ≡ is_named g n m
  unfolding is_named
  named_same zero h m = refl
  named_same (suc n) h m = rw (named_same n (omega arith) m, same.entry n (omega arith))

  all_same : (n : ℕ) → n ≤ (trailer_of f).types → (m : ℕ) → all_named f n m ≡ all_named g n m
  unfolding all_named
  all_same n h zero = refl
  all_same n h (suc m) = rw (all_same n h m, named_same n h m)

-- The types of the entries are the same, or the refusal of the lowest bad one, or of the lowest member that nobody names.
pub same_types : {f g : List ℕ} {r s : Trailer} → check_trailer f ≡ good r → check_trailer g ≡ good s → SameEntries f g → types_of f ≡ types_of g
unfolding types_of
same_types {f} {g} {r} {s} p q same =
    let few : r.types ≡ (trailer_of f).types = ap (λ (x : Trailer). x.types) (trailed f r p).is in
    let few' : s.types ≡ (trailer_of g).types = ap (λ (x : Trailer). x.types) (trailed g s q).is in
    let count : r.types ≡ s.types = few ∙ same.types ∙ sym few' in
    let few'' : r.members ≡ s.members = ap (λ (x : Trailer). x.members) (trailed f r p).is ∙ same.members ∙ sym (ap (λ (x : Trailer). x.members) (trailed g s q).is) in
    then_is _ p
    ∙ rw (below_same same r.types (omega arith), all_same same r.types (omega arith) r.members, count, few'') refl
    ∙ sym (then_is _ q)
