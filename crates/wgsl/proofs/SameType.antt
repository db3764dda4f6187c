-- In an accepted file the same type, by structure and with structs by entry number, is equality (02, E13; specs/CommonClaim, `Same`).
-- Assumes nothing.
use Prim.Native.Nat.{ℕ, zero, suc, ◌<◌}
use mathlib.Core.List.{List}
use mathlib.Core.Option.{Option, none, some}
use mathlib.Core.Path.{◌≡◌, refl}
use native.Mathlib.Omega.{arith}
use lib.ListN.{get_elem?}
use Rattle.wgsl.specs.Types.{Ty, scalar, vector, matrix, array, runtime, atomic, struct, Members, no_more}
use Rattle.wgsl.specs.Said.{good, ◌>>=◌, or_refuse}
use Rattle.wgsl.specs.File.{type_entry_at}
use Rattle.wgsl.specs.Rule.{types_of}
use Rattle.wgsl.specs.Call.{entry_of}
use Rattle.wgsl.specs.CommonClaim.{Same}
use Rattle.wgsl.proofs.Said.{then_good, or_refuse_good}
use Rattle.wgsl.proofs.AtEntry.{Refers, to_none, to_vector, to_matrix, to_array, to_runtime, to_atomic, to_members, refers}
use Rattle.wgsl.proofs.Reach.{at}
use Rattle.wgsl.proofs.Rank.{Numbered, same_equal}

-- the type of entry e, as the list of an accepted file has it
pub record There (f : List ℕ) (e : ℕ) (t : Ty) : Type 0 where
  pub types : List Ty
  pub good_file : types_of f ≡ good types
  pub is : get_elem? types e ≡ some t

pub entry_there : (f : List ℕ) (e : ℕ) {t : Ty} → entry_of f e ≡ good t → There f e t
unfolding entry_of
entry_there f e h =
    let x = then_good (types_of f) _ h in
    record { types = x.value; good_file = x.first; is = or_refuse_good 8 0 _ x.after }

pub there_entry : (f : List ℕ) (e : ℕ) {ts : List Ty} {t : Ty} → types_of f ≡ good ts → get_elem? ts e ≡ some t → entry_of f e ≡ good t
unfolding entry_of or_refuse ◌>>=◌
there_entry f e good_file is = rw (good_file, is) refl

members_of : Ty → Members
members_of (scalar s) = no_more
members_of (vector n s) = no_more
members_of (matrix c r s) = no_more
members_of (array n t) = no_more
members_of (runtime t) = no_more
members_of (atomic s) = no_more
members_of (struct k ms) = ms

members_in : Option Ty → Members
members_in (some t) = members_of t
members_in none = no_more

module _ (f : List ℕ) (ts : List Ty) (good_file : types_of f ≡ good ts) where
  -- the members of the struct that entry k is
  members_at : ℕ → Members
  members_at k = members_in (get_elem? ts k)

  -- a struct's number is the entry's that made it
  numbered : (n k : ℕ) (t : Ty) → k < n → get_elem? ts k ≡ some t → Numbered members_at t
  unfolding Numbered members_at members_in members_of
  numbered zero k t low is = absurd (omega arith)
  numbered (suc n) k t low is =
      go (λ r u l h. numbered n r u (omega arith) h) is (refers (at f ts good_file is))
    where
      go : ((r : ℕ) (u : Ty) → r < k → get_elem? ts r ≡ some u → Numbered members_at u) → {u : Ty} → get_elem? ts k ≡ some u → Refers f ts k (type_entry_at f k) u → Numbered members_at u
      go below here (to_none s) = tt
      go below here (to_vector s l h) = tt
      go below here (to_matrix s l h) = tt
      go below here (to_array u l h) = below (type_entry_at f k).reference u l h
      go below here (to_runtime u zero-count l h) = below (type_entry_at f k).reference u l h
      go below here (to_atomic s l h) = tt
      go below here (to_members ms are within) = rw here refl

-- Of one accepted file, types that are the same are equal.
pub same_is_equal : (f : List ℕ) (a b : ℕ) {s t : Ty} → entry_of f a ≡ good s → entry_of f b ≡ good t → Same s t → s ≡ t
same_is_equal f a b {s} {t} p q h =
    let x = entry_there f a p in
    let y = entry_there f b q in
    let same : y.types ≡ x.types = cc (x.good_file, y.good_file) in
    let is : get_elem? x.types b ≡ some t = rw same at y.is in
    let n = numbered f x.types x.good_file in
    same_equal (members_at f x.types x.good_file) (n (suc a) a s (omega arith) x.is) (n (suc b) b t (omega arith) is) h
