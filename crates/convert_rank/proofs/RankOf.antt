-- The rank of one type to another, kind by kind (crates/wgsl, specs/Rank).
--
-- In order: types of unlike outlines; scalars; vectors; matrices; arrays; runtime arrays; atomics; structs.
-- In all of them s and t are the two types.
-- Assumes nothing.
use Prim.Native.Nat.{ℕ}
use mathlib.Core.Bool.{Bool, true, false}
use mathlib.Core.List.{List}
use mathlib.Core.Option.{none, some}
use mathlib.Core.Path.{◌≡◌, refl, ap}
use borrow.Author.Tests.{eq-eqb}
use lib.ListN.{get_or}
use Rattle.wgsl.specs.Types.{Scalar, Ty, scalar, vector, matrix, array, runtime, atomic, struct, Members, scalar_kind}
use Rattle.wgsl.specs.Rank.{scalar_rank, outline_of, leaf_of, same_numbers, leaf_rank, rank_of}
use Rattle.wgsl.proofs.Rank.{same_numbers_lem}

-- the kind that an outline begins with, 0 for every scalar
unfoldable pub front : Ty → ℕ
front t = get_or (outline_of t) 0 0

-- Types of unlike outlines have no rank.
pub outline_other : (s t : Ty) → (outline_of s ≡ outline_of t → ⊥) → none ≡ rank_of s t
unfolding rank_of
outline_other s t h = go (same_numbers (outline_of s) (outline_of t)) refl
  where
    go : (b : Bool) → same_numbers (outline_of s) (outline_of t) ≡ b → none ≡ rank_of s t
    go true q = absurd (h (same_numbers_lem (outline_of s) (outline_of t) q))
    go false q = rw q

-- Types of unlike kinds have no rank.
pub front_other : (s t : Ty) → (front s ≡ front t → ⊥) → none ≡ rank_of s t
unfolding front
front_other s t h = outline_other s t (λ e. h (ap (λ (l : List ℕ). get_or l 0 0) e))

module _ {s t : Ty} {a b : Scalar} where
  pub scalars : s ≡ scalar a → t ≡ scalar b → scalar_rank a b ≡ rank_of s t
  unfolding rank_of outline_of leaf_of same_numbers leaf_rank
  scalars p q = rw (p, q)

  module _ {n m : ℕ} (p : s ≡ vector n a) (q : t ≡ vector m b) where
    pub vector_same : n ≡ m → scalar_rank a b ≡ rank_of s t
    unfolding rank_of outline_of leaf_of same_numbers leaf_rank
    vector_same h = rw (p, q, eq-eqb n m h)

    pub vector_other : (n ≡ m → ⊥) → none ≡ rank_of s t
    unfolding outline_of
    vector_other h = rw (p, q) (outline_other (vector n a) (vector m b) (λ e. h (cc)))

  module _ {c d n m : ℕ} (p : s ≡ matrix c n a) (q : t ≡ matrix d m b) where
    pub matrix_same : c ≡ d → n ≡ m → scalar_rank a b ≡ rank_of s t
    unfolding rank_of outline_of leaf_of same_numbers leaf_rank
    matrix_same g h = rw (p, q, eq-eqb c d g, eq-eqb n m h)

    pub matrix_columns : (c ≡ d → ⊥) → none ≡ rank_of s t
    unfolding outline_of
    matrix_columns h = rw (p, q) (outline_other (matrix c n a) (matrix d m b) (λ e. h (cc)))

    pub matrix_rows : (n ≡ m → ⊥) → none ≡ rank_of s t
    unfolding outline_of
    matrix_rows h = rw (p, q) (outline_other (matrix c n a) (matrix d m b) (λ e. h (cc)))

  module _ (p : s ≡ atomic a) (q : t ≡ atomic b) where
    pub atomic_same : scalar_kind a ≡ scalar_kind b → some 0 ≡ rank_of s t
    unfolding rank_of outline_of leaf_of same_numbers leaf_rank
    atomic_same h = rw (p, q, eq-eqb (scalar_kind a) (scalar_kind b) h)

    pub atomic_other : (scalar_kind a ≡ scalar_kind b → ⊥) → none ≡ rank_of s t
    unfolding outline_of
    atomic_other h = rw (p, q) (outline_other (atomic a) (atomic b) (λ e. h (cc)))

module _ {s t u v : Ty} where
  module _ {n m : ℕ} (p : s ≡ array n u) (q : t ≡ array m v) where
    pub array_same : n ≡ m → rank_of u v ≡ rank_of s t
    unfolding rank_of outline_of leaf_of same_numbers
    array_same h = rw (p, q, eq-eqb n m h)

    pub array_other : (n ≡ m → ⊥) → none ≡ rank_of s t
    unfolding outline_of
    array_other h = rw (p, q) (outline_other (array n u) (array m v) (λ e. h (cc)))

  pub runtimes : s ≡ runtime u → t ≡ runtime v → rank_of u v ≡ rank_of s t
  unfolding rank_of outline_of leaf_of same_numbers
  runtimes p q = rw (p, q)

module _ {s t : Ty} {j k : ℕ} {ms ns : Members} (p : s ≡ struct j ms) (q : t ≡ struct k ns) where
  pub struct_same : j ≡ k → some 0 ≡ rank_of s t
  unfolding rank_of outline_of leaf_of same_numbers leaf_rank
  struct_same h = rw (p, q, eq-eqb j k h)

  pub struct_other : (j ≡ k → ⊥) → none ≡ rank_of s t
  unfolding outline_of
  struct_other h = rw (p, q) (outline_other (struct j ms) (struct k ns) (λ e. h (cc)))
