-- The types over a scalar that an entry's fields say (specs/Ranked): which they are, and their ranks.
--
-- In order: the type, kind by kind; the ranks of two vectors; of two matrices; of two atomics.
-- In the ranks x and y are the fields, s and t the scalars.
-- Assumes nothing.
use mathlib.Core.Option.{none, some}
use mathlib.Core.Path.{◌≡◌, sym, ◌∙◌}
use borrow.Author.Tests.{ne_eqb}
use Rattle.wgsl.specs.Types.{Scalar, vector, matrix, atomic, scalar_kind}
use Rattle.wgsl.specs.File.{TypeEntry}
use Rattle.wgsl.specs.Rank.{scalar_rank, rank_of}
use Rattle.convert_rank.specs.Ranked.{over_scalar}
use Rattle.convert_rank.proofs.RankOf.{vector_same, vector_other, matrix_same, matrix_columns, matrix_rows, atomic_same, atomic_other}

module _ (x : TypeEntry) (s : Scalar) where
  pub is_vector : x.kind ≡ 7 → over_scalar x s ≡ vector x.rows s
  unfolding over_scalar
  is_vector e = rw e

  pub is_matrix : x.kind ≡ 8 → over_scalar x s ≡ matrix x.columns x.rows s
  unfolding over_scalar
  is_matrix e = rw e

  pub is_atomic : (x.kind ≡ 7 → ⊥) → (x.kind ≡ 8 → ⊥) → over_scalar x s ≡ atomic s
  unfolding over_scalar
  is_atomic h g = rw (ne_eqb x.kind 7 h, ne_eqb x.kind 8 g)

module _ (x y : TypeEntry) (same : x.kind ≡ y.kind) (s t : Scalar) where
  module _ (e : x.kind ≡ 7) where
    pub vectors_rank : x.rows ≡ y.rows → scalar_rank s t ≡ rank_of (over_scalar x s) (over_scalar y t)
    vectors_rank h = vector_same (is_vector x s e) (is_vector y t (sym same ∙ e)) h

    pub vectors_other : (x.rows ≡ y.rows → ⊥) → none ≡ rank_of (over_scalar x s) (over_scalar y t)
    vectors_other h = vector_other (is_vector x s e) (is_vector y t (sym same ∙ e)) h

  module _ (e : x.kind ≡ 8) where
    pub matrices_rank : x.columns ≡ y.columns → x.rows ≡ y.rows → scalar_rank s t ≡ rank_of (over_scalar x s) (over_scalar y t)
    matrices_rank g h = matrix_same (is_matrix x s e) (is_matrix y t (sym same ∙ e)) g h

    pub columns_other : (x.columns ≡ y.columns → ⊥) → none ≡ rank_of (over_scalar x s) (over_scalar y t)
    columns_other h = matrix_columns (is_matrix x s e) (is_matrix y t (sym same ∙ e)) h

    pub rows_other : (x.rows ≡ y.rows → ⊥) → none ≡ rank_of (over_scalar x s) (over_scalar y t)
    rows_other h = matrix_rows (is_matrix x s e) (is_matrix y t (sym same ∙ e)) h

  module _ (no_vector : x.kind ≡ 7 → ⊥) (no_matrix : x.kind ≡ 8 → ⊥) where
    first_atomic : over_scalar x s ≡ atomic s
    first_atomic = is_atomic x s no_vector no_matrix

    second_atomic : over_scalar y t ≡ atomic t
    second_atomic = is_atomic y t (λ e. no_vector (same ∙ e)) (λ e. no_matrix (same ∙ e))

    pub atomics_same : scalar_kind s ≡ scalar_kind t → some 0 ≡ rank_of (over_scalar x s) (over_scalar y t)
    atomics_same h = atomic_same first_atomic second_atomic h

    pub atomics_other : (scalar_kind s ≡ scalar_kind t → ⊥) → none ≡ rank_of (over_scalar x s) (over_scalar y t)
    atomics_other h = atomic_other first_atomic second_atomic h
