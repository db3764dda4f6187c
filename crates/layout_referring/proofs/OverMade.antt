-- What an entry of kind 7 to 11 makes (`over_made` of crates/wgsl, specs/Rule), kind by kind.
-- Assumes nothing.
use Rattle.std.specs.Prelude.{Err}
use Prim.Native.Nat.{ℕ}
use mathlib.Core.Option.{Option}
use mathlib.Core.Path.{◌≡◌}
use borrow.Author.Tests.{ne_eqb}
use Rattle.wgsl.specs.Types.{Ty}
use Rattle.wgsl.specs.File.{TypeEntry}
use Rattle.wgsl.specs.Rule.{vector_made, matrix_made, array_made, runtime_made, atomic_made, over_made}
use Rattle.layout_values.specs.Value.{made_of}
use Rattle.layout_values.specs.declared.value.Broken.TheVariants.{Rule}

module _ (below : Option Ty) (e : TypeEntry) (long r : ℕ) where
  pub over_vector : e.kind ≡ 7 → made_of long r (over_made below e) ≡ made_of long r (vector_made below e)
  unfolding over_made
  over_vector h = rw h

  pub over_matrix : e.kind ≡ 8 → made_of long r (over_made below e) ≡ made_of long r (matrix_made below e)
  unfolding over_made
  over_matrix h = rw h

  pub over_array : e.kind ≡ 9 → made_of long r (over_made below e) ≡ made_of long r (array_made below e)
  unfolding over_made
  over_array h = rw h

  pub over_runtime : e.kind ≡ 10 → made_of long r (over_made below e) ≡ made_of long r (runtime_made below e)
  unfolding over_made
  over_runtime h = rw h

  pub over_atomic : e.kind ≡ 11 → made_of long r (over_made below e) ≡ made_of long r (atomic_made below e)
  unfolding over_made
  over_atomic h = rw h

  pub over_none : (e.kind ≡ 7 → ⊥) → (e.kind ≡ 8 → ⊥) → (e.kind ≡ 9 → ⊥) → (e.kind ≡ 10 → ⊥) → (e.kind ≡ 11 → ⊥) → made_of long r (over_made below e) ≡ Err Rule
  unfolding made_of over_made
  over_none a b c d f = rw (ne_eqb _ 7 a, ne_eqb _ 8 b, ne_eqb _ 9 c, ne_eqb _ 10 d, ne_eqb _ 11 f)
