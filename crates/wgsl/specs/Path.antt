-- Steps and paths (01, "Sizes and places", the paragraph on paths; refusals 11 to 13).
--
-- In order: a step; entering a shape by a step; walking a path.
-- Definitions only. Assumes nothing.
use Rattle.std.specs.Prelude.{ℕ, zero, suc, ◌+◌, ◌*◌, ◌/◌, ◌%◌, ◌^◌, List, [], ◌∷◌, cond, eqb, ltb}
use Rattle.wgsl.specs.Said.{Said, good, refused, ◌>>=◌}
use Rattle.wgsl.specs.Place.{Shape, one, parts, field, whole}

pub data Step : Type 0 where
  index : ℕ → Step
  member : ℕ → Step

-- "bit 31 of a step tells a member step from an index step (set: member), the other bits are the number"
unfoldable pub step_of : ℕ → Step
step_of s = cond (eqb (s / 2 ^ 31 % 2) 1) (member (s % 2 ^ 31)) (index (s % 2 ^ 31))

-- what a path leads to: a shape at an offset
pub record Target : Type 0 where
  pub offset : ℕ
  pub shape : Shape

-- One step, at position k of the path. "Index steps enter arrays, vectors and matrices (a column)."
-- 11: "member step outside a struct, or no such member". 12: "index not below the count". 13: "index step on a struct, scalar or atomic".
unfoldable pub enter : ℕ → Shape → Step → Said Target
enter k (one s) (index i) = refused 13 k
enter k (one s) (member i) = refused 11 k
enter k (parts n stride x) (index i) =
    cond (ltb i n) (good (record { offset = i * stride; shape = x })) (refused 12 k)
enter k (parts n stride x) (member i) = refused 11 k
enter k (field offset x rest) (index i) = refused 13 k
enter k (field offset x rest) (member zero) = good (record { offset = offset; shape = x })
enter k (field offset x rest) (member (suc i)) = enter k rest (member i)
enter k (whole z) (index i) = refused 13 k
enter k (whole z) (member i) = refused 11 k

-- the steps from position k on, from a shape that lies at an offset: the target, or "the first bad step"
unfoldable pub walk : ℕ → ℕ → Shape → List Step → Said Target
walk k offset x [] = good (record { offset = offset; shape = x })
walk k offset x (s ∷ steps) = do
  t ← enter k x s
  walk (suc k) (offset + t.offset) t.shape steps
