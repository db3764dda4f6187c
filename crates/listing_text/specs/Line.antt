-- The texts of a listing's lines, in numbers where 0 stands for an absent one.
-- Definitions only. Assumes nothing.
use Rattle.std.specs.Prelude.{ℕ, cond, List, ◌++◌, eqb}
use Rattle.std.proofs.Math.Option.{none, some}
use Rattle.wgsl.specs.Listing.{entries_text, space, newline, decimal, or_dash}

-- a number that is above 0, or an absent one
unfoldable pub marked : ℕ → List ℕ
marked n = or_dash (cond (eqb n 0) none (some n))

unfoldable pub marked_column : ℕ → List ℕ
marked_column n = space ++ marked n

unfoldable pub line : ℕ → ℕ → ℕ → ℕ → List ℕ
line k size align stride = decimal k ++ marked_column size ++ marked_column align ++ marked_column stride ++ newline

unfoldable pub heading : ℕ → List ℕ
heading types = entries_text ++ decimal types ++ newline
