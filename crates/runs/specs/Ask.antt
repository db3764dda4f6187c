-- What the functions over runs and parts ask, in the words of crates/wgsl.
-- Definitions only. Assumes nothing.
use Rattle.std.specs.Prelude.{ℕ, ◌+◌, ◌*◌, ◌≤◌, ◌≡◌, ◌⊎◌}
use Rattle.runs.specs.declared.Parts.{Parts}

-- parts from byte `at` and word `k` on lie inside so many bytes and words
pub record PartsRoom (p : Parts) (at bytes k words : ℕ) : Type 0 where
  pub width : (p.width ≡ 2) ⊎ (p.width ≡ 4)
  pub fits : p.unit * p.width ≤ p.stride
  pub bytes_there : at + p.count * p.stride ≤ bytes
  pub words_there : k + p.count * p.unit ≤ words
