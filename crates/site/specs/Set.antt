-- A member's bytes, brought from the factory buffer (crates/wgsl, specs/Site, `copied_in`).
-- Definitions only. Assumes nothing.
use Rattle.std.specs.Prelude.{ℕ, Bool, cond, List, take, drop}
use Rattle.std.proofs.lemmas.List.Edits.{sets}

-- unless it was set on site
unfoldable pub brought_in : Bool → ℕ → ℕ → List ℕ → List ℕ → List ℕ
brought_in on from size factory site = cond on site (sets site from (take size (drop from factory)))
