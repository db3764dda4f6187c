-- Runs of words (01, "Sizes and places": "a column has rows x scalar size"), and parts, in the words of crates/wgsl.
-- Definitions only. Assumes nothing.
use Rattle.std.specs.Prelude.{ℕ, List, [], ◌∷◌}
use Rattle.wgsl.specs.Place.{Place, repeated}

-- n words of one width, one after the other from `at` on
unfoldable pub run_places : ℕ → ℕ → ℕ → List Place
run_places n width at = repeated n width (λ p. record { at = p; width = width } ∷ []) at

-- so many runs of `unit` words, each a stride after the one before
unfoldable pub part_places : ℕ → ℕ → ℕ → ℕ → ℕ → List Place
part_places count unit width stride at = repeated count stride (λ p. run_places unit width p) at
