-- What a walk asks of the one that it takes from place to place (src/lib.rt, `Visitor`).
-- Definitions only. Assumes nothing.
use Rattle.std.specs.Prelude.{ℕ, ◌+◌, ◌^◌, ◌<◌, ◌≡◌, List, [], ◌++◌, length}
use Rattle.wgsl.specs.Place.{Place}

-- so many bytes and words can be counted in 64 bits
pub record Counts (bytes words : ℕ) : Type 0 where
  pub bytes_low : bytes < 2 ^ 64
  pub words_low : words < 2 ^ 64

-- `passes ps k s t`: having passed these places, the first with word k, the next with word k + 1, .., a visitor s is t. No places change
-- nothing; places after others are passed from the word after theirs on; and the bytes and the words that there are stay as many.
pub record VisitorLaws {V : Type 0} (passes : List Place → ℕ → V → V → Type 0) (bytes words : V → ℕ) : Type 0 where
  pub nil : (k : ℕ) (s : V) → passes [] k s s
  pub join : (ps qs : List Place) (k : ℕ) (s t u : V) → passes ps k s t → passes qs (k + length ps) t u → passes (ps ++ qs) k s u
  pub bytes_stay : (ps : List Place) (k : ℕ) (s t : V) → passes ps k s t → bytes t ≡ bytes s
  pub words_stay : (ps : List Place) (k : ℕ) (s t : V) → passes ps k s t → words t ≡ words s

-- so many words can be counted, for a visitor that has none of its own
abbrev pub most_words : ℕ
most_words = 18_446_744_073_709_551_615
