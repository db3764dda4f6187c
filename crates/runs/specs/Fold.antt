-- Writing, reading and testing words, each as one pass over a list of places (crates/wgsl, specs/Place).
-- Definitions only. Assumes nothing.
use Rattle.std.specs.Prelude.{ℕ, suc, not, List, [], ◌∷◌, ◌≡◌, get_or, set}
use Rattle.wgsl.specs.Number.{load, store}
use Rattle.wgsl.specs.Said.{Said, good, ◌>>◌, refuse}
use Rattle.wgsl.specs.Place.{Place, can_hold}

-- what each place does in turn, the first with the word of number k, the next with that of number k + 1, ..
unfoldable pub over_places : {S : Type 0} → (Place → ℕ → S → S) → List Place → ℕ → S → S
over_places f [] k s = s
over_places f (p ∷ ps) k s = over_places f ps (suc k) (f p k s)

-- word k goes to its place in the bytes
unfoldable pub storing : List ℕ → Place → ℕ → List ℕ → List ℕ
storing ws p k b = store p.width b p.at (get_or ws k 0)

-- word k becomes what stands at its place
unfoldable pub loading : List ℕ → Place → ℕ → List ℕ → List ℕ
loading b p k ws = set ws k (load p.width b p.at)

-- refusal 16 at the first word that its place cannot hold
unfoldable pub testing : List ℕ → Place → ℕ → Said (Unit {0}) → Said (Unit {0})
testing ws p k said = do
  said
  refuse 16 k (not (can_hold p (get_or ws k 0)))

-- ---- what a function over words promises

-- the bytes `before`, with the words from number k on at these places, are `after`
abbrev pub Stores : List ℕ → List Place → ℕ → List ℕ → List ℕ → Type 0
Stores ws ps k before after = after ≡ over_places (storing ws) ps k before

-- the words `before`, with those at these places from number k on, are `after`
abbrev pub Loads : List ℕ → List Place → ℕ → List ℕ → List ℕ → Type 0
Loads b ps k before after = after ≡ over_places (loading b) ps k before

-- what is said of the words from number k on, which are to go to these places
abbrev pub Tests : List ℕ → List Place → ℕ → Said (Unit {0}) → Type 0
Tests ws ps k said = said ≡ over_places (testing ws) ps k (good tt)
