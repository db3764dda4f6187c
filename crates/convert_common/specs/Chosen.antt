-- What choices of the code say, in the words of crates/wgsl, and what its functions ask.
-- Definitions only. Assumes nothing.
use Rattle.std.specs.Prelude.{ℕ, ◌≡◌, Bool, true, ◌&&◌, List, [], ◌∷◌, map, ltb, length, get_or}
use Rattle.std.proofs.Math.Option.{Option, none, some}
use Rattle.wgsl.specs.Types.{bool, Ty, scalar}
use Rattle.wgsl.specs.Said.{good}
use Rattle.wgsl.specs.File.{trailer_of}
use Rattle.wgsl.specs.Rule.{types_of}
use Rattle.wgsl.specs.Rank.{Candidate}

unfoldable pub all_below : List ℕ → ℕ → Bool
all_below [] types = true
all_below (e ∷ es) types = ltb e types && all_below es types

-- listed entries of an accepted file, whose type entries begin at `start`
pub record Listed (f : List ℕ) (ts : List Ty) (start : ℕ) (es : List ℕ) : Type 0 where
  pub accepted : types_of f ≡ good ts
  pub start_is : start ≡ (trailer_of f).start
  pub below : all_below es (length ts) ≡ true

-- entry number e of an accepted file, which has it
unfoldable pub entry_in : List Ty → ℕ → Candidate
entry_in ts e = record { number = e; type = get_or ts e (scalar bool) }

unfoldable pub entries_in : List Ty → List ℕ → List Candidate
entries_in ts es = map (entry_in ts) es

unfoldable pub number_in : Option Candidate → Option ℕ
number_in (some e) = some e.number
number_in none = none
