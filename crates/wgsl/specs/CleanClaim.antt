-- What the laws of cleaning say (02, E9; specs/Clean).
--
-- In order: scalar paths; when the call is good; what it did.
-- Definitions only. Assumes nothing.
use Rattle.std.specs.Prelude.{ℕ, ◌+◌, ◌<◌, ◌≤◌, List, [], ◌∷◌, ◌≡◌, length, get_or}
use Rattle.wgsl.specs.Types.{Scalar, Ty}
use Rattle.wgsl.specs.Size.{present, width_of}
use Rattle.wgsl.specs.Said.{good}
use Rattle.wgsl.specs.Place.{Place, places, extent_of, elements_in}
use Rattle.wgsl.specs.Call.{read_call}
use Rattle.wgsl.specs.Claim.{Stored, HasRoom}
use Rattle.wgsl.specs.Demand.{Leading, Words}
use Rattle.wgsl.specs.Clean.{differing, CleanDone, clean_call}

-- ---- scalar paths

-- a path, as numbers of 32 bits, leads to one scalar of the entry in the buffer, and byte i is one of that scalar's
pub record OnPath (f : List ℕ) (e : ℕ) (b : List ℕ) (i : ℕ) : Type 0 where
  pub path : List ℕ
  pub numbers : Words path
  pub offset : ℕ
  pub scalar_there : Scalar
  pub leads : Leading f e b path offset scalar_there
  pub from : offset ≤ i
  pub below : i < offset + present (width_of scalar_there)

-- "the scalars' bytes", of those whose words lie at these places
unfoldable pub scalar_bytes : List Place → ℕ
scalar_bytes [] = 0
scalar_bytes (p ∷ ps) = p.width + scalar_bytes ps

-- "the array offset plus whole elements", and of other types the size
abbrev pub extent_in : Ty → List ℕ → ℕ
extent_in t b = extent_of (elements_in (length b) t) t

-- ---- when the call is good

-- none of 1 to 10, 17 and 15 is due
pub record CanClean (f : List ℕ) (e : ℕ) (b : List ℕ) : Type 0 where
  pub type : Ty
  pub stored : Stored f e b type
  pub room : HasRoom type b

-- ---- what it did

pub record Cleans (f : List ℕ) (e : ℕ) (b : List ℕ) (d : CleanDone) : Type 0 where
  pub type : Ty
  pub stored : Stored f e b type
  pub fits : extent_in type b ≤ length b
  pub length_same : length d.contents ≡ length b
  -- "every byte of a storable entry's extent that no scalar path covers"; every other byte stays
  pub gaps_zero : (i : ℕ) → i < extent_in type b → (OnPath f e b i → ⊥) → get_or d.contents i 0 ≡ 0
  pub scalars_stay : (i : ℕ) → OnPath f e b i → get_or d.contents i 0 ≡ get_or b i 0
  pub later_stay : (i : ℕ) → extent_in type b ≤ i → get_or d.contents i 0 ≡ get_or b i 0
  -- "The count is the number of places where before and after differ, never more than the extent less the scalars' bytes."
  pub count_is : d.changed ≡ differing b d.contents
  pub at_most : d.changed + scalar_bytes (places (elements_in (length b) type) type) ≤ extent_in type b
  -- "the offset of the first (the extent itself if none)"
  pub none_changed : d.changed ≡ 0 → (d.first ≡ extent_in type b) × (d.contents ≡ b)
  pub first_changed : 0 < d.changed → (d.first < extent_in type b) × (get_or d.contents d.first 0 ≡ get_or b d.first 0 → ⊥)
  pub first_lowest : (i : ℕ) → i < d.first → get_or d.contents i 0 ≡ get_or b i 0
  -- "All words read as before;"
  pub words_same : (ws : List ℕ) → read_call f e d.contents ws ≡ read_call f e b ws
  -- "doing it again changes 0."
  pub again : clean_call f e d.contents ≡ good (record { changed = 0; first = extent_in type b; contents = d.contents })
