-- What the laws of a site block say (02, E8; specs/Site).
--
-- In order: bytes of a member; when a call is good; what a set did; what clearing did.
-- Definitions only. Assumes nothing.
use Rattle.std.specs.Prelude.{ℕ, ◌≤◌, max, List, map, true, not, ◌&&◌, ◌||◌, ◌≡◌, length, get_or, take, drop, eqb}
use Rattle.wgsl.specs.Round.{limit}
use Rattle.wgsl.specs.Types.{Ty}
use Rattle.wgsl.specs.Size.{present, size_of, is_storable}
use Rattle.wgsl.specs.Said.{good}
use Rattle.wgsl.specs.Place.{span_of}
use Rattle.wgsl.specs.Path.{Target, walk, step_of}
use Rattle.wgsl.specs.Call.{Done, entry_of, set_target}
use Rattle.wgsl.specs.BitField.{bit_at}
use Rattle.wgsl.specs.Claim.{Outside}
use Rattle.wgsl.specs.Site.{is_block, block_in, member_call, shown_in, SiteDone}

-- the bytes of a member in a buffer
abbrev pub bytes_in : Target → List ℕ → List ℕ
bytes_in m b = take (span_of m.shape) (drop m.offset b)

-- the bytes that an ask for member k, which lies at m, hands back
abbrev pub shown_bytes : Target → ℕ → ℕ → List ℕ → List ℕ → List ℕ
shown_bytes m mask k factory site = bytes_in m (shown_in mask k factory site)

-- ---- when a call is good

-- none of 1 to 10 and 21 is due, and 17 and 15 to neither buffer
pub record IsBlock (f : List ℕ) (e mask : ℕ) (factory site : List ℕ) (t : Ty) : Type 0 where
  pub entry : entry_of f e ≡ good t
  pub storable : is_storable t ≡ true
  pub block : is_block mask t ≡ true
  pub factory_room : present (size_of t) ≤ length factory
  pub site_room : present (size_of t) ≤ length site
  pub within : max (length factory) (length site) ≤ limit

-- ---- what a set did

pub record SetOnSite (f : List ℕ) (e k : ℕ) (steps ws : List ℕ) (mask : ℕ) (factory site : List ℕ) (d : SiteDone) : Type 0 where
  -- where member k lies, and where the path leads from there
  pub member : Target
  pub asked : member_call f e k mask factory site ≡ good member
  pub target : Target
  pub led : walk 0 member.offset member.shape (map step_of steps) ≡ good target
  -- what the same set leaves of the buffer that the member was shown in
  pub replaced : Done
  pub would : set_target target ws (shown_in mask k factory site) ≡ good replaced
  pub value_is : d.value ≡ replaced.value
  -- "so the member then shows its old bytes with that scalar replaced"
  pub shows : shown_bytes member d.mask k factory d.site ≡ bytes_in member replaced.contents
  -- "Other bits and bytes stay."
  pub bits : (j : ℕ) → bit_at d.mask j ≡ (bit_at mask j || eqb j k)
  pub outside : (i : ℕ) → Outside member.offset (span_of member.shape) i → get_or d.site i 0 ≡ get_or site i 0
  pub length_same : length d.site ≡ length site
  -- every other member shows what it showed
  pub others : (j : ℕ) (n : Target) → (j ≡ k → ⊥) → member_call f e j mask factory site ≡ good n → shown_bytes n d.mask j factory d.site ≡ shown_bytes n mask j factory site
  -- the result is a block again
  pub again : block_in f e d.mask factory d.site ≡ block_in f e mask factory site

-- ---- what clearing did

pub record Cleared (f : List ℕ) (e k mask after : ℕ) : Type 0 where
  pub bits : (j : ℕ) → bit_at after j ≡ (bit_at mask j && not (eqb j k))
  pub again : (factory site : List ℕ) → block_in f e after factory site ≡ block_in f e mask factory site
