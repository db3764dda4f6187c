-- What the laws of the two starts of a site block say (02, E11; specs/Site).
--
-- In order: what a fresh block is; sets and clears, one after the other; blocks that show alike; another factory buffer.
-- Definitions only. Assumes nothing.
use Rattle.std.specs.Prelude.{ℕ, ◌<◌, ◌≤◌, List, [], ◌∷◌, Bool, true, false, not, ◌&&◌, ◌≡◌, length, get_or, eqb, ltb}
use Rattle.wgsl.specs.Types.{Ty}
use Rattle.wgsl.specs.Size.{present, size_of}
use Rattle.wgsl.specs.Said.{Said, good}
use Rattle.wgsl.specs.Path.{Target}
use Rattle.wgsl.specs.BitField.{bit_at}
use Rattle.wgsl.specs.Site.{SiteDone, settings_of, block_in, member_of, member_call, site_set_call, site_answer, site_after, mask_set, clear_call, zero_of, mask_after}
use Rattle.wgsl.specs.SiteClaim.{bytes_in, shown_bytes}

-- ---- what a fresh block is

pub record Fresh (f : List ℕ) (e : ℕ) (factory site : List ℕ) (d : SiteDone) (t : Ty) : Type 0 where
  -- none of the refusals up to 15 was due
  pub block : block_in f e 0 factory site ≡ good t
  pub value_is : d.value ≡ 0
  -- "every member's bit set", and no other
  pub bits : (k : ℕ) → bit_at d.mask k ≡ ltb k (settings_of t)
  -- "the factory's bytes copied into the site buffer"; later bytes stay
  pub copied : (i : ℕ) → i < present (size_of t) → get_or d.site i 0 ≡ get_or factory i 0
  pub later : (i : ℕ) → present (size_of t) ≤ i → get_or d.site i 0 ≡ get_or site i 0
  pub length_same : length d.site ≡ length site
  -- it is a block, beside any factory buffer that might have been copied
  pub again : (other : List ℕ) → block_in f e 0 other site ≡ good t → block_in f e d.mask other d.site ≡ good t
  -- every member shows the bytes of the factory buffer that was copied, whichever lies beside it now
  pub shows : (k : ℕ) (n : Target) → member_of t k ≡ good n → (other : List ℕ) → shown_bytes n d.mask k other d.site ≡ bytes_in n factory

-- ---- sets and clears, one after the other

-- the site buffer and the mask, between two calls
pub record Kept : Type 0 where
  pub site : List ℕ
  pub mask : ℕ

-- a fresh block that was made, and an inheriting one in a site buffer
abbrev pub made_fresh : SiteDone → Kept
made_fresh d = record { site = d.site; mask = d.mask }

abbrev pub made_inheriting : List ℕ → ℕ → Kept
made_inheriting site mask = record { site = site; mask = mask }

pub data Change : Type 0 where
  -- in this member, along this path, these words
  set : ℕ → List ℕ → List ℕ → Change
  clear : ℕ → Change

unfoldable pub answer_to : List ℕ → ℕ → List ℕ → Change → Kept → Said ℕ
answer_to f e factory (set k steps ws) b = site_answer (site_set_call f e k steps ws b.mask factory b.site)
answer_to f e factory (clear k) b = zero_of (clear_call f e k b.mask)

-- what it leaves; a refused one leaves all as it was
unfoldable pub left_by : List ℕ → ℕ → List ℕ → Change → Kept → Kept
left_by f e factory (set k steps ws) b =
    let said : Said SiteDone = site_set_call f e k steps ws b.mask factory b.site in
    record { site = site_after b.site said; mask = mask_set b.mask said }
left_by f e factory (clear k) b = record { site = b.site; mask = mask_after b.mask (clear_call f e k b.mask) }

-- the same of a list of them
unfoldable pub answers_to : List ℕ → ℕ → List ℕ → List Change → Kept → List (Said ℕ)
answers_to f e factory [] b = []
answers_to f e factory (c ∷ cs) b = answer_to f e factory c b ∷ answers_to f e factory cs (left_by f e factory c b)

unfoldable pub left_after : List ℕ → ℕ → List ℕ → List Change → Kept → Kept
left_after f e factory [] b = b
left_after f e factory (c ∷ cs) b = left_after f e factory cs (left_by f e factory c b)

-- whether a change clears member k, or sets a scalar in it
unfoldable pub is_clear : ℕ → Change → Bool
is_clear k (set j steps ws) = false
is_clear k (clear j) = eqb k j

unfoldable pub is_set : ℕ → Change → Bool
is_set k (set j steps ws) = eqb k j
is_set k (clear j) = false

-- none of them clears member k; none sets a scalar in it
unfoldable pub never_clears : ℕ → List Change → Bool
never_clears k [] = true
never_clears k (c ∷ cs) = not (is_clear k c) && never_clears k cs

unfoldable pub never_sets : ℕ → List Change → Bool
never_sets k [] = true
never_sets k (c ∷ cs) = not (is_set k c) && never_sets k cs

-- ---- blocks that show alike

-- two blocks of the type t beside one factory buffer: an ask for any member answers alike, and hands back the same bytes
pub record ShowAlike (f : List ℕ) (e : ℕ) (factory : List ℕ) (t : Ty) (a b : Kept) : Type 0 where
  pub first : block_in f e a.mask factory a.site ≡ good t
  pub second : block_in f e b.mask factory b.site ≡ good t
  pub asks : (k : ℕ) → member_call f e k a.mask factory a.site ≡ member_call f e k b.mask factory b.site
  pub shows : (k : ℕ) (n : Target) → member_of t k ≡ good n → shown_bytes n a.mask k factory a.site ≡ shown_bytes n b.mask k factory b.site

-- ---- another factory buffer

-- the same sets and clears from the block a beside one factory buffer and beside another: they are answered alike, and a member that none
-- of them cleared shows the same, whichever factory buffer lies beside it by then
pub record Independent (f : List ℕ) (e : ℕ) (factory other : List ℕ) (t : Ty) (cs : List Change) (a : Kept) : Type 0 where
  pub answers : answers_to f e factory cs a ≡ answers_to f e other cs a
  pub shows : (k : ℕ) (n : Target) → member_of t k ≡ good n → never_clears k cs ≡ true → (x y : List ℕ) → shown_bytes n (left_after f e factory cs a).mask k x (left_after f e factory cs a).site ≡ shown_bytes n (left_after f e other cs a).mask k y (left_after f e other cs a).site
