-- Factory sheet and site block (02, E8, E11).
--
-- In order: the mask; what a block is; the entry of a block; the two starts, inheriting and fresh; asking for a member; setting a scalar in
-- one; clearing.
-- Definitions only. Assumes nothing.
use Rattle.std.specs.Prelude.{ℕ, ◌+◌, ◌-◌, ◌^◌, max, List, map, ◌++◌, Bool, true, false, cond, not, ◌&&◌, ◌||◌, length, take, drop, leb, ltb}
use Rattle.std.proofs.lemmas.List.Edits.{sets}
use Rattle.wgsl.specs.Types.{Ty, scalar, vector, matrix, array, runtime, atomic, struct, is_open}
use Rattle.wgsl.specs.Size.{present, size_of}
use Rattle.wgsl.specs.Said.{Said, good, refused, ◌>>=◌, ◌>>◌, refuse}
use Rattle.wgsl.specs.Rule.{count_of}
use Rattle.wgsl.specs.Place.{shape_of, span_of}
use Rattle.wgsl.specs.Path as path
use Rattle.wgsl.specs.Path.{Target, enter, walk, step_of}
use Rattle.wgsl.specs.Call.{entry_of, allowed, is_short, set_target}
use Rattle.wgsl.specs.BitField.{bit_at}

-- ---- the mask

-- "a mask whose bit k says member k was set on site": `bit_at`. "sets the bit": the others stay.
unfoldable pub with_bit : ℕ → ℕ → ℕ
with_bit mask k = cond (bit_at mask k) mask (mask + 2 ^ k)

-- "Clearing drops the bit"
unfoldable pub without_bit : ℕ → ℕ → ℕ
without_bit mask k = cond (bit_at mask k) (mask - 2 ^ k) mask

-- ---- what a block is

-- "at most 64 members"
abbrev pub most_settings : ℕ
most_settings = 64

-- none is "not a struct, an open one, more than 64 members or mask bits beyond them"
unfoldable pub is_block : ℕ → Ty → Bool
is_block mask (scalar s) = false
is_block mask (vector n s) = false
is_block mask (matrix c r s) = false
is_block mask (array n t) = false
is_block mask (runtime t) = false
is_block mask (atomic s) = false
is_block mask (struct k ms) =
    not (is_open (struct k ms)) && leb (count_of ms) most_settings && ltb mask (2 ^ count_of ms)

-- ---- the entry of a block

-- the refusals of a set up to 10, then 21; `bytes` is the length of the longer buffer, and 0 for a call without one
unfoldable pub block_entry : List ℕ → ℕ → ℕ → ℕ → Said Ty
block_entry f e mask bytes = do
  t ← entry_of f e
  allowed true t bytes
  refuse 21 0 (not (is_block mask t))
  good t

-- "then 15 for either buffer"
unfoldable pub block_in : List ℕ → ℕ → ℕ → List ℕ → List ℕ → Said Ty
block_in f e mask factory site = do
  t ← block_entry f e mask (max (length factory) (length site))
  refuse 15 0 (is_short t factory || is_short t site)
  good t

-- where member k lies, and its shape: "11 for k (place 0)"
unfoldable pub member_of : Ty → ℕ → Said Target
member_of t k = enter 0 (shape_of 0 t) (path.member k)

-- ---- an inheriting block

-- E11: "an inheriting block by name, with the old start"; E8: "mask 0; it takes the entry alone and refuses by 1 to 10 (no 17) and 21."
unfoldable pub inheriting_call : List ℕ → ℕ → Said ℕ
inheriting_call f e = do
  t ← block_entry f e 0 0
  good 0

-- ---- a fresh block

-- what a fresh block and a set answer, and what the site buffer and the mask hold at the end
pub record SiteDone : Type 0 where
  pub value : ℕ
  pub site : List ℕ
  pub mask : ℕ

-- how many members a type has; none but a struct has any
unfoldable pub settings_of : Ty → ℕ
settings_of (scalar s) = 0
settings_of (vector n s) = 0
settings_of (matrix c r s) = 0
settings_of (array n t) = 0
settings_of (runtime t) = 0
settings_of (atomic s) = 0
settings_of (struct k ms) = count_of ms

-- E11: "every member's bit set"
unfoldable pub every_bit : Ty → ℕ
every_bit t = 2 ^ settings_of t - 1

-- E11: "the factory's bytes copied into the site buffer": those of the entry's size; later bytes of the site buffer stay
unfoldable pub copied_whole : Ty → List ℕ → List ℕ → List ℕ
copied_whole t factory site = take (present (size_of t)) factory ++ drop (present (size_of t)) site

-- E11: "the fresh copy gives all that asking for a member gives, up to 15, before anything is copied"; it has no mask to refuse
unfoldable pub fresh_call : List ℕ → ℕ → List ℕ → List ℕ → Said SiteDone
fresh_call f e factory site = do
  t ← block_in f e 0 factory site
  good (record { value = 0; site = copied_whole t factory site; mask = every_bit t })

-- ---- asking for a member

unfoldable pub member_call : List ℕ → ℕ → ℕ → ℕ → List ℕ → List ℕ → Said Target
member_call f e k mask factory site = do
  t ← block_in f e mask factory site
  member_of t k

-- "its bytes as a part of the site buffer if bit k is set, else of the factory buffer"
unfoldable pub shown_in : {A : Type 0} → ℕ → ℕ → A → A → A
shown_in mask k factory site = cond (bit_at mask k) site factory

-- the same of an answer: "a refused ask hands back the empty start of the factory buffer"
unfoldable pub handed_from : {A : Type 0} → Said Target → ℕ → ℕ → A → A → A
handed_from (good t) mask k factory site = shown_in mask k factory site
handed_from (refused number place) mask k factory site = factory

-- ---- setting a scalar in a member

-- "where the bit was clear, the member's bytes are first copied from the factory buffer"; "those of its type's size"
unfoldable pub copied_in : Target → ℕ → ℕ → List ℕ → List ℕ → List ℕ
copied_in m mask k factory site =
    cond (bit_at mask k) site (sets site m.offset (take (span_of m.shape) (drop m.offset factory)))

-- "the path starts at its type"; "then set's refusals for path and word"; "Setting a scalar in member k writes the site buffer and sets the bit"
unfoldable pub site_set_call : List ℕ → ℕ → ℕ → List ℕ → List ℕ → ℕ → List ℕ → List ℕ → Said SiteDone
site_set_call f e k steps ws mask factory site = do
  m ← member_call f e k mask factory site
  target ← walk 0 m.offset m.shape (map step_of steps)
  d ← set_target target ws (copied_in m mask k factory site)
  good (record { value = d.value; site = d.contents; mask = with_bit mask k })

-- ---- clearing

-- "Clearing drops the bit and moves no byte"; "clearing takes no buffer, so no 17 or 15"
unfoldable pub clear_call : List ℕ → ℕ → ℕ → ℕ → Said ℕ
clear_call f e k mask = do
  t ← block_entry f e mask 0
  m ← member_of t k
  good (without_bit mask k)

-- ---- answers, and what is lent

unfoldable pub site_answer : Said SiteDone → Said ℕ
site_answer (good d) = good d.value
site_answer (refused number place) = refused number place

-- "A refusal changes nothing lent"
unfoldable pub site_after : List ℕ → Said SiteDone → List ℕ
site_after before (good d) = d.site
site_after before (refused number place) = before

unfoldable pub mask_set : ℕ → Said SiteDone → ℕ
mask_set before (good d) = d.mask
mask_set before (refused number place) = before

-- of an inheriting block and of clearing: 0, and the mask
unfoldable pub zero_of : Said ℕ → Said ℕ
zero_of (good mask) = good 0
zero_of (refused number place) = refused number place

unfoldable pub mask_after : ℕ → Said ℕ → ℕ
mask_after before (good mask) = mask
mask_after before (refused number place) = before
