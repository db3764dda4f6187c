-- What the laws of member orders say (02, E10; specs/Order).
--
-- In order: a member by its position; the planned order; when a call is good; an accepted order.
-- Definitions only. Assumes nothing.
use Rattle.std.specs.Prelude.{ℕ, zero, suc, ◌<◌, ◌≤◌, ◌⊎◌, Bool, true, false, ◌≡◌, length, get_or}
use mathlib.Core.List.{List, [], ◌∷◌, Memᴰ}
use Rattle.std.proofs.Math.Option.{Option, none, some}
use Rattle.wgsl.specs.Types.{Ty, struct, Members, no_more, member, is_runtime}
use Rattle.wgsl.specs.Size.{given_or, present, align_of, fits_limit}
use Rattle.wgsl.specs.Said.{good}
use Rattle.wgsl.specs.Rule.{count_of}
use Rattle.wgsl.specs.Call.{entry_of}
use Rattle.wgsl.specs.Order.{end_of}

-- ---- a member by its position

-- a member's type, and the size and the align that the file gives, if any
pub record One : Type 0 where
  pub type : Ty
  pub size : Option ℕ
  pub align : Option ℕ

unfoldable pub member_at : Members → ℕ → Option One
member_at no_more i = none
member_at (member t size align ms) zero = some (record { type = t; size = size; align = align })
member_at (member t size align ms) (suc i) = member_at ms i

-- its alignment, given or its type's; and whether it is a runtime array
unfoldable pub align_of_one : Option One → ℕ
align_of_one (some m) = present (given_or m.align (align_of m.type))
align_of_one none = 0

unfoldable pub is_runtime_one : Option One → Bool
is_runtime_one (some m) = is_runtime m.type
is_runtime_one none = false

abbrev pub align_at : Members → ℕ → ℕ
align_at ms i = align_of_one (member_at ms i)

abbrev pub is_runtime_at : Members → ℕ → Bool
is_runtime_at ms i = is_runtime_one (member_at ms i)

-- ---- the planned order

-- The member at position i goes before the one at j: it is no runtime array, and that one is, or has a smaller alignment ("falling member
-- alignment"), or the same and stood later ("ties as they stood").
pub record Precedes (ms : Members) (i j : ℕ) : Type 0 where
  pub not_runtime : is_runtime_at ms i ≡ false
  pub why : (is_runtime_at ms j ≡ true) ⊎ ((align_at ms j < align_at ms i) ⊎ ((align_at ms i ≡ align_at ms j) × (i < j)))

-- whatever stands in the list goes before all that stands after it
unfoldable pub Sorted : Members → List ℕ → Type 0
Sorted ms [] = Unit {0}
Sorted ms (i ∷ is) = ((j : ℕ) → Memᴰ j is → Precedes ms i j) × Sorted ms is

pub record IsPlanned (ms : Members) (order : List ℕ) : Type 0 where
  -- "every member position appears", and nothing else; none twice, since it would go before itself
  pub only : (i : ℕ) → Memᴰ i order → i < count_of ms
  pub each : (i : ℕ) → i < count_of ms → Memᴰ i order
  pub sorted : Sorted ms order

-- ---- when a call is good

-- none of 1 to 9 and 14 is due to the planner
pub record CanPlan (f : List ℕ) (e : ℕ) (lent : List ℕ) : Type 0 where
  pub number : ℕ
  pub members : Members
  pub entry : entry_of f e ≡ good (struct number members)
  pub room : count_of members ≤ length lent

-- how often a number stands in a list
pub data Times : ℕ → List ℕ → ℕ → Type 0 where
  nowhere : {i : ℕ} → Times i [] 0
  here : {i n : ℕ} {is : List ℕ} → Times i is n → Times i (i ∷ is) (suc n)
  elsewhere : {i j n : ℕ} {is : List ℕ} → (i ≡ j → ⊥) → Times i is n → Times i (j ∷ is) n

-- "accepted exactly if": `new` are the members of the struct at the positions of the order
pub record Accepted (k : ℕ) (ms : Members) (order : List ℕ) (new : Members) : Type 0 where
  -- "every member position appears once"
  pub once : (i : ℕ) → i < count_of ms → Times i order 1
  pub length_same : length order ≡ count_of ms
  pub count_same : count_of new ≡ count_of ms
  -- the types of the members and what they are given are kept
  pub kept : (i : ℕ) → i < count_of ms → member_at new i ≡ member_at ms (get_or order i 0)
  -- "a runtime array is still last"
  pub runtime_last : (i : ℕ) → suc i < count_of ms → is_runtime_at new i ≡ false
  -- "no number passes 01's limit"
  pub within : fits_limit (struct k new) ≡ true
  -- "and the end is smaller"
  pub smaller : end_of k new < end_of k ms

-- none of 1 to 9 and 23 is due to the checker
pub record CanOrder (f : List ℕ) (e : ℕ) (order : List ℕ) : Type 0 where
  pub number : ℕ
  pub members : Members
  pub entry : entry_of f e ≡ good (struct number members)
  pub new : Members
  pub accepted : Accepted e members order new
