-- What the laws of common types in any order and grouping say (02, E13; specs/Rank and specs/Call).
--
-- In order: lists; groupings; the same type; what a common type is; answers alike.
-- Definitions only. Assumes nothing.
use Rattle.std.specs.Prelude.{ℕ, ◌≡◌}
use mathlib.Core.List.{List, [], ◌∷◌, ◌++◌, Memᴰ}
use Rattle.std.proofs.Math.Option.{Option, none, some}
use Rattle.wgsl.specs.Types.{Ty}
use Rattle.wgsl.specs.Said.{Said, good, refused, ◌>>=◌}
use Rattle.wgsl.specs.Rule.{and_then}
use Rattle.wgsl.specs.Rank.{outline_of, leaf_of, rank_of, Candidate, common_of_all}
use Rattle.wgsl.specs.Call.{entry_of, rank_call, common_call}

-- ---- lists

-- what stands in the one list stands in the other too, in whatever order and however often
pub record SameMembers {A : Type 0} (xs ys : List A) : Type 0 where
  pub there : (x : A) → Memᴰ x xs → Memᴰ x ys
  pub back : (x : A) → Memᴰ x ys → Memᴰ x xs

-- the first list is not empty, and what stands in it stands in the second
pub record PartOf {A : Type 0} (xs ys : List A) : Type 0 where
  pub first : A
  pub has : Memᴰ first xs
  pub there : (x : A) → Memᴰ x xs → Memᴰ x ys

-- ---- groupings

mutual
  -- one alone, or parts, each of which is a grouping again
  pub data Grouping (A : Type 0) : Type 0 where
    alone : A → Grouping A
    together : Parts A → Grouping A

  -- one part, or a part and those after it: "groupings are of parts that are not empty"
  pub data Parts (A : Type 0) : Type 0 where
    part : Grouping A → Parts A
    part_and : Grouping A → Parts A → Parts A

unfoldable mutual
  -- the list that is grouped
  pub members_in : {A : Type 0} → Grouping A → List A
  members_in (alone x) = x ∷ []
  members_in (together ps) = members_of_parts ps

  pub members_of_parts : {A : Type 0} → Parts A → List A
  members_of_parts (part g) = members_in g
  members_of_parts (part_and g ps) = members_in g ++ members_of_parts ps

unfoldable mutual
  -- the common type of each part, and then of these
  pub common_of_grouping : Grouping Candidate → Option Candidate
  common_of_grouping (alone c) = some c
  common_of_grouping (together ps) = and_then (common_of_each ps) common_of_all

  pub common_of_each : Parts Candidate → Option (List Candidate)
  common_of_each (part g) = and_then (common_of_grouping g) (λ c. some (c ∷ []))
  common_of_each (part_and g ps) = and_then (common_of_grouping g) (λ c. and_then (common_of_each ps) (λ cs. some (c ∷ cs)))

unfoldable mutual
  -- the same by calls: `common` of each part, and then of the answers; the first refusal is the answer
  pub grouping_call : List ℕ → Grouping ℕ → Said ℕ
  grouping_call f (alone e) = common_call f (e ∷ [])
  grouping_call f (together ps) = do
    ns ← parts_call f ps
    common_call f ns

  pub parts_call : List ℕ → Parts ℕ → Said (List ℕ)
  parts_call f (part g) = do
    n ← grouping_call f g
    good (n ∷ [])
  parts_call f (part_and g ps) = do
    n ← grouping_call f g
    ns ← parts_call f ps
    good (n ∷ ns)

-- ---- the same type

-- 01: "Types are compared by structure, structs by entry number."
pub record Same (a b : Ty) : Type 0 where
  pub outline : outline_of a ≡ outline_of b
  pub leaf : leaf_of a ≡ leaf_of b

-- ---- what a common type is

-- the first type converts to the second
pub record Converts (a b : Ty) : Type 0 where
  pub rank : ℕ
  pub has : rank_of a b ≡ some rank

-- one of the list, to which all of it convert
pub record Greatest (c : Candidate) (cs : List Candidate) : Type 0 where
  pub among : Memᴰ c cs
  pub above : (b : Candidate) → Memᴰ b cs → Converts b.type c.type

-- the same of entries of a file: each of the list has a rank to c
pub record IsCommon (f : List ℕ) (c : ℕ) (es : List ℕ) : Type 0 where
  pub among : Memᴰ c es
  pub above : (e : ℕ) → Memᴰ e es → (r : ℕ) × (rank_call f e c ≡ good r)

-- every number of the list is an entry of the file
abbrev pub AllEntries : List ℕ → List ℕ → Type 0
AllEntries f es = (e : ℕ) → Memᴰ e es → (t : Ty) × (entry_of f e ≡ good t)

-- ---- answers alike

-- the same type, or none both times
pub data SameCommon : Option Candidate → Option Candidate → Type 0 where
  both : {a b : Candidate} → Same a.type b.type → SameCommon (some a) (some b)
  neither : SameCommon none none

-- "the same type, or refusal 18, .. where equal types have two entry numbers, the number may differ": entries of one type, or one refusal
pub data Alike (f : List ℕ) : Said ℕ → Said ℕ → Type 0 where
  same_type : {a b : ℕ} (t : Ty) → entry_of f a ≡ good t → entry_of f b ≡ good t → Alike f (good a) (good b)
  same_refusal : (number place : ℕ) → Alike f (refused number place) (refused number place)
