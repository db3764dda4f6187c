-- A better member order (02, E10).
--
-- In order: the members of a struct; the planner; a struct with its members in another order; the checker.
-- A position is a member's number, counted from 0.
-- Definitions only. Assumes nothing.
use Rattle.std.specs.Prelude.{ℕ, zero, suc, ◌^◌, List, [], ◌∷◌, ◌++◌, Bool, true, false, cond, not, ◌&&◌, ◌||◌, length, drop, eqb, ltb}
use Rattle.std.proofs.Math.Option.{Option, none, some}
use Rattle.wgsl.specs.Types.{Ty, scalar, vector, matrix, array, runtime, atomic, struct, Members, no_more, member, is_runtime}
use Rattle.wgsl.specs.Size.{given_or, present, align_of}
use Rattle.wgsl.specs.Said.{Said, good, ◌>>=◌, ◌>>◌, refuse, or_refuse}
use Rattle.wgsl.specs.Rule.{count_of, is_well_formed, when, and_then}
use Rattle.wgsl.specs.Place.{extent_of}
use Rattle.wgsl.specs.Call.{Done, entry_of}

-- ---- the members of a struct

-- "9 where the entry isn't a struct"
unfoldable pub members_in : Ty → Option Members
members_in (scalar s) = none
members_in (vector n s) = none
members_in (matrix c r s) = none
members_in (array n t) = none
members_in (runtime t) = none
members_in (atomic s) = none
members_in (struct k ms) = some ms

unfoldable pub struct_members : List ℕ → ℕ → Said Members
struct_members f e = do
  t ← entry_of f e
  or_refuse 9 0 (members_in t)

-- ---- the planner

-- the positions, from i on, of the members of this alignment, given or their type's; a runtime array is not among them
unfoldable pub aligned_at : ℕ → ℕ → Members → List ℕ
aligned_at a i no_more = []
aligned_at a i (member t size align ms) =
    cond (not (is_runtime t) && eqb (present (given_or align (align_of t))) a) (i ∷ aligned_at a (suc i) ms) (aligned_at a (suc i) ms)

-- "by falling member alignment, ties as they stood": those of 2 ^ (j - 1), of half of that, and so on down to 1
unfoldable pub falling : ℕ → Members → List ℕ
falling zero ms = []
falling (suc j) ms = aligned_at (2 ^ j) 0 ms ++ falling j ms

-- the positions of runtime arrays, from i on
unfoldable pub runtimes_at : ℕ → Members → List ℕ
runtimes_at i no_more = []
runtimes_at i (member t size align ms) = cond (is_runtime t) (i ∷ runtimes_at (suc i) ms) (runtimes_at (suc i) ms)

-- "the order by falling member alignment, ties as they stood, a runtime array kept last": an alignment is a power of two of 32 bits
unfoldable pub planned_order : Members → List ℕ
planned_order ms = falling 32 ms ++ runtimes_at 0 ms

-- "from the planner, 14 where the lent list is shorter than the members"; later places of the list stay
unfoldable pub plan_members : Members → List ℕ → Said Done
plan_members ms lent = do
  refuse 14 0 (ltb (length lent) (count_of ms))
  good (record { value = count_of ms; contents = planned_order ms ++ drop (count_of ms) lent })

unfoldable pub plan_call : List ℕ → ℕ → List ℕ → Said Done
plan_call f e lent = do
  ms ← struct_members f e
  plan_members ms lent

-- ---- a struct with its members in another order

-- the member at position i of `all`, with its given size and align, before `rest`; none where there is no such member
unfoldable pub chosen : Members → ℕ → Members → Option Members
chosen no_more i rest = none
chosen (member t size align ms) zero rest = some (member t size align rest)
chosen (member t size align ms) (suc i) rest = chosen ms i rest

-- the members at the positions of a list, one after the other
unfoldable pub reordered : Members → List ℕ → Option Members
reordered all [] = some no_more
reordered all (i ∷ order) = and_then (reordered all order) (λ rest. chosen all i rest)

unfoldable pub appears : ℕ → List ℕ → Bool
appears i [] = false
appears i (j ∷ js) = eqb i j || appears i js

unfoldable pub all_differ : List ℕ → Bool
all_differ [] = true
all_differ (i ∷ is) = not (appears i is) && all_differ is

-- "every member position appears once": as many as there are members, each the position of one (`reordered`), no two the same
unfoldable pub in_order : Members → List ℕ → Option Members
in_order ms order = when (eqb (length order) (count_of ms) && all_differ order) (reordered ms order)

-- ---- the checker

-- "the end .. (struct size; for open structs, the array's offset)"
unfoldable pub end_of : ℕ → Members → ℕ
end_of k ms = extent_of 0 (struct k ms)

-- "a runtime array is still last, no number passes 01's limit": the struct is well formed as any is; "and the end is smaller"
unfoldable pub is_better : ℕ → Members → Members → Bool
is_better k old new = is_well_formed (struct k new) && ltb (end_of k new) (end_of k old)

-- "An accepted order answers the new end."
unfoldable pub new_end : ℕ → Members → List ℕ → Option ℕ
new_end k ms order = and_then (in_order ms order) (λ new. when (is_better k ms new) (some (end_of k new)))

-- "from the checker 23 for any order not accepted, wrong lengths included"
unfoldable pub order_call : List ℕ → ℕ → List ℕ → Said ℕ
order_call f e order = do
  ms ← struct_members f e
  or_refuse 23 0 (new_end e ms order)
