-- The uniform profile: whether an entry may live in a uniform buffer (02, E5; WGSL, "Address space layout constraints").
--
-- In order: the rule of structs; the rules of one type; a type that may live there; the entries that an entry reaches; the lowest broken
-- one; the call.
-- Definitions only. Assumes nothing.
use Rattle.std.specs.Prelude.{ℕ, zero, suc, ◌+◌, max, List, [], ◌∷◌, Bool, true, false, cond, not, ◌&&◌, ◌||◌, eqb, leb}
use Rattle.std.proofs.Math.Option.{Option, none, some}
use Rattle.std.proofs.Math.ListN.{get_elem?}
use Rattle.wgsl.specs.Round.{up}
use Rattle.wgsl.specs.Types.{Ty, scalar, vector, matrix, array, runtime, atomic, struct, Members, no_more, member, is_scalar_kind, struct_kind, is_open, everywhere}
use Rattle.wgsl.specs.Size.{both, is_present, present, member_start, member_end, size_of, align_of, stride_of, has_layout, is_storable}
use Rattle.wgsl.specs.Said.{Said, good, refused, ◌>>=◌, ◌>>◌, refuse, or_refuse}
use Rattle.wgsl.specs.File.{TypeEntry, type_entry_at, member_entry_at}
use Rattle.wgsl.specs.Rule.{is_multiple, types_of}

-- ---- the rule of structs

-- "16"
abbrev pub uniform_unit : ℕ
uniform_unit = 16

-- "its type's alignment, raised to a multiple of 16 for structs and arrays"
unfoldable pub uniform_align : Ty → Option ℕ
uniform_align (scalar s) = align_of (scalar s)
uniform_align (vector n s) = align_of (vector n s)
uniform_align (matrix c r s) = align_of (matrix c r s)
uniform_align (array n t) = both up (some uniform_unit) (align_of (array n t))
uniform_align (runtime t) = both up (some uniform_unit) (align_of (runtime t))
uniform_align (atomic s) = align_of (atomic s)
uniform_align (struct k ms) = both up (some uniform_unit) (align_of (struct k ms))

-- where a member of this type that starts at `start` lets those after it begin, of a struct "at least that struct's size, rounded up to
-- 16, after its start"; the size is its type's, whatever size the member gives
unfoldable pub earliest_after : ℕ → Ty → ℕ
earliest_after start (scalar s) = 0
earliest_after start (vector n s) = 0
earliest_after start (matrix c r s) = 0
earliest_after start (array n t) = 0
earliest_after start (runtime t) = 0
earliest_after start (atomic s) = 0
earliest_after start (struct k ms) = start + up uniform_unit (present (size_of (struct k ms)))

-- "each member's offset is a multiple of its type's alignment, raised ..; a member after a struct member starts at least ..": of members
-- where the one before the first ended at `end`, and none of which may start before `earliest`
unfoldable pub members_keep : ℕ → Option ℕ → Members → Bool
members_keep earliest end no_more = true
members_keep earliest end (member t size align ms) =
    let start : ℕ = present (member_start end align (align_of t)) in
    is_multiple (uniform_align t) start && leb earliest start
    && members_keep (max earliest (earliest_after start t)) (member_end end align (align_of t) size (size_of t)) ms

-- ---- the rules of one type, and not of those within it

unfoldable pub keeps_uniform : Ty → Bool
keeps_uniform (scalar s) = true
keeps_uniform (vector n s) = true
keeps_uniform (matrix c r s) = true
-- "every array's stride as 01 has it, its element's number, is a multiple of 16"
keeps_uniform (array n t) = is_multiple (some uniform_unit) (present (stride_of t))
keeps_uniform (runtime t) = is_multiple (some uniform_unit) (present (stride_of t))
-- "no atomic anywhere"
keeps_uniform (atomic s) = false
keeps_uniform (struct k ms) = members_keep 0 (some 0) ms

-- ---- a type that may live in a uniform buffer

-- "fixed size, storable, no atomic anywhere; in every struct within, ..; every array's stride ..": "stated once over depth"
unfoldable pub is_uniform : Ty → Bool
is_uniform t = is_present (size_of t) && is_storable t && everywhere keeps_uniform t

-- ---- the entries that an entry reaches

-- the types of n members from number m on
unfoldable pub member_types : List ℕ → ℕ → ℕ → List ℕ
member_types f zero m = []
member_types f (suc n) m = (member_entry_at f m).type ∷ member_types f n (suc m)

-- what entry k refers to: a scalar nothing, a struct its members' types, any other one entry
unfoldable pub refers_to : List ℕ → ℕ → List ℕ
refers_to f k =
    let e : TypeEntry = type_entry_at f k in
    cond (is_scalar_kind e.kind) []
    (cond (eqb e.kind struct_kind) (member_types f e.count e.reference) (e.reference ∷ []))

-- one of the numbers passes the test
unfoldable pub any_of : (ℕ → Bool) → List ℕ → Bool
any_of p [] = false
any_of p (n ∷ ns) = p n || any_of p ns

-- entry k is e, or n references or fewer lead from e to it
unfoldable pub reaches_by : List ℕ → ℕ → ℕ → ℕ → Bool
reaches_by f zero k e = eqb e k
reaches_by f (suc n) k e = eqb e k || any_of (λ r. reaches_by f n k r) (refers_to f e)

-- "the one asked and those it reaches". A reference leads to a lower entry, so there are never more than e of them in a row.
unfoldable pub reaches : List ℕ → ℕ → ℕ → Bool
reaches f e k = reaches_by f e k e

-- ---- the lowest broken one

-- "(an atomic, or a struct or array that breaks one of these rules)"
unfoldable pub is_broken_type : Option Ty → Bool
is_broken_type (some t) = not (keeps_uniform t)
is_broken_type none = false

unfoldable pub is_broken : List Ty → ℕ → Bool
is_broken ts k = is_broken_type (get_elem? ts k)

-- the lowest of the n numbers from k on that passes the test
unfoldable pub lowest_from : ℕ → ℕ → (ℕ → Bool) → Option ℕ
lowest_from zero k p = none
lowest_from (suc n) k p = cond (p k) (some k) (lowest_from n (suc k) p)

-- "the lowest broken entry .. among the one asked and those it reaches"
unfoldable pub lowest_broken : List ℕ → List Ty → ℕ → Option ℕ
lowest_broken f ts e = lowest_from (suc e) 0 (λ k. reaches f e k && is_broken ts k)

-- ---- the call

-- 19, "with that entry"
unfoldable pub refuse_broken : Option ℕ → Said (Unit {0})
refuse_broken (some k) = refused 19 k
refuse_broken none = good tt

-- 9, as for any call without a layout, and "open types give 9"; then 10
unfoldable pub may_live : Ty → Said (Unit {0})
may_live t = do
  refuse 9 0 (not (has_layout t) || is_open t)
  refuse 10 0 (not (is_storable t))

-- "Refusals: 19, after 8, 9 and 10": it answers 0, that the entry may live there
unfoldable pub uniform_call : List ℕ → ℕ → Said ℕ
uniform_call f e = do
  ts ← types_of f
  t ← or_refuse 8 0 (get_elem? ts e)
  may_live t
  refuse_broken (lowest_broken f ts e)
  good 0
