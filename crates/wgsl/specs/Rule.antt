-- The rules for entries, and the verdict on a file (01, "The layout file" and "Numbers that say no", refusals 5 to 7; 02, E12, 24).
--
-- In order: what an entry's fields make, kind by kind; which types are allowed (5); given sizes and aligns (6); the types of the entries
-- below one, or the refusal of the lowest bad one; members that nobody names (24); the types of a file's entries.
-- Not here: the fields themselves (`File`), the limit (`Size`, refusal 7).
-- Definitions only. Assumes nothing.
use Rattle.std.specs.Prelude.{ℕ, zero, suc, ◌+◌, ◌-◌, ◌%◌, List, [], ◌∷◌, ◌++◌, Bool, true, false, cond, not, ◌&&◌, ◌||◌, eqb, ltb, leb}
use Rattle.std.proofs.Math.Option.{Option, none, some}
use Rattle.std.proofs.Math.ListN.{get_elem?}
use Rattle.wgsl.specs.Round.{is_power}
use Rattle.wgsl.specs.Types.{Scalar, bool, i32, u32, f32, f16, abstract_int, abstract_float, i64, u64, f64, Ty, scalar, vector, matrix, array, runtime, atomic, struct, Members, no_more, member, is_scalar_kind, vector_kind, matrix_kind, array_kind, runtime_kind, atomic_kind, struct_kind, is_runtime, is_open}
use Rattle.wgsl.specs.Size.{is_present, size_of, align_of, fits_limit}
use Rattle.wgsl.specs.Said.{Said, good, ◌>>=◌, ◌>>◌, refuse, or_refuse}
use Rattle.wgsl.specs.File.{TypeEntry, MemberEntry, trailer_of, type_entry_at, member_entry_at, given_size, given_align, rest_is_zero, between, most_members, check_trailer}

-- nothing, unless the test holds
unfoldable pub when : {A : Type 0} → Bool → Option A → Option A
when true x = x
when false x = none

unfoldable pub and_then : {A B : Type 0} → Option A → (A → Option B) → Option B
and_then (some a) rest = rest a
and_then none rest = none

-- "Fields a kind doesn't use are zero."
unfoldable pub unused : List ℕ → Bool
unused [] = true
unused (n ∷ ns) = eqb n 0 && unused ns

-- "0 to 6: bool, i32, u32, f32, f16, abstract int, abstract float"; E6: "kinds 13, 14, 15 for i64, u64, f64"
unfoldable pub scalar_of_kind : ℕ → Option Scalar
scalar_of_kind kind =
    cond (ltb kind 13) (get_elem? (bool ∷ i32 ∷ u32 ∷ f32 ∷ f16 ∷ abstract_int ∷ abstract_float ∷ []) kind)
    (get_elem? (i64 ∷ u64 ∷ f64 ∷ []) (kind - 13))

unfoldable pub scalar_in : Ty → Option Scalar
scalar_in (scalar s) = some s
scalar_in (vector n s) = none
scalar_in (matrix c r s) = none
scalar_in (array n t) = none
scalar_in (runtime t) = none
scalar_in (atomic s) = none
scalar_in (struct k ms) = none

-- "An entry refers only to entries of a lower number": the type of entry r, where `ts` are the types of the lower ones
unfoldable pub lower : List Ty → ℕ → Option Ty
lower ts r = get_elem? ts r

-- "and so do a struct's members": n members from number m on
unfoldable pub members_from : List ℕ → List Ty → ℕ → ℕ → Option Members
members_from f ts zero m = some no_more
members_from f ts (suc n) m =
    let e : MemberEntry = member_entry_at f m in
    when (rest_is_zero e)
    (and_then (lower ts e.type) (λ t. and_then (members_from f ts n (suc m)) (λ ms. some (member t (given_size e) (given_align e) ms))))

-- The table of kinds: the type that an entry's fields make, if they make one. Which of these types are allowed is said below.

-- "0 to 6 .. nothing", and 13 to 15
unfoldable pub scalar_made : TypeEntry → Option Ty
scalar_made e =
    when (unused (e.columns ∷ e.rows ∷ e.reference ∷ e.count ∷ []))
    (and_then (scalar_of_kind e.kind) (λ s. some (scalar s)))

-- The next five take the type that the reference leads to.

-- "7 vector: rows .., reference to a kind 0-6"; E6: "They may be vector elements"
unfoldable pub vector_made : Option Ty → TypeEntry → Option Ty
vector_made below e =
    when (unused (e.columns ∷ e.count ∷ [])) (and_then (and_then below scalar_in) (λ s. some (vector e.rows s)))

-- "8 matrix: columns .., rows .., reference"
unfoldable pub matrix_made : Option Ty → TypeEntry → Option Ty
matrix_made below e =
    when (unused (e.count ∷ [])) (and_then (and_then below scalar_in) (λ s. some (matrix e.columns e.rows s)))

-- "9 array: reference, count"
unfoldable pub array_made : Option Ty → TypeEntry → Option Ty
array_made below e = when (unused (e.columns ∷ e.rows ∷ [])) (and_then below (λ t. some (array e.count t)))

-- "10 runtime array: reference"
unfoldable pub runtime_made : Option Ty → TypeEntry → Option Ty
runtime_made below e = when (unused (e.columns ∷ e.rows ∷ e.count ∷ [])) (and_then below (λ t. some (runtime t)))

-- "11 atomic: reference"
unfoldable pub atomic_made : Option Ty → TypeEntry → Option Ty
atomic_made below e =
    when (unused (e.columns ∷ e.rows ∷ e.count ∷ [])) (and_then (and_then below scalar_in) (λ s. some (atomic s)))

-- "12 struct: reference = first member, count = members, .. all within M"
unfoldable pub struct_made : List ℕ → List Ty → ℕ → TypeEntry → Option Ty
struct_made f ts k e =
    when (unused (e.columns ∷ e.rows ∷ []) && leb (e.reference + e.count) (trailer_of f).members)
    (and_then (members_from f ts e.count e.reference) (λ ms. some (struct k ms)))

-- kinds 7 to 11
unfoldable pub over_made : Option Ty → TypeEntry → Option Ty
over_made below e =
    cond (eqb e.kind vector_kind) (vector_made below e)
    (cond (eqb e.kind matrix_kind) (matrix_made below e)
    (cond (eqb e.kind array_kind) (array_made below e)
    (cond (eqb e.kind runtime_kind) (runtime_made below e) (cond (eqb e.kind atomic_kind) (atomic_made below e) none))))

unfoldable pub type_made : List ℕ → List Ty → ℕ → TypeEntry → Option Ty
type_made f ts k e =
    cond (is_scalar_kind e.kind) (scalar_made e)
    (cond (eqb e.kind struct_kind) (struct_made f ts k e) (over_made (lower ts e.reference) e))

-- the type that entry k makes, over the types of the entries below it
unfoldable pub type_of_entry : List ℕ → List Ty → ℕ → Option Ty
type_of_entry f ts k =
    let e : TypeEntry = type_entry_at f k in
    when (unused (e.zero3 ∷ e.zero6 ∷ [])) (type_made f ts k e)

-- "reference to f32, f16 or abstract float"; E6: "not matrix or atomic ones"
unfoldable pub is_matrix_scalar : Scalar → Bool
is_matrix_scalar bool = false
is_matrix_scalar i32 = false
is_matrix_scalar u32 = false
is_matrix_scalar f32 = true
is_matrix_scalar f16 = true
is_matrix_scalar abstract_int = false
is_matrix_scalar abstract_float = true
is_matrix_scalar i64 = false
is_matrix_scalar u64 = false
is_matrix_scalar f64 = false

-- "reference to i32 or u32"
unfoldable pub is_atomic_scalar : Scalar → Bool
is_atomic_scalar bool = false
is_atomic_scalar i32 = true
is_atomic_scalar u32 = true
is_atomic_scalar f32 = false
is_atomic_scalar f16 = false
is_atomic_scalar abstract_int = false
is_atomic_scalar abstract_float = false
is_atomic_scalar i64 = false
is_atomic_scalar u64 = false
is_atomic_scalar f64 = false

unfoldable pub is_last : Members → Bool
is_last no_more = true
is_last (member t size align ms) = false

unfoldable pub count_of : Members → ℕ
count_of no_more = 0
count_of (member t size align ms) = suc (count_of ms)

-- "A member type has size and alignment, except that the last may be a runtime array."
unfoldable pub member_allowed : Bool → Ty → Bool
member_allowed last t = is_present (align_of t) && (is_present (size_of t) || (last && is_runtime t))

unfoldable pub members_allowed : Members → Bool
members_allowed no_more = true
members_allowed (member t size align ms) = member_allowed (is_last ms) t && members_allowed ms

-- Refusal 5: what the table of kinds and the sentences after it say of a type's own numbers and of the types right below it.
unfoldable pub is_allowed : Ty → Bool
is_allowed (scalar s) = true
-- "rows 2-4"
is_allowed (vector n s) = between 2 4 n
-- "columns 2-4, rows 2-4, reference to f32, f16 or abstract float"
is_allowed (matrix c r s) = between 2 4 c && between 2 4 r && is_matrix_scalar s
-- "count at least 1"; "An array's element isn't open"
is_allowed (array n t) = leb 1 n && not (is_open t)
-- "a runtime array's element also has size and alignment"
is_allowed (runtime t) = not (is_open t) && is_present (size_of t) && is_present (align_of t)
is_allowed (atomic s) = is_atomic_scalar s
-- "members, 1 to 1,024"
is_allowed (struct k ms) = between 1 most_members (count_of ms) && members_allowed ms

-- "A given size is at least the type's size and never stands on a runtime array."
unfoldable pub at_least : Option ℕ → ℕ → Bool
at_least (some n) given = leb n given
at_least none given = true

unfoldable pub given_size_fits : Ty → Option ℕ → Bool
given_size_fits t (some given) = not (is_runtime t) && at_least (size_of t) given
given_size_fits t none = true

-- "A given align is a power of two and a multiple of the type's alignment."
unfoldable pub is_multiple : Option ℕ → ℕ → Bool
is_multiple (some n) given = eqb (given % n) 0
is_multiple none given = true

unfoldable pub given_align_fits : Ty → Option ℕ → Bool
given_align_fits t (some given) = is_power given && is_multiple (align_of t) given
given_align_fits t none = true

unfoldable pub members_given_fit : Members → Bool
members_given_fit no_more = true
members_given_fit (member t size align ms) = given_size_fits t size && given_align_fits t align && members_given_fit ms

-- Refusal 6: "the sentence on a given size or on a given align is broken".
unfoldable pub given_fits : Ty → Bool
given_fits (scalar s) = true
given_fits (vector n s) = true
given_fits (matrix c r s) = true
given_fits (array n t) = true
given_fits (runtime t) = true
given_fits (atomic s) = true
given_fits (struct k ms) = members_given_fit ms

-- what 5, 6 and 7 leave
unfoldable pub is_well_formed : Ty → Bool
is_well_formed t = is_allowed t && given_fits t && fits_limit t

-- entry k, over the types of those below it: "in it 5 before 6 before 7"
unfoldable pub judged : List ℕ → List Ty → ℕ → Said Ty
judged f ts k = do
  t ← or_refuse 5 k (type_of_entry f ts k)
  refuse 5 k (not (is_allowed t))
  refuse 6 k (not (given_fits t))
  refuse 7 k (not (fits_limit t))
  good t

-- the types of the entries below n, or the refusal of "the lowest bad entry"
unfoldable pub types_below : List ℕ → ℕ → Said (List Ty)
types_below f zero = good []
types_below f (suc n) = do
  ts ← types_below f n
  t ← judged f ts n
  good (ts ++ (t ∷ []))

-- ---- members that nobody names (02, E12)

-- a struct's entry names as many members as its count, from its reference on
unfoldable pub names_member : TypeEntry → ℕ → Bool
names_member e m = eqb e.kind struct_kind && leb e.reference m && ltb m (e.reference + e.count)

-- "named by at least one struct", of the entries below n, whether it is used or not
unfoldable pub is_named : List ℕ → ℕ → ℕ → Bool
is_named f zero m = false
is_named f (suc n) m = is_named f n m || names_member (type_entry_at f n) m

-- "24, place the lowest such member": of the m lowest, in a table of n entries
unfoldable pub all_named : List ℕ → ℕ → ℕ → Said (Unit {0})
all_named f n zero = good tt
all_named f n (suc m) = do
  all_named f n m
  refuse 24 m (not (is_named f n m))

-- ---- the types of a file's entries

-- "Every call gives 1 to 4 in that order, then the lowest bad entry"; E12: 24 "after all entries have passed 5 to 7"
unfoldable pub types_of : List ℕ → Said (List Ty)
types_of f = do
  r ← check_trailer f
  ts ← types_below f r.types
  all_named f r.types r.members
  good ts
