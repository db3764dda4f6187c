-- The types of a struct's members one after the other (specs/Lowest, `types_at`, `TypesInside` and `lowest_among`).
-- Assumes nothing.
use Prim.Native.Nat.{ℕ, zero, suc, ◌+◌, ◌-◌, ◌*◌, ◌<◌, ◌≤◌, min}
use mathlib.Core.List.{List, [], ◌∷◌}
use mathlib.Core.Path.{◌≡◌}
use native.Mathlib.Nat.{mul-suc}
use native.Mathlib.Numerals.{add-one}
use native.Mathlib.Omega.{arith}
use lib.ListN.{length, get_or}
use Rattle.wgsl.specs.File.{member_fields_length}
use Rattle.walk_trees.specs.Slot.{member_at}
use Rattle.uniform.specs.Lowest.{types_at, TypesInside, lowest_among}

less_one : (count : ℕ) → suc count - 1 ≡ count
less_one count = omega arith

module _ (ms : List ℕ) (told long m : ℕ) where
  first_inside : (count : ℕ) → 0 < count → TypesInside ms told long count m → (m + member_fields_length ≤ length ms) × ((member_at ms m).type < told)
  unfolding TypesInside
  first_inside zero h x = absurd (omega arith)
  first_inside (suc count) h x = (x.0, x.1)

  others_inside : (count : ℕ) → 0 < count → TypesInside ms told long count m → TypesInside ms told long (count - 1) (m + long)
  unfolding TypesInside
  others_inside zero h x = absurd (omega arith)
  others_inside (suc count) h x = rw (less_one count) x.2

-- the lowest told of all is told of the first or of those after it
among_step : (ms told : List ℕ) (long m count : ℕ) → 0 < count → lowest_among told (types_at ms long count m) ≡ min (get_or told (member_at ms m).type 0) (lowest_among told (types_at ms long (count - 1) (m + long)))
unfolding types_at lowest_among
among_step ms told long m zero h = absurd (omega arith)
among_step ms told long m (suc count) h = rw (less_one count)

-- where member i + 1 begins, and how many are left from there
next_begins : (first long i : ℕ) → first + long * (i + 1) ≡ first + long * i + long
next_begins first long i = rw (add-one i) (omega (arith, mul-suc long i))

next_left : (count i : ℕ) → count - (i + 1) ≡ count - i - 1
next_left count i = omega arith

module _ (ms : List ℕ) (told long first count i : ℕ) (more : i < count) (x : TypesInside ms told long (count - i) (first + long * i)) where
  -- member i is there, and something is told of its type
  pub next_inside : (first + long * i + member_fields_length ≤ length ms) × ((member_at ms (first + long * i)).type < told)
  next_inside = first_inside ms told long (first + long * i) (count - i) (omega arith) x

  pub rest_inside : TypesInside ms told long (count - (i + 1)) (first + long * (i + 1))
  rest_inside =
      rw (next_begins first long i, next_left count i) (others_inside ms told long (first + long * i) (count - i) (omega arith) x)

among_bounded : (told rs : List ℕ) → lowest_among told rs ≤ 256
unfolding lowest_among
among_bounded told [] = omega arith
among_bounded told (r ∷ rs) = omega (arith, among_bounded told rs)

-- ---- the lowest told so far, `low`, and that of those that are left

pub among_first : (told rs : List ℕ) → lowest_among told rs ≡ min 256 (lowest_among told rs)
among_first told rs = omega (arith, among_bounded told rs)

pub among_on : (ms told : List ℕ) (long first count i low all : ℕ) {ty r : ℕ} → i < count → ty ≡ (member_at ms (first + long * i)).type → r ≡ min low (get_or told ty 0) → all ≡ min low (lowest_among told (types_at ms long (count - i) (first + long * i))) → all ≡ min r (lowest_among told (types_at ms long (count - (i + 1)) (first + long * (i + 1))))
among_on ms told long first count i low all more type here is =
    let q = rw (among_step ms told long (first + long * i) (count - i) (omega arith)) at is in
    let p = rw type at here in
    rw (next_begins first long i, next_left count i) (omega arith)

pub among_last : (ms told : List ℕ) (long m count low all : ℕ) → count ≡ 0 → low ≤ 256 → all ≡ min low (lowest_among told (types_at ms long count m)) → low ≡ all
unfolding types_at lowest_among
among_last ms told long m count low all none h is = let q = rw none at is in omega arith
