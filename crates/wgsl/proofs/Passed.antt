-- What the rules say of a well-formed type (specs/Rule).
--
-- In order: the three refusals; a type that is well formed everywhere; matrices, arrays, runtime arrays, structs.
-- Assumes nothing.
use Prim.Native.Nat.{ℕ, ◌≤◌}
use mathlib.Core.Bool.{Bool, true, false, not, ◌&&◌}
use mathlib.Core.Option.{some}
use mathlib.Core.Path.{◌≡◌}
use borrow.Author.Tests.{leb-true, not-true}
use lib.Dec.{leb}
use Rattle.wgsl.specs.Types.{Scalar, Ty, scalar, vector, matrix, array, runtime, atomic, struct, Members, is_open, everywhere, every_member}
use Rattle.wgsl.specs.Size.{is_present, size_of, align_of, fits_limit}
use Rattle.wgsl.specs.File.{between}
use Rattle.wgsl.specs.Rule.{is_matrix_scalar, count_of, members_allowed, is_allowed, given_fits, is_well_formed, members_given_fit}
use Rattle.wgsl.proofs.Absent.{both_hold, between_true, present_some}

-- neither 5 nor 6 nor 7 refuses the type
pub record Passed (t : Ty) : Type 0 where
  pub allowed : is_allowed t ≡ true
  pub given : given_fits t ≡ true
  pub fits : fits_limit t ≡ true

pub well_formed : (t : Ty) → is_well_formed t ≡ true → Passed t
unfolding is_well_formed
well_formed t e =
    let c = both_hold (is_allowed t && given_fits t) (fits_limit t) e in
    let d = both_hold (is_allowed t) (given_fits t) c.0 in
    record { allowed = d.0; given = d.1; fits = c.1 }

-- A type that is well formed everywhere is well formed itself.
pub everywhere_here : (p : Ty → Bool) (t : Ty) → everywhere p t ≡ true → p t ≡ true
unfolding everywhere
everywhere_here p (scalar s) e = e
everywhere_here p (vector n s) e = e
everywhere_here p (matrix c r s) e = e
everywhere_here p (array n t) e = (both_hold (p (array n t)) (everywhere p t) e).0
everywhere_here p (runtime t) e = (both_hold (p (runtime t)) (everywhere p t) e).0
everywhere_here p (atomic s) e = e
everywhere_here p (struct k ms) e = (both_hold (p (struct k ms)) (every_member p ms) e).0

pub passed : (t : Ty) → everywhere is_well_formed t ≡ true → Passed t
passed t e = well_formed t (everywhere_here is_well_formed t e)

-- A matrix has two to four columns and rows, of scalars that it may hold.
pub matrix_passed : (c r : ℕ) (s : Scalar) → everywhere is_well_formed (matrix c r s) ≡ true → (between 2 4 c ≡ true) × (between 2 4 r ≡ true) × (is_matrix_scalar s ≡ true)
unfolding is_allowed
matrix_passed c r s w =
    let ok = both_hold (between 2 4 c && between 2 4 r) (is_matrix_scalar s) (passed (matrix c r s) w).allowed in
    let sides = both_hold (between 2 4 c) (between 2 4 r) ok.0 in
    (sides.0, sides.1, ok.1)

-- an array has at least one element, which is not open
pub record ArrayPassed (k : ℕ) (t : Ty) : Type 0 where
  pub below : everywhere is_well_formed t ≡ true
  pub count : 1 ≤ k
  pub closed : is_open t ≡ false

pub array_passed : (k : ℕ) (t : Ty) → everywhere is_well_formed (array k t) ≡ true → ArrayPassed k t
unfolding everywhere is_allowed
array_passed k t w =
    let ok = both_hold (leb 1 k) (not (is_open t)) (passed (array k t) w).allowed in
    record {
      below = (both_hold (is_well_formed (array k t)) (everywhere is_well_formed t) w).1;
      count = leb-true 1 k ok.0;
      closed = not-true (is_open t) ok.1;
    }

-- the element of a runtime array has size and alignment
pub record RuntimePassed (t : Ty) : Type 0 where
  pub below : everywhere is_well_formed t ≡ true
  pub own : ℕ
  pub own_is : size_of t ≡ some own
  pub aligned : ℕ
  pub aligned_is : align_of t ≡ some aligned

pub runtime_passed : (t : Ty) → everywhere is_well_formed (runtime t) ≡ true → RuntimePassed t
unfolding everywhere is_allowed
runtime_passed t w =
    let ok = both_hold (not (is_open t) && is_present (size_of t)) (is_present (align_of t)) (passed (runtime t) w).allowed in
    let z = present_some (size_of t) (both_hold (not (is_open t)) (is_present (size_of t)) ok.0).1 in
    let a = present_some (align_of t) ok.1 in
    record {
      below = (both_hold (is_well_formed (runtime t)) (everywhere is_well_formed t) w).1;
      own = z.0;
      own_is = z.1;
      aligned = a.0;
      aligned_is = a.1;
    }

-- a struct has 1 to 1,024 members, which are allowed and whose given sizes and aligns fit
pub record StructPassed (ms : Members) : Type 0 where
  pub below : every_member is_well_formed ms ≡ true
  pub some_there : 1 ≤ count_of ms
  pub few : count_of ms ≤ 1024
  pub allowed : members_allowed ms ≡ true
  pub given : members_given_fit ms ≡ true

pub struct_passed : (k : ℕ) (ms : Members) → everywhere is_well_formed (struct k ms) ≡ true → StructPassed ms
unfolding everywhere is_allowed given_fits
struct_passed k ms w =
    let ok = both_hold (between 1 1024 (count_of ms)) (members_allowed ms) (passed (struct k ms) w).allowed in
    let count = between_true 1 1024 (count_of ms) ok.0 in
    record {
      below = (both_hold (is_well_formed (struct k ms)) (every_member is_well_formed ms) w).1;
      some_there = count.0;
      few = count.1;
      allowed = ok.1;
      given = (passed (struct k ms) w).given;
    }
