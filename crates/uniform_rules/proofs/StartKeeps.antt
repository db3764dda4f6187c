-- One member by its value (specs/Keeps) is one member by its type (crates/wgsl, specs/Uniform).
--
-- In order: rounding an alignment up to the unit; whether a member may start there; where those after it may.
-- Assumes nothing.
use Prim.Native.Nat.{ℕ, ◌%◌, ◌≤◌, max}
use mathlib.Core.Bool.{Bool, true, false, ◌&&◌}
use mathlib.Core.Logic.{⊎_elim}
use mathlib.Core.Option.{some}
use mathlib.Core.Path.{◌≡◌, refl, ◌∙◌}
use native.Mathlib.Omega.{arith}
use borrow.Author.Tests.{eq-eqb, ne_eqb, le-leb, lt-leb}
use lib.Dec.{eqb, leb}
use Rattle.wgsl.specs.Round.{IsPower, up}
use Rattle.wgsl.specs.Types.{Scalar, Ty, scalar, vector, matrix, array, runtime, atomic, struct, everywhere, scalar_kind, kind_of}
use Rattle.wgsl.specs.Size.{both, align_of}
use Rattle.wgsl.specs.Rule.{is_multiple, is_well_formed}
use Rattle.wgsl.specs.Uniform.{uniform_align, earliest_after}
use Rattle.wgsl.proofs.Round.{up_multiple, up_not_below, up_least}
use Rattle.wgsl.proofs.Power.{power, power_positive, power_divides, le_or_ge}
use Rattle.wgsl.proofs.Shape.{multiple_trans}
use Rattle.wgsl.proofs.Align.{align_power}
use Rattle.layout_values.specs.declared.value.Value.{Value}
use Rattle.layout_values.specs.Value.{value_of}
use Rattle.wgsl.proofs.ScalarKind.{scalar_kind_is, scalar_range, no_scalar_kind}
use Rattle.uniform_rules.specs.Keeps.{is_raised, start_keeps, earliest_by}

-- ---- rounding an alignment up to the unit

-- An alignment below the unit is raised to it,
up_unit : (a : ℕ) → 1 ≤ a → a ≤ 16 → up 16 a ≡ 16
up_unit a low high =
    let m = up_multiple 16 a in
    let b = up_not_below 16 a (omega arith) in
    let l = up_least 16 a 16 (omega arith) refl high in
    omega (arith, m, b, l)

-- and one above it stays.
up_above : (a : ℕ) → IsPower a → 16 ≤ a → up 16 a ≡ a
up_above a p h =
    let d = power_divides (power 4) p h in
    omega (arith, up_not_below 16 a (omega arith), up_least 16 a a (omega arith) d (omega arith))

-- What is a multiple of an alignment is one of the raised alignment exactly if it is one of the unit.
raised_multiple : (a start : ℕ) → IsPower a → start % a ≡ 0 → is_multiple (some (up 16 a)) start ≡ eqb (start % 16) 0
unfolding is_multiple
raised_multiple a start p h =
    ⊎_elim (λ (l : a ≤ 16). rw (up_unit a (power_positive p) l))
    (λ (l : 16 ≤ a).
    let d = multiple_trans 16 a start (power_divides (power 4) p l) h in
    rw (up_above a p l, eq-eqb _ 0 h, eq-eqb _ 0 d))
    (le_or_ge a 16)

-- ---- whether a member may start there

and_swap : (a b : Bool) → (a && b) ≡ (b && a)
and_swap true true = refl
and_swap true false = refl
and_swap false true = refl
and_swap false false = refl

module _ (t : Ty) (a start : ℕ) (well : everywhere is_well_formed t ≡ true) (align_is : align_of t ≡ some a) (multiple : start % a ≡ 0) where
  own_kept : is_multiple (align_of t) start ≡ true
  unfolding is_multiple
  own_kept = rw (align_is) (eq-eqb _ 0 multiple)

  raised_kept : is_multiple (both up (some 16) (align_of t)) start ≡ eqb (start % 16) 0
  unfolding both
  raised_kept = rw align_is (raised_multiple a start (align_power t a well align_is) multiple)

-- A scalar is no struct and no array.
pub scalar_not_raised : (s : Scalar) → is_raised (scalar_kind s) ≡ false
unfolding is_raised
scalar_not_raised s =
    ⊎_elim (λ (low : scalar_kind s ≤ 6). rw (lt-leb 9 (scalar_kind s) (omega arith)))
    (λ (high : (13 ≤ scalar_kind s) × (scalar_kind s ≤ 15)).
    rw (le-leb 9 (scalar_kind s) (omega (arith, high.0)), lt-leb (scalar_kind s) 12 (omega (arith, high.0))))
    (scalar_range (scalar_kind s) (scalar_kind_is s))

not_raised : (l : Value) (earliest start : ℕ) → is_raised l.kind ≡ false → start_keeps l earliest start ≡ leb earliest start
unfolding start_keeps
not_raised l earliest start h = rw h (and_swap (leb earliest start) true)

pub start_is : (long r : ℕ) (t : Ty) (a start earliest : ℕ) → everywhere is_well_formed t ≡ true → align_of t ≡ some a → start % a ≡ 0 → start_keeps (value_of long r t) earliest start ≡ (is_multiple (uniform_align t) start && leb earliest start)
unfolding start_keeps is_raised value_of kind_of uniform_align
start_is long r (scalar s) a start earliest w is m =
    not_raised (value_of long r (scalar s)) earliest start (scalar_not_raised s) ∙ rw (own_kept (scalar s) a start w is m)
start_is long r (vector n s) a start earliest w is m = rw (own_kept (vector n s) a start w is m) (and_swap (leb earliest start) true)
start_is long r (matrix c n s) a start earliest w is m = rw (own_kept (matrix c n s) a start w is m) (and_swap (leb earliest start) true)
start_is long r (array n t) a start earliest w is m = rw (raised_kept (array n t) a start w is m) (and_swap (leb earliest start) (eqb (start % 16) 0))
start_is long r (runtime t) a start earliest w is m = rw (raised_kept (runtime t) a start w is m) (and_swap (leb earliest start) (eqb (start % 16) 0))
start_is long r (atomic s) a start earliest w is m = rw (own_kept (atomic s) a start w is m) (and_swap (leb earliest start) true)
start_is long r (struct k ms) a start earliest w is m = rw (raised_kept (struct k ms) a start w is m) (and_swap (leb earliest start) (eqb (start % 16) 0))

-- ---- where those after it may

no_more_than : (n : ℕ) → n ≡ max n 0
no_more_than n = omega arith

pub earliest_is : (long r : ℕ) (t : Ty) (start earliest : ℕ) → earliest_by (value_of long r t) earliest start ≡ max earliest (earliest_after start t)
unfolding earliest_by value_of kind_of earliest_after
earliest_is long r (scalar s) start earliest =
    rw (ne_eqb (scalar_kind s) 12 (no_scalar_kind s 12 (omega arith) (omega arith))) (no_more_than earliest)
earliest_is long r (vector n s) start earliest = no_more_than earliest
earliest_is long r (matrix c n s) start earliest = no_more_than earliest
earliest_is long r (array n t) start earliest = no_more_than earliest
earliest_is long r (runtime t) start earliest = no_more_than earliest
earliest_is long r (atomic s) start earliest = no_more_than earliest
earliest_is long r (struct k ms) start earliest = refl
