-- The verdict on the type that an entry's fields make (specs/Value).
--
-- In order: numbers that may be absent; the limit; types with and without a layout; a layout's fields; the verdict; types that are made
-- over a scalar.
-- Assumes nothing.
use Rattle.std.specs.Prelude.{Err, Ok}
use Prim.Native.Nat.{ℕ, ◌<◌, ◌≤◌}
use mathlib.Core.Bool.{Bool, true, false, cond}
use mathlib.Core.List.{List, [], ◌∷◌}
use mathlib.Core.Option.{Option, none, some}
use mathlib.Core.Path.{◌≡◌, refl}
use native.Mathlib.Omega.{arith}
use borrow.Author.Tests.{le-leb, ne_eqb}
use lib.Dec.{eqb}
use Rattle.wgsl.specs.Types.{Scalar, Ty, is_open, kind_of}
use Rattle.wgsl.specs.Size.{is_present, present, size_of, align_of, min_size_of, inner_numbers_of, numbers_of, within_limits, fits_limit, has_layout}
use Rattle.wgsl.specs.Round.{within_limit}
use Rattle.wgsl.specs.Rule.{when, and_then, is_allowed, given_fits}
use Rattle.layout_values.specs.Value.{narrow_of, parts_of, value_of, verdict_on, made_of, stride_in}
use Rattle.layout_values.specs.declared.value.Value.{Value}
use Rattle.layout_values.specs.declared.value.Broken.TheVariants.{Rule}

-- ---- numbers that may be absent

pub present_positive : (x : Option ℕ) → 0 < present x → is_present x ≡ true
unfolding present is_present
present_positive (some n) h = refl
present_positive none h = absurd (omega arith)

-- ---- the limit

limits_hold : (x : Option ℕ) (xs : List (Option ℕ)) → present x ≤ 4294967295 → within_limits xs ≡ true → within_limits (x ∷ xs) ≡ true
unfolding present within_limits within_limit
limits_hold (some n) xs h e = rw (le-leb n 4294967295 h) e
limits_hold none xs h e = e

limits_none : within_limits [] ≡ true
unfolding within_limits
limits_none = refl

-- A type with small numbers, and none within it, fits.
pub fits_small : (t : Ty) → inner_numbers_of t ≡ [] → present (size_of t) ≤ 128 → present (align_of t) ≤ 128 → min_size_of t ≡ size_of t → fits_limit t ≡ true
unfolding fits_limit numbers_of
fits_small t e h k m =
    rw (e, m)
    (limits_hold (size_of t) _ (omega arith) (limits_hold (align_of t) _ (omega arith) (limits_hold (size_of t) [] (omega arith) limits_none)))

-- ---- types with and without a layout

pub layout_closed : (t : Ty) → is_present (align_of t) ≡ true → is_present (size_of t) ≡ true → is_open t ≡ false → has_layout t ≡ true
unfolding has_layout
layout_closed t a z o = rw (a, z, o)

pub layout_none : (t : Ty) → is_present (align_of t) ≡ false → has_layout t ≡ false
unfolding has_layout
layout_none t a = rw a

-- ---- a layout's fields

pub value_is : (long : ℕ) (t : Ty) (l : Value) → l.kind ≡ kind_of t → l.narrow ≡ narrow_of t → l.count ≡ (parts_of t).count → l.unit ≡ cond (has_layout t) (parts_of t).words 0 → l.stride ≡ present (stride_in long t) → l.size ≡ present (size_of t) → l.align ≡ present (align_of t) → l ≡ value_of long l.reference t
unfolding value_of
value_is long t l kind narrow count unit stride size align =
    rw (← kind, ← narrow, ← count, ← unit, ← stride, ← size, ← align)

-- The words of a part, if there is an alignment, are those of a type that has a layout.
pub unit_laid : (t : Ty) (a w : ℕ) → has_layout t ≡ true → (a ≡ 0 → ⊥) → cond (eqb a 0) 0 w ≡ cond (has_layout t) w 0
unit_laid t a w h z = rw (h, ne_eqb a 0 z)

pub unit_none : (t : Ty) (a w : ℕ) → has_layout t ≡ false → a ≡ 0 → cond (eqb a 0) 0 w ≡ cond (has_layout t) w 0
unit_none t a w h z = rw (h, z)

-- ---- the verdict

verdict_rule : (n r : ℕ) (t : Ty) → is_allowed t ≡ false → verdict_on n r t ≡ Err Rule
unfolding verdict_on
verdict_rule n r t h = rw h

pub verdict_laid : (long : ℕ) (t : Ty) (l : Value) → is_allowed t ≡ true → given_fits t ≡ true → fits_limit t ≡ true → l ≡ value_of long l.reference t → verdict_on long l.reference t ≡ Ok l
unfolding verdict_on
verdict_laid long t l a g f e = rw (a, g, f, ← e)

-- ---- types that are made over a scalar

-- A field that is not zero is refusal 5.
pub made_used : (n r : ℕ) {b : Bool} (x : Option Ty) → b ≡ false → made_of n r (when b x) ≡ Err Rule
unfolding when made_of
made_used n r x h = rw h

-- So is a type that is not allowed over the scalar, if there is one.
pub made_rule : (n r : ℕ) (b : Bool) (o : Option Scalar) (f : Scalar → Ty) → ((s : Scalar) → o ≡ some s → is_allowed (f s) ≡ false) → made_of n r (when b (and_then o (λ s. some (f s)))) ≡ Err Rule
unfolding when and_then made_of
made_rule n r true (some s) f h = verdict_rule n r (f s) (h s refl)
made_rule n r true none f h = refl
made_rule n r false o f h = refl

pub made_over : (n r : ℕ) {b : Bool} {o : Option Scalar} (f : Scalar → Ty) {s : Scalar} → b ≡ true → o ≡ some s → made_of n r (when b (and_then o (λ s. some (f s)))) ≡ verdict_on n r (f s)
unfolding when and_then made_of
made_over n r f h e = rw (h, e)
