-- What becomes of an atomic's entry (crates/layout_values, specs/Value), by its fields and by the layout that it refers to.
--
-- In order: the scalars of an atomic; the ways to break a rule; the layout.
-- Assumes nothing.
use Rattle.std.specs.Prelude.{Err, Ok}
use Prim.Native.Nat.{◌<◌, ◌≤◌, ℕ}
use mathlib.Core.Bool.{true, false}
use mathlib.Core.List.{[], ◌∷◌}
use mathlib.Core.Option.{some}
use mathlib.Core.Path.{◌≡◌, refl, sym, ◌∙◌}
use native.Mathlib.Omega.{arith}
use Rattle.wgsl.specs.Types.{Scalar, bool, i32, u32, f32, f16, abstract_int, abstract_float, i64, u64, f64, Ty, atomic, is_open, scalar_kind, kind_of}
use Rattle.wgsl.specs.Size.{is_present, present, width_of, size_of, align_of, min_size_of, inner_numbers_of, is_stored}
use Rattle.wgsl.specs.File.{TypeEntry}
use Rattle.wgsl.specs.Rule.{and_then, unused, scalar_in, atomic_made, is_atomic_scalar, is_allowed, given_fits}
use Rattle.wgsl.specs.Round.{up}
use Rattle.wgsl.specs.Place.{words_for}
use Rattle.wgsl.proofs.ScalarKind.{low_scalar}
use Rattle.layout_values.proofs.VerdictOn.{fits_small, layout_closed, value_is, verdict_laid, made_used, made_rule, made_over}
use Rattle.layout_values.proofs.ScalarMade.{scalar_known, scalar_kind_lem}
use Rattle.layout_values.specs.Value.{stored_width, narrow_of, parts_of, value_of, made_of, stride_in}
use Rattle.layout_values.specs.declared.value.Value.{Value}
use Rattle.layout_values.specs.declared.value.Broken.TheVariants.{Rule}

-- ---- the scalars of an atomic

scalar_low : (s : Scalar) → scalar_kind s < 1 → is_atomic_scalar s ≡ false
unfolding scalar_kind is_atomic_scalar
scalar_low bool h = refl
scalar_low i32 h = absurd (omega arith)
scalar_low u32 h = absurd (omega arith)
scalar_low f32 h = refl
scalar_low f16 h = refl
scalar_low abstract_int h = refl
scalar_low abstract_float h = refl
scalar_low i64 h = refl
scalar_low u64 h = refl
scalar_low f64 h = refl

scalar_high : (s : Scalar) → 2 < scalar_kind s → is_atomic_scalar s ≡ false
unfolding scalar_kind is_atomic_scalar
scalar_high bool h = refl
scalar_high i32 h = absurd (omega arith)
scalar_high u32 h = absurd (omega arith)
scalar_high f32 h = refl
scalar_high f16 h = refl
scalar_high abstract_int h = refl
scalar_high abstract_float h = refl
scalar_high i64 h = refl
scalar_high u64 h = refl
scalar_high f64 h = refl

scalar_atomic : (s : Scalar) → 1 ≤ scalar_kind s → scalar_kind s ≤ 2 → (is_atomic_scalar s ≡ true) × (stored_width s ≡ 4) × (present (width_of s) ≡ 4)
unfolding scalar_kind is_atomic_scalar stored_width is_stored width_of present
scalar_atomic bool h k = absurd (omega arith)
scalar_atomic i32 h k = (refl, refl, refl)
scalar_atomic u32 h k = (refl, refl, refl)
scalar_atomic f32 h k = absurd (omega arith)
scalar_atomic f16 h k = absurd (omega arith)
scalar_atomic abstract_int h k = absurd (omega arith)
scalar_atomic abstract_float h k = absurd (omega arith)
scalar_atomic i64 h k = absurd (omega arith)
scalar_atomic u64 h k = absurd (omega arith)
scalar_atomic f64 h k = absurd (omega arith)

-- ---- the entry

module _ (t : Ty) (l : Value) (is : l ≡ value_of l.stride l.reference t) (e : TypeEntry) (long r : ℕ) where
  pub atomic_used : unused (e.columns ∷ e.rows ∷ e.count ∷ []) ≡ false → made_of long r (atomic_made (some t) e) ≡ Err Rule
  unfolding atomic_made
  atomic_used h = made_used _ _ _ h

  other_scalar : ((s : Scalar) → scalar_kind s ≡ l.kind → is_atomic_scalar s ≡ false) → made_of long r (atomic_made (some t) e) ≡ Err Rule
  unfolding atomic_made and_then is_allowed
  other_scalar h = made_rule _ _ _ (scalar_in t) atomic (λ s f. h s (scalar_kind_lem t l s is f).0)

  -- "reference to i32 or u32"
  pub atomic_low : l.kind < 1 → made_of long r (atomic_made (some t) e) ≡ Err Rule
  atomic_low h = other_scalar (λ s k. scalar_low s (omega arith))

  pub atomic_high : 2 < l.kind → made_of long r (atomic_made (some t) e) ≡ Err Rule
  atomic_high h = other_scalar (λ s k. scalar_high s (omega arith))

  pub atomic_laid : unused (e.columns ∷ e.rows ∷ e.count ∷ []) ≡ true → 1 ≤ l.kind → l.kind ≤ 2 → made_of long r (atomic_made (some t) e) ≡ Ok (record { kind = 11; narrow = 4; reference = r; count = 1; unit = 1; stride = 4; size = 4; align = 4 })
  unfolding atomic_made and_then is_allowed given_fits size_of align_of min_size_of inner_numbers_of kind_of narrow_of parts_of stride_in present is_present is_open words_for up
  atomic_laid zeros low high =
      let x = scalar_known t l is (low_scalar _ (omega arith)) in
      let s = x.scalar in
      let k = x.kind_is in
      let (allowed, narrow, width) = scalar_atomic s (omega arith) (omega arith) in
      let laid = layout_closed (atomic s) refl refl refl in
      made_over _ _ atomic zeros x.found
      ∙ verdict_laid long (atomic s) _ allowed refl (fits_small (atomic s) refl (omega arith) (omega arith) refl)
      (value_is long (atomic s) _ refl (sym narrow) refl (rw (laid, width)) (sym width) refl refl)
