-- Scalars by their kinds, and the type that a scalar's entry makes (crates/wgsl, specs/Size and specs/Rule; specs/Value).
--
-- In order: widths; which are stored; the type that a layout is of; the entry.
-- Not here: vectors of them (`Align`).
-- Assumes nothing.
use Rattle.std.specs.Prelude.{Err, Ok}
use Prim.Native.Nat.{ℕ, zero, suc, ◌<◌, ◌≤◌, min}
use mathlib.Core.Bool.{true, false, cond}
use mathlib.Core.List.{[], ◌∷◌}
use mathlib.Core.Option.{some}
use mathlib.Core.Path.{◌≡◌, refl, sym, ◌∙◌}
use native.Mathlib.Omega.{arith}
use Rattle.wgsl.specs.Round.{up}
use Rattle.wgsl.specs.Types.{Scalar, bool, i32, u32, f32, f16, abstract_int, abstract_float, i64, u64, f64, Ty, scalar, vector, matrix, array, runtime, atomic, struct, is_open, scalar_kind, is_scalar_kind, kind_of}
use Rattle.wgsl.specs.Size.{is_present, present, width_of, size_of, align_of, min_size_of, inner_numbers_of, has_layout, is_stored}
use Rattle.wgsl.specs.File.{TypeEntry}
use Rattle.wgsl.specs.Rule.{unused, scalar_in, scalar_made, is_allowed, given_fits}
use Rattle.wgsl.specs.Place.{words_for}
use Rattle.wgsl.proofs.Absent.{some_not_none}
use Rattle.wgsl.proofs.ScalarKind.{scalar_kind_is, scalar_of_kind_lem, kind_clash}
use Rattle.layout_values.proofs.VerdictOn.{present_positive, fits_small, layout_closed, layout_none, value_is, verdict_laid, made_used, made_over}
use Rattle.layout_values.specs.Value.{stored_width, scalar_words, narrow_of, parts_of, value_of, made_of, stride_in}
use Rattle.layout_values.specs.declared.value.Value.{Value}
use Rattle.layout_values.specs.declared.value.Broken.TheVariants.{Rule}

-- ---- widths

-- "bool, i32, u32, f32 .. 4/4"
pub width_four : (s : Scalar) → scalar_kind s ≤ 3 → present (width_of s) ≡ 4
unfolding scalar_kind width_of present
width_four bool h = refl
width_four i32 h = refl
width_four u32 h = refl
width_four f32 h = refl
width_four f16 h = omega arith
width_four abstract_int h = omega arith
width_four abstract_float h = omega arith
width_four i64 h = omega arith
width_four u64 h = omega arith
width_four f64 h = omega arith

-- "f16: 2/2"
pub width_two : (s : Scalar) → scalar_kind s ≡ 4 → present (width_of s) ≡ 2
unfolding scalar_kind width_of present
width_two bool h = omega arith
width_two i32 h = omega arith
width_two u32 h = omega arith
width_two f32 h = omega arith
width_two f16 h = refl
width_two abstract_int h = omega arith
width_two abstract_float h = omega arith
width_two i64 h = omega arith
width_two u64 h = omega arith
width_two f64 h = omega arith

-- E6: "8/8"
pub width_eight : (s : Scalar) → 13 ≤ scalar_kind s → present (width_of s) ≡ 8
unfolding scalar_kind width_of present
width_eight bool h = omega arith
width_eight i32 h = omega arith
width_eight u32 h = omega arith
width_eight f32 h = omega arith
width_eight f16 h = omega arith
width_eight abstract_int h = omega arith
width_eight abstract_float h = omega arith
width_eight i64 h = refl
width_eight u64 h = refl
width_eight f64 h = refl

-- "Abstract: neither."
pub width_none : (s : Scalar) → 4 < scalar_kind s → scalar_kind s < 13 → present (width_of s) ≡ 0
unfolding scalar_kind width_of present
width_none bool h n = omega arith
width_none i32 h n = omega arith
width_none u32 h n = omega arith
width_none f32 h n = omega arith
width_none f16 h n = omega arith
width_none abstract_int h n = refl
width_none abstract_float h n = refl
width_none i64 h n = omega arith
width_none u64 h n = omega arith
width_none f64 h n = omega arith

pub width_bounded : (s : Scalar) → present (width_of s) ≤ 8
unfolding width_of present
width_bounded bool = omega arith
width_bounded i32 = omega arith
width_bounded u32 = omega arith
width_bounded f32 = omega arith
width_bounded f16 = omega arith
width_bounded abstract_int = omega arith
width_bounded abstract_float = omega arith
width_bounded i64 = omega arith
width_bounded u64 = omega arith
width_bounded f64 = omega arith

-- No width is 0.
pub width_absent : (s : Scalar) → present (width_of s) ≡ 0 → is_present (width_of s) ≡ false
unfolding width_of present is_present
width_absent bool h = absurd (omega arith)
width_absent i32 h = absurd (omega arith)
width_absent u32 h = absurd (omega arith)
width_absent f32 h = absurd (omega arith)
width_absent f16 h = absurd (omega arith)
width_absent abstract_int h = refl
width_absent abstract_float h = refl
width_absent i64 h = absurd (omega arith)
width_absent u64 h = absurd (omega arith)
width_absent f64 h = absurd (omega arith)

-- ---- which are stored

pub stored_bool : (s : Scalar) → scalar_kind s < 1 → stored_width s ≡ 0
unfolding scalar_kind stored_width is_stored
stored_bool bool h = refl
stored_bool i32 h = absurd (omega arith)
stored_bool u32 h = absurd (omega arith)
stored_bool f32 h = absurd (omega arith)
stored_bool f16 h = absurd (omega arith)
stored_bool abstract_int h = refl
stored_bool abstract_float h = refl
stored_bool i64 h = absurd (omega arith)
stored_bool u64 h = absurd (omega arith)
stored_bool f64 h = absurd (omega arith)

pub stored_number : (s : Scalar) → 1 ≤ scalar_kind s → stored_width s ≡ min 4 (present (width_of s))
unfolding scalar_kind stored_width is_stored width_of present
stored_number bool h = absurd (omega arith)
stored_number i32 h = refl
stored_number u32 h = refl
stored_number f32 h = refl
stored_number f16 h = refl
stored_number abstract_int h = refl
stored_number abstract_float h = refl
stored_number i64 h = refl
stored_number u64 h = refl
stored_number f64 h = refl

-- ---- the type that a layout is of

-- a scalar's type and its layout
pub record ScalarOf (t : Ty) (l : Value) : Type 0 where
  pub scalar : Scalar
  pub found : scalar_in t ≡ some scalar
  pub kind_is : scalar_kind scalar ≡ l.kind
  pub narrow_is : l.narrow ≡ stored_width scalar

-- A layout of a scalar's kind is a scalar's,
pub scalar_known : (t : Ty) (l : Value) → l ≡ value_of l.stride l.reference t → is_scalar_kind l.kind ≡ true → ScalarOf t l
unfolding value_of kind_of narrow_of scalar_in
scalar_known (scalar s) l e h =
    record { scalar = s; found = refl; kind_is = rw e; narrow_is = rw e }
scalar_known (vector n s) l e h = absurd (kind_clash l.kind 7 h (rw e) (omega arith) (omega arith))
scalar_known (matrix c r s) l e h = absurd (kind_clash l.kind 8 h (rw e) (omega arith) (omega arith))
scalar_known (array n t) l e h = absurd (kind_clash l.kind 9 h (rw e) (omega arith) (omega arith))
scalar_known (runtime t) l e h = absurd (kind_clash l.kind 10 h (rw e) (omega arith) (omega arith))
scalar_known (atomic s) l e h = absurd (kind_clash l.kind 11 h (rw e) (omega arith) (omega arith))
scalar_known (struct n ms) l e h = absurd (kind_clash l.kind 12 h (rw e) (omega arith) (omega arith))

-- and a scalar's is of the scalar's own kind.
pub scalar_kind_lem : (t : Ty) (l : Value) (s : Scalar) → l ≡ value_of l.stride l.reference t → scalar_in t ≡ some s → (scalar_kind s ≡ l.kind) × (is_scalar_kind l.kind ≡ true)
unfolding value_of kind_of scalar_in
scalar_kind_lem (scalar x) l s e h =
    let same : x ≡ s = cc in
    let k : scalar_kind s ≡ l.kind = rw (e, same) in
    (k, rw (← k) (scalar_kind_is s))
scalar_kind_lem (vector n x) l s e h = some_not_none h refl
scalar_kind_lem (matrix c r x) l s e h = some_not_none h refl
scalar_kind_lem (array n t) l s e h = some_not_none h refl
scalar_kind_lem (runtime t) l s e h = some_not_none h refl
scalar_kind_lem (atomic x) l s e h = some_not_none h refl
scalar_kind_lem (struct n ms) l s e h = some_not_none h refl

-- ---- a scalar's entry

-- no bytes take no words
no_bytes : words_for 0 ≡ 0
unfolding words_for up
no_bytes = refl

module _ (e : TypeEntry) (long : ℕ) where
  pub scalar_used : unused (e.columns ∷ e.rows ∷ e.reference ∷ e.count ∷ []) ≡ false → made_of long e.reference (scalar_made e) ≡ Err Rule
  unfolding scalar_made
  scalar_used h = made_used _ _ _ h

  module _ (zeros : unused (e.columns ∷ e.rows ∷ e.reference ∷ e.count ∷ []) ≡ true) (scalars : is_scalar_kind e.kind ≡ true) where
    scalar_verdict : (l : Value) → l.reference ≡ e.reference → ((s : Scalar) → scalar_kind s ≡ e.kind → l ≡ value_of long l.reference (scalar s)) → made_of long e.reference (scalar_made e) ≡ Ok l
    unfolding scalar_made is_allowed given_fits size_of align_of min_size_of inner_numbers_of
    scalar_verdict l q h =
        let (s, k, f) = scalar_of_kind_lem e.kind scalars in
        let small = width_bounded s in
        made_over _ _ scalar zeros f
        ∙ rw (← q) (verdict_laid long (scalar s) l refl refl (fits_small (scalar s) refl (omega arith) (omega arith) refl) (h s k))

    -- The layout of a scalar.
    pub scalar_laid : (w n : ℕ) → ((s : Scalar) → scalar_kind s ≡ e.kind → w ≡ present (width_of s)) → ((s : Scalar) → scalar_kind s ≡ e.kind → n ≡ stored_width s) → (u : ℕ) → u ≡ words_for w → made_of long e.reference (scalar_made e) ≡ Ok (record { kind = e.kind; narrow = n; reference = e.reference; count = 1; unit = u; stride = w; size = w; align = w })
    unfolding kind_of narrow_of parts_of stride_in size_of align_of is_open
    scalar_laid w n width narrow u unit =
        scalar_verdict _ refl
        (λ s k. let size = width s k in
        value_is long (scalar s) _ (sym k) (narrow s k) refl (unit ∙ units s w size) size size size)
      where
        units : (s : Scalar) (w : ℕ) → w ≡ present (width_of s) → words_for w ≡ cond (has_layout (scalar s)) (scalar_words s) 0
        units s zero size = rw (layout_none (scalar s) (width_absent s (sym size))) no_bytes
        units s (suc m) size =
            let has = present_positive (width_of s) (omega arith) in
            rw (layout_closed (scalar s) has has refl, size)
