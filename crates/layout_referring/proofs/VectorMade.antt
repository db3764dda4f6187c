-- What becomes of a vector's entry (crates/layout_values, specs/Value), by its fields and by the layout that it refers to.
--
-- In order: the ways to break a rule; the layout.
-- Assumes nothing.
use Rattle.std.specs.Prelude.{Err, Ok}
use Prim.Native.Nat.{ℕ, zero, suc, ◌*◌, ◌<◌, ◌≤◌}
use mathlib.Core.Bool.{true, false, cond}
use mathlib.Core.List.{[], ◌∷◌}
use mathlib.Core.Option.{some}
use mathlib.Core.Path.{◌≡◌, refl, sym, ◌∙◌}
use native.Mathlib.Omega.{arith}
use borrow.Author.Tests.{le-leb, lt-leb}
use lib.Dec.{eqb}
use Rattle.wgsl.specs.Types.{Scalar, Ty, vector, is_open, scalar_kind, is_scalar_kind, kind_of}
use Rattle.wgsl.specs.Size.{present, width_of, vector_size, vector_align, size_of, align_of, min_size_of, inner_numbers_of, has_layout}
use Rattle.wgsl.specs.File.{TypeEntry, between}
use Rattle.wgsl.specs.Rule.{and_then, unused, scalar_in, vector_made, is_allowed, given_fits}
use Rattle.wgsl.specs.Place.{words_for}
use Rattle.wgsl.proofs.Absent.{true_not_false}
use Rattle.layout_values.proofs.VerdictOn.{present_positive, fits_small, layout_closed, layout_none, value_is, unit_laid, unit_none, verdict_laid, made_used, made_rule, made_over}
use Rattle.layout_values.proofs.ScalarMade.{width_bounded, scalar_known, scalar_kind_lem}
use Rattle.layout_values.proofs.VectorAlign.{vector_size_lem, times_bounded, size_present, align_absent}
use Rattle.layout_values.specs.Value.{stored_width, scalar_words, narrow_of, parts_of, value_of, made_of, stride_in}
use Rattle.layout_values.specs.declared.value.Value.{Value}
use Rattle.layout_values.specs.declared.value.Broken.TheVariants.{Rule}

module _ (t : Ty) (l : Value) (is : l ≡ value_of l.stride l.reference t) (e : TypeEntry) (long r : ℕ) where
  pub vector_used : unused (e.columns ∷ e.count ∷ []) ≡ false → made_of long r (vector_made (some t) e) ≡ Err Rule
  unfolding vector_made
  vector_used h = made_used _ _ _ h

  -- "reference to a kind 0-6", or 13-15
  pub vector_over : is_scalar_kind l.kind ≡ false → made_of long r (vector_made (some t) e) ≡ Err Rule
  unfolding vector_made and_then
  vector_over h =
      made_rule _ _ _ (scalar_in t) (vector e.rows) (λ s f. true_not_false (scalar_kind_lem t l s is f).1 h)

  -- "rows 2-4"
  pub vector_low : e.rows < 2 → made_of long r (vector_made (some t) e) ≡ Err Rule
  unfolding vector_made and_then is_allowed between
  vector_low h = made_rule _ _ _ (scalar_in t) (vector e.rows) (λ s f. rw (lt-leb 2 e.rows h))

  pub vector_high : 4 < e.rows → made_of long r (vector_made (some t) e) ≡ Err Rule
  unfolding vector_made and_then is_allowed between
  vector_high h =
      made_rule _ _ _ (scalar_in t) (vector e.rows) (λ s f. rw (le-leb 2 e.rows (omega arith), lt-leb e.rows 4 h))

  module _ (zeros : unused (e.columns ∷ e.count ∷ []) ≡ true) (scalars : is_scalar_kind l.kind ≡ true) (low : 2 ≤ e.rows) (high : e.rows ≤ 4) (w a : ℕ) (width : (s : Scalar) → scalar_kind s ≡ l.kind → w ≡ present (width_of s)) (align : (s : Scalar) → scalar_kind s ≡ l.kind → a ≡ present (vector_align e.rows s)) (narrow : a ≤ 32) where
    size_is : (s : Scalar) → scalar_kind s ≡ l.kind → e.rows * w ≡ present (vector_size e.rows s)
    size_is s k = rw (width s k) (sym (vector_size_lem e.rows s))

    vector_verdict : (v : Value) → v.reference ≡ r → ((s : Scalar) → scalar_kind s ≡ l.kind → l.narrow ≡ stored_width s → v ≡ value_of long v.reference (vector e.rows s)) → made_of long r (vector_made (some t) e) ≡ Ok v
    unfolding vector_made and_then is_allowed between given_fits size_of align_of min_size_of inner_numbers_of
    vector_verdict v q h =
        let x = scalar_known t l is scalars in
        let s = x.scalar in
        let k = x.kind_is in
        let size : present (vector_size e.rows s) ≤ 128 =
        omega (arith, vector_size_lem e.rows s, times_bounded e.rows (present (width_of s)) high (width_bounded s)) in
        made_over _ _ (vector e.rows) zeros x.found
        ∙ rw (← q)
        (verdict_laid long (vector e.rows s) v (rw (le-leb 2 e.rows low, le-leb e.rows 4 high)) refl
        (fits_small (vector e.rows s) refl size (omega (arith, align s k)) refl) (h s k x.narrow_is))

    -- The layout of a vector. Over abstract scalars, and of three scalars of 64 bits, it has no alignment: then it has no words.
    pub vector_laid : (u : ℕ) → u ≡ cond (eqb a 0) 0 (words_for w) → made_of long r (vector_made (some t) e) ≡ Ok (record { kind = 7; narrow = l.narrow; reference = r; count = e.rows; unit = u; stride = w; size = e.rows * w; align = a })
    unfolding kind_of narrow_of parts_of stride_in size_of align_of is_open
    vector_laid u unit =
        vector_verdict _ refl
        (λ s k b. value_is long (vector e.rows s) _ refl b refl (unit ∙ units s a (width s k) (align s k)) (width s k) (size_is s k)
        (align s k))
      where
        units : (s : Scalar) (a : ℕ) → w ≡ present (width_of s) → a ≡ present (vector_align e.rows s) → cond (eqb a 0) 0 (words_for w) ≡ cond (has_layout (vector e.rows s)) (scalar_words s) 0
        units s zero p q =
            rw (← p) (unit_none (vector e.rows s) 0 (words_for w) (layout_none (vector e.rows s) (align_absent e.rows s low (sym q))) refl)
        units s (suc m) p q =
            let there : 0 < present (vector_align e.rows s) = omega arith in
            rw (← p) (unit_laid (vector e.rows s) (suc m) (words_for w)
            (layout_closed (vector e.rows s) (present_positive _ there) (size_present e.rows s there) refl)
            (λ z. omega arith))
