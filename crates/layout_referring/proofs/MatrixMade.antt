-- What becomes of a matrix's entry (crates/layout_values, specs/Value), by its fields and by the layout that it refers to.
--
-- In order: the scalars of a matrix; the ways to break a rule; the layout.
-- Assumes nothing.
use Rattle.std.specs.Prelude.{Err, Ok}
use Prim.Native.Nat.{ℕ, zero, suc, ◌*◌, ◌<◌, ◌≤◌}
use mathlib.Core.Bool.{true, false, cond, ◌&&◌, and-false}
use mathlib.Core.List.{[], ◌∷◌}
use mathlib.Core.Option.{Option, none, some}
use mathlib.Core.Path.{◌≡◌, refl, ap, sym, ◌∙◌}
use native.Mathlib.Nat.{mul-le-mul, mul-one}
use native.Mathlib.Omega.{arith}
use borrow.Author.Tests.{le-leb, lt-leb}
use lib.Dec.{eqb}
use Rattle.wgsl.specs.Types.{Scalar, bool, i32, u32, f32, f16, abstract_int, abstract_float, i64, u64, f64, Ty, matrix, is_open, scalar_kind, is_scalar_kind, kind_of}
use Rattle.wgsl.specs.Size.{both, is_present, present, vector_align, size_of, align_of, min_size_of, inner_numbers_of, has_layout}
use Rattle.wgsl.specs.File.{TypeEntry, between}
use Rattle.wgsl.specs.Rule.{and_then, unused, scalar_in, matrix_made, is_matrix_scalar, is_allowed, given_fits}
use Rattle.wgsl.proofs.Count.{matrix_word}
use Rattle.wgsl.proofs.ScalarRank.{kind_same}
use Rattle.layout_values.proofs.VerdictOn.{present_positive, fits_small, layout_closed, layout_none, value_is, unit_laid, verdict_laid, made_used, made_rule, made_over}
use Rattle.layout_values.proofs.ScalarMade.{scalar_known, scalar_kind_lem}
use Rattle.layout_values.proofs.VectorAlign.{times_present, align_absent, width_there}
use Rattle.layout_values.specs.Value.{stored_width, scalar_words, narrow_of, parts_of, value_of, made_of, stride_in}
use Rattle.layout_values.specs.declared.value.Value.{Value}
use Rattle.layout_values.specs.declared.value.Broken.TheVariants.{Rule}

-- ---- the scalars of a matrix

-- "f32, f16 or abstract float", by their kinds
pub is_f32 : (s : Scalar) → scalar_kind s ≡ 3 → is_matrix_scalar s ≡ true
unfolding scalar_kind is_matrix_scalar
is_f32 s e = rw (kind_same {a = s} {b = f32} e)

pub is_f16 : (s : Scalar) → scalar_kind s ≡ 4 → is_matrix_scalar s ≡ true
unfolding scalar_kind is_matrix_scalar
is_f16 s e = rw (kind_same {a = s} {b = f16} e)

-- and of the others the last alone
pub is_abstract : (s : Scalar) (kind : ℕ) → scalar_kind s ≡ kind → (kind ≡ 3 → ⊥) → (kind ≡ 4 → ⊥) → is_matrix_scalar s ≡ eqb kind 6
unfolding scalar_kind is_matrix_scalar
is_abstract s kind e x y = rw (← e) (go s (λ q. x (sym e ∙ q)) (λ q. y (sym e ∙ q)))
  where
    go : (s : Scalar) → (scalar_kind s ≡ 3 → ⊥) → (scalar_kind s ≡ 4 → ⊥) → is_matrix_scalar s ≡ eqb (scalar_kind s) 6
    go bool x y = refl
    go i32 x y = refl
    go u32 x y = refl
    go f32 x y = absurd (x refl)
    go f16 x y = absurd (y refl)
    go abstract_int x y = refl
    go abstract_float x y = refl
    go i64 x y = refl
    go u64 x y = refl
    go f64 x y = refl

times_there : (n : ℕ) (x : Option ℕ) → is_present x ≡ true → is_present (both ◌*◌ (some n) x) ≡ true
unfolding both is_present
times_there n (some a) h = refl
times_there n none h = h

-- ---- the entry

module _ (t : Ty) (l : Value) (is : l ≡ value_of l.stride l.reference t) (e : TypeEntry) (long r : ℕ) where
  pub matrix_used : unused (e.count ∷ []) ≡ false → made_of long r (matrix_made (some t) e) ≡ Err Rule
  unfolding matrix_made
  matrix_used h = made_used _ _ _ h

  -- "reference to f32, f16 or abstract float"
  pub matrix_over : ((s : Scalar) → scalar_kind s ≡ l.kind → is_matrix_scalar s ≡ false) → made_of long r (matrix_made (some t) e) ≡ Err Rule
  unfolding matrix_made and_then is_allowed
  matrix_over h =
      made_rule _ _ _ (scalar_in t) (matrix e.columns e.rows)
      (λ s f. rw (h s (scalar_kind_lem t l s is f).0) (and-false (between 2 4 e.columns && between 2 4 e.rows)))

  -- "columns 2-4"
  pub columns_low : e.columns < 2 → made_of long r (matrix_made (some t) e) ≡ Err Rule
  unfolding matrix_made and_then is_allowed between
  columns_low h =
      made_rule _ _ _ (scalar_in t) (matrix e.columns e.rows) (λ s f. rw (lt-leb 2 e.columns h))

  pub columns_high : 4 < e.columns → made_of long r (matrix_made (some t) e) ≡ Err Rule
  unfolding matrix_made and_then is_allowed between
  columns_high h =
      made_rule _ _ _ (scalar_in t) (matrix e.columns e.rows)
      (λ s f. rw (le-leb 2 e.columns (omega arith), lt-leb e.columns 4 h))

  module _ (left : 2 ≤ e.columns) (right : e.columns ≤ 4) where
    -- "rows 2-4"
    pub rows_low : e.rows < 2 → made_of long r (matrix_made (some t) e) ≡ Err Rule
    unfolding matrix_made and_then is_allowed between
    rows_low h =
        made_rule _ _ _ (scalar_in t) (matrix e.columns e.rows)
        (λ s f. rw (le-leb 2 e.columns left, le-leb e.columns 4 right, lt-leb 2 e.rows h))

    pub rows_high : 4 < e.rows → made_of long r (matrix_made (some t) e) ≡ Err Rule
    unfolding matrix_made and_then is_allowed between
    rows_high h =
        made_rule _ _ _ (scalar_in t) (matrix e.columns e.rows)
        (λ s f. rw (
          le-leb 2 e.columns left,
          le-leb e.columns 4 right,
          le-leb 2 e.rows (omega arith),
          lt-leb e.rows 4 h,
        ))

    module _ (zeros : unused (e.count ∷ []) ≡ true) (float : (s : Scalar) → scalar_kind s ≡ l.kind → is_matrix_scalar s ≡ true) (scalars : is_scalar_kind l.kind ≡ true) (top : 2 ≤ e.rows) (bottom : e.rows ≤ 4) (a : ℕ) (align : (s : Scalar) → scalar_kind s ≡ l.kind → a ≡ present (vector_align e.rows s)) (narrow : a ≤ 32) where
      -- "Matrix: columns x the alignment of a column vector"
      size_is : (s : Scalar) → scalar_kind s ≡ l.kind → present (both ◌*◌ (some e.columns) (vector_align e.rows s)) ≡ e.columns * a
      size_is s k = rw (align s k) (times_present e.columns (vector_align e.rows s))

      matrix_verdict : (v : Value) → v.reference ≡ r → ((s : Scalar) → scalar_kind s ≡ l.kind → l.narrow ≡ stored_width s → v ≡ value_of long v.reference (matrix e.columns e.rows s)) → made_of long r (matrix_made (some t) e) ≡ Ok v
      unfolding matrix_made and_then is_allowed between given_fits size_of align_of min_size_of inner_numbers_of
      matrix_verdict v q h =
          let x = scalar_known t l is scalars in
          let s = x.scalar in
          let k = x.kind_is in
          let size : e.columns * a ≤ 128 = mul-le-mul right narrow in
          made_over _ _ (matrix e.columns e.rows) zeros x.found
          ∙ rw (← q)
          (verdict_laid long (matrix e.columns e.rows s) v
          (rw (le-leb 2 e.columns left, le-leb e.columns 4 right, le-leb 2 e.rows top, le-leb e.rows 4 bottom)
          (float s k))
          refl
          (fits_small (matrix e.columns e.rows s) refl (rw (size_is s k) size) (omega (arith, align s k)) refl)
          (h s k x.narrow_is))

      -- The layout of a matrix: one with no alignment has no words.
      pub matrix_laid : (u : ℕ) → u ≡ cond (eqb a 0) 0 e.rows → made_of long r (matrix_made (some t) e) ≡ Ok (record { kind = 8; narrow = l.narrow; reference = r; count = e.columns; unit = u; stride = a; size = e.columns * a; align = a })
      unfolding kind_of narrow_of parts_of stride_in size_of align_of is_open
      matrix_laid u unit =
          matrix_verdict _ refl
          (λ s k b. value_is long (matrix e.columns e.rows s) _ refl b refl (unit ∙ units s a k (align s k)) (align s k)
          (sym (size_is s k)) (align s k))
        where
          units : (s : Scalar) (a : ℕ) → scalar_kind s ≡ l.kind → a ≡ present (vector_align e.rows s) → cond {A = ℕ} (eqb a 0) 0 e.rows ≡ cond (has_layout (matrix e.columns e.rows s)) (e.rows * scalar_words s) 0
          units s zero k q =
              rw (layout_none (matrix e.columns e.rows s) (align_absent e.rows s top (sym q)))
          units s (suc m) k q =
              let there = present_positive (vector_align e.rows s) (omega arith) in
              let one : e.rows * scalar_words s ≡ e.rows = ap (λ (n : ℕ). e.rows * n) (matrix_word s (float s k) (width_there e.rows s (omega arith))) ∙ mul-one e.rows in
              rw one (unit_laid (matrix e.columns e.rows s) (suc m) e.rows
              (layout_closed (matrix e.columns e.rows s) there (times_there e.columns _ there) refl)
              (λ z. omega arith))
