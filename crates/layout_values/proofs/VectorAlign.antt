-- Sizes and alignments of vectors (crates/wgsl, specs/Size), as the code has them: 0 is an absent one.
--
-- In order: products; sizes; alignments; which are absent.
-- Assumes nothing.
use Prim.Native.Nat.{ℕ, ◌*◌, ◌<◌, ◌≤◌}
use mathlib.Core.Bool.{Bool, true, false, cond}
use mathlib.Core.Option.{Option, none, some}
use mathlib.Core.Path.{◌≡◌, refl, sym, ◌∙◌}
use native.Mathlib.Nat.{mul-zero, mul-le-mul}
use native.Mathlib.Omega.{arith}
use borrow.Author.Tests.{eq-eqb, ne_eqb}
use lib.Dec.{eqb}
use mir.Syntax.{w32}
use mir.Val.{Fits}
use mir.Facts.{Fits-le, Fits-lit}
use Rattle.wgsl.specs.Types.{Scalar, bool, i32, u32, f32, f16, abstract_int, abstract_float, i64, u64, f64}
use Rattle.wgsl.proofs.Absent.{true_not_false}
use Rattle.wgsl.specs.Size.{both, is_present, present, width_of, vec3_align, vector_size, vector_align}

-- ---- products

pub times_present : (n : ℕ) (x : Option ℕ) → present (both ◌*◌ (some n) x) ≡ n * present x
unfolding both present
times_present n (some w) = refl
times_present n none = sym (mul-zero n)

pub times_bounded : (n w : ℕ) → n ≤ 4 → w ≤ 8 → n * w ≤ 32
times_bounded n w h k = mul-le-mul h k

pub times_fits : (n w : ℕ) → n ≤ 4 → w ≤ 32 → Fits w32 (n * w)
times_fits n w h k = Fits-le (mul-le-mul h k) (Fits-lit tt)

-- ---- sizes and alignments

-- "Vector of n: size n x scalar size."
pub vector_size_lem : (n : ℕ) (s : Scalar) → present (vector_size n s) ≡ n * present (width_of s)
unfolding vector_size
vector_size_lem n s = times_present n (width_of s)

-- "Alignment equals size for n = 2, 4."
pub align_even : (n w : ℕ) (s : Scalar) → w ≡ present (width_of s) → (n ≡ 3 → ⊥) → present (vector_align n s) ≡ n * w
unfolding vector_align
align_even n w s e h = rw (ne_eqb n 3 h, e) (vector_size_lem n s)

align_three : (n : ℕ) (s : Scalar) → n ≡ 3 → vector_align n s ≡ vec3_align s
unfolding vector_align
align_three n s h = rw (eq-eqb n 3 h)

-- "For n = 3: 16 over i32, u32, f32; 8 over f16", and over bool as over i32
pub align_four : (n w : ℕ) (s : Scalar) → w ≡ present (width_of s) → n ≡ 3 → (w ≡ 8 → ⊥) → present (vector_align n s) ≡ 4 * w
unfolding vec3_align width_of present
align_four n w s e h narrow = rw (align_three n s h, e) (go s (λ q. narrow (e ∙ q)))
  where
    go : (s : Scalar) → (present (width_of s) ≡ 8 → ⊥) → present (vec3_align s) ≡ 4 * present (width_of s)
    go bool n = refl
    go i32 n = refl
    go u32 n = refl
    go f32 n = refl
    go f16 n = refl
    go abstract_int n = refl
    go abstract_float n = refl
    go i64 n = absurd (n refl)
    go u64 n = absurd (n refl)
    go f64 n = absurd (n refl)

-- E6: "of 3 .. no alignment"
pub align_eight : (n w : ℕ) (s : Scalar) → w ≡ present (width_of s) → n ≡ 3 → w ≡ 8 → present (vector_align n s) ≡ 0
unfolding vec3_align width_of present
align_eight n w s e h eight = rw (align_three n s h) (go s (sym e ∙ eight))
  where
    go : (s : Scalar) → present (width_of s) ≡ 8 → present (vec3_align s) ≡ 0
    go bool q = absurd (omega arith)
    go i32 q = absurd (omega arith)
    go u32 q = absurd (omega arith)
    go f32 q = absurd (omega arith)
    go f16 q = absurd (omega arith)
    go abstract_int q = refl
    go abstract_float q = refl
    go i64 q = refl
    go u64 q = refl
    go f64 q = refl

-- ---- which are absent

-- A vector with an alignment has a size.
pub size_present : (n : ℕ) (s : Scalar) → 0 < present (vector_align n s) → is_present (vector_size n s) ≡ true
unfolding vector_align vector_size vec3_align width_of both present is_present
size_present n s h = go s (eqb n 3) h
  where
    go : (s : Scalar) (b : Bool) → 0 < present (cond b (vec3_align s) (both ◌*◌ (some n) (width_of s))) → is_present (both ◌*◌ (some n) (width_of s)) ≡ true
    go bool b h = refl
    go i32 b h = refl
    go u32 b h = refl
    go f32 b h = refl
    go f16 b h = refl
    go abstract_int true h = absurd (omega arith)
    go abstract_int false h = absurd (omega arith)
    go abstract_float true h = absurd (omega arith)
    go abstract_float false h = absurd (omega arith)
    go i64 b h = refl
    go u64 b h = refl
    go f64 b h = refl

-- and its scalar has one.
pub width_there : (n : ℕ) (s : Scalar) → 0 < present (vector_align n s) → 0 < present (width_of s)
unfolding present width_of vector_size both is_present
width_there n s h = go s (size_present n s h)
  where
    go : (s : Scalar) → is_present (vector_size n s) ≡ true → 0 < present (width_of s)
    go bool h = omega arith
    go i32 h = omega arith
    go u32 h = omega arith
    go f32 h = omega arith
    go f16 h = omega arith
    go abstract_int h = true_not_false h refl
    go abstract_float h = true_not_false h refl
    go i64 h = omega arith
    go u64 h = omega arith
    go f64 h = omega arith

-- No alignment is 0.
pub align_absent : (n : ℕ) (s : Scalar) → 2 ≤ n → present (vector_align n s) ≡ 0 → is_present (vector_align n s) ≡ false
unfolding vector_align vector_size vec3_align width_of both present is_present
align_absent n s l h = go s (eqb n 3) h
  where
    go : (s : Scalar) (b : Bool) → present (cond b (vec3_align s) (both ◌*◌ (some n) (width_of s))) ≡ 0 → is_present (cond b (vec3_align s) (both ◌*◌ (some n) (width_of s))) ≡ false
    go bool true h = absurd (omega arith)
    go bool false h = absurd (omega arith)
    go i32 true h = absurd (omega arith)
    go i32 false h = absurd (omega arith)
    go u32 true h = absurd (omega arith)
    go u32 false h = absurd (omega arith)
    go f32 true h = absurd (omega arith)
    go f32 false h = absurd (omega arith)
    go f16 true h = absurd (omega arith)
    go f16 false h = absurd (omega arith)
    go abstract_int true h = refl
    go abstract_int false h = refl
    go abstract_float true h = refl
    go abstract_float false h = refl
    go i64 true h = refl
    go i64 false h = absurd (omega arith)
    go u64 true h = refl
    go u64 false h = absurd (omega arith)
    go f64 true h = refl
    go f64 false h = absurd (omega arith)
