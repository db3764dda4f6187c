-- The stride of a type (crates/wgsl, specs/Size, `own_stride_of`), read from its value.
--
-- In order: of a runtime array; of a type with no size or no alignment; of one with both; of an element.
-- Assumes nothing.
use Prim.Native.Nat.{ℕ, ◌<◌, ◌≤◌, max}
use mathlib.Core.Bool.{true, false}
use mathlib.Core.Logic.{◌⊎◌, inl, inr}
use mathlib.Core.Option.{none, some}
use mathlib.Core.Path.{◌≡◌, refl, sym, ap, ◌∙◌}
use native.Mathlib.Omega.{arith}
use Rattle.wgsl.specs.Round.{up}
use Rattle.wgsl.specs.Types.{Ty, scalar, vector, matrix, array, runtime, atomic, struct, is_runtime, is_open, everywhere, kind_of}
use Rattle.wgsl.specs.Size.{present, size_of, align_of, own_stride_of}
use Rattle.wgsl.specs.Rule.{is_well_formed}
use Rattle.wgsl.proofs.Absent.{present_is}
use Rattle.wgsl.proofs.ScalarKind.{no_scalar_kind}
use Rattle.wgsl.proofs.Tail.{closed_not_runtime}
use Rattle.wgsl.proofs.Stride.{stride_is, runtime_stride, up_larger, stride_limit}
use Rattle.layout_values.specs.Value.{parts_of, value_of, stride_in}
use Rattle.layout_values.specs.declared.value.Value.{Value}
use Rattle.layout_values.proofs.ValueOf.{unaligned, unsized, aligned, sized, Element}

of_runtime : (long : ℕ) (t : Ty) → everywhere is_well_formed t ≡ true → kind_of t ≡ 10 → present (stride_in long t) ≡ present (own_stride_of t)
unfolding kind_of parts_of stride_in own_stride_of
of_runtime long (scalar s) w h = absurd (no_scalar_kind s 10 (omega arith) (omega arith) h)
of_runtime long (vector n s) w h = absurd (omega arith)
of_runtime long (matrix c r s) w h = absurd (omega arith)
of_runtime long (array n t) w h = absurd (omega arith)
of_runtime long (runtime t) w h = ap present (sym (runtime_stride t w).array_stride)
of_runtime long (atomic s) w h = absurd (omega arith)
of_runtime long (struct k ms) w h = absurd (omega arith)

no_runtime : (t : Ty) → (kind_of t ≡ 10 → ⊥) → is_runtime t ≡ false
unfolding kind_of is_runtime
no_runtime (scalar s) h = refl
no_runtime (vector n s) h = refl
no_runtime (matrix c r s) h = refl
no_runtime (array n t) h = refl
no_runtime (runtime t) h = absurd (h refl)
no_runtime (atomic s) h = refl
no_runtime (struct k ms) h = refl

module _ (t : Ty) (l : Value) (is : l ≡ value_of l.stride l.reference t) (w : everywhere is_well_formed t ≡ true) where
  kind_is : l.kind ≡ kind_of t
  unfolding value_of
  kind_is = ap (λ (x : Value). x.kind) is

  -- "for a runtime array, its element's stride"
  pub stride_runtime : l.kind ≡ 10 → l.stride ≡ present (own_stride_of t)
  unfolding value_of
  stride_runtime h = ap (λ (x : Value). x.stride) is ∙ of_runtime l.stride t w (sym kind_is ∙ h)

  module _ (other : l.kind ≡ 10 → ⊥) where
    absent : (align_of t ≡ none) ⊎ (size_of t ≡ none) → 0 ≡ present (own_stride_of t)
    unfolding present
    absent h = sym (ap present ((stride_is t).absent (no_runtime t (λ e. other (kind_is ∙ e))) h))

    -- "else absent"
    pub stride_unsized : l.size ≡ 0 → 0 ≡ present (own_stride_of t)
    stride_unsized h = absent (inr (unsized t l is w h))

    pub stride_unaligned : l.align ≡ 0 → 0 ≡ present (own_stride_of t)
    stride_unaligned h = absent (inl (unaligned t l is w h))

  -- "for any type with size and alignment, the size rounded up to the alignment": the larger of the two
  module _ (size : l.size ≡ 0 → ⊥) (align : l.align ≡ 0 → ⊥) where
    pub stride_larger : (n : ℕ) → n ≡ max l.align l.size → n ≡ present (own_stride_of t)
    stride_larger n h =
        let a = aligned t l is w align in
        let z = sized t l is w size in
        h ∙ sym (up_larger t l.align l.size w a z)
        ∙ sym (ap present ((stride_is t).rounded l.align l.size a z) ∙ present_is _)

-- ---- of an element

-- "Stride of an array: up(element alignment, element size)" is the element's number, within the limit.
pub element_stride : (t : Ty) (l : Value) → Element t l → (n : ℕ) → n ≡ present (own_stride_of t) → (up l.align l.size ≡ n) × (n ≤ 4294967295)
element_stride t l x n e =
    let is : own_stride_of t ≡ some (up l.align l.size) = (stride_is t).rounded _ _ x.align_is x.size_is in
    let same : n ≡ up l.align l.size = e ∙ ap present is ∙ present_is _ in
    (sym same, rw same (stride_limit t _ x.well is))

-- It is absent where the alignment is.
pub unaligned_stride : (t : Ty) (n : ℕ) → is_open t ≡ false → align_of t ≡ none → n ≡ present (own_stride_of t) → n ≡ 0
unfolding present
unaligned_stride t n o a e = e ∙ ap present ((stride_is t).absent (closed_not_runtime t o) (inl a))
