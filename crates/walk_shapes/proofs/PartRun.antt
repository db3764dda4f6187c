-- Where the words of a storable type and of its parts lie (crates/layout_values, specs/Value; crates/walk_trees, specs/Slot).
--
-- In order: a type whose words fill its size; the parts of a type, how many there are, and the width of their words; their words, their
-- bytes and their places; a type that is one run, whatever the number of its elements.
-- Assumes nothing.
use Prim.Native.Nat.{ℕ, ◌+◌, ◌*◌, ◌<◌, ◌≤◌}
use mathlib.Core.Bool.{Bool, true, false, cond}
use mathlib.Core.List.{append-nil}
use mathlib.Core.Option.{Option, none, some}
use mathlib.Core.Path.{◌≡◌, refl, sym, ap, ◌∙◌}
use native.Mathlib.Omega.{arith}
use native.Mathlib.Nat.{one-mul, mul_assoc}
use borrow.Author.Tests.{eqb-true}
use lib.Dec.{eqb}
use lib.ListN.{length}
use Rattle.wgsl.specs.Types.{Scalar, Ty, scalar, vector, matrix, array, runtime, atomic, struct, everywhere}
use Rattle.wgsl.specs.Size.{present, width_of, size_of, align_of, stride_of, is_stored, is_plain}
use Rattle.wgsl.specs.Place.{extent_of, column, shape_of, span_of, repeated, places_of}
use Rattle.wgsl.specs.Shapes.{shape_words}
use Rattle.wgsl.proofs.Absent.{present_is}
use Rattle.wgsl.proofs.Passed.{matrix_passed}
use Rattle.wgsl.proofs.Align.{vector_align_lem}
use Rattle.wgsl.proofs.Shape.{places_ordered}
use Rattle.wgsl.proofs.Tail.{sized_closed, sized_takes}
use Rattle.wgsl.proofs.Closed.{closed_shape}
use Rattle.wgsl.proofs.Count.{places_words}
use Rattle.runs.specs.Run.{run_places, part_places}
use Rattle.runs.proofs.OverPlaces.{parts_touch}
use Rattle.layout_values.specs.Value.{stored_width, scalar_words, narrow_of, fixed_words, parts_of, value_of}
use Rattle.layout_values.proofs.WordsIn.{value_words}
use Rattle.walk_trees.proofs.TreeOne.{repeated_alike}
use Rattle.walk_trees.specs.Slot.{touching, packed_as}
use Rattle.walk_shapes.proofs.Widths.{scalar_fills, scalar_run, shape_from, places_from, ordered_run}
use Rattle.walk_shapes.proofs.Kept.{Kept, kept_words, kept_laid, array_element, runtime_element, element_shape, element_fits}

-- ---- a type whose words fill its size

-- the width of its words; else 0
unfoldable pub packed_of : Ty → ℕ
packed_of t = cond (eqb (present (size_of t)) 0) 0 (touching (present (size_of t)) (fixed_words t) (narrow_of t))

pub packed_value : (long r : ℕ) (t : Ty) → packed_as (value_of long r t) ≡ packed_of t
unfolding packed_as packed_of value_of
packed_value long r t = ap (λ (n : ℕ). cond (eqb (present (size_of t)) 0) 0 (touching (present (size_of t)) n (narrow_of t))) (value_words long r t)

record Packed (t : Ty) : Type 0 where
  width_is : packed_of t ≡ narrow_of t
  sized : size_of t ≡ some (fixed_words t * narrow_of t)

packed_told : (t : Ty) → 0 < packed_of t → Packed t
unfolding packed_of touching present
packed_told t h = go (size_of t) refl h
  where
    told : (z : ℕ) (b c : Bool) → eqb z (fixed_words t * narrow_of t) ≡ c → 0 < cond b 0 (cond c (narrow_of t) 0) → (z ≡ fixed_words t * narrow_of t) × (cond b 0 (cond c (narrow_of t) 0) ≡ narrow_of t)
    told z true c e h = absurd (omega arith)
    told z false true e h = (eqb-true z _ e, refl)
    told z false false e h = absurd (omega arith)

    go : (o : Option ℕ) → size_of t ≡ o → 0 < cond (eqb (present o) 0) 0 (cond (eqb (present o) (fixed_words t * narrow_of t)) (narrow_of t) 0) → Packed t
    go (some z) e h =
        let x = told z (eqb z 0) (eqb z (fixed_words t * narrow_of t)) refl h in
        record { width_is = rw e x.1; sized = e ∙ ap some x.0 }
    go none e h = absurd (omega arith)

pub packed_narrow : (t : Ty) → 0 < packed_of t → packed_of t ≡ narrow_of t
packed_narrow t h = (packed_told t h).width_is

module _ (t : Ty) (k : Kept t) (h : 0 < packed_of t) where
  takes : (n : ℕ) → extent_of n t ≡ fixed_words t * narrow_of t
  takes n = sized_takes n t _ k.well (packed_told t h).sized

  -- Such words take the type's bytes and no more,
  pub run_span : fixed_words t * narrow_of t ≡ span_of (shape_of 0 t)
  run_span = sym ((kept_laid k 0).span ∙ takes 0)

  -- and lie one after the other,
  pub run_places_lem : (at : ℕ) → places_of (shape_of 0 t) at ≡ run_places (fixed_words t) (narrow_of t) at
  run_places_lem at =
      let x = shape_of 0 t in
      let count : length (places_of x at) ≡ fixed_words t = places_words x at ∙ sym (kept_words k) in
      ordered_run (places_of x at) at (at + span_of x) (narrow_of t) (places_ordered x at (kept_laid k 0).sound)
      (places_from (narrow_of t) x at (shape_from 0 t k.plain)) (rw count (omega (arith, run_span)))
      ∙ ap (λ (n : ℕ). run_places n (narrow_of t) at) count

  -- whatever the number of elements, for it has none.
  pub packed_all : (n : ℕ) → ((at : ℕ) → places_of (shape_of n t) at ≡ run_places (fixed_words t) (narrow_of t) at) × (extent_of n t ≡ fixed_words t * narrow_of t)
  packed_all n =
      let closed = sized_closed t _ k.well (packed_told t h).sized in
      (λ at. rw (closed_shape t k.well closed n 0) (run_places_lem at), takes n)

-- ---- the parts of a type

-- how many there are, where its runtime array has n elements
unfoldable pub parts_in : ℕ → Ty → ℕ
parts_in n (scalar s) = 1
parts_in n (vector k s) = k
parts_in n (matrix c r s) = c
parts_in n (array k t) = k
parts_in n (runtime t) = n
parts_in n (atomic s) = 1
parts_in n (struct k ms) = 0

-- the width of their words, where those of each lie one after the other; else 0
unfoldable pub part_run : Ty → ℕ
part_run (scalar s) = stored_width s
part_run (vector k s) = stored_width s
part_run (matrix c r s) = stored_width s
part_run (array k t) = packed_of t
part_run (runtime t) = packed_of t
part_run (atomic s) = stored_width s
part_run (struct k ms) = 0

pub part_narrow : (t : Ty) → 0 < part_run t → part_run t ≡ narrow_of t
unfolding part_run narrow_of
part_narrow (scalar s) h = refl
part_narrow (vector k s) h = refl
part_narrow (matrix c r s) h = refl
part_narrow (array k t) h = packed_narrow t h
part_narrow (runtime t) h = packed_narrow t h
part_narrow (atomic s) h = refl
part_narrow (struct k ms) h = absurd (omega arith)

-- ---- their words, bytes and places

pub parts_words : (n : ℕ) (t : Ty) → Kept t → 0 < part_run t → shape_words (shape_of n t) ≡ parts_in n t * (parts_of t).words
unfolding shape_of column shape_words parts_in parts_of part_run
parts_words n (scalar s) k h = sym (one-mul (scalar_words s))
parts_words n (vector c s) k h = refl
parts_words n (matrix c r s) k h = refl
parts_words n (array c t) k h =
    let x = array_element k in
    rw (element_shape x n, kept_words x.element)
parts_words n (runtime t) k h =
    let x = runtime_element k in
    rw (element_shape x n, kept_words x.element)
parts_words n (atomic s) k h = sym (one-mul (scalar_words s))
parts_words n (struct c ms) k h = absurd (omega arith)

pub parts_span : (n : ℕ) (t : Ty) → 0 < part_run t → span_of (shape_of n t) ≡ parts_in n t * present (parts_of t).stride
unfolding shape_of column span_of parts_in parts_of part_run
parts_span n (scalar s) h = sym (one-mul (present (width_of s)))
parts_span n (vector c s) h = refl
parts_span n (matrix c r s) h = refl
parts_span n (array c t) h = refl
parts_span n (runtime t) h = refl
parts_span n (atomic s) h = sym (one-mul (present (width_of s)))
parts_span n (struct c ms) h = absurd (omega arith)

-- The words of a part fit its stride.
pub parts_fit : (t : Ty) → Kept t → 0 < part_run t → (parts_of t).words * narrow_of t ≤ present (parts_of t).stride
unfolding parts_of narrow_of part_run align_of everywhere is_plain
parts_fit (scalar s) k h = omega (arith, scalar_fills s k.plain)
parts_fit (vector c s) k h = omega (arith, scalar_fills s k.plain)
parts_fit (matrix c r s) k h =
    let a = vector_align_lem r s k.aligned (matrix_passed c r s k.well).1 k.aligned_is in
    rw (mul_assoc r (scalar_words s) (stored_width s), scalar_fills s k.plain, k.aligned_is, a.width_is, present_is k.aligned, present_is a.width) a.not_below
parts_fit (array c t) k h =
    let x = array_element k in
    omega (arith, run_span t x.element h, element_fits x)
parts_fit (runtime t) k h =
    let x = runtime_element k in
    omega (arith, run_span t x.element h, element_fits x)
parts_fit (atomic s) k h = omega (arith, scalar_fills s k.plain)
parts_fit (struct c ms) k h = absurd (omega arith)

-- "a column has rows x scalar size": its words lie one after the other
column_run : (r : ℕ) (s : Scalar) (at : ℕ) → is_stored s ≡ true → places_of (column r s) at ≡ run_places (r * scalar_words s) (stored_width s) at
unfolding column places_of part_places
column_run r s at e =
    repeated_alike r _ _ _ at (λ p. scalar_run s p e)
    ∙ ap (λ (stride : ℕ). part_places r (scalar_words s) (stored_width s) stride at) (sym (scalar_fills s e))
    ∙ parts_touch r (scalar_words s) (stored_width s) at

pub parts_places : (n : ℕ) (t : Ty) → Kept t → 0 < part_run t → (at : ℕ) → places_of (shape_of n t) at ≡ part_places (parts_in n t) (parts_of t).words (narrow_of t) (present (parts_of t).stride) at
unfolding shape_of column places_of repeated part_places parts_in parts_of narrow_of part_run everywhere is_plain
parts_places n (scalar s) k h at = scalar_run s at k.plain ∙ sym (append-nil _)
parts_places n (vector c s) k h at = repeated_alike c _ _ _ at (λ p. scalar_run s p k.plain)
parts_places n (matrix c r s) k h at = repeated_alike c _ _ _ at (λ p. column_run r s p k.plain)
parts_places n (array c t) k h at =
    let x = array_element k in
    repeated_alike c (present (stride_of t)) _ _ at (λ p. rw (element_shape x n) (run_places_lem t x.element h p))
parts_places n (runtime t) k h at =
    let x = runtime_element k in
    repeated_alike n (present (stride_of t)) _ _ at (λ p. rw (element_shape x n) (run_places_lem t x.element h p))
parts_places n (atomic s) k h at = scalar_run s at k.plain ∙ sym (append-nil _)
parts_places n (struct c ms) k h at = absurd (omega arith)

-- ---- a runtime array that is one run

touch_told : (stride unit width : ℕ) → 0 < touching stride unit width → (stride ≡ unit * width) × (width ≡ touching stride unit width)
unfolding touching
touch_told stride unit width h = go (eqb stride (unit * width)) refl h
  where
    go : (b : Bool) → eqb stride (unit * width) ≡ b → 0 < cond b width 0 → (stride ≡ unit * width) × (width ≡ cond b width 0)
    go true q h = (eqb-true _ _ q, refl)
    go false q h = absurd (omega arith)

-- Where its elements touch each other, its words lie one after the other, and take its bytes.
pub runtime_all : (t : Ty) → Kept (runtime t) → (w : ℕ) → w ≡ touching (present (stride_of t)) (fixed_words t) (packed_of t) → 0 < w → (n : ℕ) → ((at : ℕ) → places_of (shape_of n (runtime t)) at ≡ run_places (n * fixed_words t) w at) × (extent_of n (runtime t) ≡ n * fixed_words t * w) × (w ≡ narrow_of t)
unfolding parts_in parts_of narrow_of part_run
runtime_all t k w e pos n =
    let x = touch_told (present (stride_of t)) (fixed_words t) (packed_of t) (rw (← e) pos) in
    let width : w ≡ packed_of t = e ∙ sym x.1 in
    let some_width : 0 < packed_of t = omega arith in
    let narrow : w ≡ narrow_of t = width ∙ packed_narrow t some_width in
    let stride : present (stride_of t) ≡ fixed_words t * w = rw width x.0 in (
      λ at.
          parts_places n (runtime t) k some_width at
          ∙ rw (stride, ← narrow) (parts_touch n (fixed_words t) w at),
      sym (kept_laid k n).span ∙ parts_span n (runtime t) some_width ∙ rw stride (sym (mul_assoc n (fixed_words t) w)),
      narrow,
    )
