-- The bytes of an entry of an accepted file, by its layout (specs/Way).
--
-- In order: what a step leads to lies inside; kind 10; the shape of an entry; the bytes of an entry that has a size or is a
-- runtime array.
-- Assumes nothing.
use Prim.Native.Nat.{ℕ, ◌+◌, ◌*◌, ◌≤◌}
use mathlib.Core.Bool.{true, ◌||◌}
use mathlib.Core.List.{List, [], ◌∷◌}
use mathlib.Core.Logic.{◌⊎◌, ⊎_elim}
use mathlib.Core.Option.{some}
use mathlib.Core.Path.{◌≡◌, refl, sym, ap, ◌∙◌}
use native.Mathlib.Omega.{arith}
use borrow.Author.Tests.{eq-eqb, ne_eqb}
use lib.ListN.{get_elem?}
use Rattle.wgsl.specs.Round.{limit}
use Rattle.wgsl.specs.Types.{Ty, scalar, vector, matrix, array, runtime, atomic, struct, is_runtime, is_open, kind_of}
use Rattle.wgsl.specs.Size.{is_present, present, size_of, align_of, has_layout}
use Rattle.wgsl.specs.Said.{good, ◌>>=◌}
use Rattle.wgsl.specs.Place.{Shape, extent_of, shape_of, span_of}
use Rattle.wgsl.specs.Path.{Step, Target, enter, walk}
use Rattle.wgsl.specs.Shapes.{Sound}
use Rattle.wgsl.proofs.Absent.{both_hold, true_not_false, some_not_none, present_some, present_is}
use Rattle.wgsl.proofs.Path.{target, target_inside}
use Rattle.wgsl.proofs.Tail.{runtime_unsized, sized_takes}
use Rattle.wgsl.proofs.Laid.{laid}
use Rattle.layout_values.specs.declared.value.Value.{Value}
use Rattle.layout_values.specs.Value.{parts_of, stride_in, value_of, value_at}
use Rattle.wgsl.proofs.ScalarKind.{no_scalar_kind}
use Rattle.walk_shapes.specs.Basis.{Basis}
use Rattle.walk_shapes.proofs.Basis.{basis_layout, basis_well_formed}
use Rattle.walk_path.specs.Way.{size_at}

-- ---- a step

-- What a step leads to is sound and lies inside the shape that it starts from.
pub step_inside : (j : ℕ) (x : Shape) (s : Step) (t : Target) → Sound x → enter j x s ≡ good t → Sound t.shape × (t.offset + span_of t.shape ≤ span_of x)
unfolding walk ◌>>=◌
step_inside j x s t sound h =
    let i = target_inside j 0 x (s ∷ []) (target (0 + t.offset) t.shape) sound (rw h) in
    (i.0, omega (arith, i.2))

-- ---- kind 10

-- Only a runtime array is of kind 10.
pub ten_runtime : (t : Ty) → kind_of t ≡ 10 → is_runtime t ≡ true
unfolding kind_of is_runtime
ten_runtime (scalar s) e = absurd (no_scalar_kind s 10 (omega arith) (omega arith) e)
ten_runtime (vector n s) e = absurd (omega arith)
ten_runtime (matrix c r s) e = absurd (omega arith)
ten_runtime (array n t) e = absurd (omega arith)
ten_runtime (runtime t) e = refl
ten_runtime (atomic s) e = absurd (omega arith)
ten_runtime (struct k ms) e = absurd (omega arith)

-- Where the bytes of an entry are within the limit, the product that `size_at` works out is.
pub size_within : (table : List Value) (n e : ℕ) → size_at table n e ≤ limit → (value_at table e).kind ≡ 10 → n * (value_at table e).stride ≤ limit
unfolding size_at
size_within table n e h is = rw (eq-eqb (value_at table e).kind 10 is) at h

module _ {f : List ℕ} {ts : List Ty} {ms : List ℕ} {table : List Value} (basis : Basis f ts ms table) where
  pub kind_there : (e : ℕ) (t : Ty) → get_elem? ts e ≡ some t → (value_at table e).kind ≡ kind_of t
  unfolding value_of
  kind_there e t there = ap (λ (l : Value). l.kind) (basis_layout basis e t there)

  -- ---- the shape of an entry

  -- It is sound, and takes the extent of its type.
  pub sound_at : (n e : ℕ) {t : Ty} → get_elem? ts e ≡ some t → has_layout t ≡ true → Sound (shape_of n t) × (span_of (shape_of n t) ≡ extent_of n t)
  unfolding has_layout
  sound_at n e {t} there h =
      let has = both_hold (is_present (align_of t)) (is_open t || is_present (size_of t)) h in
      let a = present_some (align_of t) has.0 in
      let x = laid n t a.0 (basis_well_formed basis e t there) a.1 has.1 in
      (x.sound, x.span)

  -- ---- its bytes

  sized_size : (n e : ℕ) (t : Ty) → get_elem? ts e ≡ some t → is_present (size_of t) ≡ true → size_at table n e ≡ extent_of n t
  unfolding size_at value_of
  sized_size n e t there p =
      let z = present_some (size_of t) p in
      let other : (value_at table e).kind ≡ 10 → ⊥ =
      λ q. some_not_none z.1 (runtime_unsized t (ten_runtime t (sym (kind_there e t there) ∙ q))) in
      rw (ne_eqb (value_at table e).kind 10 other)
      (ap (λ (l : Value). l.size) (basis_layout basis e t there) ∙ ap present z.1 ∙ present_is z.0
      ∙ sym (sized_takes n t z.0 (basis_well_formed basis e t there) z.1))

  runtime_size : (n e : ℕ) (t : Ty) → get_elem? ts e ≡ some t → is_runtime t ≡ true → size_at table n e ≡ span_of (shape_of n t)
  unfolding size_at value_of stride_in parts_of kind_of is_runtime shape_of span_of
  runtime_size n e (scalar s) there q = true_not_false q refl
  runtime_size n e (vector c s) there q = true_not_false q refl
  runtime_size n e (matrix c r s) there q = true_not_false q refl
  runtime_size n e (array c t) there q = true_not_false q refl
  runtime_size n e (runtime t) there q =
      rw (eq-eqb (value_at table e).kind 10 (kind_there e (runtime t) there))
      (ap (λ (l : Value). n * l.stride) (basis_layout basis e (runtime t) there))
  runtime_size n e (atomic s) there q = true_not_false q refl
  runtime_size n e (struct c m) there q = true_not_false q refl

  -- The bytes of an entry that has a size or is a runtime array are those of its shape.
  pub inner_size : (n e : ℕ) (t : Ty) → get_elem? ts e ≡ some t → has_layout t ≡ true → (is_present (size_of t) ≡ true) ⊎ (is_runtime t ≡ true) → size_at table n e ≡ span_of (shape_of n t)
  inner_size n e t there h =
      ⊎_elim (λ (p : is_present (size_of t) ≡ true). sized_size n e t there p ∙ sym (sound_at n e there h).1)
      (λ (p : is_runtime t ≡ true). runtime_size n e t there p)
