-- Storable types of an accepted file (crates/wgsl, specs/Size), and the types within them.
--
-- In order: a storable type, its words and its shape; the element of an array; the members of a struct.
-- Assumes nothing.
use Prim.Native.Nat.{ℕ, ◌*◌, ◌≤◌}
use mathlib.Core.Bool.{true, ◌||◌}
use mathlib.Core.Option.{Option, some}
use mathlib.Core.Path.{◌≡◌}
use native.Mathlib.Omega.{arith}
use Rattle.wgsl.specs.Round.{up}
use Rattle.wgsl.specs.Types.{Ty, array, runtime, struct, Members, is_open, everywhere, every_member}
use Rattle.wgsl.specs.Size.{both, is_present, present, size_of, align_of, stride_of, has_layout, is_plain, is_storable}
use Rattle.wgsl.specs.Rule.{is_well_formed}
use Rattle.wgsl.specs.Place.{extent_of, shape_of, fields_of, span_of}
use Rattle.wgsl.specs.Shapes.{Sound, shape_words}
use Rattle.wgsl.proofs.Absent.{both_hold, hold_both, present_some, some_present, both_some}
use Rattle.wgsl.proofs.Round.{up_not_below}
use Rattle.wgsl.proofs.Power.{power_positive}
use Rattle.wgsl.proofs.Passed.{array_passed, runtime_passed}
use Rattle.wgsl.proofs.Align.{align_power}
use Rattle.wgsl.proofs.Tail.{sized_closed, sized_has, sized_takes}
use Rattle.wgsl.proofs.Closed.{closed_shape}
use Rattle.wgsl.proofs.Laid.{Laid, laid}
use Rattle.wgsl.proofs.Count.{count_words}
use Rattle.layout_values.specs.Value.{fixed_words}
use Rattle.walk_shapes.proofs.MemberRead.{Ruled, struct_ruled}

-- a well-formed type that is storable
pub record Kept (t : Ty) : Type 0 where
  pub well : everywhere is_well_formed t ≡ true
  pub aligned : ℕ
  pub aligned_is : align_of t ≡ some aligned
  pub has : (is_open t || is_present (size_of t)) ≡ true
  pub plain : everywhere is_plain t ≡ true

pub kept : (t : Ty) → everywhere is_well_formed t ≡ true → is_storable t ≡ true → Kept t
unfolding is_storable has_layout
kept t w e =
    let s = both_hold (has_layout t) (everywhere is_plain t) e in
    let h = both_hold (is_present (align_of t)) (is_open t || is_present (size_of t)) s.0 in
    let a = present_some (align_of t) h.0 in
    record { well = w; aligned = a.0; aligned_is = a.1; has = h.1; plain = s.1 }

pub kept_layout : {t : Ty} → Kept t → has_layout t ≡ true
unfolding has_layout
kept_layout {t} k = hold_both (is_present (align_of t)) (is_open t || is_present (size_of t)) (some_present k.aligned_is) k.has

-- Its words are those of its shape.
pub kept_words : {t : Ty} → Kept t → fixed_words t ≡ shape_words (shape_of 0 t)
unfolding fixed_words
kept_words {t} k = rw (kept_layout k) (count_words 0 t)

pub kept_laid : {t : Ty} (k : Kept t) (n : ℕ) → Laid n t k.aligned
kept_laid {t} k n = laid n t k.aligned k.well k.aligned_is k.has

-- ---- the element of an array

pub record Element (t : Ty) : Type 0 where
  pub element : Kept t
  pub size : ℕ
  pub size_is : size_of t ≡ some size

pub array_element : {k : ℕ} {t : Ty} → Kept (array k t) → Element t
unfolding is_open size_of align_of everywhere
array_element {k} {t} x =
    let p = array_passed k t x.well in
    let z = present_some (both ◌*◌ (some k) (both up (align_of t) (size_of t))) x.has in
    let outer = both_some ◌*◌ (some k) (both up (align_of t) (size_of t)) z.0 z.1 in
    let inner = both_some up (align_of t) (size_of t) outer.right outer.right_is in
    record {
      element =
          record {
            well = p.below;
            aligned = x.aligned;
            aligned_is = x.aligned_is;
            has = sized_has t inner.right inner.right_is;
            plain = (both_hold (is_plain (array k t)) (everywhere is_plain t) x.plain).1;
          };
      size = inner.right;
      size_is = inner.right_is;
    }

pub runtime_element : {t : Ty} → Kept (runtime t) → Element t
unfolding everywhere
runtime_element {t} x =
    let p = runtime_passed t x.well in
    record {
      element =
          record {
            well = p.below;
            aligned = p.aligned;
            aligned_is = p.aligned_is;
            has = sized_has t p.own p.own_is;
            plain = (both_hold (is_plain (runtime t)) (everywhere is_plain t) x.plain).1;
          };
      size = p.own;
      size_is = p.own_is;
    }

module _ {t : Ty} (x : Element t) where
  -- Its shape depends on no number of elements,
  pub element_shape : (n : ℕ) → shape_of n t ≡ shape_of 0 t
  element_shape n =
      closed_shape t x.element.well (sized_closed t x.size x.element.well x.size_is) n 0

  -- and fits its stride.
  pub element_fits : span_of (shape_of 0 t) ≤ present (stride_of t)
  unfolding stride_of both present
  element_fits =
      let span = (kept_laid x.element 0).span in
      let takes = sized_takes 0 t x.size x.element.well x.size_is in
      let pos = power_positive (align_power t x.element.aligned x.element.well x.element.aligned_is) in
      rw (x.element.aligned_is, x.size_is) (omega (arith, span, takes, up_not_below x.element.aligned x.size pos))

-- ---- the members of a struct

-- members of a storable struct of z bytes, where the one before them ended at `end`
pub record Fine (end : Option ℕ) (z : ℕ) (ms : Members) : Type 0 where
  pub ruled : Ruled end ms
  pub plain : every_member is_plain ms ≡ true
  pub sound : Sound (fields_of 0 z end ms)

pub struct_members_lem : {k : ℕ} {ms : Members} → Kept (struct k ms) → Fine (some 0) (extent_of 0 (struct k ms)) ms
unfolding everywhere shape_of
struct_members_lem {k} {ms} x =
    record {
      ruled = struct_ruled k ms x.well;
      plain = (both_hold (is_plain (struct k ms)) (every_member is_plain ms) x.plain).1;
      sound = (kept_laid x 0).sound;
    }
