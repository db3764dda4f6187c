-- What a buffer holds of an entry (specs/Locate), by its layout, and 15.
--
-- In order: an entry; a type of fixed size; an open type; the target by what is held.
-- Assumes nothing.
use Rattle.std.specs.Prelude.{None, Option, Some}
use Prim.Native.Nat.{ℕ, suc, ◌+◌, ◌*◌, ◌<◌, ◌≤◌}
use mathlib.Core.Bool.{Bool, true, false}
use mathlib.Core.List.{List, map}
use mathlib.Core.Option.{some-injective}
use mathlib.Core.Path.{◌≡◌, refl, ap, sym, ◌∙◌}
use native.Mathlib.Omega.{arith}
use borrow.Author.Tests.{lt-ltb, le-ltb}
use lib.ListN.{length}
use Rattle.wgsl.specs.Types.{Ty, is_open, everywhere}
use Rattle.wgsl.specs.Size.{present, size_of}
use Rattle.wgsl.specs.Said.{refused, ◌>>◌, refuse}
use Rattle.wgsl.specs.Place.{extent_by, extent_of, elements_by, elements_in, shape_of}
use Rattle.wgsl.specs.Rule.{is_well_formed}
use Rattle.wgsl.specs.Path.{walk, step_of}
use Rattle.wgsl.specs.Call.{is_short, target_in}
use Rattle.wgsl.proofs.IsShort.{short_no}
use Rattle.wgsl.proofs.Tail.{closed_tail, closed_extent}
use Rattle.wgsl.proofs.Elements.{open_tail}
use Rattle.layout_values.specs.declared.value.Value.{Value}
use Rattle.layout_values.specs.Value.{value_of}
use Rattle.walk_shapes.proofs.Basis.{basis_well_formed}
use Rattle.walk_decide.specs.declared.Rest as declared
use Rattle.walk_decide.specs.Decide.{elements_found, rest_from, Findable}
use Rattle.walk_decide.proofs.CallSteps.{found_short, found_there}
use Rattle.walk_decide.proofs.Tailed.{layout_value, open_found, found_opened}
use Rattle.paths.specs.declared.locate.Held.{Held}
use Rattle.paths.specs.Locate.{held_of, Viewable, Opening}

-- ---- an entry

module _ {f ms : List ℕ} {table : List Value} {e : ℕ} {l : Value} {t : Ty} (x : Viewable f ms table e l t) where
  pub viewable_value : l ≡ value_of l.stride l.reference t
  viewable_value = rw x.is_layout (layout_value x.basis e t x.there)

  pub viewable_well_formed : everywhere is_well_formed t ≡ true
  viewable_well_formed = basis_well_formed x.basis e t x.there

  size_is : l.size ≡ present (size_of t)
  unfolding value_of
  size_is = ap (λ (y : Value). y.size) viewable_value

  -- ---- a type of fixed size

  module _ (b : List ℕ) (o : is_open t ≡ false) where
    pub closed_short : length b < l.size → held_of t b ≡ None
    unfolding held_of is_short
    closed_short h = rw (o, lt-ltb (length b) (present (size_of t)) (rw size_is at h)) refl

    pub closed_there : l.size ≤ length b → held_of t b ≡ Some (record { elements = 0; size = l.size })
    unfolding held_of is_short elements_in elements_by
    closed_there h =
        rw (o, le-ltb (length b) (present (size_of t)) (rw size_is at h), closed_tail t o, closed_extent 0 t o, ← size_is) refl

  -- ---- an open type

  -- Its tail can be found,
  pub open_findable : is_open t ≡ true → Findable ms table l
  open_findable o = rw x.is_layout (open_found x.basis e t x.there o).2.findable

  -- and is the type's.
  pub open_opening : is_open t ≡ true → {y : declared.Rest} → y ≡ rest_from ms table l → Opening t y
  open_opening o is =
      record {
        well_formed = viewable_well_formed;
        opens = o;
        tail_is = rw (is, x.is_layout) (found_opened x.basis e (open_found x.basis e t x.there o).2).tail_is;
      }

module _ {t : Ty} {y : declared.Rest} (x : Opening t y) where
  pub stride_above : 0 < y.value.stride
  stride_above =
      let z = open_tail t x.well_formed x.opens in
      let same : z.0 ≡ record { offset = y.offset; stride = y.value.stride } = some-injective _ _ (sym z.1 ∙ x.tail_is) in
      rw same at z.2

  module _ (b : List ℕ) where
    pub open_short : elements_found (length b) y.offset y.value.stride ≡ None → held_of t b ≡ None
    unfolding held_of
    open_short h = rw (found_short t x.opens y.offset y.value.stride x.tail_is b h) refl

    pub open_there : {n : ℕ} → elements_found (length b) y.offset y.value.stride ≡ Some n → held_of t b ≡ Some (record { elements = n; size = (y.offset + n * y.value.stride) })
    unfolding held_of extent_of extent_by
    open_there h =
        let z = found_there t x.opens y.offset y.value.stride x.tail_is b h in
        rw (z.0, z.1, x.tail_is) refl

-- ---- the target

-- which answer it is, and its numbers
abbrev tag : Option Held → ℕ
tag (Some h) = suc h.elements
tag None = 0

abbrev end : Option Held → ℕ
end (Some h) = h.size
end None = 0

module _ (t : Ty) (path b : List ℕ) where
  pub target_short : held_of t b ≡ None → target_in t path b ≡ refused 15 0
  unfolding held_of target_in ◌>>◌ refuse
  target_short e = go (is_short t b) refl
    where
      go : (s : Bool) → is_short t b ≡ s → target_in t path b ≡ refused 15 0
      go true q = rw q refl
      go false q =
          let is : held_of t b ≡ Some (record { elements = elements_in (length b) t; size = extent_of (elements_in (length b) t) t }) = rw q refl in
          let z : suc (elements_in (length b) t) ≡ 0 = ap tag (sym is ∙ e) in
          absurd (omega arith)

  -- so many elements, and this end
  pub record There (n size : ℕ) : Type 0 where
    pub size_is : size ≡ extent_of n t
    pub inside : extent_of n t ≤ length b
    pub target_is : target_in t path b ≡ walk 0 0 (shape_of n t) (map step_of path)

  pub target_there : {h : Held} → held_of t b ≡ Some h → There h.elements h.size
  unfolding held_of target_in ◌>>◌ refuse
  target_there {h} e = go (is_short t b) refl
    where
      go : (s : Bool) → is_short t b ≡ s → There h.elements h.size
      go true q =
          let is : held_of t b ≡ None = rw q refl in
          let z : 0 ≡ suc h.elements = ap tag (sym is ∙ e) in
          absurd (omega arith)
      go false q =
          let is : held_of t b ≡ Some (record { elements = elements_in (length b) t; size = extent_of (elements_in (length b) t) t }) = rw q refl in
          let same : suc (elements_in (length b) t) ≡ suc h.elements = ap tag (sym is ∙ e) in
          let n_is : elements_in (length b) t ≡ h.elements = omega arith in
          record {
            size_is = sym (ap end (sym is ∙ e)) ∙ ap (λ (m : ℕ). extent_of m t) n_is;
            inside = rw n_is at (short_no t b q);
            target_is = rw (q, n_is) refl;
          }
