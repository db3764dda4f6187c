-- The rules for one member (specs/Rule of crates/wgsl), read off the layout of its type (specs/Value of crates/layout_values).
--
-- In order: absent numbers, for which a layout has 0; kind 10; which members are allowed; given sizes; given aligns.
-- Assumes nothing.
use Prim.Native.Nat.{ℕ, ◌<◌}
use mathlib.Core.Bool.{Bool, true, false, ◌&&◌}
use mathlib.Core.Option.{Option, none, some}
use mathlib.Core.Path.{◌≡◌, refl, sym, ap, ◌∙◌}
use native.Mathlib.Omega.{arith}
use borrow.Author.Tests.{eq-eqb, ne_eqb, le-leb}
use lib.Dec.{eqb, leb}
use Rattle.wgsl.specs.Round.{IsPower, is_power}
use Rattle.wgsl.specs.Types.{bool, i32, u32, f32, f16, abstract_int, abstract_float, i64, u64, f64, Ty, scalar, vector, matrix, array, runtime, atomic, struct, is_runtime, everywhere, scalar_kind, kind_of}
use Rattle.wgsl.specs.Size.{is_present, present, size_of, align_of}
use Rattle.wgsl.specs.File.{MemberEntry, size_is_given, align_is_given, given_size, given_align}
use Rattle.wgsl.specs.Rule.{member_allowed, given_size_fits, given_align_fits, at_least, is_multiple, is_well_formed}
use Rattle.wgsl.proofs.Power.{power_tested, power_multiple}
use Rattle.wgsl.proofs.Align.{align_power}
use Rattle.wgsl.proofs.Entry.{align_positive, size_positive}
use Rattle.layout_values.specs.declared.value.Value.{Value}
use Rattle.layout_values.specs.Value.{value_of}

-- ---- absent numbers, for which a layout has 0

absent : (o : Option ℕ) → ((n : ℕ) → o ≡ some n → 0 < n) → present o ≡ 0 → is_present o ≡ false
unfolding present is_present
absent (some n) pos e = absurd (omega (arith, pos n refl))
absent none pos e = refl

there : (o : Option ℕ) → (present o ≡ 0 → ⊥) → is_present o ≡ true
unfolding present is_present
there (some n) h = refl
there none h = absurd (h refl)

least : (o : Option ℕ) (given : ℕ) → at_least o given ≡ leb (present o) given
unfolding at_least present
least (some n) given = refl
least none given = sym (le-leb 0 given (omega arith))

-- a power of two is a multiple of another if it is not below it, and of one that is absent
multiple : (o : Option ℕ) (given : ℕ) → ((own : ℕ) → o ≡ some own → IsPower own) → IsPower given → is_multiple o given ≡ leb (present o) given
unfolding is_multiple present
multiple (some own) given p q = power_multiple (p own refl) q
multiple none given p q = sym (le-leb 0 given (omega arith))

-- ---- kind 10

runtime_kind_lem : (t : Ty) → eqb (kind_of t) 10 ≡ is_runtime t
unfolding kind_of is_runtime scalar_kind
runtime_kind_lem (scalar bool) = refl
runtime_kind_lem (scalar i32) = refl
runtime_kind_lem (scalar u32) = refl
runtime_kind_lem (scalar f32) = refl
runtime_kind_lem (scalar f16) = refl
runtime_kind_lem (scalar abstract_int) = refl
runtime_kind_lem (scalar abstract_float) = refl
runtime_kind_lem (scalar i64) = refl
runtime_kind_lem (scalar u64) = refl
runtime_kind_lem (scalar f64) = refl
runtime_kind_lem (vector n s) = refl
runtime_kind_lem (matrix c r s) = refl
runtime_kind_lem (array n t) = refl
runtime_kind_lem (runtime t) = refl
runtime_kind_lem (atomic s) = refl
runtime_kind_lem (struct k ms) = refl

module _ (l : Value) (t : Ty) (is : l ≡ value_of l.stride l.reference t) (w : everywhere is_well_formed t ≡ true) where
  kind_is : eqb l.kind 10 ≡ is_runtime t
  unfolding value_of
  kind_is = ap (λ (x : Value). eqb x.kind 10) is ∙ runtime_kind_lem t

  size_is : l.size ≡ present (size_of t)
  unfolding value_of
  size_is = ap (λ (x : Value). x.size) is

  align_is : l.align ≡ present (align_of t)
  unfolding value_of
  align_is = ap (λ (x : Value). x.align) is

  -- ---- which members are allowed

  pub unaligned_not_allowed : (last : Bool) → l.align ≡ 0 → member_allowed last t ≡ false
  unfolding member_allowed
  unaligned_not_allowed last e =
      rw (absent (align_of t) (λ n h. align_positive t n w h) (sym align_is ∙ e))

  pub sized_allowed : (last : Bool) → (l.align ≡ 0 → ⊥) → (l.size ≡ 0 → ⊥) → member_allowed last t ≡ true
  unfolding member_allowed
  sized_allowed last a s =
      rw (there (align_of t) (λ e. a (align_is ∙ e)), there (size_of t) (λ e. s (size_is ∙ e)))

  unsized_allowed : (last : Bool) → (l.align ≡ 0 → ⊥) → l.size ≡ 0 → member_allowed last t ≡ (last && eqb l.kind 10)
  unfolding member_allowed
  unsized_allowed last a e =
      let unsized = absent (size_of t) (λ n h. omega (arith, size_positive t n w h)) (sym size_is ∙ e) in
      rw (there (align_of t) (λ q. a (align_is ∙ q)), unsized, kind_is)

  pub last_allowed : (last : Bool) → (l.align ≡ 0 → ⊥) → l.size ≡ 0 → last ≡ true → member_allowed last t ≡ eqb l.kind 10
  last_allowed last a e h = unsized_allowed last a e ∙ rw h

  pub not_last_allowed : (last : Bool) → (l.align ≡ 0 → ⊥) → l.size ≡ 0 → last ≡ false → member_allowed last t ≡ false
  not_last_allowed last a e h = unsized_allowed last a e ∙ rw h

  -- ---- given sizes

  pub size_not_on_runtime : (m : MemberEntry) → size_is_given m ≡ true → l.kind ≡ 10 → given_size_fits t (given_size m) ≡ false
  unfolding given_size_fits given_size
  size_not_on_runtime m g e = rw (g, sym kind_is ∙ eq-eqb l.kind 10 e)

  pub size_at_least : (m : MemberEntry) → size_is_given m ≡ true → (l.kind ≡ 10 → ⊥) → given_size_fits t (given_size m) ≡ leb l.size m.size
  unfolding given_size_fits given_size
  size_at_least m g n = rw (g, sym kind_is ∙ ne_eqb l.kind 10 n, least (size_of t) m.size, size_is)

  -- ---- given aligns

  pub align_multiple : (m : MemberEntry) → align_is_given m ≡ true → is_power m.align ≡ true → given_align_fits t (given_align m) ≡ leb l.align m.align
  unfolding given_align_fits given_align
  align_multiple m g p =
      rw (g, p, multiple (align_of t) m.align (λ own h. align_power t own w h) (power_tested m.align p), align_is)

-- A size that is not given fits.
pub size_not_given : (t : Ty) (m : MemberEntry) → size_is_given m ≡ false → given_size_fits t (given_size m) ≡ true
unfolding given_size_fits given_size
size_not_given t m g = rw g

-- An align that is not given fits.
pub align_not_given : (t : Ty) (m : MemberEntry) → align_is_given m ≡ false → given_align_fits t (given_align m) ≡ true
unfolding given_align_fits given_align
align_not_given t m g = rw g

-- A given align is a power of two.
pub align_no_power : (t : Ty) (m : MemberEntry) → align_is_given m ≡ true → is_power m.align ≡ false → given_align_fits t (given_align m) ≡ false
unfolding given_align_fits given_align
align_no_power t m g p = rw (g, p)
