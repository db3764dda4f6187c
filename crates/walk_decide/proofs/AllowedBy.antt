-- 17, 9 and 10 (crates/wgsl, `allowed`), read from an entry's value.
-- Assumes nothing.
use Prim.Native.Nat.{ℕ, ◌<◌, ◌≤◌}
use mathlib.Core.Bool.{Bool, true, false, not, ◌&&◌, ◌||◌}
use mathlib.Core.Option.{Option, none, some}
use mathlib.Core.Path.{◌≡◌, refl, ap, ◌∙◌}
use native.Mathlib.Omega.{arith}
use borrow.Author.Tests.{le-leb, lt-leb, eq-eqb, ne_eqb}
use Rattle.wgsl.specs.Round.{limit, within_limit}
use Rattle.wgsl.specs.Types.{Ty, is_open, everywhere}
use Rattle.wgsl.specs.Size.{is_present, present, size_of, align_of, has_layout, is_storable}
use Rattle.wgsl.specs.Said.{good, refused, ◌>>◌, refuse}
use Rattle.wgsl.specs.Rule.{is_well_formed}
use Rattle.wgsl.specs.Call.{allowed}
use Rattle.wgsl.proofs.Absent.{some_present}
use Rattle.layout_values.specs.declared.value.Value.{Value}
use Rattle.layout_values.specs.Value.{narrow_of, value_of}
use Rattle.layout_values.proofs.ValueOf.{unaligned, element}
use Rattle.layout_values.proofs.NarrowOf.{plain_is}

pub too_long : (stored : Bool) (t : Ty) (bytes : ℕ) → limit < bytes → allowed stored t bytes ≡ refused 17 0
unfolding allowed within_limit ◌>>◌ refuse
too_long stored t bytes h = rw (lt-leb bytes limit h) refl

module _ (t : Ty) (l : Value) (is : l ≡ value_of l.stride l.reference t) (w : everywhere is_well_formed t ≡ true) where
  there : (o : Option ℕ) → 0 < present o → is_present o ≡ true
  unfolding present is_present
  there (some n) h = refl
  there none h = absurd (omega arith)

  -- What has an alignment has a layout.
  pub is_laid_out : 0 < l.align → has_layout t ≡ true
  unfolding has_layout value_of
  is_laid_out h =
      let same : l.align ≡ present (align_of t) = ap (λ (x : Value). x.align) is in
      let a : is_present (align_of t) ≡ true = there (align_of t) (omega arith) in
      rw a (go (is_open t) refl)
    where
      go : (b : Bool) → is_open t ≡ b → (b || is_present (size_of t)) ≡ true
      go true q = refl
      go false q = some_present (element t l is w q h).size_is

  narrow_is : l.narrow ≡ narrow_of t
  unfolding value_of
  narrow_is = ap (λ (x : Value). x.narrow) is

  module _ (bytes : ℕ) (fits : bytes ≤ limit) where
    pub no_layout : (stored : Bool) → l.align ≡ 0 → allowed stored t bytes ≡ refused 9 0
    unfolding allowed within_limit ◌>>◌ refuse has_layout is_present
    no_layout stored e = rw (le-leb bytes limit fits, unaligned t l is w e) refl

    -- past 9 only 10 is left
    past : (stored : Bool) → (l.align ≡ 0 → ⊥) → allowed stored t bytes ≡ refuse 10 0 (stored && not (is_storable t))
    unfolding allowed within_limit ◌>>◌ refuse
    past stored h = rw (le-leb bytes limit fits, is_laid_out (omega arith)) refl

    pub storable : (stored : Bool) → (l.align ≡ 0 → ⊥) → (l.narrow ≡ 0 → ⊥) → allowed stored t bytes ≡ good tt
    unfolding is_storable refuse
    storable true h e =
        past true h ∙ rw (is_laid_out (omega arith), plain_is t, ← narrow_is, ne_eqb l.narrow 0 e) refl
    storable false h e = past false h

    pub unstorable : (l.align ≡ 0 → ⊥) → l.narrow ≡ 0 → allowed true t bytes ≡ refused 10 0
    unfolding is_storable refuse
    unstorable h e =
        past true h ∙ rw (is_laid_out (omega arith), plain_is t, ← narrow_is, eq-eqb l.narrow 0 e) refl

    -- what is not to be stored need not be storable
    pub not_stored : (l.align ≡ 0 → ⊥) → allowed false t bytes ≡ good tt
    unfolding refuse
    not_stored h = past false h
