-- What the numbers of a value tell of its type (specs/Value): 0 is an absent one.
--
-- In order: what 0 stands for; whether a type is open stands in its layout; the numbers of an element.
-- Not here: which types have a size (`SizeOf`), words (`WordsIn`).
-- Assumes nothing.
use Prim.Native.Nat.{ℕ, zero, suc, ◌<◌, ◌≤◌}
use mathlib.Core.Bool.{Bool, true, false, not}
use mathlib.Core.List.Memᴰ
use mathlib.Core.Option.{Option, none, some}
use mathlib.Core.Path.{◌≡◌, refl, sym, ap, ◌∙◌}
use native.Mathlib.Omega.{arith}
use borrow.Author.Tests.{ne_eqb}
use lib.Dec.{eqb}
use Rattle.wgsl.specs.Types.{Ty, is_open, everywhere}
use Rattle.wgsl.specs.Size.{is_present, present, size_of, align_of, numbers_of, has_layout}
use Rattle.wgsl.specs.Rule.{is_well_formed}
use Rattle.wgsl.specs.Place.{word_count}
use Rattle.wgsl.proofs.Absent.{some_not_none, present_is}
use Rattle.wgsl.proofs.Entry.{align_positive, size_positive, number_limit}
use Rattle.wgsl.proofs.Tail.{sized_closed}
use Rattle.wgsl.proofs.Count.{words_bounded}
use Rattle.layout_values.specs.Value.{narrow_of, fixed_words, value_of, words_in}
use Rattle.layout_values.specs.declared.value.Value.{Value}
use Rattle.layout_values.proofs.SizeOf.{aligned_sized, open_aligned}
use Rattle.layout_values.proofs.WordsIn.{value_words, words_there}

-- ---- what 0 stands for

there : (o : Option ℕ) → 0 < present o → o ≡ some (present o)
unfolding present
there (some n) h = refl
there none h = absurd (omega arith)

module _ (t : Ty) (l : Value) (is : l ≡ value_of l.stride l.reference t) (w : everywhere is_well_formed t ≡ true) where
  size_is : l.size ≡ present (size_of t)
  unfolding value_of
  size_is = ap (λ (x : Value). x.size) is

  align_is : l.align ≡ present (align_of t)
  unfolding value_of
  align_is = ap (λ (x : Value). x.align) is

  -- An alignment of 0 stands for none.
  pub unaligned : l.align ≡ 0 → align_of t ≡ none
  unfolding present
  unaligned e = go (align_of t) refl
    where
      go : (o : Option ℕ) → align_of t ≡ o → o ≡ none
      go (some a) q =
          let zero : a ≡ 0 = sym (align_is ∙ ap present q) ∙ e in
          absurd (omega (arith, align_positive t a w q))
      go none q = refl

  -- A size of 0 stands for none.
  pub unsized : l.size ≡ 0 → size_of t ≡ none
  unfolding present
  unsized e = go (size_of t) refl
    where
      go : (o : Option ℕ) → size_of t ≡ o → o ≡ none
      go (some z) q =
          let zero : z ≡ 0 = sym (size_is ∙ ap present q) ∙ e in
          absurd (omega (arith, size_positive t z w q))
      go none q = refl

  -- Any other is the type's.
  pub aligned : (l.align ≡ 0 → ⊥) → align_of t ≡ some l.align
  aligned h = there (align_of t) (omega (arith, align_is, h)) ∙ ap some (sym align_is)

  pub sized : (l.size ≡ 0 → ⊥) → size_of t ≡ some l.size
  sized h = there (size_of t) (omega (arith, size_is, h)) ∙ ap some (sym size_is)

  -- ---- whether a type is open stands in its layout

  pub size_closed : (l.size ≡ 0 → ⊥) → is_open t ≡ false
  size_closed h = sized_closed t _ w (there (size_of t) (omega (arith, size_is, h)))

  pub unaligned_closed : l.align ≡ 0 → is_open t ≡ false
  unaligned_closed e = go (is_open t) refl
    where
      go : (b : Bool) → is_open t ≡ b → b ≡ false
      go true o = some_not_none (open_aligned t w o).1 (unaligned e)
      go false o = refl

  pub unsized_open : l.size ≡ 0 → (l.align ≡ 0 → ⊥) → is_open t ≡ true
  unsized_open e h = go (is_open t) refl
    where
      go : (b : Bool) → is_open t ≡ b → b ≡ true
      go true o = refl
      go false o =
          let z = aligned_sized t _ w o (there (align_of t) (omega (arith, align_is, h))) in
          let zero : z.0 ≡ 0 = sym (size_is ∙ ap present z.1 ∙ present_is z.0) ∙ e in
          absurd (omega (arith, size_positive t z.0 w z.1))

  -- what the code tests past a size of 0
  pub open_told : (l.size ≡ 0) → is_open t ≡ not (eqb l.align 0)
  open_told e = go l.align refl
    where
      go : (a : ℕ) → l.align ≡ a → is_open t ≡ not (eqb a 0)
      go zero q = unaligned_closed q
      go (suc a) q = rw (ne_eqb (suc a) 0 (λ z. omega arith)) (unsized_open e (λ z. omega arith))

-- ---- an element

-- the numbers of a type that is not open and has an alignment, in its layout
pub record Element (t : Ty) (l : Value) : Type 0 where
  pub well : everywhere is_well_formed t ≡ true
  pub closed : is_open t ≡ false
  pub align_is : align_of t ≡ some l.align
  pub size_is : size_of t ≡ some l.size
  pub words_is : word_count 0 t ≡ words_in l
  pub narrow_is : narrow_of t ≡ l.narrow

-- A type that is not open, and whose layout has an alignment above 0, is one.
pub element : (t : Ty) (l : Value) → l ≡ value_of l.stride l.reference t → everywhere is_well_formed t ≡ true → is_open t ≡ false → 0 < l.align → Element t l
unfolding value_of
element t l is w closed h =
    let align : align_of t ≡ some l.align = there (align_of t) (omega (arith, align_is t l is w)) ∙ ap some (sym (align_is t l is w)) in
    let z = aligned_sized t l.align w closed align in
    record {
      well = w;
      closed = closed;
      align_is = align;
      size_is = z.1 ∙ ap some (sym (size_is t l is w ∙ ap present z.1 ∙ present_is z.0));
      words_is = sym (ap words_in is ∙ value_words l.stride l.reference t ∙ words_there t l.align z.0 align z.1);
      narrow_is = sym (ap (λ (x : Value). x.narrow) is);
    }

-- The alignment of an element is within the limit.
pub align_within : (t : Ty) (l : Value) → Element t l → l.align ≤ 4294967295
unfolding numbers_of
align_within t l x =
    number_limit t l.align x.well (Memᴰ.tail (Memᴰ.head (rw x.align_is)))

-- So are its words, since each takes at least 2 of its bytes.
pub words_within : (t : Ty) (l : Value) → Element t l → words_in l ≤ 4294967295
unfolding numbers_of
words_within t l x =
    omega (
      arith,
      x.words_is,
      words_bounded 0 t l.align l.size x.well x.align_is x.size_is,
      number_limit t l.size x.well (Memᴰ.head (rw x.size_is)),
    )

-- A type with no alignment has no words.
pub no_words : (t : Ty) (l : Value) → l ≡ value_of l.stride l.reference t → everywhere is_well_formed t ≡ true → l.align ≡ 0 → words_in l ≡ 0
unfolding fixed_words has_layout is_present
no_words t l is w e = ap words_in is ∙ value_words l.stride l.reference t ∙ rw (unaligned t l is w e)
