-- What becomes of an array's entry (crates/wgsl, specs/Rule, specs/Size), by what is known of its fields and of its element.
--
-- In order: the words of an element; then, of an entry, its fields; the rules; an element with no alignment; one that has one; any: numbers
-- past the limit, the layout.
-- Assumes nothing.
use Rattle.std.specs.Prelude.{Err, None, Ok, Some}
use Prim.Native.Nat.{ℕ, zero, suc, ◌*◌, ◌<◌, ◌≤◌}
use mathlib.Core.Bool.{true, false, cond, or-true}
use mathlib.Core.List.{[], ◌∷◌}
use mathlib.Core.Option.{none, some}
use mathlib.Core.Path.{◌≡◌, refl, sym, ap, ◌∙◌}
use native.Mathlib.Omega.{arith}
use native.Mathlib.Nat.{mul-zero}
use borrow.Author.Tests.{le-leb, lt-leb}
use Rattle.wgsl.specs.Round.{up, within_limit}
use Rattle.wgsl.specs.Types.{Ty, array, is_open, everywhere, kind_of}
use Rattle.wgsl.specs.Size.{both, is_present, present, size_of, align_of, stride_of, own_stride_of, min_size_of, inner_numbers_of, numbers_of, within_limits, fits_limit, has_layout}
use Rattle.wgsl.specs.File.{TypeEntry}
use Rattle.wgsl.specs.Rule.{when, and_then, unused, array_made, is_allowed, given_fits, is_well_formed}
use Rattle.numbers.specs.Limit.{limited}
use Rattle.layout_referring.proofs.Limited.{limited_is, limited_large}
use Rattle.layout_values.proofs.ValueOf.{unaligned, Element, element, align_within, words_within, no_words}
use Rattle.layout_values.proofs.StrideOf.{element_stride, unaligned_stride}
use Rattle.layout_values.specs.Value.{narrow_of, parts_of, fixed_words, words_in, value_of, verdict_on, made_of, stride_in}
use Rattle.layout_values.specs.declared.value.Value.{Value}
use Rattle.layout_values.specs.declared.value.Broken.TheVariants.{Large, Rule}

-- ---- words

-- The words of an element, with an alignment or without, are within the limit.
pub array_words : (t : Ty) (l : Value) → l ≡ value_of l.stride l.reference t → everywhere is_well_formed t ≡ true → is_open t ≡ false → words_in l ≤ 4294967295
array_words t l is w o = go l.align refl
  where
    go : (a : ℕ) → l.align ≡ a → words_in l ≤ 4294967295
    go zero q = omega (arith, no_words t l is w q)
    go (suc a) q = words_within t l (element t l is w o (omega arith))

module _ (e : TypeEntry) (t : Ty) (long r : ℕ) where
  -- ---- the fields

  -- "Fields a kind doesn't use are zero."
  pub array_used : unused (e.columns ∷ e.rows ∷ []) ≡ false → made_of long r (array_made (some t) e) ≡ Err Rule
  unfolding made_of array_made when
  array_used h = rw h

  module _ (free : unused (e.columns ∷ e.rows ∷ []) ≡ true) where
    array_made_here : made_of long r (array_made (some t) e) ≡ verdict_on long r (array e.count t)
    unfolding made_of array_made when and_then
    array_made_here = rw free

    -- ---- the rules

    -- "count at least 1"
    pub array_empty : e.count < 1 → made_of long r (array_made (some t) e) ≡ Err Rule
    unfolding verdict_on is_allowed
    array_empty h = array_made_here ∙ rw (lt-leb 1 e.count h)

    module _ (full : 1 ≤ e.count) where
      -- "An array's element isn't open"
      pub array_open : is_open t ≡ true → made_of long r (array_made (some t) e) ≡ Err Rule
      unfolding verdict_on is_allowed
      array_open h = array_made_here ∙ rw (le-leb 1 e.count full, h)

      array_allowed : is_open t ≡ false → made_of long r (array_made (some t) e) ≡ cond (fits_limit (array e.count t)) (Ok (value_of long r (array e.count t))) (Err Large)
      unfolding verdict_on is_allowed given_fits
      array_allowed h = array_made_here ∙ rw (le-leb 1 e.count full, h)

      -- ---- an element with no alignment

      -- "A number made from an absent one is absent": such an array has neither size nor layout.
      none_laid : (l : Value) → l ≡ value_of l.stride l.reference t → is_open t ≡ false → align_of t ≡ none → made_of long r (array_made (some t) e) ≡ Ok (record { kind = 9; narrow = l.narrow; reference = r; count = e.count; unit = 0; stride = 0; size = 0; align = 0 })
      unfolding fits_limit within_limits numbers_of min_size_of inner_numbers_of stride_of size_of align_of both value_of kind_of narrow_of parts_of stride_in present has_layout is_present
      none_laid l is h q =
          let narrow : narrow_of t ≡ l.narrow = sym (ap (λ (x : Value). x.narrow) is) in
          array_allowed h ∙ rw (q, narrow)

      -- ---- an element that has one

      module _ (l : Value) (x : Element t l) (stride : ℕ) (own : stride ≡ present (own_stride_of t)) where
        number : (up l.align l.size ≡ stride) × (stride ≤ 4294967295)
        number = element_stride t l x stride own

        size_is : size_of (array e.count t) ≡ some (e.count * stride)
        unfolding size_of both
        size_is = rw (x.align_is, x.size_is, number.0)

        -- "Array: count x stride", past the limit
        large : limited (e.count * stride) ≡ None → made_of long r (array_made (some t) e) ≡ Err Large
        unfolding fits_limit within_limits numbers_of within_limit
        large h = array_allowed x.closed ∙ rw (size_is, lt-leb _ _ (limited_large _ h))

        module _ (size : ℕ) (whole : limited (e.count * stride) ≡ Some size) where
          fits : fits_limit (array e.count t) ≡ true
          unfolding fits_limit within_limits numbers_of min_size_of inner_numbers_of stride_of size_of both within_limit
          fits =
              rw (
                x.align_is,
                x.size_is,
                number.0,
                le-leb _ _ (limited_is _ size whole).1,
                le-leb _ _ number.1,
                le-leb _ _ (align_within t l x),
              )

          laid : made_of long r (array_made (some t) e) ≡ Ok (record { kind = 9; narrow = l.narrow; reference = r; count = e.count; unit = words_in l; stride = stride; size = size; align = l.align })
          unfolding value_of kind_of narrow_of parts_of stride_in present fixed_words has_layout is_present is_open size_of align_of stride_of both
          laid =
              array_allowed x.closed
              ∙ rw (
                fits,
                x.words_is,
                x.narrow_is,
                x.align_is,
                x.size_is,
                or-true (is_open t),
                number.0,
                (limited_is _ size whole).0,
              )

      -- ---- any element

      module _ (l : Value) (is : l ≡ value_of l.stride l.reference t) (w : everywhere is_well_formed t ≡ true) (closed : is_open t ≡ false) (stride : ℕ) (own : stride ≡ present (own_stride_of t)) where
        no_stride : l.align ≡ 0 → stride ≡ 0
        no_stride q = unaligned_stride t stride closed (unaligned t l is w q) own

        -- "Array: count x stride", past the limit
        pub array_large : limited (e.count * stride) ≡ None → made_of long r (array_made (some t) e) ≡ Err Large
        array_large h = go l.align refl
          where
            go : (a : ℕ) → l.align ≡ a → made_of long r (array_made (some t) e) ≡ Err Large
            go zero q =
                let none_there : e.count * stride ≡ 0 = rw (no_stride q) (mul-zero e.count) in
                absurd (omega (arith, limited_large _ h, none_there))
            go (suc a) q = large l (element t l is w closed (omega arith)) stride own h

        -- The layout of an array.
        pub array_laid : (size : ℕ) → limited (e.count * stride) ≡ Some size → made_of long r (array_made (some t) e) ≡ Ok (record { kind = 9; narrow = l.narrow; reference = r; count = e.count; unit = words_in l; stride = stride; size = size; align = l.align })
        array_laid size h = go l.align refl
          where
            go : (a : ℕ) → l.align ≡ a → made_of long r (array_made (some t) e) ≡ Ok (record { kind = 9; narrow = l.narrow; reference = r; count = e.count; unit = words_in l; stride = stride; size = size; align = l.align })
            go zero q =
                let none_there : e.count * stride ≡ 0 = rw (no_stride q) (mul-zero e.count) in
                let none_long : size ≡ 0 = sym (limited_is _ size h).0 ∙ none_there in
                rw (no_words t l is w q, no_stride q, none_long, q) (none_laid l is closed (unaligned t l is w q))
            go (suc a) q = laid l (element t l is w closed (omega arith)) stride own size h
