-- What becomes of a runtime array's entry (crates/wgsl, specs/Rule, specs/Size), by what is known of its fields and of its element.
--
-- In order: the fields; the rules; an element that has an alignment: the layout.
-- Assumes nothing.
use Rattle.std.specs.Prelude.{Err, Ok}
use Prim.Native.Nat.{ℕ, ◌≤◌}
use mathlib.Core.Bool.{true, false, cond, and-false, or-true}
use mathlib.Core.List.{[], ◌∷◌}
use mathlib.Core.Option.{none, some}
use mathlib.Core.Path.{◌≡◌, ◌∙◌}
use borrow.Author.Tests.{le-leb}
use Rattle.wgsl.specs.Round.{up, within_limit}
use Rattle.wgsl.specs.Types.{Ty, runtime, is_open, kind_of}
use Rattle.wgsl.specs.Size.{both, is_present, present, size_of, align_of, stride_of, own_stride_of, min_size_of, inner_numbers_of, numbers_of, within_limits, fits_limit, has_layout}
use Rattle.wgsl.specs.File.{TypeEntry}
use Rattle.wgsl.specs.Rule.{when, and_then, unused, runtime_made, is_allowed, given_fits}
use Rattle.layout_values.proofs.ValueOf.{Element, align_within}
use Rattle.layout_values.proofs.StrideOf.{element_stride}
use Rattle.layout_values.specs.Value.{narrow_of, parts_of, fixed_words, words_in, value_of, verdict_on, made_of, stride_in}
use Rattle.layout_values.specs.declared.value.Value.{Value}
use Rattle.layout_values.specs.declared.value.Broken.TheVariants.{Large, Rule}

module _ (e : TypeEntry) (t : Ty) (long r : ℕ) where
  -- ---- the fields

  -- "Fields a kind doesn't use are zero."
  pub runtime_used : unused (e.columns ∷ e.rows ∷ e.count ∷ []) ≡ false → made_of long r (runtime_made (some t) e) ≡ Err Rule
  unfolding made_of runtime_made when
  runtime_used h = rw h

  module _ (free : unused (e.columns ∷ e.rows ∷ e.count ∷ []) ≡ true) where
    runtime_made_here : made_of long r (runtime_made (some t) e) ≡ verdict_on long r (runtime t)
    unfolding made_of runtime_made when and_then
    runtime_made_here = rw free

    -- ---- the rules

    -- "An array's element isn't open"
    pub runtime_open : is_open t ≡ true → made_of long r (runtime_made (some t) e) ≡ Err Rule
    unfolding verdict_on is_allowed
    runtime_open h = runtime_made_here ∙ rw h

    -- "a runtime array's element also has size and alignment"
    pub runtime_unaligned : align_of t ≡ none → made_of long r (runtime_made (some t) e) ≡ Err Rule
    unfolding verdict_on is_allowed is_present
    runtime_unaligned h = runtime_made_here ∙ rw (h, and-false)

    -- ---- an element that has an alignment

    module _ (l : Value) (x : Element t l) where
      runtime_allowed : made_of long r (runtime_made (some t) e) ≡ cond (fits_limit (runtime t)) (Ok (value_of long r (runtime t))) (Err Large)
      unfolding verdict_on is_allowed given_fits is_present
      runtime_allowed = runtime_made_here ∙ rw (x.closed, x.align_is, x.size_is)

      -- The layout of a runtime array: its stride is the element's.
      module _ (stride : ℕ) (own : stride ≡ present (own_stride_of t)) where
        number : (up l.align l.size ≡ stride) × (stride ≤ 4294967295)
        number = element_stride t l x stride own

        fits : fits_limit (runtime t) ≡ true
        unfolding fits_limit within_limits numbers_of min_size_of inner_numbers_of stride_of size_of both within_limit
        fits =
            simp (x.align_is, x.size_is, number.0, le-leb _ _ number.1, le-leb _ _ (align_within t l x))

        pub runtime_laid : made_of long r (runtime_made (some t) e) ≡ Ok (record { kind = 10; narrow = l.narrow; reference = r; count = 0; unit = words_in l; stride = stride; size = 0; align = l.align })
        unfolding value_of kind_of narrow_of parts_of stride_in present fixed_words has_layout is_present is_open size_of align_of stride_of both
        runtime_laid =
            runtime_allowed
            ∙ rw (
              fits,
              x.words_is,
              x.narrow_is,
              x.align_is,
              x.size_is,
              or-true (is_open t),
              number.0,
            )
