-- Numbers of a storable entry (specs/Whole) that the code works with: strides and words above 0, counts below 2 ^ 32.
-- Assumes nothing.
use Prim.Native.Nat.{ℕ, ◌+◌, ◌*◌, ◌<◌, ◌≤◌}
use mathlib.Core.Bool.{Bool, true, false, ◌||◌}
use mathlib.Core.List.{List}
use mathlib.Core.Option.{some-injective}
use mathlib.Core.Path.{◌≡◌, refl, sym, ap, ◌∙◌}
use native.Mathlib.Omega.{arith}
use native.Mathlib.Nat.{mul-le-mul_left}
use Rattle.wgsl.specs.Types.{Ty, is_open, everywhere}
use Rattle.wgsl.specs.Size.{is_present, present, size_of, align_of, is_plain, has_layout, is_storable}
use Rattle.wgsl.specs.Place.{extent_of, shape_of, word_count}
use Rattle.wgsl.proofs.Absent.{both_hold, present_some, some_not_none}
use Rattle.wgsl.proofs.Laid.{laid}
use Rattle.wgsl.proofs.Tail.{closed_tail}
use Rattle.wgsl.proofs.Count.{count_words, words_room}
use Rattle.wgsl.proofs.Elements.{open_tail}
use Rattle.wgsl.proofs.Opened.{opened_words, opened_extent}
use Rattle.layout_values.specs.declared.value.Value.{Value}
use Rattle.layout_values.specs.Value.{value_of}
use Rattle.walk_decide.specs.Decide.{rest_from}
use Rattle.walk_decide.specs.Whole.{Ready, Tailed}
use Rattle.walk_decide.proofs.Whole.{ready_words}

module _ {ms : List ℕ} {table : List Value} {e : ℕ} {l : Value} {t : Ty} (r : Ready ms table e l t) where
  -- Each word takes at least two bytes.
  pub words_few : (n : ℕ) → 2 * word_count n t ≤ extent_of n t
  unfolding is_storable has_layout
  words_few n =
      let layout = (both_hold (has_layout t) (everywhere is_plain t) r.storable).0 in
      let both = both_hold (is_present (align_of t)) (is_open t || is_present (size_of t)) layout in
      let a = present_some (align_of t) both.0 in
      let x = laid n t a.0 r.well_formed a.1 both.1 in
      omega (arith, words_room (shape_of n t) x.sound, count_words n t, x.span)

  pub size_is : l.size ≡ present (size_of t)
  unfolding value_of
  size_is = ap (λ (x : Value). x.size) r.is_layout

module _ {ms : List ℕ} {table : List Value} {e : ℕ} {l : Value} {t : Ty} (x : Tailed ms table e l t) where
  -- It is open.
  pub tailed_open : is_open t ≡ true
  tailed_open = go (is_open t) refl
    where
      go : (b : Bool) → is_open t ≡ b → b ≡ true
      go true q = refl
      go false q = some_not_none x.opened.tail_is (closed_tail t q)

  pub stride_above : 0 < (rest_from ms table l).value.stride
  stride_above =
      let (y, is, pos) = open_tail t x.ready.well_formed tailed_open in
      let same : y ≡ record { offset = (rest_from ms table l).offset; stride = (rest_from ms table l).value.stride } = some-injective _ _ (sym is ∙ x.opened.tail_is) in
      rw same at pos

  pub tailed_words : (n : ℕ) → word_count n t ≡ (rest_from ms table l).fixed + n * (rest_from ms table l).value.unit
  tailed_words n =
      opened_words x.opened n
      ∙ (λ i. x.fixed_is i + n * x.unit_is n i)

  -- Its fixed words are within the limit.
  pub fixed_few : (rest_from ms table l).fixed ≤ 4294967295
  fixed_few = omega (arith, ready_words x.ready, x.fixed_is, x.ready.counted)

  -- Its array takes a byte for each element at least.
  pub elements_few : (n bytes : ℕ) → extent_of n t ≤ bytes → n ≤ bytes
  elements_few n bytes h =
      let m = mul-le-mul_left n stride_above in
      omega (arith, opened_extent x.opened n)
