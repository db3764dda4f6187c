-- How many elements there are (specs/Decide): what each test of the code tells.
--
-- In order: elements that words fill; where elements end; elements that bytes hold.
-- Assumes nothing.
use Rattle.std.specs.Prelude.{None, Option, Some}
use Prim.Native.Nat.{ℕ, ◌+◌, ◌-◌, ◌*◌, ◌/◌, ◌<◌, ◌≤◌}
use mathlib.Core.Bool.{Bool, true, false, cond, not, ◌&&◌}
use mathlib.Core.Path.{◌≡◌, refl}
use native.Mathlib.Omega.{arith}
use native.Mathlib.Nat.{div-eq_of_lt, le-div_iff_mul-le, div-lt_iff_lt-mul}
use borrow.Author.Tests.{eq-eqb, ne_eqb, le-leb, lt-leb}
use lib.Dec.{eqb}
use Rattle.walk_decide.specs.Decide.{elements_of, extent_for, elements_found}

-- ---- elements that words fill

module _ (words fixed unit : ℕ) (some_words : 0 < unit) where
  pub elements_few : words < fixed + unit → elements_of words fixed unit ≡ None
  unfolding elements_of
  elements_few h =
      let none : (words - fixed) / unit ≡ 0 = div-eq_of_lt (omega arith) in
      rw none (go (eqb words (fixed + 0 * unit)))
    where
      go : (b : Bool) → cond {A = Option ℕ} (b && not (eqb 0 0)) (Some 0) None ≡ None
      go true = refl
      go false = refl

  pub elements_right : fixed + unit ≤ words → fixed + (words - fixed) / unit * unit ≡ words → elements_of words fixed unit ≡ Some ((words - fixed) / unit)
  unfolding elements_of
  elements_right h e =
      let n : ℕ = (words - fixed) / unit in
      let one : 1 ≤ n = (le-div_iff_mul-le some_words).1 (omega arith) in
      rw (eq-eqb words (fixed + n * unit) (omega arith), ne_eqb n 0 (λ z. omega arith)) refl

  pub elements_wrong : (fixed + (words - fixed) / unit * unit ≡ words → ⊥) → elements_of words fixed unit ≡ None
  unfolding elements_of
  elements_wrong h = rw (ne_eqb words (fixed + (words - fixed) / unit * unit) (λ e. h (omega arith))) refl

-- ---- where elements end

module _ (bytes offset stride n : ℕ) (some_bytes : 0 < stride) where
  pub extent_before : bytes < offset → extent_for bytes offset stride n ≡ None
  unfolding extent_for
  extent_before h = rw (lt-leb (offset + n * stride) bytes (omega arith)) refl

  pub extent_past : offset ≤ bytes → (bytes - offset) / stride < n → extent_for bytes offset stride n ≡ None
  unfolding extent_for
  extent_past l h =
      let past : bytes - offset < n * stride = (div-lt_iff_lt-mul some_bytes).0 h in
      rw (lt-leb (offset + n * stride) bytes (omega arith)) refl

  pub extent_inside : offset ≤ bytes → n ≤ (bytes - offset) / stride → offset + n * stride ≤ bytes
  extent_inside l h =
      let inside : n * stride ≤ bytes - offset = (le-div_iff_mul-le some_bytes).0 h in
      omega arith

  pub extent_right : offset + n * stride ≤ bytes → extent_for bytes offset stride n ≡ Some (offset + n * stride)
  unfolding extent_for
  extent_right h = rw (le-leb (offset + n * stride) bytes h) refl

-- ---- elements that bytes hold

module _ (bytes offset stride : ℕ) where
  pub found_none : (bytes - offset) / stride ≡ 0 → elements_found bytes offset stride ≡ None
  unfolding elements_found
  found_none e = rw (eq-eqb ((bytes - offset) / stride) 0 e) refl

  pub found_before : 0 < stride → bytes < offset → elements_found bytes offset stride ≡ None
  found_before p h =
      let none : bytes - offset < stride = omega arith in
      found_none (div-eq_of_lt none)

  pub found_some : ((bytes - offset) / stride ≡ 0 → ⊥) → elements_found bytes offset stride ≡ Some ((bytes - offset) / stride)
  unfolding elements_found
  found_some h = rw (ne_eqb ((bytes - offset) / stride) 0 h) refl
