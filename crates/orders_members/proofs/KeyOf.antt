-- A member's key, by the numbers of its entry and of its type's value (specs/Entries).
-- Assumes nothing.
use Prim.Native.Nat.{ℕ}
use mathlib.Core.Bool.{true, false}
use mathlib.Core.List.{List}
use mathlib.Core.Option.{Option, none, some}
use mathlib.Core.Path.{◌≡◌, refl, ap, sym, ◌∙◌}
use native.Mathlib.Omega.{arith}
use Rattle.wgsl.specs.Types.{Ty, scalar, vector, matrix, array, runtime, atomic, struct, kind_of, is_runtime, runtime_kind}
use Rattle.wgsl.specs.Size.{given_or, present, align_of}
use Rattle.wgsl.proofs.ScalarKind.{no_scalar_kind}
use Rattle.layout_members.specs.Given.{or_own}
use Rattle.layout_values.specs.declared.value.Value.{Value}
use Rattle.layout_values.specs.Value.{value_of}
use Rattle.walk_trees.specs.Slot.{member_value}
use Rattle.orders_members.specs.Entries.{Entered, key_of}

-- A type is a runtime array exactly if its kind says so.
kind_runtime : (t : Ty) → kind_of t ≡ runtime_kind → is_runtime t ≡ true
unfolding kind_of is_runtime
kind_runtime (scalar s) e = absurd (no_scalar_kind s 10 (omega arith) (omega arith) e)
kind_runtime (vector n s) e = absurd (omega (arith, e))
kind_runtime (matrix c r s) e = absurd (omega (arith, e))
kind_runtime (array n t) e = absurd (omega (arith, e))
kind_runtime (runtime t) e = refl
kind_runtime (atomic s) e = absurd (omega (arith, e))
kind_runtime (struct k ms) e = absurd (omega (arith, e))

kind_other : (t : Ty) → (kind_of t ≡ runtime_kind → ⊥) → is_runtime t ≡ false
unfolding kind_of is_runtime
kind_other (scalar s) h = refl
kind_other (vector n s) h = refl
kind_other (matrix c r s) h = refl
kind_other (array n t) h = refl
kind_other (runtime t) h = absurd (h refl)
kind_other (atomic s) h = refl
kind_other (struct k ms) h = refl

module _ {bytes : List ℕ} {table : List Value} {m : ℕ} {t : Ty} {size align : Option ℕ} (e : Entered bytes table m t size align) where
  kind_is : (member_value bytes table m).kind ≡ kind_of t
  unfolding value_of
  kind_is = ap (λ (l : Value). l.kind) e.value_is

  pub runtime_key : (member_value bytes table m).kind ≡ runtime_kind → 0 ≡ key_of t align
  unfolding key_of
  runtime_key h = rw (kind_runtime t (sym kind_is ∙ h)) refl

  own : (given : Option ℕ) (a : Option ℕ) → or_own given (present a) ≡ present (given_or given a)
  unfolding or_own given_or present
  own (some n) a = refl
  own none (some n) = refl
  own none none = refl

  pub other_key : ((member_value bytes table m).kind ≡ runtime_kind → ⊥) → or_own align (member_value bytes table m).align ≡ key_of t align
  unfolding key_of value_of
  other_key h =
      rw (kind_other t (λ k. h (kind_is ∙ k)))
      (ap (λ (l : Value). or_own align l.align) e.value_is ∙ own align (align_of t))
