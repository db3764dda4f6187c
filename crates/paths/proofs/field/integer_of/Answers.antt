-- An i32, a u32 or neither, by the kind (proofs/IntegerOf). Assumes nothing.
use mathlib.Core.Logic.{inl, inr}
use mathlib.Core.Path.{◌≡◌, ap, sym, ◌∙◌}
use Rattle.wgsl.specs.Said.{good}
use Rattle.wgsl.specs.Path as path
use Rattle.said.specs.declared.target.Target.{Target}
use Rattle.said.specs.Target.{target_is}
use Rattle.paths.specs.Field.{found_in}
use Rattle.paths.proofs.IntegerOf.{found_integer, found_none}
use Rattle.paths.proofs.field.integer_of.Goals as goal

-- the kind of the target that the code has
kind : {t : Target} (u : path.Target) → t ≡ target_is u → (target_is u).scalar ≡ t.scalar
kind u is = sym (ap (λ (t : Target). t.scalar) is)

pub returns-then-t-eq-I32 : goal.returns-then-t-eq-I32
returns-then-t-eq-I32 c = λ u is. ap good is ∙ found_integer u (inl (kind u is ∙ c.if-t-eq-I32.true))

pub returns-then-t-eq-U32 : goal.returns-then-t-eq-U32
returns-then-t-eq-U32 c = λ u is. ap good is ∙ found_integer u (inr (kind u is ∙ c.if-t-eq-U32.true))

pub returns : goal.returns
returns c = λ u is.
    ap found_in (sym (found_none u (λ q. c.if-t-eq-I32.false (sym (kind u is) ∙ q)) (λ q. c.if-t-eq-U32.false (sym (kind u is) ∙ q))))
