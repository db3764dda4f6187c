-- By the elements that are found (proofs/HeldOf). Assumes nothing.
use mathlib.Core.Path.{sym, ◌∙◌}
use native.Mathlib.Omega.{arith}
use Rattle.walk_decide.proofs.CallSteps.{found_inside}
use Rattle.paths.proofs.HeldOf.{stride_above, open_short, open_there}
use Rattle.paths.proofs.locate.held_open.Goals as goal

pub elements_in-requires : goal.elements_in-requires
elements_in-requires c = stride_above c.requires.1

pub overflow_mul-result : goal.overflow_mul-result
overflow_mul-result c = omega (arith, found_inside _ _ _ (sym c.elements_in.ensures ∙ c.in_ok-elements.was), c.requires.2)

pub overflow_add-result : goal.overflow_add-result
overflow_add-result c =
    omega (arith, found_inside _ _ _ (sym c.elements_in.ensures ∙ c.in_ok-elements.was), c.requires.2)

pub returns-in_err-elements : goal.returns-in_err-elements
returns-in_err-elements c t b x l = rw c.from_residual.ensures (sym (open_short x b (rw l (sym c.elements_in.ensures ∙ c.in_err-elements.was))))

pub returns : goal.returns
returns c t b x l = sym (open_there x b (rw l (sym c.elements_in.ensures ∙ c.in_ok-elements.was)))
