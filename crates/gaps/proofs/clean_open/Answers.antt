-- By the elements that are found (proofs/CleanType). Assumes nothing.
use mathlib.Core.Path.{◌≡◌, sym, ◌∙◌}
use native.Mathlib.Omega.{arith}
use Rattle.std.specs.Prelude.{Err, None, Some}
use Rattle.wgsl.specs.Clean.{done_from}
use Rattle.said.specs.declared.refusal.Refusal.TheVariants.{Buffer}
use Rattle.said.proofs.Answered.{cleaned_refused, cleaned_done}
use Rattle.walk_decide.proofs.Whole.{ready_ordered, open_whole}
use Rattle.walk_decide.proofs.ReadyBounds.{stride_above, elements_few}
use Rattle.gaps.proofs.CleanType.{tailed_by, no_elements, some_elements}
use Rattle.gaps.proofs.clean_open.Goals as goal

pub elements_in-requires : goal.elements_in-requires
elements_in-requires c = rw c.rest_of-x.ensures (stride_above c.requires.0.1)

pub returns-in_err-n : goal.returns-in_err-n
returns-in_err-n c t x =
    let no : c.elements_in.result ≡ None = grind arith in
    let is : c.from_residual.result ≡ Err Buffer = grind arith in
    rw is (cleaned_refused _ (no_elements (tailed_by x c.rest_of-x.ensures) _ (sym c.elements_in.ensures ∙ no)))

pub overflow_mul-extent : goal.overflow_mul-extent
overflow_mul-extent c =
    let some : c.elements_in.result ≡ Some c.in_ok-n.n = grind arith in
    let s = some_elements (tailed_by c.requires.0.1 c.rest_of-x.ensures) _ (sym c.elements_in.ensures ∙ some) in
    omega (arith, s.0, s.1, c.requires.1)

pub overflow_add-extent : goal.overflow_add-extent
overflow_add-extent c =
    let some : c.elements_in.result ≡ Some c.in_ok-n.n = grind arith in
    let s = some_elements (tailed_by c.requires.0.1 c.rest_of-x.ensures) _ (sym c.elements_in.ensures ∙ some) in
    omega (arith, s.0, s.1, c.requires.1)

pub overflow_cast-n : goal.overflow_cast-n
overflow_cast-n c =
    let some : c.elements_in.result ≡ Some c.in_ok-n.n = grind arith in
    let s = some_elements (tailed_by c.requires.0.1 c.rest_of-x.ensures) _ (sym c.elements_in.ensures ∙ some) in
    omega (arith, elements_few c.requires.0.1 _ _ s.1, c.requires.1)

pub clean_whole-requires : goal.clean_whole-requires
clean_whole-requires c =
    let (t, x) = c.requires.0 in
    let some : c.elements_in.result ≡ Some c.in_ok-n.n = grind arith in
    let s = some_elements (tailed_by x c.rest_of-x.ensures) _ (sym c.elements_in.ensures ∙ some) in
    ((t, c.in_ok-n.n, rw (c.open_rest.ensures, c.rest_of-x.ensures) (open_whole x _), s.0), rw s.0 s.1, c.requires.1)

pub returns : goal.returns
unfolding done_from
returns c t x =
    let some : c.elements_in.result ≡ Some c.in_ok-n.n = grind arith in
    let s = some_elements (tailed_by x c.rest_of-x.ensures) _ (sym c.elements_in.ensures ∙ some) in
    let done = c.clean_whole.ensures t _ (rw (c.open_rest.ensures, c.rest_of-x.ensures) (open_whole x _)) s.0 (ready_ordered x.ready _) in
    cleaned_done _ s.2 done.0 done.1
