-- The first entry, and one more of the rest (`CommonOfAll`).
use mathlib.Core.List.{◌∷◌}
use mathlib.Core.Path.{◌≡◌, ap, sym, ◌∙◌}
use borrow.Author.Rules.{rules}
use Rattle.said.specs.Answer.{maybe_of}
use Rattle.convert_common.proofs.CommonOfAll.{folded_start, folded_pair, folded_step}
use Rattle.convert_common.proofs.common_of_all.Goals as goal

pub loop-e-init : goal.loop-e-init
loop-e-init c ts l =
    let parts : c.args.list.now ≡ c.in_ok-first.first.now ∷ c.in_ok-first.rest.now = search rules in
    folded_start _ l parts

pub loop-e-preserved : goal.loop-e-preserved
loop-e-preserved c ts l =
    let folded = c.loop-e.invariant ts l in
    folded_step l folded c.loop-e-test.true _
    (sym (ap maybe_of c.in_ok-found.was) ∙ c.common_of_two.ensures ts (folded_pair l folded c.loop-e-test.true))
