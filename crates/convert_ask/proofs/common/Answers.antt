-- Each answer is a law of `Calls`, over what `accept`, `all_below` and `common_of_all` ensure.
use mathlib.Core.Bool.{not}
use mathlib.Core.Path.{ap, refl, sym, ◌∙◌}
use borrow.Author.Tests.{not-true, not-false}
use Rattle.layout_table.proofs.SaidTable.{told}
use Rattle.convert_ask.proofs.Calls.{said_or_no_rank, common_past, list_there, common_is}
use Rattle.convert_ask.proofs.common.Goals as goal

pub returns-then-not-all_below : goal.returns-then-not-all_below
returns-then-not-all_below c =
    common_past (told _ _ c.accept.ensures _ c.in_ok-trailer.was) _ (sym c.all_below.ensures ∙ not-true _ (ap not c.if-not-all_below.true))

pub common_of_all-requires : goal.common_of_all-requires
common_of_all-requires c =
    list_there (told _ _ c.accept.ensures _ c.in_ok-trailer.was) _ (sym c.all_below.ensures ∙ not-false _ (ap not c.if-not-all_below.false)) _
    c.wide.ensures.0

pub returns : goal.returns
returns c =
    rw c.ok_or.ensures.value
    (said_or_no_rank c.common_of_all.result
    ∙ common_is (told _ _ c.accept.ensures _ c.in_ok-trailer.was) _ (sym c.all_below.ensures ∙ not-false _ (ap not c.if-not-all_below.false))
    c.wide.ensures.0 refl c.common_of_all.ensures)
