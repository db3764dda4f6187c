-- Each answer is what the two ranks choose (`CommonOfAll`).
use mathlib.Core.Path.{refl, sym, ◌∙◌}
use Rattle.convert_common.proofs.CommonOfAll.{common_second, common_first}
use Rattle.convert_common.proofs.PairNamed.{swapped, rank_named}
use Rattle.convert_common.proofs.common_of_two.Goals as goal

pub returns-then-is_some : goal.returns-then-is_some
returns-then-is_some c ts p =
    common_second ts _ _ _ (rank_named p c.wide-x.ensures.0 c.wide-y.ensures.0 refl c.entry_rank.ensures)
    (sym c.is_some.ensures ∙ c.if-is_some.true)

pub returns : goal.returns
returns c ts p =
    let x = c.wide-x.ensures.0 in
    let y = c.wide-y.ensures.0 in
    rw c.and.ensures
    (common_first ts _ _ _ _ (rank_named p x y refl c.entry_rank.ensures) (rank_named (swapped p) y x refl c.entry_rank-2.ensures)
    (sym c.is_some.ensures ∙ c.if-is_some.false))
