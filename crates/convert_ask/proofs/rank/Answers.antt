-- Each answer is a law of `Calls`, over what `accept` and `entry_rank` ensure.
use mathlib.Core.Path.{refl, ◌∙◌}
use native.Mathlib.Omega.{arith}
use Rattle.layout_table.proofs.SaidTable.{told}
use Rattle.convert_ask.proofs.Calls.{said_or_no_rank, rank_past, rank_past_second, pair_there, rank_is_lem}
use Rattle.convert_ask.proofs.rank.Goals as goal

pub returns-then-trailer-a : goal.returns-then-trailer-a
returns-then-trailer-a c = rank_past (told _ _ c.accept.ensures _ c.in_ok-trailer.was) _ _ c.if-trailer-a.true

pub returns-then-trailer-b : goal.returns-then-trailer-b
returns-then-trailer-b c = rank_past_second (told _ _ c.accept.ensures _ c.in_ok-trailer.was) _ _ c.if-trailer-a.false c.if-trailer-b.true

pub entry_rank-requires : goal.entry_rank-requires
entry_rank-requires c =
    pair_there (told _ _ c.accept.ensures _ c.in_ok-trailer.was) _ _ _ c.wide-start.ensures.0 (omega arith) (omega arith)

pub returns : goal.returns
returns c =
    rw c.ok_or.ensures.value
    (said_or_no_rank c.entry_rank.result
    ∙ rank_is_lem (told _ _ c.accept.ensures _ c.in_ok-trailer.was) (omega arith) (omega arith) c.wide.ensures.0 c.wide-2.ensures.0 refl
    c.entry_rank.ensures)
