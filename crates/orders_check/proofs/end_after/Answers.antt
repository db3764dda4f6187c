-- Each way out is a law of `LastMember`, at the members that the caller knows.
-- Assumes nothing.
use mathlib.Core.Path.{sym, ◌∙◌}
use Rattle.orders_check.proofs.LaidEnd.{ok_is}
use Rattle.orders_check.proofs.LastMember.{all_told, all_there, all_broken, before_broken, open_power, open_found, closed_power, closed_found}
use Rattle.orders_check.proofs.end_after.Goals as goal

pub returns-in_err-ok : goal.returns-in_err-ok
returns-in_err-ok c k ms t j = rw c.from_residual.ensures (before_broken j k (sym c.ok.ensures.value ∙ c.in_err-ok.was))

pub round_up-requires : goal.round_up-requires
round_up-requires c = open_power c.requires.2 _ (ok_is _ (sym c.ok.ensures.value ∙ c.in_ok-ok.was)) _ c.given_align.ensures

pub returns-then-opens : goal.returns-then-opens
returns-then-opens c k ms t j =
    open_found j _ (ok_is _ (sym c.ok.ensures.value ∙ c.in_ok-ok.was)) _ c.given_align.ensures k
    (sym (c.opens.ensures t j.meets.layout j.meets.well_formed) ∙ c.if-opens.true) _ c.round_up.ensures

pub returns-in_err-ok-2 : goal.returns-in_err-ok-2
returns-in_err-ok-2 c k ms t j = all_there j _ (c.step.ensures ms t j.meets) (sym c.ok-2.ensures.value ∙ c.in_err-ok-2.was)

pub returns-in_err-all : goal.returns-in_err-all
returns-in_err-all c k ms t j =
    let all = all_told j _ (c.step.ensures ms t j.meets) (sym c.ok-2.ensures.value ∙ c.in_ok-ok-2.was) in
    rw c.from_residual-in_err-all.ensures (all_broken j k _ all (sym c.ok-3.ensures.value ∙ c.in_err-all.was))

pub round_up-requires-2 : goal.round_up-requires-2
round_up-requires-2 c =
    let j = c.requires.2 in
    let all = all_told j _ (c.step.ensures c.requires.0 c.requires.1 j.meets) (sym c.ok-2.ensures.value ∙ c.in_ok-ok-2.was) in
    closed_power j (sym (c.opens.ensures c.requires.1 j.meets.layout j.meets.well_formed) ∙ c.if-opens.false) _
    (sym (ok_is _ (sym c.ok-3.ensures.value ∙ c.in_ok-all.was)) ∙ all)

pub returns : goal.returns
returns c k ms t j =
    let all = all_told j _ (c.step.ensures ms t j.meets) (sym c.ok-2.ensures.value ∙ c.in_ok-ok-2.was) in
    closed_found j (sym (c.opens.ensures t j.meets.layout j.meets.well_formed) ∙ c.if-opens.false) _
    (sym (ok_is _ (sym c.ok-3.ensures.value ∙ c.in_ok-all.was)) ∙ all) k _ c.round_up-2.ensures
