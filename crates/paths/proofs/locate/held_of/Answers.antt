-- By the laws of `HeldOf`. Assumes nothing.
use mathlib.Core.Path.{sym, ◌∙◌}
use native.Mathlib.Omega.{arith}
use Rattle.paths.proofs.HeldOf.{viewable_value, viewable_well_formed, closed_short, closed_there, open_findable, open_opening}
use Rattle.paths.proofs.locate.held_of.Goals as goal

pub rest_of-requires : goal.rest_of-requires
rest_of-requires c =
    let (f, e, t, x, few) = c.requires in
    open_findable x (sym (c.opens.ensures t (viewable_value x) (viewable_well_formed x)) ∙ c.if-opens.true)

pub held_open-requires : goal.held_open-requires
held_open-requires c =
    let (f, e, t, x, few) = c.requires in
    (t, open_opening x (sym (c.opens.ensures t (viewable_value x) (viewable_well_formed x)) ∙ c.if-opens.true) c.rest_of.ensures, few)

pub returns-then-opens : goal.returns-then-opens
returns-then-opens c f e t b x l =
    let tail = c in
    c.held_open.ensures t b
    (open_opening x (sym (tail.opens.ensures t (viewable_value x) (viewable_well_formed x)) ∙ tail.if-opens.true) tail.rest_of.ensures) l

pub returns-then-bytes-size : goal.returns-then-bytes-size
returns-then-bytes-size c f e t b x l =
    sym (closed_short x b (sym (c.opens.ensures t (viewable_value x) (viewable_well_formed x)) ∙ c.if-opens.false) (omega arith))

pub returns : goal.returns
returns c f e t b x l =
    sym (closed_there x b (sym (c.opens.ensures t (viewable_value x) (viewable_well_formed x)) ∙ c.if-opens.false) (omega arith))
