-- By the kind of the entry (proofs/MeantStruct). Assumes nothing.
use Rattle.said.proofs.Answered.{answered_refused, answered_same}
use Rattle.orders.proofs.MeantStruct.{meant_struct, no_struct_lem, plan_refused, plan_allowed}
use Rattle.orders.proofs.plan.plan_entry_at.Goals as goal

pub returns-then-l-ne-STRUCT : goal.returns-then-l-ne-STRUCT
returns-then-l-ne-STRUCT c = λ t x. answered_refused _ (plan_refused _ _ _ (no_struct_lem x c.if-l-ne-STRUCT.true))

pub plan_struct-requires : goal.plan_struct-requires
plan_struct-requires c =
    let (t, x) = c.requires in
    let s = meant_struct x c.if-l-ne-STRUCT.false in
    (s.0, s.1.is_struct)

pub returns : goal.returns
returns c =
    λ t x.
    let s = meant_struct x c.if-l-ne-STRUCT.false in
    answered_same _ (plan_allowed _ _ _ s.2) (c.plan_struct.ensures s.0 s.1.is_struct)
