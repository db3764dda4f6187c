-- By the kind of the entry (proofs/MeantStruct). Assumes nothing.
use mathlib.Core.Path.{sym, ◌∙◌}
use Rattle.orders.proofs.MeantStruct.{meant_struct, no_struct_lem, order_refused, order_allowed}
use Rattle.orders.proofs.check.check_entry_at.Goals as goal

pub returns-then-l-ne-STRUCT : goal.returns-then-l-ne-STRUCT
returns-then-l-ne-STRUCT c = λ t x. sym (order_refused _ _ _ (no_struct_lem x c.if-l-ne-STRUCT.true))

pub check_struct-requires : goal.check_struct-requires
check_struct-requires c =
    let (t, x) = c.requires in
    let s = meant_struct x c.if-l-ne-STRUCT.false in
    (s.0, s.1)

pub returns : goal.returns
returns c =
    λ t x.
    let s = meant_struct x c.if-l-ne-STRUCT.false in
    c.check_struct.ensures _ s.0 s.1 ∙ sym (order_allowed _ _ _ s.2)
