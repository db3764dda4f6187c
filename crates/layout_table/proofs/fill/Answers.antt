-- The invariant is `Filled` (proofs/TableOf): the types below k are good, the table holds their values and is blank past them.
use mathlib.Core.Path.{sym, ◌∙◌}
use native.Mathlib.Omega.{arith}
use borrow.Author.Rules.{rules}
use Rattle.layout_table.proofs.TableOf.{filled_none, filled_upward, filled_more, filled_refused, filled_stray, filled_named, filled_table}
use Rattle.layout_table.proofs.fill.Goals as goal

pub loop-k-init : goal.loop-k-init
loop-k-init c = let p = c.requires in filled_none p.0 p.1

pub entry_made-requires : goal.entry_made-requires
entry_made-requires c = (
  _,
  filled_upward c.loop-k.invariant (search rules) c.wide-start.ensures.0 c.wide-types.ensures.0 c.wide-members.ensures.0
      c.member_length-long.ensures.0 c.entry_at-e.ensures,
)

pub returns-in-Err : goal.returns-in-Err
returns-in-Err c =
    let u = filled_upward c.loop-k.invariant (search rules) c.wide-start.ensures.0 c.wide-types.ensures.0 c.wide-members.ensures.0
    c.member_length-long.ensures.0 c.entry_at-e.ensures in
    rw c.at.ensures (filled_refused c.loop-k.invariant (search rules) u _ (sym c.in-Err.is ∙ c.entry_made.ensures _ u))

pub loop-k-preserved : goal.loop-k-preserved
loop-k-preserved c =
    let u = filled_upward c.loop-k.invariant (search rules) c.wide-start.ensures.0 c.wide-types.ensures.0 c.wide-members.ensures.0
    c.member_length-long.ensures.0 c.entry_at-e.ensures in
    filled_more c.loop-k.invariant (search rules) u _ (sym c.in-Ok.is ∙ c.entry_made.ensures _ u)

pub returns-then-stray-members : goal.returns-then-stray-members
returns-then-stray-members c =
    filled_stray _ _ _ c.loop-k.invariant (search rules) c.wide-types.ensures.0 c.wide-members.ensures.0 c.lowest_stray-stray.ensures (omega arith)

pub returns : goal.returns
returns c =
    filled_table c.loop-k.invariant
    (filled_named _ _ _ c.loop-k.invariant (search rules) c.wide-types.ensures.0 c.wide-members.ensures.0 c.lowest_stray-stray.ensures
    (omega arith))
