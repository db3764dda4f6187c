-- The trailer of an accepted file has its types.
use Rattle.layout_ask.proofs.Calls.{check_types}
use Rattle.layout_ask.proofs.check.Goals as goal

pub returns : goal.returns
returns c = check_types _ _ c.accept.ensures c.in_ok-accept.field-0 c.in_ok-accept.was
