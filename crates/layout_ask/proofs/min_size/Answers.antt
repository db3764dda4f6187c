-- A number asked alone.
use Rattle.layout_ask.proofs.Calls.{ask_min_size}
use Rattle.layout_ask.proofs.min_size.Goals as goal

pub returns : goal.returns
returns c = ask_min_size _ _ _ c.value_of.ensures _ c.in_ok-value_of.was _ c.least.ensures c.alone.ensures
