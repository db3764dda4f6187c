-- Nothing is left of a mask that is short (`none_left`).
use Rattle.site.proofs.IsBlock.{none_left}
use Rattle.site.proofs.block.within.Goals as goal

pub returns : goal.returns
returns c = none_left c.args.mask c.args.count
