-- By the definition.
use Rattle.walk_decide.specs.Decide.{closed_rest}
use Rattle.walk_decide.proofs.closed_rest.Goals as goal

pub returns : goal.returns
unfolding closed_rest
returns c = rw c.words.ensures
