-- A room of zeros is ASCII, which is not computed of so long a list.
use Rattle.answers.proofs.Ascii.{zeros_ascii}
use Rattle.answers.proofs.say.BytesDisplay.fmt.Goals as goal

pub spell-requires-clause-ascii : goal.spell-requires-clause-ascii
spell-requires-clause-ascii g c = zeros_ascii 8192
