-- One byte is `load 1`.
use Rattle.wgsl.specs.Number.{load}
use borrow.Author.Rules.{rules}
use Rattle.file.proofs.fields.byte.Goals as goal

pub returns : goal.returns
unfolding load
returns c = search rules
