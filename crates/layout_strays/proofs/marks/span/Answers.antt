-- Ones, by two shifts (`InWords`).
use Rattle.layout_strays.proofs.InWords.{span_is}
use Rattle.layout_strays.proofs.marks.span.Goals as goal

pub returns : goal.returns
returns c = span_is c.args.count c.args.place c.requires.0 c.requires.1
