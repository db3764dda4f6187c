-- One word has more marks (`InWords`).
use borrow.Author.Rules.{rules}
use Rattle.layout_strays.proofs.InWords.{word_marked}
use Rattle.layout_strays.proofs.marks.mark_in_word.Goals as goal

pub returns : goal.returns
returns c =
    let s = c in
    rw c.span.ensures (word_marked s.args.named.now s.requires.0 s.requires.1 (search rules))
