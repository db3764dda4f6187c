-- A quarter, rounded up.
use native.Mathlib.Omega.{arith}
use Rattle.wgsl.proofs.ScalarWords.{words_enough, words_needed}
use Rattle.layout_values.proofs.scalars.scalar_words.Goals as goal

pub returns : goal.returns
returns c =
    let w = c.args.width in
    (omega (arith, words_enough w, words_needed w), omega arith)
