-- By what is found (proofs/WriteType).
use native.Mathlib.Omega.{arith}
use Rattle.said.proofs.Answered.{answered_refused, answered_same}
use Rattle.walk_decide.proofs.Whole.{ready_words, closed_whole}
use Rattle.words.proofs.WriteType.{wrong_words, fixed_extent, few_bytes, all_there}
use Rattle.words.proofs.writing.write_closed.Goals as goal

pub returns-then-words : goal.returns-then-words
returns-then-words c t r o = answered_refused _ (wrong_words r o _ _ (λ q. omega (arith, q)))

pub returns-then-buf-l : goal.returns-then-buf-l
returns-then-buf-l c t r o = answered_refused _ (few_bytes r o _ _ (omega arith) (omega arith))

pub write_whole-requires : goal.write_whole-requires
write_whole-requires c =
    let (t, r, o) = c.requires in
    (t, 0, rw c.closed_rest.ensures (closed_whole r), omega (arith, ready_words r), fixed_extent r o, omega arith)

pub returns : goal.returns
returns c t r o =
    answered_same _ (all_there r o _ _ (omega arith) (omega arith))
    (c.write_whole.ensures t 0 (rw c.closed_rest.ensures (closed_whole r)) (omega (arith, ready_words r)) (fixed_extent r o) (omega arith))
