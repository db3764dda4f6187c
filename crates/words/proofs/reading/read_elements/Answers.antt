-- The words counted are the type's, and few (crates/walk_decide, proofs/ReadyBounds). Assumes nothing.
use Prim.Native.Nat.{ℕ, ◌+◌, ◌*◌}
use mathlib.Core.List.{List}
use mathlib.Core.Path.{◌≡◌, sym}
use native.Mathlib.Omega.{arith}
use lib.ListN.{length}
use Rattle.said.proofs.Answered.{answered_refused, answered_done}
use Rattle.wgsl.specs.Types.{Ty}
use Rattle.wgsl.specs.Place.{word_count}
use Rattle.layout_values.specs.declared.value.Value.{Value}
use Rattle.walk_decide.specs.declared.Rest.{Rest}
use Rattle.walk_decide.specs.Whole.{TailedBy}
use Rattle.walk_decide.proofs.Whole.{open_whole}
use Rattle.walk_decide.proofs.ReadyBounds.{words_few, tailed_words, elements_few}
use Rattle.walk_decide.proofs.CallSteps.{loaded_few, loaded_done}
use Rattle.words.proofs.reading.read_elements.Goals as goal

-- what the code counts
counted : {ms : List ℕ} {table : List Value} {e : ℕ} {x : Rest} {t : Ty} (n : ℕ) → TailedBy ms table e x t → x.fixed + n * x.value.unit ≡ word_count n t
counted n y = rw y.tail_is (sym (tailed_words y.tailed n))

pub overflow_mul-count : goal.overflow_mul-count
overflow_mul-count c =
    let pre = c.requires in
    omega (arith, counted c.args.n pre.1, words_few pre.1.tailed.ready c.args.n, pre.2, pre.3)

pub overflow_add-count : goal.overflow_add-count
overflow_add-count c =
    let pre = c.requires in
    omega (arith, counted c.args.n pre.1, words_few pre.1.tailed.ready c.args.n, pre.2, pre.3)

pub returns-then-words-count : goal.returns-then-words-count
returns-then-words-count c t y = answered_refused _ (loaded_few _ t _ _ (rw (counted c.args.n y) at c.if-words-count.true))

pub overflow_cast-n : goal.overflow_cast-n
overflow_cast-n c =
    let pre = c.requires in
    omega (arith, elements_few pre.1.tailed c.args.n (length c.args.buf.now) pre.2, pre.3)

pub load-requires : goal.load-requires
load-requires c =
    let pre = c.requires in
    (pre.0, c.args.n, rw (c.open_rest.ensures, pre.1.tail_is) (open_whole pre.1.tailed _), rw (counted c.args.n pre.1) at c.if-words-count.false, pre.2)

pub overflow_cast-result : goal.overflow_cast-result
overflow_cast-result c =
    let pre = c.requires in
    omega (arith, counted c.args.n pre.1, words_few pre.1.tailed.ready c.args.n, pre.2, pre.3)

pub returns : goal.returns
returns c t y =
    let there = rw (counted c.args.n y) at c.if-words-count.false in
    answered_done _ (loaded_done _ t _ _ there) (counted c.args.n y)
    (c.load.ensures t _ (rw (c.open_rest.ensures, y.tail_is) (open_whole y.tailed _)) there)
