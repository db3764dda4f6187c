-- By the order and where the struct ends in it (proofs/OrderOf). Assumes nothing.
use Prim.Native.Nat.{ℕ}
use mathlib.Core.Bool.{true, not, ◌&&◌}
use mathlib.Core.List.{List}
use mathlib.Core.Option.{some}
use mathlib.Core.Path.{◌≡◌, ap, sym, ◌∙◌}
use native.Mathlib.Omega.{arith}
use borrow.Author.Tests.{not-true, not-false}
use lib.ListN.{length}
use Rattle.std.specs.Prelude.{Err, None, Some}
use Rattle.said.specs.declared.refusal.Refusal.TheVariants.{NoOrder}
use Rattle.wgsl.specs.Types.{Members}
use Rattle.wgsl.specs.Order.{all_differ, reordered, in_order}
use Rattle.layout_values.specs.declared.value.Value.{Value}
use Rattle.orders_check.specs.Checked.{all_below}
use Rattle.orders.specs.Promise.{StructMeant}
use Rattle.orders.proofs.OrderOf.{wrong_length, not_once, once, end_nowhere, end_there, end_not_less, none_said, some_said, end_is}
use Rattle.orders.proofs.check.check_struct.Goals as goal

-- the members in this order, which names each once
meant_once : {bytes : List ℕ} {table : List Value} {l : Value} {ms : Members} (order : List ℕ) (k : ℕ) → StructMeant bytes table l ms → length order ≡ l.count → true ≡ (all_below l.count order && all_differ order) → (new : Members) × (reordered ms order ≡ some new) × (in_order ms order ≡ some new)
meant_once {ms = ms} order k s long all = once k ms _ (long ∙ s.is_struct.count_is) (rw s.is_struct.count_is at all)

pub returns-then-order-count : goal.returns-then-order-count
returns-then-order-count c = λ k ms s. none_said (wrong_length k ms _ (λ e. omega (arith, c.if-order-count.true, s.is_struct.count_is)))

pub returns-then-not-all_once : goal.returns-then-not-all_once
returns-then-not-all_once c = λ k ms s.
    let all = rw s.is_struct.count_is at c.all_once.ensures in
    none_said (not_once k ms _ (sym (not-true _ (ap not c.if-not-all_once.true)) ∙ all))

pub returns-in_err-end : goal.returns-in_err-end
returns-in_err-end c = λ k ms s.
    let new = meant_once _ k s c.if-order-count.false (sym (not-false _ (ap not c.if-not-all_once.false)) ∙ c.all_once.ensures) in
    let nowhere : c.end_in.result ≡ None = c.in_err-end.ensures.ok_part in
    let value = rw nowhere at c.ok_or.ensures.value in
    let is : c.from_residual.result ≡ Err NoOrder = grind arith in
    rw is (none_said (end_nowhere k ms _ new.2 (rw nowhere at (c.end_in.ensures k ms new.0 s.is_struct new.1))))

pub returns-then-end-end_now : goal.returns-then-end-end_now
returns-then-end-end_now c = λ k ms s.
    let new = meant_once _ k s c.if-order-count.false (sym (not-false _ (ap not c.if-not-all_once.false)) ∙ c.all_once.ensures) in
    let there : c.end_in.result ≡ Some c.in_ok-end.end = c.in_ok-end.ensures.ok_part in
    some_said
    (end_there k ms _ new.2 (rw there at (c.end_in.ensures k ms new.0 s.is_struct new.1)) (omega (arith, c.if-end-end_now.true, c.end_now.ensures _ s.ends, end_is s.number k ms)))

pub returns : goal.returns
returns c = λ k ms s.
    let new = meant_once _ k s c.if-order-count.false (sym (not-false _ (ap not c.if-not-all_once.false)) ∙ c.all_once.ensures) in
    let there : c.end_in.result ≡ Some c.in_ok-end.end = c.in_ok-end.ensures.ok_part in
    none_said
    (end_not_less k ms _ new.2 (rw there at (c.end_in.ensures k ms new.0 s.is_struct new.1)) (omega (arith, c.if-end-end_now.false, c.end_now.ensures _ s.ends, end_is s.number k ms)))
