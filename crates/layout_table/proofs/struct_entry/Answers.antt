-- The members one after the other: after each turn the loop knows what those so far come to (`Reached` of crates/layout_structs), whatever the
-- types of the lower entries are. Each answer is a law of `Upward`.
use Rattle.std.specs.Prelude.{Err}
use mathlib.Core.Path.{◌≡◌, ◌∙◌}
use native.Mathlib.Omega.{arith}
use borrow.Author.Rules.{rules}
use Rattle.layout_table.proofs.Upward.{members_inside, members_past, members_meet, members_rule, members_next, members_made}
use Rattle.layout_table.proofs.struct_entry.Goals as goal

pub member_at-m-requires : goal.member_at-m-requires
member_at-m-requires c =
    let r = c.requires.1 in
    members_inside r.1 c.span_of-s.ensures c.wide-length.ensures.0 _ (c.loop-i.invariant r.0 r.1) c.loop-i-test.true

pub returns-then-k-ty : goal.returns-then-k-ty
returns-then-k-ty c ts u =
    members_past u c.span_of-s.ensures c.wide-length.ensures.0 _ (c.loop-i.invariant ts u) c.loop-i-test.true c.member_at-m.ensures
    (omega (arith, c.wide-ty.ensures, c.if-k-ty.true))

pub step-requires : goal.step-requires
step-requires c =
    let r = c.requires.1 in
    members_meet r.1 c.span_of-s.ensures c.wide-length.ensures.0 _ (c.loop-i.invariant r.0 r.1) c.loop-i-test.true c.member_at-m.ensures
    c.wide-ty.ensures.0 c.if-k-ty.false c.value_at.ensures

pub returns-in_err-past : goal.returns-in_err-past
returns-in_err-past c ts u =
    let b = c.in_err-past.field-0.0 in
    let is : c.from_residual.result ≡ Err b = grind arith in
    is
    ∙ members_rule u c.span_of-s.ensures c.wide-length.ensures.0 _ (c.loop-i.invariant ts u) c.loop-i-test.true c.member_at-m.ensures
    c.wide-ty.ensures.0 c.if-k-ty.false c.value_at.ensures c.step.ensures b c.in_err-past.was

pub loop-i-preserved : goal.loop-i-preserved
loop-i-preserved c ts u =
    members_next u c.span_of-s.ensures c.wide-length.ensures.0 _ (c.loop-i.invariant ts u) c.loop-i-test.true c.member_at-m.ensures
    c.wide-ty.ensures.0 c.if-k-ty.false c.value_at.ensures c.step.ensures _ c.in_ok-past.was

pub returns : goal.returns
returns c ts u =
    members_made u c.span_of-s.ensures c.wide-length.ensures.0 _ (c.loop-i.invariant ts u) (search rules) c.requires.0
    c.finish.ensures.none c.finish.ensures.all
