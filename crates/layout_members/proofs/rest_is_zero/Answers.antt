-- Each answer is a law of `Flags`; past the test of the size, a size is given or zero.
use mathlib.Core.Bool.{not}
use mathlib.Core.Path.{ap}
use mathlib.Core.Logic.{◌⊎◌, inl, inr}
use mathlib.Core.Path.{◌≡◌, sym, ◌∙◌}
use mathlib.Core.Bool.{true}
use native.Mathlib.Omega.{arith}
use borrow.Author.Tests.{not-true}
use Rattle.wgsl.specs.File.{size_is_given}
use Rattle.file.specs.Fields.{member_is}
use Rattle.layout_members.proofs.Flags.{rest_bits, rest_size, rest_align_given, rest_align_zero}
use Rattle.layout_members.proofs.rest_is_zero.Goals as goal
use Rattle.layout_members.proofs.rest_is_zero.Goals.{then-not-size_given+else-m-ne0-2, else-not-size_given}

size_said : (c : goal.Then-align_given) →
    let m = c.args.m in
    (size_is_given (member_is m) ≡ true) ⊎ (m.size ≡ 0)
size_said c =
    elim c.if-not-size_given.branch [ then-not-size_given+else-m-ne0-2 w ↦ inr w.if-m-ne0-2.false | else-not-size_given w ↦ inl (sym c.size_given.ensures ∙ w.if-not-size_given.false) ]

size_said_2 : (c : goal.After-struct_known-2-1) →
    let m = c.args.m in
    (size_is_given (member_is m) ≡ true) ⊎ (m.size ≡ 0)
size_said_2 c =
    elim c.if-not-size_given.branch [ then-not-size_given+else-m-ne0-2 w ↦ inr w.if-m-ne0-2.false | else-not-size_given w ↦ inl (sym c.size_given.ensures ∙ w.if-not-size_given.false) ]

pub returns-then-m-ne0 : goal.returns-then-m-ne0
returns-then-m-ne0 c = sym (rest_bits _ (omega arith) c.if-m-ne0.true)

pub returns-then-m-ne0-2 : goal.returns-then-m-ne0-2
returns-then-m-ne0-2 c =
    let g = c in
    sym (rest_size _ (sym g.size_given.ensures ∙ not-true _ (ap not c.if-not-size_given.true)) c.if-m-ne0-2.true)

pub returns-then-align_given : goal.returns-then-align_given
returns-then-align_given c =
    let j = c in
    sym (rest_align_given _ (omega arith) j.if-m-ne0.false (size_said j)
    (sym c.align_given.ensures ∙ c.if-align_given.true))

pub returns : goal.returns
returns c =
    let j = c in
    sym (rest_align_zero _ (omega arith) j.if-m-ne0.false (size_said_2 j)
    (sym c.align_given.ensures ∙ c.if-align_given.false))
