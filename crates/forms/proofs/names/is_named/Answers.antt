-- No name so far (`nameless_next`); one name is enough (`named_false`).
use Prim.Native.Nat.{◌+◌, ◌*◌}
use mathlib.Core.Bool.{not}
use mathlib.Core.Path.{ap, sym, ◌∙◌}
use native.Mathlib.Numerals.{add-one}
use native.Mathlib.Omega.{arith}
use Rattle.wgsl.specs.Number.{load}
use Rattle.forms.proofs.Nameless.{name_place, nameless_none, nameless_next, named_false}
use Rattle.forms.proofs.names.is_named.Goals as goal

pub loop-m-init : goal.loop-m-init
loop-m-init c = nameless_none _

pub returns-then-u32_at-ne0 : goal.returns-then-u32_at-ne0
returns-then-u32_at-ne0 c =
    let f = c.args.f.now in
    let name = ap (λ x. load 4 f (x + 16 * c.loop-m.m + 12)) c.requires.1 ∙ sym (name_place f c.loop-m.m c.requires.0) in
    ap not (sym (named_false f c.args.members c.loop-m.m c.loop-m-test.true (λ e. omega (arith, e, name, c.u32_at.ensures))))

pub loop-m-preserved : goal.loop-m-preserved
loop-m-preserved c =
    let f = c.args.f.now in
    let name = ap (λ x. load 4 f (x + 16 * c.loop-m.m + 12)) c.requires.1 ∙ sym (name_place f c.loop-m.m c.requires.0) in
    rw (add-one c.loop-m.m) (nameless_next f c.loop-m.m c.loop-m.invariant (omega (arith, name, c.u32_at.ensures)))
