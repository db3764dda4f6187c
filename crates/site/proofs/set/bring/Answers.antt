-- What `put` puts, or nothing.
use Prim.Native.Nat.{◌+◌, ◌-◌}
use mathlib.Core.Path.{◌≡◌, refl, ap, ◌∙◌}
use native.Mathlib.Omega.{arith}
use lib.ListN.{take, drop}
use lib.Seq.{sets}
use Rattle.site.specs.Set.{brought_in}
use Rattle.site.proofs.set.bring.Goals as goal

pub returns-then-on : goal.returns-then-on
unfolding brought_in
returns-then-on c = rw c.if-on.true refl

pub returns : goal.returns
unfolding brought_in
returns c =
    let x = c in
    let a = x.args in
    let long : a.from + a.size - a.from ≡ a.size = omega arith in
    rw c.if-on.false (c.put.ensures.bytes ∙ ap (λ n. sets a.site.now a.from (take n (drop a.from a.factory.now))) long)
