-- What is put from 0 on stands before what was there (`sets-eq`).
use Prim.Native.Nat.{◌+◌, ◌-◌}
use mathlib.Core.List.{◌++◌}
use mathlib.Core.Path.{◌≡◌, ap, ◌∙◌}
use native.Mathlib.Omega.{arith}
use lib.ListN.{length, take, drop, length-take}
use lib.Seq.{sets, sets-eq}
use Rattle.site.proofs.start.copy_first.Goals as goal

pub returns : goal.returns
returns c =
    let x = c in
    let part = take x.args.size x.args.factory.now in
    let long : 0 + length part ≡ x.args.size = simp (length-take) (omega arith) in
    let all : x.args.size - 0 ≡ x.args.size = omega arith in
    c.put.ensures.bytes
    ∙ ap (λ n. sets x.args.site.now 0 (take n x.args.factory.now)) all
    ∙ sets-eq part x.args.site.now 0 (omega (arith, long))
    ∙ ap (λ n. part ++ drop n x.args.site.now) long
