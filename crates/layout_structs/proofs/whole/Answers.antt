-- Each way out is one law of `Ended`.
use Rattle.std.specs.Prelude.{Some}
use mathlib.Core.Path.{◌≡◌, sym, ◌∙◌}
use native.Mathlib.Omega.{arith}
use Rattle.layout_structs.proofs.Ended.{ended_opens, ended_closes}
use Rattle.layout_structs.proofs.whole.Goals as goal

pub returns-then-p : goal.returns-then-p
returns-then-p c k ms e n =
    rw c.struct_of.ensures (sym (ended_opens _ k _ _ ms e n c.if-p.true))

pub returns : goal.returns
returns c k ms e n =
    let size : c.round_up.result ≡ Some c.in_ok-size.size = grind arith in
    rw c.struct_of-2.ensures
    (sym (ended_closes _ k _ _ ms _ e n c.if-p.false (sym size ∙ c.round_up.ensures)))
