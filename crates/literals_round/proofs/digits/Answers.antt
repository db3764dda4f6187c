-- 64 less the leading zeros (`Shifts`).
use native.Mathlib.Omega.{arith}
use Rattle.literals_round.proofs.Shifts.{digits_are}
use Rattle.literals_round.proofs.digits.Goals as goal

pub returns : goal.returns
returns c = (digits_are c.args.n (omega (arith, c.ranges.n))).1
