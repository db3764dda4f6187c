-- The part of the file, then what comes after it (`put_then`).
use Prim.Native.Nat.{◌+◌, ◌-◌}
use mathlib.Core.Path.{◌≡◌}
use native.Mathlib.Omega.{arith}
use Rattle.puts.proofs.PutLaws.{put_then}
use Rattle.forms.proofs.entries.put_part.Goals as goal

pub returns : goal.returns
returns c =
    let first = c in
    let x = first in
    let so : x.args.from + x.args.many - x.args.from ≡ x.args.many = omega arith in
    rw so at (put_then first.put-a.ensures c.put.ensures)
