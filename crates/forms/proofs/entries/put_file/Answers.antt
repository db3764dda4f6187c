-- What stands before the entries, these, the trailer (`put_then`).
use Prim.Native.Nat.{ℕ, ◌+◌, ◌*◌}
use mathlib.Core.List.{List}
use mathlib.Core.Path.{◌≡◌}
use native.Mathlib.Omega.{arith}
use lib.ListN.{length, take}
use lib.Seq.{length-take-le}
use Rattle.puts.proofs.PutLaws.{put_then, put_length}
use Rattle.forms.proofs.MovedEntries.{entries_long, file_with_lem}
use Rattle.forms.proofs.entries.put_file.Goals as goal

-- what stands before the entries has so many bytes
before_long : (f : List ℕ) (from rest : ℕ) → from + rest + 10 ≡ length f → length (take from f) ≡ from
before_long f from rest h = length-take-le from f (omega (arith, h))

pub put_part-requires : goal.put_part-requires
put_part-requires c =
    let x = c in
    let p = c.put-a.ensures in
    let q = c.put_entries-b.ensures in
    let first = before_long x.args.f.now x.args.from (x.args.long * x.args.members) x.requires.1 in
    let long = entries_long x.args.f.now x.args.long x.args.name.now x.requires.0 x.args.members x.args.from (omega (arith, x.requires.1)) in
    (omega (arith, x.requires.1), omega (arith, p.next, q.next, put_length p, put_length q, first, long, x.requires.2))

pub returns : goal.returns
returns c =
    let x = c in
    let a = x.args in
    let p = c.put-a.ensures in
    let q = c.put_entries-b.ensures in
    let t = c.put_part.ensures in
    rw (← file_with_lem a.f.now a.from a.long a.members a.name.now a.form.now) (put_then p (put_then q t))
