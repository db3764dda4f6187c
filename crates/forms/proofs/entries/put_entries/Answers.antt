-- What is left to put gives, from here, what the whole gives from the start (`entries_next`).
use Prim.Native.Nat.{◌+◌, ◌-◌, ◌*◌}
use mathlib.Core.Path.{◌≡◌, refl, ap, ap₂, sym, ◌∙◌}
use native.Mathlib.Nat.{mul-suc}
use native.Mathlib.Numerals.{add-one}
use native.Mathlib.Omega.{arith}
use borrow.Author.Rules.{rules}
use lib.ListN.{length}
use lib.Seq.{sets}
use Rattle.forms.specs.Entries.{entries_from}
use Rattle.puts.proofs.PutLaws.{put_length}
use Rattle.wgsl.proofs.MemberLength.{entry_within}
use Rattle.forms.proofs.MovedEntries.{entry_long, entries_long, entries_next, entries_none}
use Rattle.forms.proofs.entries.put_entries.Goals as goal

pub loop-m-init : goal.loop-m-init
loop-m-init c =
    let a = c.args in
    let start : a.from + a.long * 0 ≡ a.from = omega arith in
    let all : a.members - 0 ≡ a.members = omega arith in
    (ap₂ (λ n x. sets a.out.now a.at (entries_from a.f.now a.long a.name.now n x)) all start, omega arith, refl)

pub put_part-end-requires : goal.put_part-end-requires
put_part-end-requires c =
    let a = c.args in
    let l = c.loop-m in
    let here = entry_within a.long c.loop-m-test.true in
    let there = entry_within (12 + length a.name.now) c.loop-m-test.true in
    (omega (arith, c.requires.0, c.requires.1, here), omega (arith, c.requires.2, l.invariant.1, l.invariant.2, there))

pub loop-m-preserved : goal.loop-m-preserved
loop-m-preserved c =
    let l = c.loop-m in
    let a = c.args in
    let p = c.put_part-end.ensures in
    let before = entry_within a.long c.loop-m-test.true in
    let long = entry_long a.f.now a.long a.name.now c.requires.0 (a.from + a.long * l.m) (omega (arith, c.requires.0, c.requires.1, before)) in
    let next : a.from + a.long * l.m + a.long ≡ a.from + a.long * (l.m + 1) = omega (arith, mul-suc a.long l.m, ap (λ n. a.long * n) (add-one l.m)) in (
      rw next at (entries_next a.f.now a.long a.name.now c.requires.0 a.members l.m (a.from + a.long * l.m) c.loop-m-test.true p) ∙ l.invariant.0,
      omega (arith, p.next, long, l.invariant.1, mul-suc (12 + length a.name.now) l.m, ap (λ n. (12 + length a.name.now) * n) (add-one l.m)),
      put_length p ∙ l.invariant.2,
    )

pub returns : goal.returns
returns c =
    let l = c.loop-m in
    let a = c.args in
    let all : l.m ≡ a.members = search rules in
    record {
      next = omega (arith, l.invariant.1, entries_long a.f.now a.long a.name.now c.requires.0 a.members a.from c.requires.1, ap (λ n. (12 + length a.name.now) * n) all);
      bytes = sym (entries_none a.f.now a.long a.name.now c.requires.0 l.out l.end a.members l.m (a.from + a.long * l.m) (omega arith)) ∙ l.invariant.0;
    }
