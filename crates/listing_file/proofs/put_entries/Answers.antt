-- The invariant is `Going` (proofs/ListingOf): the lines that are left, put from here, give what all give from the start.
use Prim.Native.Nat.{◌≤◌}
use mathlib.Core.Path.{◌≡◌, ap, ◌∙◌}
use native.Mathlib.Omega.{arith}
use lib.ListN.{length}
use borrow.Author.Rules.{rules}
use Rattle.layout_values.proofs.ValuesOf.{length_table}
use Rattle.listing_file.proofs.ListingOf.{going_none, going_more, going_all}
use Rattle.listing_file.proofs.put_entries.Goals as goal

pub loop-k-init : goal.loop-k-init
loop-k-init c = going_none (search rules) c.put_heading-at.ensures

pub value_at-l-requires : goal.value_at-l-requires
value_at-l-requires c =
    let l = c.loop-k in
    let start = c in
    let (f, ts, e) = start.requires.entries in
    let few : length ts ≤ 256 = omega (arith, e.count, e.few) in
    let long : length start.args.table.now ≡ 256 = ap length e.table_is ∙ length_table f ts few in
    omega (arith, long, l.invariant.few)

pub loop-k-preserved : goal.loop-k-preserved
loop-k-preserved c =
    let p = c in
    let s = p in
    let v = s in
    going_more v.loop-k.invariant (search rules) (rw v.value_at-l.ensures at s.own_stride.ensures)
    (rw v.value_at-l.ensures at p.put_line-at.ensures)

pub returns : goal.returns
returns c =
    λ f ts e. going_all c.loop-k.invariant (search rules) e c.put_heading-at.ensures
