-- What `fill` says of the file, number 8, and the entry's value in the table that it left (proofs/GroundIn).
use Rattle.std.specs.Prelude.{Err}
use Prim.Native.Nat.{◌*◌}
use mathlib.Core.Path.{◌≡◌, ap, ap₂, ◌∙◌}
use native.Mathlib.Omega.{arith}
use borrow.Author.Rules.{rules}
use lib.ListN.{length}
use Rattle.layout_values.proofs.ValuesOf.{length_table}
use Rattle.layout_table.proofs.SaidTable.{table_told, table_refused}
use Rattle.layout_table.proofs.GroundIn.{ground_refused, ground_missing, ground_is}
use Rattle.layout_table.proofs.find.Goals as goal

pub returns-in_err-fill : goal.returns-in_err-fill
returns-in_err-fill c =
    let r = c.in_err-fill.field-0.0 in
    let is : c.from_residual.result ≡ Err r = grind arith in
    rw is (ground_refused _ _ (table_refused _ _ _ c.fill.ensures r c.in_err-fill.was))

pub returns-then-t-entry : goal.returns-then-t-entry
returns-then-t-entry c =
    let x = table_told _ _ _ c.fill.ensures _ c.args.t c.in_ok-fill.was c.requires.0 in
    ground_missing _ c.args.t c.args.entry x.0 c.if-t-entry.true

pub value_at-requires : goal.value_at-requires
value_at-requires c =
    let x = table_told _ _ _ c.fill.ensures _ c.args.t c.in_ok-fill.was c.requires.0 in
    let long = ap length x.1 ∙ length_table _ x.0.ts (omega (arith, x.0.count, x.0.few)) in
    omega (arith, c.if-t-entry.false, c.wide-5.ensures, x.0.few)

pub returns : goal.returns
returns c =
    let x = table_told _ _ _ c.fill.ensures _ c.args.t c.in_ok-fill.was c.requires.0 in
    let bytes = ap₂ ◌*◌ (c.wide-3.ensures.0 ∙ c.member_length.ensures.0) c.wide-4.ensures.0 in
    ground_is _ c.args.t c.args.entry x.0 c.if-t-entry.false _ x.1 (rw c.wide-5.ensures.0 at c.value_at.ensures) (search rules)
    (omega (arith, bytes))
