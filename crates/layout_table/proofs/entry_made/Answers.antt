-- Over a reference that is not lower nothing is made; over a lower one what its type makes (proofs/Judged).
use mathlib.Core.Bool.{not}
use mathlib.Core.Path.{ap, sym, ◌∙◌}
use native.Mathlib.Omega.{arith}
use Rattle.layout_values.proofs.Unused.{unused_two, granted}
use Rattle.layout_structs.proofs.MembersFrom.{lower_found, lower_past}
use Rattle.layout_table.proofs.Judged.{entry_over, entry_missing}
use Rattle.layout_table.proofs.entry_made.Goals as goal

pub returns-then-k-r : goal.returns-then-k-r
returns-then-k-r c ts u =
    let a = c.args in
    entry_missing a.f.now ts a.k a.long a.e.reference u.is_entry
    (granted (unused_two _ _ c.zeros.ensures) (ap not c.if-not-zeros.false)) (sym c.is_scalar.ensures ∙ c.if-is_scalar.false)
    c.if-e-eq-STRUCT.false (lower_past a.f.now a.table.now a.k ts a.e.reference u.lower (omega (arith, c.wide-r.ensures, c.if-k-r.true)))

pub over_entry-requires : goal.over_entry-requires
over_entry-requires c =
    let a = c.args in
    let u = c.requires in
    let r = lower_found a.f.now a.table.now a.k u.0 c.wide-r.result u.1.lower c.if-k-r.false in
    record { type = r.type; is = simp c.value_at.ensures r.layout; well_formed = r.well_formed }

pub returns : goal.returns
returns c ts u =
    let a = c.args in
    let r = lower_found a.f.now a.table.now a.k ts c.wide-r.result u.lower c.if-k-r.false in
    c.over_entry.ensures a.long r.type (simp c.value_at.ensures r.layout) r.well_formed
    ∙ entry_over a.f.now ts a.k a.long a.e.reference u.is_entry
    (granted (unused_two _ _ c.zeros.ensures) (ap not c.if-not-zeros.false)) (sym c.is_scalar.ensures ∙ c.if-is_scalar.false)
    c.if-e-eq-STRUCT.false r.type c.wide-r.ensures.0 r.is
