-- What `allow` says decides (crates/walk_decide, proofs/EntryFor); the entry has what is asked (its proofs/MeantReady). Assumes nothing.
use Rattle.std.specs.Prelude.{◌≡◌, Err}
use mathlib.Core.Path.{sym, ◌∙◌}
use native.Mathlib.Omega.{arith}
use Rattle.said.proofs.Answered.{answered_refused, answered_same}
use Rattle.walk_decide.proofs.EntryFor.{for_refused, for_stored}
use Rattle.walk_decide.proofs.MeantReady.{entry_ready, entry_tailed}
use Rattle.walk_decide.proofs.Meant.{entry_value, entry_well_formed}
use Rattle.words.proofs.WriteType.{write_refused, write_allowed}
use Rattle.words.proofs.writing.write_entry_at.Goals as goal

pub returns-in_err-allow : goal.returns-in_err-allow
returns-in_err-allow c =
    let r : c.from_residual.result ≡ Err c.in_err-allow.field-0.0 = grind arith in
    λ t x.
    let says = c.in_err-allow.ensures t (entry_value x) (entry_well_formed x) in
    rw r (answered_refused _ (write_refused _ _ _ _ (for_refused _ _ _ _ t x.is_entry says)))

pub write_open-requires : goal.write_open-requires
write_open-requires c =
    let (t, x) = c.requires in
    let s = for_stored _ _ _ t x.is_entry (c.in_ok-allow.ensures t (entry_value x) (entry_well_formed x)) in
    (t, entry_tailed x s.1 (sym (c.opens.ensures t (entry_value x) (entry_well_formed x)) ∙ c.if-opens.true), s.2)

pub returns-then-opens : goal.returns-then-opens
returns-then-opens c t x =
    let s = for_stored _ _ _ t x.is_entry (c.in_ok-allow.ensures t (entry_value x) (entry_well_formed x)) in
    let opened = sym (c.opens.ensures t (entry_value x) (entry_well_formed x)) ∙ c.if-opens.true in
    answered_same _ (write_allowed _ _ _ _ s.0) (c.write_open.ensures t (entry_tailed x s.1 opened))

pub write_closed-requires : goal.write_closed-requires
write_closed-requires c =
    let (t, x) = c.requires in
    let s = for_stored _ _ _ t x.is_entry (c.in_ok-allow.ensures t (entry_value x) (entry_well_formed x)) in
    (t, entry_ready x s.1, sym (c.opens.ensures t (entry_value x) (entry_well_formed x)) ∙ c.if-opens.false)

pub returns : goal.returns
returns c t x =
    let s = for_stored _ _ _ t x.is_entry (c.in_ok-allow.ensures t (entry_value x) (entry_well_formed x)) in
    let closed = sym (c.opens.ensures t (entry_value x) (entry_well_formed x)) ∙ c.if-opens.false in
    answered_same _ (write_allowed _ _ _ _ s.0) (c.write_closed.ensures t (entry_ready x s.1) closed)
