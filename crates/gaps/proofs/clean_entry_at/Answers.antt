-- What `allow` says decides (crates/walk_decide, proofs/EntryFor); the entry has what is asked (its proofs/MeantReady). Assumes nothing.
use mathlib.Core.Path.{◌≡◌, sym, ◌∙◌}
use native.Mathlib.Omega.{arith}
use Rattle.std.specs.Prelude.{Err}
use Rattle.said.proofs.Answered.{cleaned_refused, cleaned_same}
use Rattle.walk_decide.proofs.EntryFor.{for_refused, for_stored}
use Rattle.walk_decide.proofs.MeantReady.{entry_ready, entry_tailed}
use Rattle.walk_decide.proofs.Meant.{entry_value, entry_well_formed}
use Rattle.gaps.proofs.CleanType.{clean_refused, clean_allowed}
use Rattle.gaps.proofs.clean_entry_at.Goals as goal

pub clean_open-requires : goal.clean_open-requires
clean_open-requires c =
    let (t, x) = c.requires in
    let s = for_stored _ _ _ t x.is_entry (rw c.in_ok-allow.was at (c.allow.ensures t (entry_value x) (entry_well_formed x))) in
    ((t, entry_tailed x s.1 (sym (c.opens.ensures t (entry_value x) (entry_well_formed x)) ∙ c.if-opens.true)), s.2)

pub returns-then-opens : goal.returns-then-opens
returns-then-opens c t x =
    let s = for_stored _ _ _ t x.is_entry (rw c.in_ok-allow.was at (c.allow.ensures t (entry_value x) (entry_well_formed x))) in
    cleaned_same _ (clean_allowed _ _ _ s.0)
    (c.clean_open.ensures t (entry_tailed x s.1 (sym (c.opens.ensures t (entry_value x) (entry_well_formed x)) ∙ c.if-opens.true)))

pub clean_closed-requires : goal.clean_closed-requires
clean_closed-requires c =
    let (t, x) = c.requires in
    let s = for_stored _ _ _ t x.is_entry (rw c.in_ok-allow.was at (c.allow.ensures t (entry_value x) (entry_well_formed x))) in
    ((t, entry_ready x s.1, sym (c.opens.ensures t (entry_value x) (entry_well_formed x)) ∙ c.if-opens.false), s.2)

pub returns-in_err-allow : goal.returns-in_err-allow
returns-in_err-allow c t x =
    let r = c.in_err-allow.field-0.0 in
    let is : c.from_residual.result ≡ Err r = grind arith in
    let stopped = rw c.in_err-allow.was at (c.allow.ensures t (entry_value x) (entry_well_formed x)) in
    rw is (cleaned_refused _ (clean_refused _ _ _ (for_refused _ _ _ _ t x.is_entry stopped)))

pub returns : goal.returns
returns c t x =
    let s = for_stored _ _ _ t x.is_entry (rw c.in_ok-allow.was at (c.allow.ensures t (entry_value x) (entry_well_formed x))) in
    cleaned_same _ (clean_allowed _ _ _ s.0)
    (c.clean_closed.ensures t (entry_ready x s.1) (sym (c.opens.ensures t (entry_value x) (entry_well_formed x)) ∙ c.if-opens.false))
