-- What `allow` says decides (crates/walk_decide, proofs/EntryFor); the entry has what its walk asks (proofs/TargetCall). Assumes nothing.
use Rattle.std.specs.Prelude.{Err}
use mathlib.Core.Path.{◌≡◌, ap, sym, ◌∙◌}
use native.Mathlib.Omega.{arith}
use Rattle.said.specs.Target.{reached}
use Rattle.walk_decide.proofs.Meant.{entry_value, entry_well_formed}
use Rattle.walk_decide.proofs.EntryFor.{allowed_laid, for_refused, for_allowed}
use Rattle.paths.proofs.TargetCall.{entry_viewable, target_refused, target_allowed}
use Rattle.paths.proofs.locate.target_at.Goals as goal

pub target_in-requires : goal.target_in-requires
target_in-requires c =
    let (t, x) = c.requires in
    let a = allowed_laid _ t _ (rw c.in_ok-allow.was at (c.allow.ensures t (entry_value x) (entry_well_formed x))) in
    (c.args.file.now, t, entry_viewable x a.0, a.1)

pub returns-in_err-allow : goal.returns-in_err-allow
returns-in_err-allow c t b x l =
    let is : c.from_residual.result ≡ Err c.in_err-allow.field-0.0 = grind arith in
    let no = rw (c.in_err-allow.was, ← l) at (c.allow.ensures t (entry_value x) (entry_well_formed x)) in
    rw is (ap reached (sym (target_refused _ _ _ _ b (for_refused _ _ _ b t x.is_entry no))))

pub returns : goal.returns
returns c t b x l =
    let yes = rw (c.in_ok-allow.was, ← l) at (c.allow.ensures t (entry_value x) (entry_well_formed x)) in
    c.target_in.ensures _ t b (entry_viewable x (allowed_laid _ t _ yes).0) l
    ∙ ap reached (sym (target_allowed _ _ _ _ b (for_allowed _ _ _ b t x.is_entry yes)))
