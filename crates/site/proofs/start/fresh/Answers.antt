-- The block that `find_block` finds, and whether both buffers have its size (`InBoth`, `StartCall`).
use Rattle.std.specs.Prelude.{Err}
use Prim.Native.Nat.{◌-◌, ◌^◌}
use mathlib.Core.List.{◌++◌}
use mathlib.Core.Path.{◌≡◌, ap, sym, ◌∙◌}
use native.Mathlib.Omega.{arith}
use lib.ListN.{take, drop}
use Rattle.wgsl.specs.Site.{every_bit, copied_whole}
use Rattle.site.proofs.InBoth.{in_missing, in_short, in_both}
use Rattle.site.proofs.SpotCall.{ground_refused, ground_at, size_is, count_is, count_low}
use Rattle.site.proofs.SiteSet.{site_refused, site_done_lem}
use Rattle.site.proofs.StartCall.{fresh_stopped, fresh_there}
use Rattle.site.proofs.start.fresh.Goals as goal

pub mark_all-requires : goal.mark_all-requires
mark_all-requires c =
    count_low (ground_at _ _ _ _ _ _ (rw c.in_ok-found.was at c.find_block.ensures)).1

pub returns-in_err-found : goal.returns-in_err-found
returns-in_err-found c =
    let is : c.from_residual.result ≡ Err c.in_err-found.field-0.0 = grind arith in
    let said = rw (c.in_err-found.was, c.max-bytes.ensures) at c.find_block.ensures in
    let y = site_refused c.args.site.now c.args.mask.now (fresh_stopped _ _ _ _ (in_missing _ _ 0 _ _ (ground_refused _ _ _ _ said))) in
    record { answer = rw is y.0; site = y.1; mask = y.2 }

pub returns-then-not-both_have : goal.returns-then-not-both_have
returns-then-not-both_have c =
    let x = (ground_at _ _ _ _ _ _ (rw (c.in_ok-found.was, c.max-bytes.ensures) at c.find_block.ensures)).1 in
    let short = sym (rw (size_is x) at c.both_have.ensures) ∙ c.if-not-both_have.true in
    let y = site_refused c.args.site.now c.args.mask.now (fresh_stopped _ _ _ _ (in_short _ _ 0 _ _ x.block short)) in
    record { answer = y.0; site = y.1; mask = y.2 }

pub returns : goal.returns
unfolding copied_whole every_bit
returns c =
    let a = c.args in
    let x = (ground_at _ _ _ _ _ _ (rw (c.in_ok-found.was, c.max-bytes.ensures) at c.find_block.ensures)).1 in
    let roomy = sym (rw (size_is x) at c.both_have.ensures) ∙ c.if-not-both_have.false in
    let y = site_done_lem a.site.now a.mask.now (fresh_there _ _ _ _ (in_both _ _ 0 _ _ x.block roomy)) in
    record {
      answer = y.0;
      site = c.copy_first.ensures ∙ ap (λ n. take n a.factory.now ++ drop n a.site.now) (size_is x) ∙ y.1;
      mask = c.mark_all.ensures ∙ ap (λ n. 2 ^ n - 1) (count_is x) ∙ y.2;
    }
