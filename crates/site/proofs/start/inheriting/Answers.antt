-- The block that `find_block` finds, or its refusal (`StartCall`).
use Rattle.std.specs.Prelude.{Err}
use mathlib.Core.Path.{◌≡◌}
use native.Mathlib.Omega.{arith}
use Rattle.site.proofs.SpotCall.{ground_refused, ground_at}
use Rattle.site.proofs.ClearCall.{mask_refused, mask_done}
use Rattle.site.proofs.StartCall.{inheriting_missing, inheriting_there}
use Rattle.site.proofs.start.inheriting.Goals as goal

pub returns-in_err-find_block : goal.returns-in_err-find_block
returns-in_err-find_block c =
    let is : c.from_residual.result ≡ Err c.in_err-find_block.field-0.0 = grind arith in
    let missing = ground_refused _ _ _ _ (rw c.in_err-find_block.was at c.find_block.ensures) in
    let both = mask_refused c.args.mask.now (inheriting_missing _ _ missing) in
    record { answer = rw is both.0; mask = both.1 }

pub returns : goal.returns
returns c =
    let found = ground_at _ _ _ _ _ _ (rw c.in_ok-find_block.was at c.find_block.ensures) in
    let both = mask_done c.args.mask.now (inheriting_there _ _ found.1.block) in
    record { answer = both.0; mask = both.1 }
