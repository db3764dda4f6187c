-- The block that `find_block` finds, or its refusal (`SpotCall`).
use Rattle.std.specs.Prelude.{Err}
use mathlib.Core.Path.{◌≡◌}
use native.Mathlib.Omega.{arith}
use Rattle.site.proofs.InBoth.{in_missing}
use Rattle.site.proofs.SpotCall.{ground_refused, ground_at, spot_stopped}
use Rattle.site.proofs.spot.locate_in.Goals as goal

pub spot_in-requires : goal.spot_in-requires
spot_in-requires c =
    let x = ground_at _ _ _ _ _ _ (rw (c.in_ok-found.was, c.max.ensures) at c.find_block.ensures) in
    (x.0, _, x.1)

pub returns-in_err-found : goal.returns-in_err-found
returns-in_err-found c a b la lb =
    let is : c.from_residual.result ≡ Err c.in_err-found.field-0.0 = grind arith in
    let said = rw (c.in_err-found.was, c.max.ensures, ← la, ← lb) at c.find_block.ensures in
    rw is (spot_stopped _ _ _ _ _ a b (in_missing _ _ _ a b (ground_refused _ _ _ _ said)))

pub returns : goal.returns
returns c a b la lb =
    let x = ground_at _ _ _ _ _ _ (rw (c.in_ok-found.was, c.max.ensures) at c.find_block.ensures) in
    c.spot_in.ensures x.0 _ a b x.1 la lb
