-- What the walk says (`SpotFound`).
use Rattle.std.specs.Prelude.{Err}
use mathlib.Core.Path.{◌≡◌}
use native.Mathlib.Omega.{arith}
use Rattle.site.proofs.SpotFound.{from_stopped, from_led}
use Rattle.site.proofs.spot.spot_from.Goals as goal

pub returns-in_err-target : goal.returns-in_err-target
returns-in_err-target c f ts y at size =
    let is : c.from_residual.result ≡ Err c.in_err-target.field-0.0 = grind arith in
    rw is (from_stopped _ y _ (rw c.in_err-target.was at (c.walk.ensures f ts y at size)))

pub returns : goal.returns
returns c f ts y at size = rw size (from_led _ y _ _ (rw c.in_ok-target.was at (c.walk.ensures f ts y at size)))
