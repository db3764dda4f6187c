-- A path of no steps leads to the member (`MemberFound`).
use Rattle.std.specs.Prelude.{Err}
use mathlib.Core.Path.{◌≡◌}
use native.Mathlib.Omega.{arith}
use Rattle.site.proofs.MemberFound.{member_refused, member_led}
use Rattle.site.proofs.member.member_in.Goals as goal

pub returns-in_err-spot : goal.returns-in_err-spot
returns-in_err-spot c a b la lb =
    let is : c.from_residual.result ≡ Err c.in_err-spot.field-0.0 = grind arith in
    rw is (member_refused _ _ _ _ a b (rw c.in_err-spot.was at (c.locate_in.ensures a b la lb)))

pub returns : goal.returns
returns c a b la lb = member_led _ _ _ _ a b _ (rw c.in_ok-spot.was at (c.locate_in.ensures a b la lb))
