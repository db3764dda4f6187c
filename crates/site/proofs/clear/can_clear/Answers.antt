-- The block that `find_block` finds, or its refusal (`ClearCall`).
use Rattle.std.specs.Prelude.{Err}
use mathlib.Core.Path.{◌≡◌, ◌∙◌}
use native.Mathlib.Omega.{arith}
use Rattle.site.proofs.SpotCall.{ground_refused, ground_at}
use Rattle.site.proofs.ClearCall.{can_missing, can_there}
use Rattle.site.proofs.clear.can_clear.Goals as goal

pub there_in-requires : goal.there_in-requires
there_in-requires c =
    let x = ground_at _ _ _ _ _ _ (rw c.in_ok-found.was at c.find_block.ensures) in
    (x.0, _, 0, x.1)

pub returns-in_err-found : goal.returns-in_err-found
returns-in_err-found c =
    let is : c.from_residual.result ≡ Err c.in_err-found.field-0.0 = grind arith in
    rw is (can_missing _ _ _ _ (ground_refused _ _ _ _ (rw c.in_err-found.was at c.find_block.ensures)))

pub returns : goal.returns
returns c =
    let x = ground_at _ _ _ _ _ _ (rw c.in_ok-found.was at c.find_block.ensures) in
    c.there_in.ensures x.0 _ 0 x.1 ∙ can_there _ _ _ _ x.1.block
