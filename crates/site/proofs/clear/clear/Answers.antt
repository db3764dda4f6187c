-- What `can_clear` says (`ClearCall`), and the mask without the bit.
use Rattle.std.specs.Prelude.{Err}
use mathlib.Core.Path.{◌≡◌, ◌∙◌}
use native.Mathlib.Omega.{arith}
use Rattle.site.proofs.ClearCall.{clear_refused, clear_good, clear_low, mask_refused, mask_done}
use Rattle.site.proofs.clear.clear.Goals as goal

pub without_bit-requires : goal.without_bit-requires
without_bit-requires c = clear_low _ _ _ _ (rw c.in_ok-can_clear.was at c.can_clear.ensures)

pub returns-in_err-can_clear : goal.returns-in_err-can_clear
returns-in_err-can_clear c =
    let is : c.from_residual.result ≡ Err c.in_err-can_clear.field-0.0 = grind arith in
    let both = mask_refused c.args.mask.now (clear_refused _ _ _ _ (rw c.in_err-can_clear.was at c.can_clear.ensures)) in
    record { answer = rw is both.0; mask = both.1 }

pub returns : goal.returns
returns c =
    let done = mask_done c.args.mask.now (clear_good _ _ _ _ (rw c.in_ok-can_clear.was at c.can_clear.ensures)) in
    record { answer = done.0; mask = c.without_bit.ensures ∙ done.1 }
