-- What `allow` says, and then 21 (`BlockGround`).
use Rattle.std.specs.Prelude.{Err}
use mathlib.Core.Path.{◌≡◌, sym, ◌∙◌}
use native.Mathlib.Omega.{arith}
use Rattle.site.proofs.BlockGround.{block_stopped, block_none, block_good}
use Rattle.site.proofs.block.allow_block.Goals as goal

pub returns-in_err-allow : goal.returns-in_err-allow
returns-in_err-allow c t is well =
    let stopped : c.from_residual.result ≡ Err c.in_err-allow.field-0.0 = grind arith in
    rw stopped (block_stopped _ t _ (rw c.in_err-allow.was at (c.allow.ensures t is well)))

pub returns-then-not-is_block : goal.returns-then-not-is_block
returns-then-not-is_block c t is well =
    block_none _ t _ (rw c.in_ok-allow.was at (c.allow.ensures t is well))
    (sym (c.is_block.ensures t is well) ∙ c.if-not-is_block.true)

pub returns : goal.returns
returns c t is well =
    block_good _ t _ (rw c.in_ok-allow.was at (c.allow.ensures t is well))
    (sym (c.is_block.ensures t is well) ∙ c.if-not-is_block.false)
