-- The entry that `find` finds, and what is allowed of it (`BlockGround`).
use Rattle.std.specs.Prelude.{Err}
use mathlib.Core.Path.{◌≡◌, ◌∙◌}
use native.Mathlib.Omega.{arith}
use Rattle.walk_decide.proofs.Meant.{entry_found, entry_missing, trailer_refused, entry_value, entry_well_formed}
use Rattle.site.proofs.BlockGround.{ground_missing, ground_stopped, ground_found}
use Rattle.site.proofs.block.find_block.Goals as goal

pub returns-in_err-trailer : goal.returns-in_err-trailer
returns-in_err-trailer c =
    let is : c.from_residual.result ≡ Err c.in_err-trailer.field-0.0 = grind arith in
    rw is (ground_missing _ _ _ _ (trailer_refused _ _ (rw c.in_err-trailer.was at c.check_trailer.ensures)))

pub returns-in_err-found : goal.returns-in_err-found
returns-in_err-found c =
    let is : c.from_residual-in_err-found.result ≡ Err c.in_err-found.field-0.0 = grind arith in
    rw is (ground_missing _ _ _ _ (entry_missing _ _ (rw c.in_err-found.was at c.find.ensures)))

pub returns-in_err-allow_block : goal.returns-in_err-allow_block
returns-in_err-allow_block c =
    let is : c.from_residual-in_err-allow_block.result ≡ Err c.in_err-allow_block.field-0.0 = grind arith in
    let x = entry_found _ _ _ _ (rw c.in_ok-found.was at c.find.ensures) in
    let no = rw c.in_err-allow_block.was at (c.allow_block.ensures x.0 (entry_value x.1) (entry_well_formed x.1)) in
    rw is (ground_stopped _ _ _ _ x.1.is_entry no)

pub returns : goal.returns
returns c =
    let there = rw c.in_ok-found.was at c.find.ensures in
    let x = entry_found _ _ _ _ there in
    let yes = rw c.in_ok-allow_block.was at (c.allow_block.ensures x.0 (entry_value x.1) (entry_well_formed x.1)) in
    there ∙ ground_found _ _ _ _ x.1.is_entry yes
