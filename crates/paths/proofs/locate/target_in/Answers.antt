-- By what is held (proofs/HeldOf); the walk begins at the entry (proofs/Begins). Assumes nothing.
use Rattle.std.specs.Prelude.{Err, None, Some}
use Prim.Native.Nat.{ℕ}
use mathlib.Core.Path.{◌≡◌, ap, sym, ◌∙◌}
use native.Mathlib.Omega.{arith}
use lib.ListN.{replicate, length-replicate}
use Rattle.wgsl.specs.Place.{shape_of}
use Rattle.said.specs.Target.{reached}
use Rattle.said.specs.declared.refusal.Refusal.TheVariants.{Buffer}
use Rattle.paths.proofs.HeldOf.{target_short, target_there}
use Rattle.paths.proofs.Begins.{begins}
use Rattle.paths.proofs.locate.target_in.Goals as goal

pub walk-requires : goal.walk-requires
walk-requires c =
    let (f, t, x, few) = c.requires in
    let some : c.held_of.result ≡ Some c.in_ok-held.held = grind arith in
    -- any buffer of so many bytes will do
    let long = length-replicate {A = ℕ} c.args.bytes 0 in
    let there = target_there t c.args.path.now (replicate c.args.bytes 0) (sym (c.held_of.ensures f _ t _ x long) ∙ some) in
    let y = begins x there (rw long few) in
    (f, x.types, shape_of _ t, y.standing, y.size_is, y.within, omega arith)

pub returns-in_err-held : goal.returns-in_err-held
returns-in_err-held c f t b x l =
    let none : c.held_of.result ≡ None = grind arith in
    let is : c.from_residual.result ≡ Err Buffer = grind arith in
    rw is (ap reached (sym (target_short t _ b (sym (c.held_of.ensures f _ t b x l) ∙ none))))

pub returns : goal.returns
returns c f t b x l =
    let some : c.held_of.result ≡ Some c.in_ok-held.held = grind arith in
    let there = target_there t c.args.path.now b (sym (c.held_of.ensures f _ t b x l) ∙ some) in
    let y = begins x there (rw l c.requires.3) in
    rw there.target_is (c.walk.ensures f x.types (shape_of _ t) y.standing y.size_is)
