-- A step as the code has it, in the words of crates/wgsl (specs/Path), and why one leads nowhere.
-- Definitions only. Assumes nothing.
use Rattle.std.specs.Prelude.{ℕ}
use Rattle.wgsl.specs.Path as path
use Rattle.said.specs.declared.refusal.Refusal.{Refusal}
use Rattle.said.specs.declared.refusal.Refusal.TheVariants as refusal
use Rattle.walk_path.specs.declared.step.Step.{Step}
use Rattle.walk_path.specs.declared.step.Step.TheVariants.{Member, Index}
use Rattle.walk_path.specs.declared.enter.NoStep.{NoStep}
use Rattle.walk_path.specs.declared.enter.NoStep.TheVariants.{NoMember, PastEnd, NoIndex}

abbrev pub step_is : Step → path.Step
step_is (Member n) = path.member n
step_is (Index n) = path.index n

-- the refusal of the step at a position
abbrev pub refusal_at : NoStep → ℕ → Refusal
refusal_at NoMember position = refusal.NoMember position
refusal_at PastEnd position = refusal.PastEnd position
refusal_at NoIndex position = refusal.NoIndex position
