-- What `locate` answers. Assumes nothing.
use mathlib.Core.Path.{refl}
use Rattle.wgsl.specs.Call.{view_call, target_call}
use Rattle.paths.proofs.view.view_at.Goals as goal

pub returns : goal.returns
unfolding view_call target_call
returns c = c.locate.ensures _ refl
