-- What writing, reading and cleaning ask of the entry that a call means (specs/Meant).
-- Assumes nothing.
use Prim.Native.Nat.{ℕ}
use mathlib.Core.Bool.{true}
use mathlib.Core.List.{List}
use mathlib.Core.Path.{◌≡◌}
use Rattle.wgsl.specs.Types.{Ty, is_open}
use Rattle.wgsl.specs.Size.{is_storable}
use Rattle.layout_table.specs.declared.Ground.{Ground}
use Rattle.walk_decide.specs.Whole.{Ready, Tailed}
use Rattle.walk_decide.specs.Meant.{members_part, Meant}
use Rattle.walk_decide.proofs.Tailed.{ready_at, tailed_at}
use Rattle.walk_decide.proofs.Meant.{entry_site, entry_layout}
use Rattle.layout_values.specs.declared.value.Value.{Value}

module _ {f : List ℕ} {e : ℕ} {g : Ground} {table : List Value} {t : Ty} (x : Meant f e g table t) where
  pub entry_ready : is_storable t ≡ true → Ready (members_part f g) table e g.value t
  entry_ready s = rw (entry_layout x) (ready_at (entry_site x) e t x.there s)

  pub entry_tailed : is_storable t ≡ true → is_open t ≡ true → Tailed (members_part f g) table e g.value t
  entry_tailed s o = rw (entry_layout x) (tailed_at (entry_site x) e t x.there s o)
