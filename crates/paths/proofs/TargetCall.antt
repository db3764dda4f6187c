-- The call once its entry is found, or not (specs/Locate).
--
-- In order: what its walk asks; the call.
-- Assumes nothing.
use Prim.Native.Nat.{ℕ}
use mathlib.Core.Bool.{Bool, true}
use mathlib.Core.List.{List}
use mathlib.Core.Path.{◌≡◌}
use Rattle.wgsl.specs.Types.{Ty}
use Rattle.wgsl.specs.Size.{has_layout}
use Rattle.wgsl.specs.Said.{good, refused}
use Rattle.wgsl.specs.Call.{entry_of, entry_for, target_in, target_call}
use Rattle.wgsl.proofs.Said.{then_is, then_refused}
use Rattle.layout_table.specs.declared.Ground.{Ground}
use Rattle.walk_decide.specs.Meant.{members_part, Meant}
use Rattle.walk_decide.proofs.EntryFor.{for_missing}
use Rattle.walk_decide.proofs.Meant.{entry_site, entry_layout}
use Rattle.paths.specs.Locate.{Viewable}
use Rattle.layout_values.specs.declared.value.Value.{Value}

-- ---- what its walk asks

pub entry_viewable : {f : List ℕ} {e : ℕ} {g : Ground} {table : List Value} {t : Ty} → Meant f e g table t → has_layout t ≡ true → Viewable f (members_part f g) table e g.value t
entry_viewable x h =
    record { types = x.types; basis = entry_site x; there = x.there; is_layout = entry_layout x; is_laid_out = h }

-- ---- the call

module _ (stored : Bool) (f : List ℕ) (e : ℕ) (path b : List ℕ) where
  pub target_refused : {number place : ℕ} → entry_for stored f e b ≡ refused number place → target_call stored f e path b ≡ refused number place
  unfolding target_call
  target_refused h = then_refused _ h

  pub target_allowed : {t : Ty} → entry_for stored f e b ≡ good t → target_call stored f e path b ≡ target_in t path b
  unfolding target_call
  target_allowed h = then_is _ h

  pub target_missing : {number place : ℕ} → entry_of f e ≡ refused number place → target_call stored f e path b ≡ refused number place
  target_missing h = target_refused (for_missing stored f e b h)
