-- What finding the target of a path asks (its steps are crates/wgsl's `target_call`, specs/Call).
--
-- In order: what a buffer holds of an entry; an entry of the table.
-- Definitions only. Assumes nothing.
use Rattle.std.specs.Prelude.{ℕ, ◌≡◌, true, cond, List, length, None, Option, Some}
use Rattle.std.proofs.Math.Option.{some}
use Rattle.std.proofs.Math.ListN.{get_elem?}
use Rattle.wgsl.specs.Types.{Ty, is_open, everywhere}
use Rattle.wgsl.specs.Size.{has_layout}
use Rattle.wgsl.specs.Rule.{is_well_formed}
use Rattle.wgsl.specs.Place.{tail_of, extent_of, elements_in}
use Rattle.wgsl.specs.Call.{is_short}
use Rattle.layout_values.specs.declared.value.Value.{Value}
use Rattle.layout_values.specs.Value.{value_at}
use Rattle.walk_shapes.specs.Basis.{Basis}
use Rattle.walk_decide.specs.declared.Rest.{Rest}
use Rattle.paths.specs.declared.locate.Held.{Held}

-- ---- what a buffer holds of an entry

-- unless 15 is to be said: how many elements the runtime array of an open type has, and where the type ends
unfoldable pub held_of : Ty → List ℕ → Option Held
held_of t b =
    let n : ℕ = elements_in (length b) t in
    cond (is_short t b) None (Some (record { elements = n; size = extent_of n t }))

-- ---- an entry of the table

-- entry e, of the type t and the value l, that has a layout
pub record Viewable (f ms : List ℕ) (table : List Value) (e : ℕ) (l : Value) (t : Ty) : Type 0 where
  pub types : List Ty
  pub basis : Basis f types ms table
  pub there : get_elem? types e ≡ some t
  pub is_layout : l ≡ value_at table e
  pub is_laid_out : has_layout t ≡ true

-- .. whose tail is x
pub record Opening (t : Ty) (x : Rest) : Type 0 where
  pub well_formed : everywhere is_well_formed t ≡ true
  pub opens : is_open t ≡ true
  pub tail_is : tail_of t ≡ some (record { offset = x.offset; stride = x.value.stride })
