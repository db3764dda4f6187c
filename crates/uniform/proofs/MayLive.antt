-- 9 and 10 by the value of an entry's type (crates/wgsl, specs/Uniform, `may_live`).
-- Assumes nothing.
use mathlib.Core.Bool.{Bool, true, false, not, ◌&&◌, ◌||◌, or-false}
use mathlib.Core.Path.{◌≡◌, refl}
use Rattle.wgsl.specs.Round.{within_limit}
use Rattle.wgsl.specs.Types.{Ty, is_open, everywhere}
use Rattle.wgsl.specs.Size.{is_present, align_of, has_layout, is_storable}
use Rattle.wgsl.specs.Said.{refused, ◌>>◌, refuse}
use Rattle.wgsl.specs.Rule.{is_well_formed}
use Rattle.wgsl.specs.Call.{allowed}
use Rattle.wgsl.specs.Uniform.{may_live}
use Rattle.layout_values.specs.declared.value.Value.{Value}
use Rattle.layout_values.specs.Value.{value_of}
use Rattle.layout_values.proofs.ValueOf.{unsized, size_closed}

either_way : (t : Ty) (aligned opens : Bool) → ◌>>◌ (refuse 9 0 (not (aligned && (opens || false)) || opens)) (refuse 10 0 (not (is_storable t))) ≡ refused 9 0
unfolding refuse ◌>>◌
either_way t true true = refl
either_way t true false = refl
either_way t false opens = refl

module _ (t : Ty) (l : Value) (is : l ≡ value_of l.stride l.reference t) (w : everywhere is_well_formed t ≡ true) where
  -- What has no size has no layout or is open.
  pub no_size : l.size ≡ 0 → may_live t ≡ refused 9 0
  unfolding may_live has_layout is_present
  no_size e = rw (unsized t l is w e) (either_way t (is_present (align_of t)) (is_open t))

  -- What has one is not open.
  pub some_size : (l.size ≡ 0 → ⊥) → allowed true t 0 ≡ may_live t
  unfolding may_live allowed within_limit refuse ◌>>◌
  some_size h = rw (size_closed t l is w h, or-false (not (has_layout t)))
