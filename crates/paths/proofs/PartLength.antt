-- How long the part is that a view hands back.
-- Assumes nothing.
use Prim.Native.Nat.{ℕ}
use mathlib.Core.Bool.{false}
use mathlib.Core.List.{List}
use mathlib.Core.Path.{◌≡◌, refl}
use native.Mathlib.Omega.{arith}
use lib.ListN.{length, drop, length-drop}
use lib.Seq.{length-take-le}
use Rattle.wgsl.specs.Said.{Said, good, refused}
use Rattle.wgsl.specs.Place.{span_of}
use Rattle.wgsl.specs.Path as path
use Rattle.wgsl.specs.Call.{view_call, part_of, target_call}
use Rattle.paths.proofs.InBuffer.{target_room}

-- the bytes of the target; none where refused
abbrev pub part_length : Said path.Target → ℕ
part_length (good t) = span_of t.shape
part_length (refused number place) = 0

-- Such a part is as long as the target.
pub length_part : (f : List ℕ) (e : ℕ) (steps b : List ℕ) → length (part_of (view_call f e steps b) b) ≡ part_length (view_call f e steps b)
unfolding view_call target_call part_of
length_part f e steps b = go (view_call f e steps b) refl
  where
    go : (call : Said path.Target) → view_call f e steps b ≡ call → length (part_of call b) ≡ part_length call
    go (good u) q =
        let x = target_room false f e steps b refl q in
        length-take-le (span_of u.shape) (drop u.offset b) (simp length-drop (omega (arith, x.inside)))
    go (refused number place) q = refl
