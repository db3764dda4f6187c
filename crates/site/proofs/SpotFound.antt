-- A member and what a path leads to in it, step by step (specs/Spot).
--
-- In order: the path; the member.
-- Assumes nothing.
use Rattle.std.specs.Prelude.{Err}
use Prim.Native.Nat.{ℕ}
use mathlib.Core.List.{List, map}
use mathlib.Core.Path.{◌≡◌, refl, sym}
use Rattle.wgsl.specs.Types.{Ty}
use Rattle.wgsl.specs.Said.{Said, good, refused, ◌>>=◌}
use Rattle.wgsl.specs.Place.{Shape}
use Rattle.wgsl.specs.Path as path
use Rattle.wgsl.specs.Path.{enter, walk, step_of}
use Rattle.wgsl.proofs.Said.{then_is, then_refused}
use Rattle.said.specs.declared.target.Target.{Target}
use Rattle.said.specs.Answer.{said}
use Rattle.said.specs.Target.{target_is, reached}
use Rattle.walk_path.specs.declared.enter.NoStep.{NoStep}
use Rattle.walk_path.specs.declared.enter.NoStep.TheVariants.{NoMember, PastEnd, NoIndex}
use Rattle.walk_path.specs.Step.{refusal_at}
use Rattle.walk_path.specs.Way.{Enters}
use Rattle.site.specs.Spot.{spot_of, spot_from, spot_at}

-- ---- the path

module _ (offset : ℕ) (y : Shape) (steps : List ℕ) where
  pub from_stopped : {number place : ℕ} → refused number place ≡ reached (walk 0 offset y (map step_of steps)) → refused number place ≡ spot_from offset y steps
  unfolding spot_from ◌>>=◌
  from_stopped {number} {place} e = go (walk 0 offset y (map step_of steps)) e
    where
      go : (s : Said path.Target) → refused number place ≡ reached s → refused number place ≡ ◌>>=◌ s (λ u. good (spot_of offset y (target_is u)))
      go (good u) h = cc
      go (refused n p) h = cc

  pub from_led : (t : Target) → good t ≡ reached (walk 0 offset y (map step_of steps)) → good (spot_of offset y t) ≡ spot_from offset y steps
  unfolding spot_from ◌>>=◌
  from_led t e = go (walk 0 offset y (map step_of steps)) e
    where
      go : (s : Said path.Target) → good t ≡ reached s → good (spot_of offset y t) ≡ ◌>>=◌ s (λ u. good (spot_of offset y (target_is u)))
      go (good u) h = let same : t ≡ target_is u = cc in rw same refl
      go (refused n p) h = cc

-- ---- the member

module _ (x : Shape) (k : ℕ) (steps : List ℕ) where
  pub member_there : {offset : ℕ} {y : Shape} → enter 0 x (path.member k) ≡ good (record { offset = offset; shape = y }) → spot_from offset y steps ≡ spot_at x k steps
  unfolding spot_at
  member_there h = sym (then_is _ h)

  pub member_none : (ts : List Ty) (why : NoStep) → Enters ts 0 (Err why) x (path.member k) → said (Err (refusal_at why 0)) ≡ spot_at x k steps
  unfolding Enters spot_at
  member_none ts NoMember bad = sym (then_refused _ (bad 0))
  member_none ts PastEnd bad = sym (then_refused _ (bad 0))
  member_none ts NoIndex bad = sym (then_refused _ (bad 0))
