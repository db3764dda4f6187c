-- What a view or a set finds (specs/Locate) is sound and lies inside the buffer; a view's part by what the code has.
--
-- In order: what the code has of a target; the target lies inside; its part.
-- Assumes nothing.
use Prim.Native.Nat.{ℕ, ◌+◌, ◌≤◌}
use mathlib.Core.Bool.{Bool, false}
use mathlib.Core.List.{List, map}
use mathlib.Core.Path.{◌≡◌, refl, ap, sym}
use native.Mathlib.Omega.{arith}
use native.Mathlib.Nat.{add-sub_cancel_left}
use lib.ListN.{length}
use Rattle.wgsl.specs.Round.{within_limit}
use Rattle.wgsl.specs.Said.{Said, good, refused}
use Rattle.wgsl.specs.Place.{elements_in, shape_of, span_of}
use Rattle.wgsl.specs.Path as steps
use Rattle.wgsl.specs.Path.{step_of}
use Rattle.wgsl.specs.Call.{target_in, view_call, part_of, part_start, target_call, entry_for}
use Rattle.wgsl.proofs.Said.{good_not_refused, then_good, refuse_good}
use Rattle.wgsl.proofs.Path.{target_inside}
use Rattle.wgsl.proofs.EntryFor.{laid_good, entry_sound}
use Rattle.wgsl.proofs.IsShort.{short_no}
use Rattle.said.specs.declared.target.Target.{Target}
use Rattle.said.specs.Target.{target_is, reached}
use Rattle.paths.specs.Set.{InBuffer}
use Rattle.paths.specs.View.{PartIs}

-- ---- what the code has

-- a target that is reached is the code's
pub reached_good : {t : Target} (said : Said steps.Target) → good t ≡ reached said → (u : steps.Target) × (said ≡ good u) × (t ≡ target_is u)
reached_good (good u) e = (u, refl, cc)
reached_good (refused number place) e = good_not_refused refl e

pub reached_refused : {number place : ℕ} (said : Said steps.Target) → refused number place ≡ reached said → said ≡ refused number place
reached_refused (good u) e = good_not_refused refl (sym e)
reached_refused (refused number place) e = cc

-- ---- inside the buffer

module _ (stored : Bool) (f : List ℕ) (e : ℕ) (path b : List ℕ) where
  pub target_room : {t : Target} {u : steps.Target} → t ≡ target_is u → target_call stored f e path b ≡ good u → InBuffer t u (length b)
  unfolding target_call target_in within_limit
  target_room {u = u} is h =
      let s = then_good (entry_for stored f e b) _ h in
      let t = s.value in
      let laid = laid_good stored s.first in
      let short = refuse_good 15 0 _ _ s.after in
      let n = elements_in (length b) t in
      let x = entry_sound f e t laid.entry laid.layout n in
      let i = target_inside 0 0 (shape_of n t) (map step_of path) u x.0 short.1 in
      record {
        is = is;
        sound = i.0;
        inside = omega (arith, i.2, x.1, short_no t b short.0);
        within = laid.within;
      }

  -- the target that the code has
  pub in_buffer : {t : Target} → good t ≡ reached (target_call stored f e path b) → (u : steps.Target) × (target_call stored f e path b ≡ good u) × InBuffer t u (length b)
  in_buffer h =
      let x = reached_good (target_call stored f e path b) h in
      (x.0, x.1, target_room x.2 x.1)

-- The bytes that the code has of it lie inside.
pub room : {t : Target} {u : steps.Target} {bytes : ℕ} → InBuffer t u bytes → t.offset + t.size ≤ bytes
room x = rw x.is x.inside

-- ---- its part

part_of_lem : {t : Target} (u : steps.Target) (b : List ℕ) → InBuffer t u (length b) → PartIs (record { from = t.offset; to = t.offset + t.size }) (good u) b
unfolding part_of part_start
part_of_lem u b x = record {
  start_is = ap (λ (t : Target). t.offset) x.is;
  rises = omega arith;
  inside = room x;
  bytes_are = rw (x.is, add-sub_cancel_left u.offset (span_of u.shape)) refl;
}

module _ (f : List ℕ) (e : ℕ) (path b : List ℕ) where
  pub part_there : {t : Target} → good t ≡ reached (view_call f e path b) → PartIs (record { from = t.offset; to = t.offset + t.size }) (view_call f e path b) b
  unfolding view_call target_call
  part_there h = let x = in_buffer false f e path b h in rw x.1 (part_of_lem x.0 b x.2)

  -- where refused, the empty one at the start
  pub part_none : {number place : ℕ} → refused number place ≡ reached (view_call f e path b) → PartIs (record { from = 0; to = 0 }) (view_call f e path b) b
  unfolding part_of part_start
  part_none h =
      rw (reached_refused (view_call f e path b) h) (record { start_is = refl; rises = omega arith; inside = omega arith; bytes_are = refl })
