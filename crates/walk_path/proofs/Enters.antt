-- One step of a walk (crates/wgsl, specs/Path): where it stands next, and what the walk then says.
--
-- In order: the next place; the path's end; a step that leads on; a step that is refused.
-- Assumes nothing.
use Rattle.std.specs.Prelude.{Err, Ok}
use Prim.Native.Nat.{ℕ, ◌+◌, ◌<◌, ◌≤◌}
use mathlib.Core.List.{List, map}
use mathlib.Core.Path.{◌≡◌}
use native.Mathlib.Numerals.{add-one}
use native.Mathlib.Omega.{arith}
use lib.ListN.{length, drop, get_or}
use lib.Seq.{drop-length, drop-cons}
use Rattle.wgsl.specs.Types.{Ty}
use Rattle.wgsl.specs.Said.{good, refused, ◌>>=◌}
use Rattle.wgsl.specs.Place.{Shape, span_of}
use Rattle.wgsl.specs.Path.{Step, step_of, enter, walk}
use Rattle.wgsl.proofs.Path.{target}
use Rattle.said.specs.Answer.{said}
use Rattle.said.specs.Target.{reached}
use Rattle.walk_path.specs.declared.enter.NoStep.{NoStep}
use Rattle.walk_path.specs.declared.enter.NoStep.TheVariants.{NoMember, PastEnd, NoIndex}
use Rattle.walk_path.specs.Step.{refusal_at}
use Rattle.walk_path.specs.declared.enter.Stand.{Stand}
use Rattle.walk_path.specs.declared.enter.Inner.{Inner}
use Rattle.walk_path.specs.Way.{Standing, Enters}
use Rattle.walk_path.proofs.SizeAt.{step_inside}
use Rattle.walk_path.proofs.IndexStep.{stands_sound}
use Rattle.layout_values.specs.declared.value.Value.{Value}

-- ---- the next place

-- what a step into i leads to from the shape x
pub record Next (f : List ℕ) (ts : List Ty) (ms : List ℕ) (table : List Value) (n : ℕ) (i : Inner) (x : Shape) (s : Step) : Type 0 where
  pub y : Shape
  pub at : Standing f ts ms table n i.stand y
  pub size_is : i.size ≡ span_of y
  pub inside : i.offset + span_of y ≤ span_of x
  pub enters : (j : ℕ) → enter j x s ≡ good (target i.offset y)

pub next : {f : List ℕ} {ts : List Ty} {ms : List ℕ} {table : List Value} {n : ℕ} {p : Stand} {x : Shape} {i : Inner} {s : Step} → Standing f ts ms table n p x → Enters ts n (Ok i) x s → Next f ts ms table n i x s
unfolding Enters
next {x = x} {i = i} {s = s} at (y, stands, size, enters) =
    let inside = (step_inside 0 x s (target i.offset y) (stands_sound at.basis at.stands) (enters 0)).1 in
    record {
      y = y;
      at = record { basis = at.basis; stands = stands; within = omega (arith, at.within) };
      size_is = size;
      inside = inside;
      enters = enters;
    }

-- ---- the walk

module _ (path : List ℕ) (k offset : ℕ) (x : Shape) where
  pub walk_end : k ≡ length path → walk k offset x (map step_of (drop k path)) ≡ good (target offset x)
  unfolding walk
  walk_end e = rw (e, drop-length path)

  module _ (more : k < length path) where
    -- a step that leads on
    pub walk_on : (a : ℕ) (y : Shape) → enter k x (step_of (get_or path k 0)) ≡ good (target a y) → walk k offset x (map step_of (drop k path)) ≡ walk (k + 1) (offset + a) y (map step_of (drop (k + 1) path))
    unfolding walk ◌>>=◌
    walk_on a y e = rw (drop-cons path k 0 more, e, add-one k)

    -- a step that is refused
    walk_refused : (number : ℕ) → enter k x (step_of (get_or path k 0)) ≡ refused number k → walk k offset x (map step_of (drop k path)) ≡ refused number k
    unfolding walk ◌>>=◌
    walk_refused number e = rw (drop-cons path k 0 more, e)

    pub walk_stops : (ts : List Ty) (n : ℕ) (why : NoStep) → Enters ts n (Err why) x (step_of (get_or path k 0)) → said (Err (refusal_at why k)) ≡ reached (walk k offset x (map step_of (drop k path)))
    unfolding Enters
    walk_stops ts n NoMember bad = rw (walk_refused 11 (bad k))
    walk_stops ts n PastEnd bad = rw (walk_refused 12 (bad k))
    walk_stops ts n NoIndex bad = rw (walk_refused 13 (bad k))
