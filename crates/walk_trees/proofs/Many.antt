-- What a tree says of its value and of its parts (specs/Tree, `Valued` and `Many`).
--
-- In order: its value; parts that are runs or entries (`Entries`) or none, and members; how deep a walk goes.
-- Assumes nothing.
use Prim.Native.Nat.{ℕ, ◌+◌, ◌*◌, ◌<◌}
use mathlib.Core.Bool.{Bool, true, false, cond}
use mathlib.Core.List.{List, []}
use mathlib.Core.Path.{◌≡◌, refl, ◌∙◌}
use native.Mathlib.Omega.{arith}
use borrow.Author.Tests.{eqb-true}
use lib.Dec.{eqb}
use Rattle.wgsl.specs.Place.{Shape, parts, repeated, places_of}
use Rattle.runs.specs.Run.{part_places}
use Rattle.wgsl.specs.Types.{struct_kind}
use Rattle.layout_values.specs.declared.value.Value.{Value}
use Rattle.layout_values.specs.Value.{value_at}
use Rattle.walk_trees.specs.Slot.{part_width, Referring}
use Rattle.walk_trees.specs.Tree.{Runs, Elements, Valued, Many, runs, each, Left, Tree, many, members}
use Rattle.walk_trees.proofs.TreeOne.{run_width}

pub tree_valued : {ms : List ℕ} {table : List Value} {e : ℕ} {x : Shape} → Tree ms table e x → Valued table e x
tree_valued (many R k l m) = R
tree_valued (members R k l) = R

pub tree_many : {ms : List ℕ} {table : List Value} {e : ℕ} {x : Shape} → Tree ms table e x → ((value_at table e).kind ≡ struct_kind → ⊥) → Many ms table (value_at table e) x
tree_many (many R k l m) h = m
tree_many (members R k l) h = absurd (h k)

pub tree_left : {ms : List ℕ} {table : List Value} {e : ℕ} {x : Shape} → Tree ms table e x → (value_at table e).kind ≡ struct_kind → Left ms table e (value_at table e).count ((value_at table e).reference * (value_at table e).stride) 0 x
tree_left (many R k l m) h = absurd (k h)
tree_left (members R k l) h = l

pub many_referring : {ms : List ℕ} {table : List Value} {r : Value} {x : Shape} → Many ms table r x → Referring table r
many_referring (runs R) = R.referring
many_referring (each E t) = E.referring

pub many_runs : {ms : List ℕ} {table : List Value} {r : Value} {x : Shape} → Many ms table r x → (part_width table r ≡ 0 → ⊥) → Runs table r x
many_runs (runs R) h = R
many_runs (each E t) h = absurd (h E.no_run)

-- the parts of the shape x are entries, each of the shape `part`
pub record Entries (ms : List ℕ) (table : List Value) (r : Value) (x : Shape) : Type 0 where
  pub part : Shape
  pub is : x ≡ parts r.count r.stride part
  pub elements : Elements table r part
  pub tree : Tree ms table r.reference part

pub many_each : {ms : List ℕ} {table : List Value} {r : Value} {x : Shape} → Many ms table r x → part_width table r ≡ 0 → Entries ms table r x
many_each (runs R) h = absurd (run_width R h)
many_each (each {y = y} E t) h = record { part = y; is = refl; elements = E; tree = t }

-- no parts have no places
pub many_none : {ms : List ℕ} {table : List Value} {r : Value} {x : Shape} → Many ms table r x → r.count ≡ 0 → (at : ℕ) → places_of x at ≡ []
unfolding places_of part_places repeated
many_none (runs R) none at = R.runs_are.places_are at ∙ rw none refl
many_none (each E t) none at = rw none refl

-- ---- how deep a walk goes

-- parts that are entries go down to their entry, and runs nowhere
abbrev pub depth : List Value → Value → ℕ
depth table r = cond (eqb (part_width table r) 0) (5 * r.reference + 5) 0

pub depth_each : (table : List Value) (r : Value) → part_width table r ≡ 0 → depth table r ≡ 5 * r.reference + 5
depth_each table r h = rw h refl

cond_below : (b : Bool) (a n : ℕ) → (b ≡ true → a < n) → 0 < n → cond b a 0 < n
cond_below true a n h p = h refl
cond_below false a n h p = p

pub depth_below : {ms : List ℕ} {table : List Value} {e : ℕ} {x : Shape} → Tree ms table e x → ((value_at table e).kind ≡ struct_kind → ⊥) → depth table (value_at table e) < 5 * e + 4
depth_below {table} {e} (many R k l m) h =
    cond_below (eqb (part_width table (value_at table e)) 0) (5 * (value_at table e).reference + 5) (5 * e + 4)
    (λ b. omega (arith, l (eqb-true (part_width table (value_at table e)) 0 b))) (omega arith)
depth_below (members R k l) h = absurd (h k)
