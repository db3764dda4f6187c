-- What table describe is one shape, as far as the places of its words go (specs/Tree).
--
-- In order: parts; members and entries, from the entries below them up; entries.
-- Assumes nothing.
use Prim.Native.Nat.{ℕ, zero, suc, ◌+◌, ◌<◌}
use mathlib.Core.List.{List}
use mathlib.Core.Logic.{⊎_elim}
use mathlib.Core.Path.{◌≡◌, refl, sym, ◌∙◌}
use native.Mathlib.Omega.{arith}
use Rattle.wgsl.specs.Place.{Shape, repeated, places_of}
use Rattle.layout_values.specs.declared.value.Value.{Value}
use Rattle.layout_values.specs.Value.{value_at}
use Rattle.walk_trees.specs.Slot.{part_width, member_at, slot_at}
use Rattle.walk_trees.specs.Tree.{Runs, Many, runs, each, Left, none, more, Tree, many, members}

-- A run has a width, so no part is both a run and an entry.
pub run_width : {table : List Value} {r : Value} {x : Shape} → Runs table r x → part_width table r ≡ 0 → ⊥
run_width R h = ⊎_elim (λ w. omega (arith, R.narrow_is)) (λ w. omega (arith, R.narrow_is)) R.runs_are.width

-- Parts are alike where each of them is.
pub repeated_alike : {A : Type 0} (n stride : ℕ) (f g : ℕ → List A) (at : ℕ) → ((p : ℕ) → f p ≡ g p) → repeated n stride f at ≡ repeated n stride g at
unfolding repeated
repeated_alike zero stride f g at h = refl
repeated_alike (suc n) stride f g at h = rw (h at, repeated_alike n stride f g (at + stride) h)

-- entry e has one shape
abbrev One : List ℕ → List Value → ℕ → Type 0
One ms table e = (x y : Shape) → Tree ms table e x → Tree ms table e y → (at : ℕ) → places_of x at ≡ places_of y at

many_step : {ms : List ℕ} {table : List Value} {r : Value} {x y : Shape} → (part_width table r ≡ 0 → One ms table r.reference) → Many ms table r x → Many ms table r y → (at : ℕ) → places_of x at ≡ places_of y at
unfolding places_of
many_step below (runs R) (runs R') at = R.runs_are.places_are at ∙ sym (R'.runs_are.places_are at)
many_step below (runs R) (each E t) at = absurd (run_width R E.no_run)
many_step below (each E t) (runs R) at = absurd (run_width R E.no_run)
many_step {r} below (each {y = y} E t) (each {y = z} E' t') at =
    repeated_alike r.count r.stride (λ p. places_of y p) (λ p. places_of z p) at (below E.no_run y z t t')

left_step : {ms : List ℕ} {table : List Value} {e c m end : ℕ} {x y : Shape} → ((d : ℕ) → d < e → One ms table d) → Left ms table e c m end x → Left ms table e c m end y → (at : ℕ) → places_of x at ≡ places_of y at
unfolding places_of
left_step below none none at = refl
left_step {ms} {table} {m} {end} below (more {y = y} {rest = u} M t l) (more {y = z} {rest = v} M' t' l') at =
    rw (below (member_at ms m).type M.lower y z t t' (at + (slot_at ms table m end).start), left_step below l l' at)

tree_step : {ms : List ℕ} {table : List Value} {e : ℕ} → ((d : ℕ) → d < e → One ms table d) → One ms table e
tree_step {table} {e} below x y (many R k l m) (many R' k' l' m') = many_step (λ w. below (value_at table e).reference (l w)) m m'
tree_step below x y (many R k l m) (members R' k' l') = absurd (k k')
tree_step below x y (members R k l) (many R' k' l' m') = absurd (k' k)
tree_step below x y (members R k l) (members R' k' l') = left_step below l l'

trees_below : (ms : List ℕ) (table : List Value) (n d : ℕ) → d < n → One ms table d
trees_below ms table zero d h = absurd (omega arith)
trees_below ms table (suc n) d h = tree_step (λ i l. trees_below ms table n i (omega arith))

pub tree_one : {ms : List ℕ} {table : List Value} {e : ℕ} {x y : Shape} → Tree ms table e x → Tree ms table e y → (at : ℕ) → places_of x at ≡ places_of y at
tree_one {ms} {table} {e} {x} {y} = trees_below ms table (suc e) e (omega arith) x y
