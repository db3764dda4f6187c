-- What is swept has fewer than 2^64 words, so that the walk can count them.
-- Assumes nothing.
use Prim.Native.Nat.{ℕ, ◌*◌, ◌≤◌}
use mathlib.Core.List.{List}
use mathlib.Core.Path.{◌≡◌, refl}
use Rattle.std.proofs.lemmas.Nat.{mul-le}
use native.Mathlib.Omega.{arith}
use Rattle.wgsl.specs.Round.{limit}
use Rattle.wgsl.specs.Place.{Shape}
use Rattle.wgsl.specs.Shapes.{shape_words}
use Rattle.layout_values.specs.declared.value.Value.{Value}
use Rattle.walk_trees.specs.Tree.{Many, runs, each, Tree, Room}
use Rattle.walk_trees.proofs.Many.{tree_valued}
use Rattle.walk.specs.Visitor.{most_words}

pub entry_room : {ms : List ℕ} {table : List Value} {e at bytes k words : ℕ} {x : Shape} → Tree ms table e x → Room x at bytes k words → Room x at bytes 0 most_words
entry_room t room = record { bytes_there = room.bytes_there; words_there = omega (arith, (tree_valued t).words_are, (tree_valued t).counted) }

many_words : {ms : List ℕ} {table : List Value} {r : Value} {x : Shape} → Many ms table r x → shape_words x ≡ r.count * r.unit
unfolding shape_words
many_words (runs R) = R.runs_are.words_are
many_words (each E t) = rw E.words_are refl

pub many_room : {ms : List ℕ} {table : List Value} {r : Value} {at bytes k words : ℕ} {x : Shape} → Many ms table r x → r.count ≤ limit → r.unit ≤ limit → Room x at bytes k words → Room x at bytes 0 most_words
many_room {r = r} m c u room =
    record { bytes_there = room.bytes_there; words_there = omega (arith, many_words m, mul-le r.count r.unit limit limit c u) }
