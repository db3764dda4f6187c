-- Parts that are runs (specs/Tree, `RunsOf`): an entry's own, and those of its elements as one row.
-- Assumes nothing.
use Prim.Native.Nat.{ℕ, ◌*◌}
use mathlib.Core.List.{List}
use mathlib.Core.Path.{◌≡◌, ap, sym, ◌∙◌}
use native.Mathlib.Nat.{mul_assoc}
use Rattle.wgsl.specs.Place.{Shape, parts, span_of, places_of}
use Rattle.wgsl.specs.Shapes.{shape_words}
use Rattle.runs.specs.declared.Parts.{Parts}
use Rattle.runs.specs.Run.{part_places}
use Rattle.runs.specs.Ask.{PartsRoom}
use Rattle.runs.proofs.OverPlaces.{rows_touch}
use Rattle.layout_values.specs.declared.value.Value.{Value}
use Rattle.walk_trees.specs.Slot.{part_width}
use Rattle.walk_trees.specs.Tree.{Runs, RunsOf, Room}
use Rattle.walk_trees.proofs.TreeOne.{repeated_alike}

pub own_runs : {table : List Value} {l : Value} {x : Shape} {p : Parts} → Runs table l x → p ≡ record { count = l.count; unit = l.unit; width = part_width table l; stride = l.stride } → RunsOf p x
own_runs R is = rw (is, R.narrow_is) R.runs_are

-- n elements whose parts, by their value x, are runs that fill the stride.
pub row_runs : {table : List Value} {x : Value} {y : Shape} {p : Parts} {n stride : ℕ} → Runs table x y → stride ≡ x.count * x.stride → p ≡ record { count = n * x.count; unit = x.unit; width = part_width table x; stride = x.stride } → RunsOf p (parts n stride y)
unfolding places_of span_of shape_words
row_runs {x = x} {y = y} {n = n} R fills is =
    rw (is, R.narrow_is, fills)
    (record {
      width = R.runs_are.width;
      fits = R.runs_are.fits;
      places_are = λ at.
          repeated_alike n (x.count * x.stride) (λ p. places_of y p) (λ p. part_places x.count x.unit x.narrow x.stride p) at R.runs_are.places_are
          ∙ rows_touch n x.count x.unit x.narrow x.stride at;
      span_is = sym (mul_assoc n x.count x.stride);
      words_are = ap (λ (c : ℕ). n * c) R.runs_are.words_are ∙ sym (mul_assoc n x.count x.unit);
    })

-- There is room for them where there is room for the shape.
pub runs_room : {p : Parts} {x : Shape} {at bytes k words : ℕ} → RunsOf p x → Room x at bytes k words → PartsRoom p at bytes k words
runs_room R room =
    record {
      width = R.width;
      fits = R.fits;
      bytes_there = rw (← R.span_is) room.bytes_there;
      words_there = rw (← R.words_are) room.words_there;
    }
