-- A member further on (specs/Slot).
-- Assumes nothing.
use Prim.Native.Nat.{ℕ, zero, suc, ◌+◌, ◌-◌, ◌*◌, ◌<◌, ◌≤◌}
use mathlib.Core.List.{List}
use mathlib.Core.Path.{◌≡◌, refl}
use native.Mathlib.Omega.{arith}
use Rattle.walk_trees.specs.declared.Slot.{Slot}
use Rattle.walk_trees.specs.Slot.{slot_at, SlotAsks, slot_in, SlotsAsk}
use Rattle.layout_values.specs.declared.value.Value.{Value}

module _ (ms : List ℕ) (table : List Value) (length m end : ℕ) where
  pub next_placeable : (i : ℕ) → SlotsAsk ms table length m end i → SlotAsks ms table m end
  unfolding SlotsAsk
  next_placeable zero p = p
  next_placeable (suc i) p = p.0

  rest_placeables : (i : ℕ) → SlotsAsk ms table length m end (suc i) → SlotsAsk ms table length (m + length) (slot_at ms table m end).end i
  unfolding SlotsAsk
  rest_placeables i p = p.1

  rest_placed : (i : ℕ) → slot_in ms table length m end (suc i) ≡ slot_in ms table length (m + length) (slot_at ms table m end).end i
  unfolding slot_in
  rest_placed i = refl

-- Where member i of n, from `first` on, is the next, so is the one after it.
module _ (ms : List ℕ) (table : List Value) (length first end i n : ℕ) (h : i < n) {p : Slot} (is : p ≡ slot_at ms table (first + length * i) end) where
  next_left : n - i ≡ suc (n - (i + 1))
  next_left = omega arith

  next_start : first + length * (i + 1) ≡ first + length * i + length
  next_start = omega arith

  pub placeables_next : SlotsAsk ms table length (first + length * i) end (n - i) → SlotsAsk ms table length (first + length * (i + 1)) p.end (n - (i + 1))
  placeables_next p = rw (next_start, is) (rest_placeables ms table length (first + length * i) end (n - (i + 1)) (rw next_left at p))

  pub placed_next : slot_in ms table length (first + length * i) end (n - i) ≡ slot_in ms table length (first + length * (i + 1)) p.end (n - (i + 1))
  placed_next = rw (next_left, next_start, is) (rest_placed ms table length (first + length * i) end (n - (i + 1)))
