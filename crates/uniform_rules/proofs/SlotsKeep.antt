-- The members of a struct one after the other (specs/Keeps, `slots_keep` and `SlotsAll`).
--
-- In order: what is found of the first of some members; the first and those after it.
-- Assumes nothing.
use Prim.Native.Nat.{ℕ, suc, ◌+◌, ◌-◌, ◌*◌, ◌<◌, ◌≤◌}
use mathlib.Core.Bool.{true, false, ◌&&◌}
use mathlib.Core.List.{List}
use mathlib.Core.Path.{◌≡◌, refl, ap, ◌∙◌}
use native.Mathlib.Omega.{arith}
use borrow.Author.Tests.{leb-true}
use lib.Dec.{leb}
use lib.ListN.{length}
use Rattle.wgsl.specs.Round.{limit}
use Rattle.wgsl.proofs.Absent.{both_hold}
use Rattle.layout_values.specs.declared.value.Value.{Value}
use Rattle.layout_values.specs.Value.{value_at}
use Rattle.walk_trees.specs.declared.Slot.{Slot}
use Rattle.walk_trees.specs.Slot.{member_value, slot_at, SlotAsks}
use Rattle.uniform_rules.specs.Keeps.{start_keeps, earliest_by, slots_keep, SlotsAll}

-- ---- what is found of the first of some members

module _ {ms : List ℕ} {table : List Value} {m end : ℕ} where
  pub slot_inside : {p : Slot} → p ≡ slot_at ms table m end → SlotAsks ms table m end → p.ty < length table
  unfolding slot_at
  slot_inside is x = rw is x.type_inside

  pub slot_low : {p : Slot} → p ≡ slot_at ms table m end → SlotAsks ms table m end → p.start ≤ limit
  unfolding slot_at
  slot_low is x = rw is x.low

-- its slot, and the value of its type
pub record Turn (ms : List ℕ) (table : List Value) (m end : ℕ) (p : Slot) (v : Value) : Type 0 where
  pub slot_is : p ≡ slot_at ms table m end
  pub value_is : v ≡ value_at table p.ty

turn_value : {ms : List ℕ} {table : List Value} {m end : ℕ} {p : Slot} {v : Value} → Turn ms table m end p v → v ≡ member_value ms table m
unfolding slot_at
turn_value {table = table} t = t.value_is ∙ ap (λ (s : Slot). value_at table s.ty) t.slot_is

-- ---- the first of some members, and those after it

one_more : (count i : ℕ) → i < count → count - i ≡ suc (count - (i + 1))
one_more count i h = omega arith

next_byte : (first long i : ℕ) → first + long * (i + 1) ≡ first + long * i + long
next_byte first long i = omega arith

module _ (ms : List ℕ) (table : List Value) (long first count i end : ℕ) (h : i < count) where
  -- It can be placed,
  pub next_asks : SlotsAll ms table long (count - i) (first + long * i) end → SlotAsks ms table (first + long * i) end
  unfolding SlotsAll
  next_asks x = (rw (one_more count i h) at x).0

  -- and so can those after it.
  pub rest_asks : {p : Slot} → SlotsAll ms table long (count - i) (first + long * i) end → p ≡ slot_at ms table (first + long * i) end → SlotsAll ms table long (count - (i + 1)) (first + long * (i + 1)) p.end
  unfolding SlotsAll
  rest_asks x is = rw (next_byte first long i, is) ((rw (one_more count i h) at x).1)

  -- All keep the rule if it does and those after it do.
  keep_step : (earliest : ℕ) → slots_keep ms table long (count - i) (first + long * i) end earliest ≡ (start_keeps (member_value ms table (first + long * i)) earliest (slot_at ms table (first + long * i) end).start && slots_keep ms table long (count - (i + 1)) (first + long * (i + 1)) (slot_at ms table (first + long * i) end).end (earliest_by (member_value ms table (first + long * i)) earliest (slot_at ms table (first + long * i) end).start))
  unfolding slots_keep
  keep_step earliest = rw (one_more count i h, next_byte first long i) refl

  module _ {p : Slot} {v : Value} (t : Turn ms table (first + long * i) end p v) (earliest : ℕ) where
    turn_step : slots_keep ms table long (count - i) (first + long * i) end earliest ≡ (start_keeps v earliest p.start && slots_keep ms table long (count - (i + 1)) (first + long * (i + 1)) p.end (earliest_by v earliest p.start))
    turn_step = rw (turn_value t, t.slot_is) (keep_step earliest)

    pub keep_fails : start_keeps v earliest p.start ≡ false → slots_keep ms table long (count - i) (first + long * i) end earliest ≡ false
    keep_fails e = turn_step ∙ rw e

    pub keep_on : start_keeps v earliest p.start ≡ true → slots_keep ms table long (count - i) (first + long * i) end earliest ≡ slots_keep ms table long (count - (i + 1)) (first + long * (i + 1)) p.end (earliest_by v earliest p.start)
    keep_on e = turn_step ∙ rw e

pub keep_starts : (v : Value) (earliest start : ℕ) → start_keeps v earliest start ≡ true → earliest ≤ start
unfolding start_keeps
keep_starts v earliest start e = leb-true _ _ (both_hold (leb earliest start) _ e).0
