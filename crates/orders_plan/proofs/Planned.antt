-- Laws of the passes of the planner, by what is left of the planned order.
--
-- In order: what is left of the planned order; a pass for an alignment; the last pass, for runtime arrays.
-- Assumes nothing.
use Prim.Native.Nat.{ℕ, suc, ◌+◌, ◌*◌, ◌%◌, ◌^◌, ◌<◌, ◌≤◌}
use mathlib.Core.List.{List, [], ◌++◌, append_assoc, append-nil}
use mathlib.Core.Path.{◌≡◌, refl, ap, sym, ◌∙◌}
use native.Mathlib.Nat.{zero-add}
use native.Mathlib.Omega.{arith}
use lib.ListN.{length, drop, length-append}
use lib.Pow.{pow-lt}
use lib.Seq.{sets, sets-eq, length-sets}
use Rattle.wgsl.specs.Types.{Members}
use Rattle.wgsl.specs.Rule.{count_of}
use Rattle.wgsl.specs.Order.{aligned_at, falling, runtimes_at, planned_order}
use Rattle.wgsl.proofs.OrderPlanned.{planned_length}
use Rattle.puts.proofs.PutLaws.{sets_append}
use Rattle.layout_values.specs.declared.value.Value.{Value}
use Rattle.orders_members.specs.Entries.{Struct}
use Rattle.orders_plan.specs.Keyed.{keyed_at}
use Rattle.orders_plan.proofs.Keyed.{keyed_aligned, keyed_runtimes}

-- ---- what is left of the planned order

-- the positions of the members of the alignments that are left, and those of runtime arrays
abbrev rest : ℕ → Members → List ℕ
rest left ms = falling left ms ++ runtimes_at 0 ms

-- they make of the list, from place `next` on, what the planned order makes of the list as it was
pub record Plan (ms : Members) (old : List ℕ) (next left : ℕ) (order : List ℕ) : Type 0 where
  pub list_is : sets order next (rest left ms) ≡ sets old 0 (planned_order ms)
  pub place_is : next + length (rest left ms) ≡ count_of ms

module _ {bytes : List ℕ} {table : List Value} {l : Value} {ms : Members} (s : Struct bytes table l ms) where
  long_as : length (planned_order ms) ≡ count_of ms
  long_as = planned_length s.number ms s.well_formed

  pub plan_starts : (old : List ℕ) → Plan ms old 0 32 old
  unfolding planned_order
  plan_starts old = record { list_is = refl; place_is = omega (arith, long_as) }

  -- the last pass is for runtime arrays
  last_part : rest 0 ms ≡ keyed_at 0 0 ms ++ []
  unfolding falling
  last_part = sym (keyed_runtimes s.entries 0) ∙ sym (append-nil (keyed_at 0 0 ms))

module _ {ms : Members} {old : List ℕ} {next left : ℕ} {order : List ℕ} (p : Plan ms old next left order) where
  -- The list keeps its length.
  pub plan_long : length order ≡ length old
  plan_long = simp length-sets at (ap length p.list_is)

  module _ (part later : List ℕ) (e : rest left ms ≡ part ++ later) where
    part_list : sets (sets order next part) (next + length part) later ≡ sets old 0 (planned_order ms)
    part_list = sets_append part later order next ∙ rw (← e) p.list_is

    part_place : next + length part + length later ≡ count_of ms
    part_place = omega (arith, p.place_is, ap length e, length-append part later)

-- ---- a pass for an alignment

-- the first pass of those that are left
first_part : (j : ℕ) (ms : Members) → rest (suc j) ms ≡ keyed_at (2 ^ j) 0 ms ++ rest j ms
unfolding falling
first_part j ms = rw (keyed_aligned j 0 ms) (append_assoc (aligned_at (2 ^ j) 0 ms) (falling j ms) (runtimes_at 0 ms))

-- the alignment of this pass, as it is shifted
pub key_is : (j : ℕ) → j < 32 → 1 * 2 ^ j % 4294967296 ≡ 2 ^ j
key_is j h = omega (arith, pow-lt h)

module _ {ms : Members} {old : List ℕ} {next j : ℕ} {order : List ℕ} (p : Plan ms old next (suc j) order) where
  pub plan_room : count_of ms ≤ length old → next + length (keyed_at (2 ^ j) 0 ms) ≤ length order
  plan_room r = omega (arith, part_place p (keyed_at (2 ^ j) 0 ms) (rest j ms) (first_part j ms), plan_long p)

  pub plan_next : Plan ms old (next + length (keyed_at (2 ^ j) 0 ms)) j (sets order next (keyed_at (2 ^ j) 0 ms))
  plan_next =
      record {
        list_is = part_list p (keyed_at (2 ^ j) 0 ms) (rest j ms) (first_part j ms);
        place_is = part_place p (keyed_at (2 ^ j) 0 ms) (rest j ms) (first_part j ms);
      }

-- ---- the last pass

module _ {bytes : List ℕ} {table : List Value} {l : Value} {ms : Members} (s : Struct bytes table l ms) {old : List ℕ} {next : ℕ} {order : List ℕ} (p : Plan ms old next 0 order) (r : count_of ms ≤ length old) where
  pub last_room : next + length (keyed_at 0 0 ms) ≤ length order
  last_room = omega (arith, part_place p (keyed_at 0 0 ms) [] (last_part s), plan_long p)

  -- After it the list is the planned order, and what was behind it.
  pub plan_done : sets order next (keyed_at 0 0 ms) ≡ planned_order ms ++ drop (count_of ms) old
  plan_done =
      part_list p (keyed_at 0 0 ms) [] (last_part s)
      ∙ sets-eq (planned_order ms) old 0 (omega (arith, long_as s))
      ∙ rw (zero-add, long_as s)
