-- The last member of a struct (crates/wgsl, proofs/Opened), found in the file and in the table.
--
-- In order: what holds of every type within the struct holds of its type; its place, where it is a runtime array.
-- Assumes nothing.
use Prim.Native.Nat.{ℕ, zero, suc, ◌+◌, ◌*◌, ◌≤◌}
use mathlib.Core.Bool.{Bool, true}
use mathlib.Core.List.{List}
use mathlib.Core.Logic.{⊎_elim}
use mathlib.Core.Option.{Option, some, some-injective}
use mathlib.Core.Path.{◌≡◌, ap, ◌∙◌}
use native.Mathlib.Nat.{suc-mul}
use native.Mathlib.Omega.{arith}
use lib.ListN.{take, get_elem?}
use Rattle.wgsl.specs.Types.{Ty, runtime, Members, no_more, member, is_runtime, everywhere, every_member}
use Rattle.wgsl.specs.Size.{is_present, present, size_of, align_of, stride_of, member_start}
use Rattle.wgsl.specs.File.{trailer_of, member_entry_at, given_size, given_align}
use Rattle.wgsl.specs.Rule.{is_last, members_from}
use Rattle.wgsl.specs.Place.{Tail, tail_at, members_tail}
use Rattle.wgsl.proofs.Absent.{both_hold}
use Rattle.wgsl.proofs.Said.{when_some, and_then_some}
use Rattle.wgsl.proofs.Opened.{last_of}
use Rattle.file.specs.Members.{member_bytes, member_length}
use Rattle.walk_trees.specs.Slot.{slot_at, slot_in, SlotsAsk}
use Rattle.walk_shapes.specs.Basis.{Basis}
use Rattle.walk_shapes.proofs.MemberRead.{Ruled, first_ruled, rest_ruled, last_none, Read, read, first_placeable, first_start, first_end}
use Rattle.layout_values.specs.declared.value.Value.{Value}

-- A test that holds of every type within the members holds of every type within the last one.
pub last_everywhere : (p : Ty → Bool) (before : Ty) (ms : Members) → everywhere p before ≡ true → every_member p ms ≡ true → everywhere p (last_of before ms) ≡ true
unfolding last_of every_member
last_everywhere p before no_more b h = b
last_everywhere p before (member t size align ms) b h =
    let both = both_hold (everywhere p t) (every_member p ms) h in
    last_everywhere p t ms both.0 both.1

-- ---- its place

-- member c of those from number m on, the last of ns, is a runtime array of elements of the type u
pub record Last (f : List ℕ) (ts : List Ty) (table : List Value) (c m lo : ℕ) (ns : Members) (u : Ty) : Type 0 where
  pub slots_ask : SlotsAsk (member_bytes f) table (member_length f) (m * member_length f) lo c
  pub there : get_elem? ts (slot_in (member_bytes f) table (member_length f) (m * member_length f) lo c).ty ≡ some (runtime u)
  pub tail_is : (before : Option Tail) → members_tail before (some lo) ns ≡ some (record { offset = (slot_in (member_bytes f) table (member_length f) (m * member_length f) lo c).start; stride = present (stride_of u) })

module _ {f : List ℕ} {ts : List Ty} {ms : List ℕ} {table : List Value} (basis : Basis f ts ms table) (e : ℕ) where
  tail_at_lem : (start : Option ℕ) (t u : Ty) (a : ℕ) → t ≡ runtime u → a ≡ present start → tail_at start t ≡ some (record { offset = a; stride = present (stride_of u) })
  unfolding tail_at
  tail_at_lem start t u a is e = rw (is, e)

  last_here : (m lo : ℕ) (t u : Ty) → Read f ts table e m t → t ≡ runtime u → Ruled (some lo) (member t (given_size (member_entry_at f m)) (given_align (member_entry_at f m)) no_more) → Last f ts table 0 m lo (member t (given_size (member_entry_at f m)) (given_align (member_entry_at f m)) no_more) u
  unfolding SlotsAsk slot_in slot_at members_tail
  last_here m lo t u r is x =
      let start = first_start r x in
      record {
        slots_ask = first_placeable r x;
        there = r.there ∙ ap some is;
        tail_is = λ before. tail_at_lem (member_start (some lo) (given_align (member_entry_at f m)) (align_of t)) t u _ is start;
      }

  last_more : (c m lo : ℕ) (t u : Ty) (ns : Members) → Read f ts table e m t → is_present (size_of t) ≡ true → Ruled (some lo) (member t (given_size (member_entry_at f m)) (given_align (member_entry_at f m)) ns) → ((lo' : ℕ) → Ruled (some lo') ns → Last f ts table c (suc m) lo' ns u) → Last f ts table (suc c) m lo (member t (given_size (member_entry_at f m)) (given_align (member_entry_at f m)) ns) u
  unfolding SlotsAsk slot_in members_tail
  last_more c m lo t u ns r sized x more =
      let end : ℕ = (slot_at (member_bytes f) table (m * member_length f) lo).end in
      let next = first_end r x sized in
      let y = more end (rw next at (rest_ruled x)) in
      let byte : suc m * member_length f ≡ m * member_length f + member_length f = suc-mul m (member_length f) in
      record {
        slots_ask = (first_placeable r x, rw byte at y.slots_ask);
        there = rw byte at y.there;
        tail_is = λ before. rw next (rw byte at (y.tail_is (tail_at (member_start (some lo) (given_align (member_entry_at f m)) (align_of t)) t)));
      }

  -- The last member, where it is a runtime array, is placed where the struct's tail begins.
  pub last_placed : (c m lo : ℕ) (before u : Ty) (ns : Members) → members_from f (take e ts) (suc c) m ≡ some ns → m + suc c ≤ (trailer_of f).members → Ruled (some lo) ns → last_of before ns ≡ runtime u → Last f ts table c m lo ns u
  unfolding members_from last_of
  last_placed zero m lo before u ns are within x last =
      let t = and_then_some _ _ (when_some _ _ are).1 in
      let rest = and_then_some _ _ t.after in
      let q = some-injective _ _ rest.after in
      let none : rest.value ≡ no_more = cc rest.first in
      let same = ap (member t.value (given_size (member_entry_at f m)) (given_align (member_entry_at f m))) none in
      rw (← q, none)
      (last_here m lo t.value u (read basis m t.value (omega arith) t.first) (rw (← q, none) at last) (rw (← q, none) at x))
  last_placed (suc c) m lo before u ns are within x last =
      let t = and_then_some _ _ (when_some _ _ are).1 in
      let rest = and_then_some _ _ t.after in
      let q = some-injective _ _ rest.after in
      let y = rw (← q) at x in
      rw (← q)
      (last_more c m lo t.value u rest.value (read basis m t.value (omega arith) t.first)
      (⊎_elim
      (λ (p : is_present (size_of t.value) ≡ true). p)
      (λ (p : (is_last rest.value ≡ true) × (is_runtime t.value ≡ true)).
      let no = last_none f (take e ts) (suc c) (suc m) rest.value rest.first p.0 in
      absurd (omega (arith, no.0)))
      (first_ruled y).sized_or_last)
      y
      (λ lo' z. last_placed c (suc m) lo' t.value u rest.value rest.first (omega arith) z (rw (← q) at last)))
