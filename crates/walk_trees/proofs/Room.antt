-- Room for the words and the bytes of a tree (specs/Tree, `Room`, `EachRoom` and `MemberRoom`).
--
-- In order: parts, and each of them (`Each`); a member at its place.
-- Assumes nothing.
use Prim.Native.Nat.{ℕ, ◌+◌, ◌*◌, ◌<◌, ◌≤◌}
use mathlib.Core.List.{List}
use mathlib.Core.Path.{◌≡◌, refl, ap, sym, ◌∙◌}
use native.Mathlib.Nat.{mul-le-mul_right}
use native.Mathlib.Omega.{arith}
use lib.ListN.{length}
use Rattle.wgsl.specs.Place.{Shape, parts, span_of, places_of}
use Rattle.wgsl.specs.Shapes.{shape_words}
use Rattle.runs.specs.Run.{run_places}
use Rattle.layout_values.specs.declared.value.Value.{Value}
use Rattle.walk_trees.specs.declared.Series.{Series}
use Rattle.walk_trees.specs.declared.Slot.{Slot}
use Rattle.layout_values.specs.Value.{value_at, words_in}
use Rattle.walk_trees.specs.Slot.{packed_as, part_width, member_at, slot_at, series_of}
use Rattle.walk_trees.specs.Tree.{Elements, Many, Tree, Room, EachRoom, MemberRoom}
use Rattle.walk_trees.proofs.Many.{tree_valued, many_each, depth, depth_each}

-- Room for parts is room for each.
pub parts_room : {table : List Value} {r : Value} {y : Shape} {at bytes k ws : ℕ} → Elements table r y → Room (parts r.count r.stride y) at bytes k ws → EachRoom y r.count r.unit r.stride at bytes k ws
unfolding span_of shape_words
parts_room {r} E room =
    record {
      unit_is = E.words_are;
      bytes_there = λ i h. omega (arith, room.bytes_there, E.fits, mul-le-mul_right {m = i + 1} {n = r.count} r.stride (omega arith));
      words_there = rw E.words_are at room.words_there;
    }

pub each_room : {y : Shape} {count unit stride at bytes k ws i : ℕ} → EachRoom y count unit stride at bytes k ws → i < count → Room y (at + i * stride) bytes (k + i * unit) ws
each_room {count} {unit} {i} room h =
    record {
      bytes_there = room.bytes_there i h;
      words_there = omega (arith, room.unit_is, room.words_there, mul-le-mul_right {m = i + 1} {n = count} unit (omega arith));
    }

-- Parts that are entries: an entry for each, and room; and so of any shape that the layout has.
pub record Each (ms : List ℕ) (table : List Value) (r : Value) (q : Series) (at bytes k ws : ℕ) : Type 0 where
  pub y : Shape
  pub tree : Tree ms table r.reference y
  pub room : EachRoom y q.count q.unit q.stride at bytes k ws
  pub low : span_of y ≤ q.stride
  pub deep : depth table r ≡ 5 * r.reference + 5
  pub any : (x : Shape) → Many ms table r x → (z : Shape) × Tree ms table r.reference z × (x ≡ parts q.count q.stride z)

pub each_entry : {ms : List ℕ} {table : List Value} {r : Value} {x : Shape} {q : Series} {at bytes k ws : ℕ} → Many ms table r x → part_width table r ≡ 0 → Room x at bytes k ws → q ≡ series_of r → Each ms table r q at bytes k ws
each_entry {table} {r} m w room is =
    let m₀ = many_each m w in
    rw is
    (record {
      y = m₀.part;
      tree = m₀.tree;
      room = parts_room m₀.elements (rw m₀.is at room);
      low = m₀.elements.fits;
      deep = depth_each table r w;
      any = λ x m'. ((many_each m' w).part, (many_each m' w).tree, (many_each m' w).is);
    })

-- ---- a member at its place

module _ {ms : List ℕ} {table : List Value} {m end : ℕ} {y : Shape} {at bytes k ws : ℕ} (ready : MemberRoom ms table m end y at bytes k ws) {p : Slot} (is : p ≡ slot_at ms table m end) where
  pub type_is : p.ty ≡ (member_at ms m).type
  unfolding slot_at
  type_is = ap (λ (q : Slot). q.ty) is

  words_is : p.words ≡ words_in (value_at table p.ty)
  unfolding slot_at
  words_is = rw is refl

  pub type_inside : p.ty < length table
  type_inside = rw type_is ready.slot_asks.type_inside

  pub type_tree : Tree ms table p.ty y
  type_tree = rw type_is ready.tree

  pub member_words : shape_words y ≡ p.words
  member_words = (tree_valued type_tree).words_are ∙ sym words_is

  pub member_room : Room y (at + p.start) bytes k ws
  member_room = rw is ready.room

  -- Its words lie one after the other, if its type's layout r says so.
  module _ {r : Value} (is_layout : r ≡ value_at table p.ty) (run : packed_as r ≡ 4) where
    runs_on : packed_as (value_at table p.ty) ≡ 4
    runs_on = rw is_layout at run

    pub run_places_lem : {z : Shape} → Tree ms table (slot_at ms table m end).ty z → (q : ℕ) → places_of z q ≡ run_places (slot_at ms table m end).words 4 q
    run_places_lem t q = rw (← is, words_is) ((tree_valued (rw (← is) at t)).run_is runs_on q)

    pub run_room : (k + p.words ≤ ws) × (at + p.start + p.words * 4 ≤ bytes)
    run_room = (
      omega (arith, member_room.words_there, member_words),
      omega (arith, member_room.bytes_there, (tree_valued type_tree).run_fits runs_on, words_is),
    )
