-- The steps of the walk (src/lib.rt), for any visitor that keeps the laws (specs/Visitor).
--
-- In order: one part; parts in turn; members in turn.
-- Assumes nothing.
use Prim.Native.Nat.{ℕ, ◌+◌, ◌-◌, ◌*◌, ◌<◌, ◌≤◌}
use mathlib.Core.List.{List, [], ◌++◌, append-nil, append_assoc}
use mathlib.Core.Path.{◌≡◌, sym, ◌∙◌}
use native.Mathlib.Omega.{arith}
use lib.ListN.{length, length-append}
use Rattle.wgsl.specs.Place.{Shape, parts, field, span_of, Place, repeated, places_of}
use Rattle.wgsl.specs.Shapes.{shape_words}
use Rattle.wgsl.specs.Types.{struct_kind}
use Rattle.wgsl.proofs.Count.{places_words, repeated_length}
use Rattle.runs.specs.Run.{run_places, part_places}
use Rattle.runs.proofs.OverPlaces.{repeated_append}
use Rattle.walk_trees.specs.declared.Slot.{Slot}
use Rattle.layout_values.specs.declared.value.Value.{Value}
use Rattle.layout_values.specs.Value.{value_at}
use Rattle.walk_trees.specs.Slot.{slot_at}
use Rattle.walk_trees.specs.Tree.{Left, Tree, Room, MemberRoom}
use Rattle.walk_trees.proofs.Many.{tree_valued}
use Rattle.walk_trees.proofs.Room.{type_tree, member_words}
use Rattle.walk_trees.proofs.TreeOne.{tree_one}
use Rattle.walk_trees.proofs.TreeSteps.{First, left_first, left_none, nth_member, nth_next, left_all}
use Rattle.walk.specs.Visitor.{VisitorLaws}

-- ---- one part

pub one_part : (n width stride at : ℕ) → part_places 1 n width stride at ≡ run_places n width at
unfolding part_places repeated
one_part n width stride at = append-nil (run_places n width at)

-- ---- parts in turn

-- i parts are passed, which led from v₀ to v, whatever shape a tree says that they have
pub record Turn {V : Type 0} (passes : List Place → ℕ → V → V → Type 0) (ms : List ℕ) (table : List Value) (e stride at k : ℕ) (v₀ : V) (i : ℕ) (v : V) : Type 0 where
  pub passed : (y : Shape) → Tree ms table e y → passes (repeated i stride (λ p. places_of y p) at) k v₀ v

module _ {V : Type 0} {passes : List Place → ℕ → V → V → Type 0} {bytes words : V → ℕ} (laws : VisitorLaws passes bytes words) where
  pub turn_start : (ms : List ℕ) (table : List Value) (e stride at k : ℕ) (v₀ : V) → Turn passes ms table e stride at k v₀ 0 v₀
  unfolding repeated
  turn_start ms table e stride at k v₀ = record { passed = λ y t. laws.nil k v₀ }

  pub turn_next : {ms : List ℕ} {table : List Value} {e unit stride at k : ℕ} {v₀ : V} {i : ℕ} {v v' : V} {y : Shape} → Turn passes ms table e stride at k v₀ i v → Tree ms table e y → shape_words y ≡ unit → ((x : Shape) → Tree ms table e x → passes (places_of x (at + i * stride)) (k + i * unit) v v') → Turn passes ms table e stride at k v₀ (i + 1) v'
  unfolding repeated
  turn_next {unit = unit} {stride = stride} {at = at} {k = k} {v₀ = v₀} {i = i} {v = v} {v' = v'} now t u done =
      record {
        passed = λ x t'.
            let each : (p : ℕ) → length (places_of x p) ≡ unit = λ p. places_words x p ∙ (tree_valued t').words_are ∙ sym (tree_valued t).words_are ∙ u in
            let before = repeated i stride (λ p. places_of x p) at in
            let here : passes (places_of x (at + i * stride)) (k + length before) v v' = rw (repeated_length i stride (λ p. places_of x p) at unit each) (done x t') in
            rw (repeated_append i 1 stride (λ p. places_of x p) at, append-nil (places_of x (at + i * stride)))
            (laws.join before (places_of x (at + i * stride)) k v₀ v v' (now.passed x t') here);
      }

-- all of them
pub turn_all : {V : Type 0} {passes : List Place → ℕ → V → V → Type 0} {ms : List ℕ} {table : List Value} {e stride at k : ℕ} {v₀ : V} {i count : ℕ} {v : V} → Turn passes ms table e stride at k v₀ i v → i ≡ count → (y : Shape) → Tree ms table e y → passes (places_of (parts count stride y) at) k v₀ v
unfolding places_of
turn_all now h y t = rw (← h) (now.passed y t)

-- ---- members in turn

-- i members of entry e, of the value r, are passed, which led from v₀ to v; the next one's first word is word `next`
pub record Walk {V : Type 0} (passes : List Place → ℕ → V → V → Type 0) (ms : List ℕ) (table : List Value) (e : ℕ) (r : Value) (at bytes k words : ℕ) (v₀ : V) (i end next : ℕ) (v : V) : Type 0 where
  pub value_is : r ≡ value_at table e
  pub rest : Shape
  pub rest_left : Left ms table e (r.count - i) (nth_member r i) end rest
  pub room : Room rest at bytes next words
  pub done : List Place
  pub next_is : next ≡ k + length done
  pub passed : passes done k v₀ v
  pub same : (x : Shape) → Tree ms table e x → done ++ places_of rest at ≡ places_of x at

module _ {V : Type 0} {passes : List Place → ℕ → V → V → Type 0} {bytes words : V → ℕ} (laws : VisitorLaws passes bytes words) where
  pub walk_start : {ms : List ℕ} {table : List Value} {e at b k w : ℕ} {r : Value} {x : Shape} (v₀ : V) → Tree ms table e x → r ≡ value_at table e → r.kind ≡ struct_kind → Room x at b k w → Walk passes ms table e r at b k w v₀ 0 0 k v₀
  walk_start {at = at} {k = k} {x = x} v₀ t is kind room =
      record {
        value_is = is;
        rest = x;
        rest_left = left_all t is kind;
        room = room;
        done = [];
        next_is = omega arith;
        passed = laws.nil k v₀;
        same = λ y t'. tree_one t t' at;
      }

module _ {V : Type 0} {passes : List Place → ℕ → V → V → Type 0} {ms : List ℕ} {table : List Value} {e : ℕ} {r : Value} {at b k w : ℕ} {v₀ : V} {i end next : ℕ} {v : V} (now : Walk passes ms table e r at b k w v₀ i end next v) where
  -- the member whose turn it is
  pub walk_first : i < r.count → First ms table e (r.count - (i + 1)) (nth_member r i) end now.rest
  walk_first h = left_first now.rest_left (omega arith)

  field_room : (h : i < r.count) → Room (field (slot_at ms table (nth_member r i) end).start (walk_first h).y (walk_first h).rest) at b next w
  field_room h = rw (walk_first h).is at now.room

  pub walk_room : (h : i < r.count) → MemberRoom ms table (nth_member r i) end (walk_first h).y at b next w
  unfolding span_of shape_words
  walk_room h =
      record {
        slot_asks = (walk_first h).member.slot_asks;
        tree = (walk_first h).tree;
        room = record {
          bytes_there = omega (arith, (field_room h).bytes_there, (walk_first h).member.within);
          words_there = omega (arith, (field_room h).words_there);
        };
      }

  module _ (h : i < r.count) {p : Slot} (is : p ≡ slot_at ms table (nth_member r i) end) where
    pub walk_words : next + p.words ≤ w
    walk_words = omega (arith, (walk_room h).room.words_there, member_words (walk_room h) is)

    pub walk_next : {bytes words : V → ℕ} (laws : VisitorLaws passes bytes words) {v' : V} → ((y : Shape) → Tree ms table (slot_at ms table (nth_member r i) end).ty y → passes (places_of y (at + (slot_at ms table (nth_member r i) end).start)) next v v') → Walk passes ms table e r at b k w v₀ (i + 1) p.end (next + p.words) v'
    unfolding span_of shape_words places_of
    walk_next laws {v' = v'} passed =
        let f = walk_first h in
        let here = places_of f.y (at + (slot_at ms table (nth_member r i) end).start) in
        let words_are : shape_words f.y ≡ p.words = member_words (walk_room h) is in
        let there : passes here (k + length now.done) v v' = rw (← now.next_is) (passed f.y (rw (← is) (type_tree (walk_room h) is))) in
        record {
          value_is = now.value_is;
          rest = f.rest;
          rest_left = rw (is, nth_next r i) (rw (← now.value_is) at f.rest_left);
          room = record { bytes_there = (field_room h).bytes_there; words_there = omega (arith, (field_room h).words_there, words_are) };
          done = now.done ++ here;
          next_is = omega (arith, now.next_is, words_are, places_words f.y (at + (slot_at ms table (nth_member r i) end).start), length-append now.done here);
          passed = laws.join now.done here k v₀ v v' now.passed there;
          same = λ x t. append_assoc now.done here (places_of f.rest at) ∙ rw f.is at (now.same x t);
        }

  pub walk_none : r.count ≤ i → (x : Shape) → Tree ms table e x → passes (places_of x at) k v₀ v
  walk_none h x t =
      let none : places_of now.rest at ≡ [] = left_none now.rest_left (omega arith) at in
      let all : now.done ≡ places_of x at = sym (append-nil now.done) ∙ rw none at (now.same x t) in
      rw (← all) now.passed
