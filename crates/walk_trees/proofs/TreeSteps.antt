-- The steps of walks over table (specs/Tree), for any pass over places (crates/runs, specs/Fold).
--
-- In order: parts in turn; members in turn.
-- A loop's turns leave "what is left, from here on, is the whole, from the start on" as it is: `Turn` over parts (`Repeating`, crates/runs,
-- proofs/OverPlaces), `Walk` over members.
-- Not here: what a tree says (`Many`), room (`Room`).
-- Assumes nothing.
use Prim.Native.Nat.{ℕ, suc, ◌+◌, ◌-◌, ◌*◌, ◌<◌, ◌≤◌}
use mathlib.Core.List.{List, []}
use mathlib.Core.Path.{◌≡◌, refl, ap, sym, ◌∙◌}
use native.Mathlib.Omega.{arith}
use Rattle.wgsl.specs.Place.{Shape, parts, field, span_of, Place, places_of}
use Rattle.wgsl.specs.Shapes.{shape_words}
use Rattle.wgsl.specs.Types.{struct_kind}
use Rattle.wgsl.proofs.Count.{places_words}
use Rattle.runs.specs.Fold.{over_places}
use Rattle.runs.proofs.OverPlaces.{over_append, Repeating, repeating_start, repeating_next, repeating_all}
use Rattle.walk_trees.specs.declared.Slot.{Slot}
use Rattle.layout_values.specs.Value.{value_at}
use Rattle.walk_trees.specs.Slot.{member_at, slot_at}
use Rattle.walk_trees.specs.Tree.{Member, Left, none, more, Tree, Room, MemberRoom}
use Rattle.walk_trees.proofs.TreeOne.{tree_one}
use Rattle.walk_trees.proofs.Many.{tree_valued, tree_left}
use Rattle.walk_trees.proofs.Room.{type_tree, member_words}
use Rattle.layout_values.specs.declared.value.Value.{Value}

-- ---- parts in turn

-- i parts are done, which led from s₀ to s, whatever shape a tree says that they have
pub record Turn {S : Type 0} (f : Place → ℕ → S → S) (ms : List ℕ) (table : List Value) (e count unit stride at k : ℕ) (s₀ : S) (i : ℕ) (s : S) : Type 0 where
  pub within : i ≤ count
  pub turns : (y : Shape) → Tree ms table e y → Repeating f (λ p. places_of y p) count unit stride at k s₀ i s

pub turn_start : {S : Type 0} (f : Place → ℕ → S → S) (ms : List ℕ) (table : List Value) (e count unit stride at k : ℕ) (s₀ : S) → Turn f ms table e count unit stride at k s₀ 0 s₀
turn_start f ms table e count unit stride at k s₀ =
    record { within = omega arith; turns = λ y t. repeating_start f (λ p. places_of y p) count unit stride at k s₀ }

module _ {S : Type 0} {f : Place → ℕ → S → S} {ms : List ℕ} {table : List Value} {e count unit stride at k : ℕ} {s₀ : S} {i : ℕ} {s : S} (now : Turn f ms table e count unit stride at k s₀ i s) where
  pub turn_next : {y : Shape} {s' : S} → Tree ms table e y → shape_words y ≡ unit → i < count → ((x : Shape) → Tree ms table e x → s' ≡ over_places f (places_of x (at + i * stride)) (k + i * unit) s) → Turn f ms table e count unit stride at k s₀ (i + 1) s'
  turn_next t u h done =
      record {
        within = omega arith;
        turns = λ x t'.
            repeating_next (now.turns x t')
            (λ p. places_words x p ∙ (tree_valued t').words_are ∙ sym (tree_valued t).words_are ∙ u) h
            (done x t');
      }

  pub turn_none : count ≤ i → (y : Shape) → Tree ms table e y → s ≡ over_places f (places_of (parts count stride y) at) k s₀
  unfolding places_of
  turn_none h y t = repeating_all (now.turns y t) h

-- ---- members in turn

-- A member, then the members after it.
pub over_field : {S : Type 0} (f : Place → ℕ → S → S) (o : ℕ) (y rest : Shape) (at k : ℕ) (s : S) → over_places f (places_of rest at) (k + shape_words y) (over_places f (places_of y (at + o)) k s) ≡ over_places f (places_of (field o y rest) at) k s
unfolding places_of
over_field f o y rest at k s = rw (← places_words y (at + o)) (sym (over_append f (places_of y (at + o)) (places_of rest at) k s))

-- the first of some members, of the shape y, and what is left after it: so many members
pub record First (ms : List ℕ) (table : List Value) (e left m end : ℕ) (x : Shape) : Type 0 where
  pub y : Shape
  pub rest : Shape
  pub is : x ≡ field (slot_at ms table m end).start y rest
  pub member : Member ms table e m end y rest
  pub tree : Tree ms table (member_at ms m).type y
  pub rest_left : Left ms table e left (m + (value_at table e).stride) (slot_at ms table m end).end rest

pub left_first : {ms : List ℕ} {table : List Value} {e n left m end : ℕ} {x : Shape} → Left ms table e n m end x → n ≡ suc left → First ms table e left m end x
left_first none h = absurd (omega arith)
left_first {ms} {table} {e} {left = left} {m} {end} (more {c = c} {y = y} {rest = rest} M t l) h =
    let same : left ≡ c = omega arith in
    record { y = y; rest = rest; is = refl; member = M; tree = t; rest_left = rw same l }

pub left_none : {ms : List ℕ} {table : List Value} {e left m end : ℕ} {x : Shape} → Left ms table e left m end x → left ≡ 0 → (at : ℕ) → places_of x at ≡ []
unfolding places_of
left_none none h at = refl
left_none (more M t l) h at = absurd (omega arith)

-- where the entry of member i begins, of a struct of the value r
abbrev pub nth_member : Value → ℕ → ℕ
nth_member r i = r.reference * r.stride + r.stride * i

pub nth_next : (r : Value) (i : ℕ) → nth_member r (i + 1) ≡ nth_member r i + r.stride
nth_next r i = omega arith

-- i members of entry e, of the value r, are done; those that are left, from word `next` and from s on, are all of the entry from s₀ on
pub record Walk {S : Type 0} (f : Place → ℕ → S → S) (ms : List ℕ) (table : List Value) (e : ℕ) (r : Value) (at bytes k ws : ℕ) (s₀ : S) (i end next : ℕ) (s : S) : Type 0 where
  pub value_is : r ≡ value_at table e
  pub rest : Shape
  pub rest_left : Left ms table e (r.count - i) (nth_member r i) end rest
  pub room : Room rest at bytes next ws
  pub same : (x : Shape) → Tree ms table e x → over_places f (places_of rest at) next s ≡ over_places f (places_of x at) k s₀

-- all members are left
pub left_all : {ms : List ℕ} {table : List Value} {e : ℕ} {r : Value} {x : Shape} → Tree ms table e x → r ≡ value_at table e → r.kind ≡ struct_kind → Left ms table e (r.count - 0) (nth_member r 0) 0 x
left_all {r = r} t is kind =
    let first : nth_member r 0 ≡ r.reference * r.stride = omega arith in
    let all : r.count - 0 ≡ r.count = omega arith in
    rw (first, all, is) (tree_left t (rw is at kind))

pub walk_start : {S : Type 0} (f : Place → ℕ → S → S) {ms : List ℕ} {table : List Value} {e at bytes k ws : ℕ} {r : Value} {x : Shape} (s₀ : S) → Tree ms table e x → r ≡ value_at table e → r.kind ≡ struct_kind → Room x at bytes k ws → Walk f ms table e r at bytes k ws s₀ 0 0 k s₀
walk_start f {at} {k} {x} s₀ t is kind room =
    record {
      value_is = is;
      rest = x;
      rest_left = left_all t is kind;
      room = room;
      same = λ y t'. ap (λ (ps : List Place). over_places f ps k s₀) (tree_one t t' at);
    }

module _ {S : Type 0} {f : Place → ℕ → S → S} {ms : List ℕ} {table : List Value} {e : ℕ} {r : Value} {at bytes k ws : ℕ} {s₀ : S} {i end next : ℕ} {s : S} (now : Walk f ms table e r at bytes k ws s₀ i end next s) where
  -- the member whose turn it is
  pub walk_first : i < r.count → First ms table e (r.count - (i + 1)) (nth_member r i) end now.rest
  walk_first h = left_first now.rest_left (omega arith)

  field_room : (h : i < r.count) → Room (field (slot_at ms table (nth_member r i) end).start (walk_first h).y (walk_first h).rest) at bytes next ws
  field_room h = rw (walk_first h).is at now.room

  pub walk_room : (h : i < r.count) → MemberRoom ms table (nth_member r i) end (walk_first h).y at bytes next ws
  unfolding span_of shape_words
  walk_room h =
      record {
        slot_asks = (walk_first h).member.slot_asks;
        tree = (walk_first h).tree;
        room = record {
          bytes_there = omega (arith, (field_room h).bytes_there, (walk_first h).member.within);
          words_there = omega (arith, (field_room h).words_there);
        };
      }

  module _ (h : i < r.count) {p : Slot} (is : p ≡ slot_at ms table (nth_member r i) end) where
    pub walk_words : next + p.words ≤ ws
    walk_words = omega (arith, (walk_room h).room.words_there, member_words (walk_room h) is)

    pub walk_next : {s' : S} → ((y : Shape) → Tree ms table (slot_at ms table (nth_member r i) end).ty y → s' ≡ over_places f (places_of y (at + (slot_at ms table (nth_member r i) end).start)) next s) → Walk f ms table e r at bytes k ws s₀ (i + 1) p.end (next + p.words) s'
    unfolding span_of shape_words
    walk_next done =
        let w : shape_words (walk_first h).y ≡ p.words = member_words (walk_room h) is in
        record {
          value_is = now.value_is;
          rest = (walk_first h).rest;
          rest_left = rw (is, nth_next r i) (rw (← now.value_is) at (walk_first h).rest_left);
          room = record { bytes_there = (field_room h).bytes_there; words_there = omega (arith, (field_room h).words_there, w) };
          same = λ x t.
              rw (done (walk_first h).y (rw (← is) (type_tree (walk_room h) is)), ← w)
              (over_field f (slot_at ms table (nth_member r i) end).start (walk_first h).y (walk_first h).rest at next s
              ∙ (rw (walk_first h).is at (now.same x t)));
        }

  pub walk_none : r.count ≤ i → (x : Shape) → Tree ms table e x → s ≡ over_places f (places_of x at) k s₀
  unfolding over_places
  walk_none h x t = rw (left_none now.rest_left (omega arith) at) at (now.same x t)
