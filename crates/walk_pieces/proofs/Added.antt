-- Pieces as they are added, one run after the other (specs/Piece, `Added`).
--
-- In order: pieces that stay; a run as a new piece, and as more of the last one; nothing, and one thing after the other; parts in turn;
-- members in turn; the pieces of a shape.
-- Assumes nothing.
use Prim.Native.Nat.{ℕ, zero, suc, ◌+◌, ◌-◌, ◌*◌, ◌<◌, ◌≤◌}
use mathlib.Core.List.{List, [], ◌++◌, append_assoc, append-nil}
use mathlib.Core.Logic.{◌⊎◌, ⊎_elim}
use mathlib.Core.Path.{◌≡◌, refl, ap, sym, subst, ◌∙◌}
use native.Mathlib.Nat.{eq-or-lt_of_le, mul-le-mul_right}
use native.Mathlib.Omega.{arith}
use lib.ListN.{length, get_or, set, length-set}
use lib.Seq.{get_or-set_same, get_or-set_other}
use Rattle.wgsl.specs.Place.{Shape, parts, span_of, Place, repeated, places_of}
use Rattle.wgsl.specs.Round.{limit}
use Rattle.wgsl.specs.Types.{struct_kind}
use Rattle.runs.specs.Run.{run_places}
use Rattle.runs.proofs.OverPlaces.{repeated_append, run_append}
use Rattle.layout_values.specs.declared.value.Value.{Value}
use Rattle.layout_values.specs.Value.{value_at}
use Rattle.walk_trees.specs.declared.Slot.{Slot}
use Rattle.walk_trees.specs.Slot.{part_width, member_at, slot_at}
use Rattle.walk_trees.specs.Tree.{Many, Left, Tree}
use Rattle.walk_trees.proofs.Many.{many_each}
use Rattle.walk_trees.proofs.TreeSteps.{First, left_first, left_none, left_all, nth_member, nth_next}
use Rattle.walk_pieces.specs.Piece.{piece_start, piece_words, piece_width, piece_places, pieces_places, most_pieces, Inside, Touching, Added, Pieced}

-- ---- pieces that stay

pub pieces_same : (c : ℕ) (l m : List ℕ) → ((i : ℕ) → i < 3 * c → get_or m i 0 ≡ get_or l i 0) → (q : ℕ) → pieces_places c m q ≡ pieces_places c l q
unfolding pieces_places piece_places
pieces_same zero l m same q = refl
pieces_same (suc c) l m same q =
    rw (pieces_same c l m (λ i h. same i (omega arith)) q, same (3 * c) (omega arith), same (3 * c + 1) (omega arith), same (3 * c + 2) (omega arith))

inside_same : {c : ℕ} {l m : List ℕ} {end : ℕ} → ((i : ℕ) → i < 3 * c → get_or m i 0 ≡ get_or l i 0) → Inside c l end → Inside c m end
inside_same same h =
    record {
      width = λ j b. rw (same (3 * j + 2) (omega arith)) (h.width j b);
      ends = λ j b. rw (same (3 * j) (omega arith), same (3 * j + 1) (omega arith), same (3 * j + 2) (omega arith)) (h.ends j b);
    }

-- one piece more lies inside too
inside_more : {c : ℕ} {l : List ℕ} {end : ℕ} → Inside c l end → (piece_width l c ≡ 2) ⊎ (piece_width l c ≡ 4) → piece_start l c + piece_words l c * piece_width l c ≤ end → Inside (suc c) l end
inside_more {c} {l} {end} h w e =
    record {
      width = λ j b. ⊎_elim (λ (x : j ≡ c). rw x w) (λ (x : j < c). h.width j x) (last j b);
      ends = λ j b. ⊎_elim (λ (x : j ≡ c). rw x e) (λ (x : j < c). h.ends j x) (last j b);
    }
  where
    last : (j : ℕ) → j < suc c → (j ≡ c) ⊎ (j < c)
    last j b = eq-or-lt_of_le (omega arith)

inside_fewer : {c : ℕ} {l : List ℕ} {end : ℕ} → Inside (suc c) l end → Inside c l end
inside_fewer h = record { width = λ j b. h.width j (omega arith); ends = λ j b. h.ends j (omega arith) }

-- ---- a run

-- a run has fewer words than bytes, and so have two that touch
pub words_low : (at n width : ℕ) → (width ≡ 2) ⊎ (width ≡ 4) → at + n * width ≤ limit → n ≤ limit
words_low at n width w h =
    ⊎_elim (λ (x : width ≡ 2). omega (arith, rw x at h)) (λ (x : width ≡ 4). omega (arith, rw x at h)) w

pub both_low : (start m at n width : ℕ) → (width ≡ 2) ⊎ (width ≡ 4) → start + m * width ≡ at → at + n * width ≤ limit → m + n ≤ limit
both_low start m at n width w e h =
    ⊎_elim (λ (x : width ≡ 2). omega (arith, rw x at e, rw x at h)) (λ (x : width ≡ 4). omega (arith, rw x at e, rw x at h)) w

module _ {c : ℕ} {l m : List ℕ} {at width : ℕ} (n : ℕ) (w : (width ≡ 2) ⊎ (width ≡ 4)) where
  -- It is a piece of its own,
  run_new : ((i : ℕ) → i < 3 * c → get_or m i 0 ≡ get_or l i 0) → piece_start m c ≡ at → piece_words m c ≡ n → piece_width m c ≡ width → Added c l (λ q. run_places n width (q + at)) (at + n * width) (c + 1) m
  unfolding pieces_places piece_places
  run_new same s k b =
      let e : c + 1 ≡ suc c = omega arith in
      rw e
      (record {
        places_are = λ q. rw (pieces_same c l m same q, s, k, b);
        inside = λ end h all. inside_more (inside_same same all) (rw b w) (rw (s, k, b) h);
      })

  -- or more words of the last one, which it touches.
  run_more : Touching c l at width → ((i : ℕ) → (i ≡ 3 * (c - 1) + 1 → ⊥) → get_or m i 0 ≡ get_or l i 0) → piece_words m (c - 1) ≡ piece_words l (c - 1) + n → Added c l (λ q. run_places n width (q + at)) (at + n * width) c m
  unfolding pieces_places piece_places
  run_more touch same words =
      let d = c - 1 in
      let one : c ≡ suc d = omega (arith, touch.some) in
      let start : piece_start m d ≡ piece_start l d = same (3 * d) (omega arith) in
      let wide : piece_width m d ≡ width = same (3 * d + 2) (omega arith) ∙ touch.width_is in
      let below : (i : ℕ) → i < 3 * d → get_or m i 0 ≡ get_or l i 0 = λ i h. same i (omega arith) in
      subst (λ (x : ℕ). Added x l (λ q. run_places n width (q + at)) (at + n * width) x m) (sym one)
      (record {
        places_are = λ q.
            let p : q + piece_start l d + piece_words l d * width ≡ q + at = omega (arith, touch.end_is) in
            rw (pieces_same d l m below q, words, start, wide, touch.width_is, run_append (piece_words l d) n width (q + piece_start l d), p)
            (sym (append_assoc (pieces_places d l q) (run_places (piece_words l d) width (q + piece_start l d)) (run_places n width (q + at))));
        inside = λ hi h all. inside_more (inside_same below (inside_fewer all)) (rw wide w) (rw (words, start, wide) (ends hi h));
      })
    where
      ends : (hi : ℕ) → at + n * width ≤ hi → piece_start l (c - 1) + (piece_words l (c - 1) + n) * width ≤ hi
      ends hi h = ⊎_elim (λ (x : width ≡ 2). omega (arith, rw x at touch.end_is, rw x at h, x)) (λ (x : width ≡ 4). omega (arith, rw x at touch.end_is, rw x at h, x)) w

-- Its three numbers stored, or one.
module _ (c : ℕ) (l : List ℕ) (at n width : ℕ) (w : (width ≡ 2) ⊎ (width ≡ 4)) where
  pub piece_stored : 3 * c + 3 ≤ length l → Added c l (λ q. run_places n width (q + at)) (at + n * width) (c + 1) (set (set (set l (3 * c) at) (3 * c + 1) n) (3 * c + 2) width)
  piece_stored room =
      let one = set l (3 * c) at in
      let two = set one (3 * c + 1) n in
      let long_one : length one ≡ length l = length-set l (3 * c) at in
      let long_two : length two ≡ length one = length-set one (3 * c + 1) n in
      run_new n w
      (λ i h.
      get_or-set_other two (3 * c + 2) i width 0 (omega arith)
      ∙ get_or-set_other one (3 * c + 1) i n 0 (omega arith)
      ∙ get_or-set_other l (3 * c) i at 0 (omega arith))
      (get_or-set_other two (3 * c + 2) (3 * c) width 0 (omega arith)
      ∙ get_or-set_other one (3 * c + 1) (3 * c) n 0 (omega arith)
      ∙ get_or-set_same l (3 * c) at 0 (omega arith))
      (get_or-set_other two (3 * c + 2) (3 * c + 1) width 0 (omega arith) ∙ get_or-set_same one (3 * c + 1) n 0 (omega arith))
      (get_or-set_same two (3 * c + 2) width 0 (omega arith))

  pub words_stored : Touching c l at width → 3 * c ≤ length l → Added c l (λ q. run_places n width (q + at)) (at + n * width) c (set l (3 * (c - 1) + 1) (piece_words l (c - 1) + n))
  words_stored touch room =
      run_more n w touch (λ i h. get_or-set_other l (3 * (c - 1) + 1) i (piece_words l (c - 1) + n) 0 h)
      (get_or-set_same l (3 * (c - 1) + 1) (piece_words l (c - 1) + n) 0 (omega (arith, touch.some)))

-- ---- one thing after the other

pub added_none : (c : ℕ) (l : List ℕ) (most : ℕ) → Added c l (λ q. []) most c l
added_none c l most = record { places_are = λ q. sym (append-nil (pieces_places c l q)); inside = λ end h all. all }

-- no farther than `most`
pub added_then : {c r r' : ℕ} {l m m' : List ℕ} {ps qs all : ℕ → List Place} {a b most : ℕ} → Added c l ps a r m → Added r m qs b r' m' → a ≤ most → b ≤ most → ((q : ℕ) → ps q ++ qs q ≡ all q) → Added c l all most r' m'
added_then {c = c} {l = l} {ps = ps} {qs = qs} first second x y is =
    record {
      places_are = λ q.
          second.places_are q
          ∙ rw (first.places_are q, append_assoc (pieces_places c l q) (ps q) (qs q), is q);
      inside = λ end h all. second.inside end (omega arith) (first.inside end (omega arith) all);
    }

-- the same places, and no farther than `most`
pub added_as : {c r : ℕ} {l m : List ℕ} {ps qs : ℕ → List Place} {a most : ℕ} → Added c l ps a r m → a ≤ most → ((q : ℕ) → ps q ≡ qs q) → Added c l qs most r m
added_as {ps = ps} all h is = added_then all (added_none _ _ 0) h (omega arith) (λ q. append-nil (ps q) ∙ is q)

-- ---- parts in turn

-- parts of the shape x, by their value: each has the shape `part` of the entry that it refers to
pub record Apart (ms : List ℕ) (table : List Value) (r : Value) (x : Shape) : Type 0 where
  pub part : Shape
  pub tree : Tree ms table r.reference part
  pub fits : span_of part ≤ r.stride
  pub is : x ≡ parts r.count r.stride part

pub apart : {ms : List ℕ} {table : List Value} {r : Value} {x : Shape} → Many ms table r x → part_width table r ≡ 0 → Apart ms table r x
apart m none =
    let E = many_each m none in
    record { part = E.part; tree = E.tree; fits = E.elements.fits; is = E.is }

-- a part ends where all of them do, or before
pub part_ends : (at i count size stride : ℕ) → i < count → size ≤ stride → at + i * stride + size ≤ at + count * stride
part_ends at i count size stride h fits = omega (arith, mul-le-mul_right stride h)

-- i parts are added, and then one more
pub added_part : {c r r' : ℕ} {l m m' : List ℕ} (g : ℕ → List Place) (count i stride at : ℕ) {one : ℕ} → Added c l (λ q. repeated i stride g (q + at)) (at + count * stride) r m → Added r m (λ q. g (q + (at + i * stride))) one r' m' → one ≤ at + count * stride → Added c l (λ q. repeated (i + 1) stride g (q + at)) (at + count * stride) r' m'
unfolding repeated
added_part g count i stride at first second h =
    added_then first second (omega arith) h
    (λ q.
    let p : q + (at + i * stride) ≡ q + at + i * stride = omega arith in
    rw (p, repeated_append i 1 stride g (q + at), append-nil))

-- all of them
pub added_parts : {c r : ℕ} {l m : List ℕ} (g : ℕ → List Place) (count i stride at : ℕ) → Added c l (λ q. repeated i stride g (q + at)) (at + count * stride) r m → i ≡ count → Added c l (λ q. repeated count stride g (q + at)) (at + count * stride) r m
added_parts {c = c} {r = r} {l = l} {m = m} g count i stride at all e =
    subst (λ (n : ℕ). Added c l (λ q. repeated n stride g (q + at)) (at + count * stride) r m) e all

-- ---- members in turn

-- i members of entry e, of the value r and of the shape x, are added to c pieces of l, and the others are left
pub record MembersAdded (ms : List ℕ) (table : List Value) (e : ℕ) (r : Value) (at c : ℕ) (l : List ℕ) (i end few : ℕ) (l' : List ℕ) (x : Shape) : Type 0 where
  pub value_is : r ≡ value_at table e
  pub rest : Shape
  pub rest_left : Left ms table e (r.count - i) (nth_member r i) end rest
  pub span_is : span_of rest ≡ span_of x
  pub done : ℕ → List Place
  pub added : Added c l done (at + span_of x) few l'
  pub whole_is : (q : ℕ) → done q ++ places_of rest (q + at) ≡ places_of x (q + at)

pub member_type : (ms : List ℕ) (table : List Value) (m end : ℕ) {p : Slot} → p ≡ slot_at ms table m end → p.ty ≡ (member_at ms m).type
unfolding slot_at
member_type ms table m end is = ap (λ (q : Slot). q.ty) is

pub members_start_lem : {ms : List ℕ} {table : List Value} {e : ℕ} {r : Value} (at c : ℕ) (l : List ℕ) {x : Shape} → Tree ms table e x → r ≡ value_at table e → r.kind ≡ struct_kind → MembersAdded ms table e r at c l 0 0 c l x
members_start_lem at c l {x} t is kind =
    record {
      value_is = is;
      rest = x;
      rest_left = left_all t is kind;
      span_is = refl;
      done = λ q. [];
      added = added_none c l (at + span_of x);
      whole_is = λ q. refl;
    }

module _ {ms : List ℕ} {table : List Value} {e : ℕ} {r : Value} {at c : ℕ} {l : List ℕ} {i end few : ℕ} {l' : List ℕ} {x : Shape} (now : MembersAdded ms table e r at c l i end few l' x) where
  -- the member whose turn it is
  pub member_first : i < r.count → First ms table e (r.count - (i + 1)) (nth_member r i) end now.rest
  member_first h = left_first now.rest_left (omega arith)

  member_within : (h : i < r.count) → (slot_at ms table (nth_member r i) end).start + span_of (member_first h).y ≤ span_of x
  unfolding span_of
  member_within h =
      omega (arith, (member_first h).member.within, sym (ap span_of (member_first h).is) ∙ now.span_is)

  pub member_low : {p : Slot} (h : i < r.count) → p ≡ slot_at ms table (nth_member r i) end → at + span_of x ≤ limit → at + p.start + span_of (member_first h).y ≤ limit
  member_low h is low = omega (arith, member_within h, ap (λ (s : Slot). s.start) is)

  pub member_added : {p : Slot} {few' : ℕ} {m' : List ℕ} → i < r.count → p ≡ slot_at ms table (nth_member r i) end → ((y : Shape) → Tree ms table p.ty y → Added few l' (λ q. places_of y (q + (at + p.start))) (at + p.start + span_of y) few' m') → MembersAdded ms table e r at c l (i + 1) p.end few' m' x
  unfolding span_of places_of slot_at
  member_added {p} h is add =
      let f = member_first h in
      record {
        value_is = now.value_is;
        rest = f.rest;
        rest_left = rw (is, nth_next r i) (rw (← now.value_is) at f.rest_left);
        span_is = sym (ap span_of f.is) ∙ now.span_is;
        done = λ b. now.done b ++ places_of f.y (b + (at + p.start));
        added = added_then now.added (add f.y (rw is f.tree)) (omega arith) (omega (arith, member_within h, ap (λ (s : Slot). s.start) is)) (λ b. refl);
        whole_is = λ b.
            let o : b + (at + p.start) ≡ b + at + p.start = omega arith in
            append_assoc (now.done b) (places_of f.y (b + (at + p.start))) (places_of f.rest (b + at))
            ∙ rw (o, is) (rw f.is at (now.whole_is b));
      }

  pub members_added : r.count ≤ i → Added c l (λ q. places_of x (q + at)) (at + span_of x) few l'
  members_added h =
      added_as now.added (omega arith)
      (λ q. sym (append-nil (now.done q)) ∙ rw (← left_none now.rest_left (omega arith) (q + at)) (now.whole_is q))

-- ---- the pieces of a shape

pub none_inside : (l : List ℕ) (end : ℕ) → Inside 0 l end
none_inside l end = record { width = λ j h. absurd (omega arith); ends = λ j h. absurd (omega arith) }

-- Pieces added to none.
pub all_pieced : {l m : List ℕ} {r : ℕ} {x : Shape} → r ≤ most_pieces → Added 0 l (λ q. places_of x (q + 0)) (0 + span_of x) r m → Pieced x r m
unfolding pieces_places
all_pieced {l} {m} {r} {x} few all =
    record {
      few = few;
      places_are = λ q. let e : q + 0 ≡ q = omega arith in sym (rw e at (all.places_are q));
      inside = all.inside (span_of x) (omega arith) (none_inside l (span_of x));
    }
