-- Testing words by the table (crates/walk_trees, specs/Tree).
--
-- In order: a shape tests alike wherever it lies; words of four bytes always pass; what an answer says; parts; members.
-- Assumes nothing.
use Rattle.std.specs.Prelude.{Err, Ok, Result}
use Prim.Native.Nat.{ℕ, zero, suc, ◌+◌, ◌-◌, ◌*◌, ◌^◌, ◌<◌, ◌≤◌, min}
use mathlib.Core.List.{List, [], ◌∷◌, ◌++◌, map-append}
use mathlib.Core.Logic.{⊎_elim}
use mathlib.Core.Path.{◌≡◌, refl, sym, ◌∙◌, ap}
use native.Mathlib.Omega.{arith}
use borrow.Author.Tests.{lt-ltb}
use lib.ListN.{length, get_or}
use Rattle.wgsl.specs.Number.{load}
use Rattle.wgsl.specs.Said.{Said, good, ◌>>◌, refuse}
use Rattle.wgsl.specs.File.{member_entry_from, member_fields_length}
use Rattle.wgsl.specs.Place.{Shape, one, parts, field, whole, span_of, Place, word_places, repeated, places_of, can_hold, words_over}
use Rattle.wgsl.specs.Types.{struct_kind}
use Rattle.runs.specs.Fold.{over_places, testing}
use Rattle.runs.specs.Run.{run_places, part_places}
use Rattle.wgsl.proofs.Count.{places_words, repeated_length}
use Rattle.runs.specs.declared.Parts.{Parts}
use Rattle.runs.proofs.OverPlaces.{over_append, repeated_append, widths, tested_widths, tested_refused, tested_moved}
use Rattle.layout_values.specs.declared.value.Value.{Value}
use Rattle.layout_values.specs.Value.{value_at, words_in}
use Rattle.walk_trees.specs.declared.Series.{Series}
use Rattle.walk_trees.specs.Slot.{part_width, series_of, member_at, slot_at}
use Rattle.walk_trees.specs.Tree.{Runs, RunsOf, Many, runs, each, Tree, WordRoom, AllWide, Wide, MemberRoom}
use Rattle.walk_trees.proofs.Many.{tree_valued}
use Rattle.walk_trees.proofs.Room.{Each, each_entry}
use Rattle.walk_trees.proofs.TreeSteps.{Turn, turn_next, turn_none, nth_member, Walk, walk_start, walk_first, walk_room, walk_words, walk_next, walk_none}
use Rattle.said.specs.Refusal.{number_of, place_of}
use Rattle.said.specs.declared.refusal.Refusal.{Refusal}
use Rattle.said.specs.Answer.{said}

-- ---- a shape tests alike wherever it lies

repeated_moved : (n stride : ℕ) (g : ℕ → List Place) (at other : ℕ) → ((p q : ℕ) → widths (g p) ≡ widths (g q)) → widths (repeated n stride g at) ≡ widths (repeated n stride g other)
unfolding repeated
repeated_moved zero stride g at other h = refl
repeated_moved (suc n) stride g at other h =
    map-append (λ p. p.width) (g at) (repeated n stride g (at + stride))
    ∙ rw (h at other, repeated_moved n stride g (at + stride) (other + stride) h)
    (sym (map-append (λ p. p.width) (g other) (repeated n stride g (other + stride))))

over_moved : (n bytes at other : ℕ) → widths (words_over n bytes at) ≡ widths (words_over n bytes other)
unfolding words_over
over_moved zero bytes at other = refl
over_moved (suc n) bytes at other = ap (λ (ws : List ℕ). min 4 bytes ∷ ws) (over_moved n (bytes - 4) (at + 4) (other + 4))

pub places_moved : (x : Shape) (at other : ℕ) → widths (places_of x at) ≡ widths (places_of x other)
unfolding places_of word_places
places_moved (one s) at other = over_moved _ _ at other
places_moved (parts n stride x) at other = repeated_moved n stride (λ p. places_of x p) at other (places_moved x)
places_moved (field offset x rest) at other =
    map-append (λ p. p.width) (places_of x (at + offset)) (places_of rest at)
    ∙ rw (places_moved x (at + offset) (other + offset), places_moved rest at other)
    (sym (map-append (λ p. p.width) (places_of x (other + offset)) (places_of rest other)))
places_moved (whole z) at other = refl

tested_anywhere : (ws : List ℕ) (x : Shape) (at k : ℕ) (s : Said (Unit {0})) → over_places (testing ws) (places_of x 0) k s ≡ over_places (testing ws) (places_of x at) k s
tested_anywhere ws x at k s = tested_widths ws (places_of x 0) (places_of x at) k s (places_moved x 0 at)

-- ---- words of four bytes

wide_append : (ps qs : List Place) → AllWide ps → AllWide qs → AllWide (ps ++ qs)
unfolding AllWide
wide_append [] qs a b = b
wide_append (p ∷ ps) qs a b = (a.0, wide_append ps qs a.1 b)

wide_repeated : (n stride : ℕ) (g : ℕ → List Place) (at : ℕ) → ((p : ℕ) → AllWide (g p)) → AllWide (repeated n stride g at)
unfolding repeated AllWide
wide_repeated zero stride g at h = tt
wide_repeated (suc n) stride g at h =
    wide_append (g at) (repeated n stride g (at + stride)) (h at) (wide_repeated n stride g (at + stride) h)

wide_run : (n at : ℕ) → AllWide (run_places n 4 at)
unfolding run_places AllWide
wide_run n at = wide_repeated n 4 (λ p. record { at = p; width = 4 } ∷ []) at (λ p. (refl, tt))

wide_runs : {table : List Value} {r : Value} {x : Shape} → Runs table r x → r.narrow ≡ 4 → Wide x
unfolding Wide part_places
wide_runs {r} R w at =
    rw (R.runs_are.places_are at, w)
    (wide_repeated r.count r.stride (λ p. run_places r.unit 4 p) at (wide_run r.unit))

wide_parts : (n stride : ℕ) (y : Shape) → Wide y → Wide (parts n stride y)
unfolding Wide places_of
wide_parts n stride y h at = wide_repeated n stride (λ p. places_of y p) at h

-- A layout whose narrowest word has not two bytes has none of two bytes.
wide_many : {ms : List ℕ} {table : List Value} {r : Value} {x : Shape} → Many ms table r x → (r.narrow ≡ 2 → ⊥) → Wide x
wide_many (runs R) h = wide_runs R (⊎_elim (λ w. absurd (h w)) (λ w. w) R.runs_are.width)
wide_many {r} (each {y = y} E t) h = wide_parts r.count r.stride y (E.wide h)

-- each word has 32 bits
pub record Words32 (ws : List ℕ) : Type 0 where
  pub below : (i : ℕ) → get_or ws i 0 < 2 ^ 32

-- Then words of four bytes pass.
wide_passes : (ws : List ℕ) → Words32 ws → (ps : List Place) (k : ℕ) → AllWide ps → over_places (testing ws) ps k (good tt) ≡ good tt
unfolding over_places testing can_hold AllWide ◌>>◌ refuse
wide_passes ws low [] k h = refl
wide_passes ws low (p ∷ ps) k h =
    rw (h.0, lt-ltb (get_or ws k 0) (256 ^ 4) (low.below k)) (wide_passes ws low ps (suc k) h.1)

-- ---- what an answer says

-- of the shapes that P holds of, tested from word k on
abbrev pub Says : List ℕ → ℕ → (Shape → Type 0) → Result (Unit {0}) Refusal → Type 0
Says ws k P s = (x : Shape) → P x → said s ≡ over_places (testing ws) (places_of x 0) k (good tt)

wide_fine : {ws : List ℕ} (k : ℕ) (x : Shape) → Words32 ws → Wide x → good tt ≡ over_places (testing ws) (places_of x 0) k (good tt)
unfolding Wide
wide_fine {ws} k x low h = sym (wide_passes ws low (places_of x 0) k (h 0))

-- What holds no f16 is fine.
module _ {ms : List ℕ} {table : List Value} {ws : List ℕ} (k : ℕ) (low : Words32 ws) where
  pub entry_fine : {e : ℕ} → ((value_at table e).narrow ≡ 2 → ⊥) → Says ws k (λ x. Tree ms table e x) (Ok tt)
  entry_fine h x t = wide_fine k x low ((tree_valued t).wide h)

  pub many_fine : {r : Value} → (r.narrow ≡ 2 → ⊥) → Says ws k (λ x. Many ms table r x) (Ok tt)
  many_fine h x m = wide_fine k x low (wide_many m h)

-- ---- parts

-- Parts that are runs, as one run.
pub says_run : {ms : List ℕ} {table : List Value} {r : Value} (ws : List ℕ) (k : ℕ) (s : Result (Unit {0}) Refusal) {p : Parts} → ((x : Shape) → Many ms table r x → RunsOf p x) → said s ≡ over_places (testing ws) (run_places (p.count * p.unit) p.width 0) k (good tt) → Says ws k (λ x. Many ms table r x) s
says_run ws k s {p} are said x m =
    said ∙ rw ((are x m).places_are 0) (sym (tested_moved ws p.count p.unit p.width p.stride 0 k (good tt)))

-- the layout's parts are entries, and their words are there
pub each_there : {ms : List ℕ} {table : List Value} {r : Value} {x : Shape} {q : Series} {k ws : ℕ} → Many ms table r x → part_width table r ≡ 0 → WordRoom x k ws → q ≡ series_of r → Each ms table r q 0 (span_of x) k ws
each_there m w room is = each_entry m w (record { bytes_there = omega arith; words_there = room.words_there }) is

-- i parts have passed; how far they lie apart does not matter
pub record Turns (ms : List ℕ) (table : List Value) (ws : List ℕ) (e : ℕ) (q : Series) (k i : ℕ) : Type 0 where
  pub turn : (stride : ℕ) → Turn (testing ws) ms table e q.count q.unit stride 0 k (good tt) i (good tt)

-- Elements that fit are passed.
pub turns_fitting : {ms : List ℕ} {table : List Value} {r : Value} {q : Series} {bytes k n : ℕ} (all : Each ms table r q 0 bytes k n) {ws : List ℕ} {i : ℕ} → i ≤ q.count → ((y : Shape) → Tree ms table r.reference y → (stride : ℕ) → good tt ≡ over_places (testing ws) (places_of (parts i stride y) 0) k (good tt)) → Turns ms table ws r.reference q k i
unfolding places_of
turns_fitting {q = q} {k = k} all {ws} {i} h fit =
    record {
      turn = λ stride.
          record {
            within = h;
            turns = λ y t.
                let e : q.count ≡ i + (q.count - i) = omega arith in
                let words : (p : ℕ) → length (places_of y p) ≡ q.unit = λ p. places_words y p ∙ (tree_valued t).words_are ∙ sym (tree_valued all.tree).words_are ∙ all.room.unit_is in
                let first = repeated i stride (λ p. places_of y p) 0 in
                let rest = repeated (q.count - i) stride (λ p. places_of y p) (0 + i * stride) in
                record {
                  within = h;
                  same = sym
                      (ap (λ (m : ℕ). over_places (testing ws) (repeated m stride (λ p. places_of y p) 0) k (good tt)) e
                      ∙ ap (λ (ps : List Place). over_places (testing ws) ps k (good tt)) (repeated_append i (q.count - i) stride (λ p. places_of y p) 0)
                      ∙ over_append (testing ws) first rest k (good tt)
                      ∙ rw (repeated_length i stride (λ p. places_of y p) 0 q.unit words, ← fit y t stride) refl);
                };
          };
    }

module _ {ms : List ℕ} {table : List Value} {r : Value} {q : Series} {bytes k n : ℕ} (all : Each ms table r q 0 bytes k n) {ws : List ℕ} {i : ℕ} (now : Turns ms table ws r.reference q k i) where
  turns_said : (s : Result (Unit {0}) Refusal) → i < q.count → Says ws (k + i * q.unit) (λ x. Tree ms table r.reference x) s → (stride : ℕ) → Turn (testing ws) ms table r.reference q.count q.unit stride 0 k (good tt) (i + 1) (said s)
  turns_said s h said stride =
      turn_next (now.turn stride) all.tree all.room.unit_is h
      (λ x t. said x t ∙ tested_anywhere ws x (0 + i * stride) (k + i * q.unit) (good tt))

  pub turns_fine : i < q.count → Says ws (k + i * q.unit) (λ x. Tree ms table r.reference x) (Ok tt) → Turns ms table ws r.reference q k (i + 1)
  turns_fine h said = record { turn = turns_said (Ok tt) h said }

  pub turns_bad : (bad : Refusal) → i < q.count → Says ws (k + i * q.unit) (λ x. Tree ms table r.reference x) (Err bad) → Says ws k (λ x. Many ms table r x) (Err bad)
  unfolding places_of
  turns_bad bad h said x m =
      let z = all.any x m in
      rw z.2
      (sym (tested_refused ws (repeated (q.count - (i + 1)) q.stride (λ p. places_of z.0 p) (0 + (i + 1) * q.stride)) (k + (i + 1) * q.unit) (number_of bad) (place_of bad))
      ∙ ((turns_said (Err bad) h said q.stride).turns z.0 z.1).same)

  pub turns_none : q.count ≤ i → Says ws k (λ x. Many ms table r x) (Ok tt)
  turns_none h x m = let z = all.any x m in rw z.2 (turn_none (now.turn q.stride) h z.0 z.1)

-- ---- members

-- i members have passed, and those that are left have their words from word `next` on;
-- the walk knows where they lie, though the code need not
pub record Scanned (ms : List ℕ) (table : List Value) (ws : List ℕ) (e : ℕ) (r : Value) (k i next : ℕ) : Type 0 where
  pub bytes : ℕ
  pub end : ℕ
  pub walk : Walk (testing ws) ms table e r 0 bytes k (length ws) (good tt) i end next (good tt)

pub scanned_start : {ms : List ℕ} {table : List Value} (ws : List ℕ) {e k : ℕ} {r : Value} {x : Shape} → Tree ms table e x → r ≡ value_at table e → r.kind ≡ struct_kind → WordRoom x k (length ws) → Scanned ms table ws e r k 0 k
scanned_start ws {x} t is kind room =
    record {
      bytes = span_of x;
      end = 0;
      walk = walk_start (testing ws) (good tt) t is kind (record { bytes_there = omega arith; words_there = room.words_there });
    }

module _ {ms : List ℕ} {table : List Value} {ws : List ℕ} {e : ℕ} {r : Value} {k i next : ℕ} (now : Scanned ms table ws e r k i next) where
  -- the member whose turn it is
  module _ (h : i < r.count) where
    abbrev pub scanned_shape : Shape
    scanned_shape = (walk_first now.walk h).y

    scanned_room : MemberRoom ms table (nth_member r i) now.end scanned_shape 0 now.bytes next (length ws)
    scanned_room = walk_room now.walk h

    pub scanned_inside : nth_member r i + member_fields_length ≤ length ms
    scanned_inside = scanned_room.slot_asks.inside

    module _ {ty : ℕ} (read : ty ≡ load 2 ms (nth_member r i)) where
      type_read : ty ≡ (member_at ms (nth_member r i)).type
      unfolding member_entry_from
      type_read = read

      pub scanned_lower : ty < e
      scanned_lower = rw type_read (walk_first now.walk h).member.lower

      pub scanned_tree : Tree ms table ty scanned_shape
      scanned_tree = rw type_read (walk_first now.walk h).tree

      pub scanned_there : WordRoom scanned_shape next (length ws)
      scanned_there = record { words_there = scanned_room.room.words_there }

      words_read_here : (slot_at ms table (nth_member r i) now.end).words ≡ words_in (value_at table ty)
      unfolding slot_at
      words_read_here = rw type_read refl

      type_placed : ty ≡ (slot_at ms table (nth_member r i) now.end).ty
      unfolding slot_at
      type_placed = type_read

      module _ {words : ℕ} (words_are : words ≡ words_in (value_at table ty)) where
        walked : (s : Result (Unit {0}) Refusal) → Says ws next (λ x. Tree ms table ty x) s → Walk (testing ws) ms table e r 0 now.bytes k (length ws) (good tt) (i + 1) (slot_at ms table (nth_member r i) now.end).end (next + words) (said s)
        walked s said =
            rw (words_are, ← words_read_here)
            (walk_next now.walk h refl
            (λ y t. said y (rw type_placed t) ∙ tested_anywhere ws y (0 + (slot_at ms table (nth_member r i) now.end).start) next (good tt)))

        pub scanned_words : next + words ≤ length ws
        scanned_words = rw (words_are, ← words_read_here) (walk_words now.walk h refl)

        pub scanned_next : Says ws next (λ x. Tree ms table ty x) (Ok tt) → Scanned ms table ws e r k (i + 1) (next + words)
        scanned_next said = record { bytes = now.bytes; end = (slot_at ms table (nth_member r i) now.end).end; walk = walked (Ok tt) said }

      pub scanned_bad : (bad : Refusal) → Says ws next (λ x. Tree ms table ty x) (Err bad) → Says ws k (λ x. Tree ms table e x) (Err bad)
      scanned_bad bad said x t =
          sym (tested_refused ws (places_of (walked refl (Err bad) said).rest 0) (next + words_in (value_at table ty)) (number_of bad) (place_of bad)) ∙ (walked refl (Err bad) said).same x t

  pub scanned_none : r.count ≤ i → Says ws k (λ x. Tree ms table e x) (Ok tt)
  scanned_none h = walk_none now.walk h
