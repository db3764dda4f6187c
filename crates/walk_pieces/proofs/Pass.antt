-- Passes over pieces (crates/runs, specs/Fold), one piece after the other: what writing, reading, testing and sweeping by pieces share,
-- whatever a place does in its turn.
--
-- In order: how many words pieces have; pieces in turn; many types of such pieces, in turn; and those of a shape.
-- Assumes nothing.
use Prim.Native.Nat.{ℕ, zero, suc, ◌+◌, ◌*◌, ◌<◌, ◌≤◌}
use mathlib.Core.List.{List, append-nil}
use mathlib.Core.Logic.{◌⊎◌, ⊎_elim}
use mathlib.Core.Path.{◌≡◌, refl, ap, sym, ◌∙◌}
use native.Mathlib.Nat.{eq-or-lt_of_le}
use native.Mathlib.Omega.{arith}
use lib.ListN.{length, length-append}
use Rattle.wgsl.specs.Place.{Shape, parts, span_of, Place, repeated, places_of}
use Rattle.wgsl.proofs.Count.{places_words, repeated_length}
use Rattle.runs.specs.Fold.{over_places}
use Rattle.runs.specs.Run.{run_places}
use Rattle.runs.proofs.OverPlaces.{repeated_append, over_append, run_length}
use Rattle.walk_trees.specs.Tree.{EachRoom}
use Rattle.walk_trees.proofs.TreeOne.{repeated_alike}
use Rattle.walk_trees.proofs.Room.{each_room}
use Rattle.walk_pieces.specs.declared.Piece.{Piece}
use Rattle.walk_pieces.specs.Piece.{piece_start, piece_words, piece_width, piece_of, piece_places, pieces_places, most_pieces, Pieced, PiecesRoom, EachPieces}

-- ---- how many words

words_more : (c : ℕ) (l : List ℕ) (q : ℕ) → length (pieces_places (suc c) l q) ≡ length (pieces_places c l q) + piece_words l c
unfolding pieces_places piece_places
words_more c l q =
    length-append (pieces_places c l q) (run_places (piece_words l c) (piece_width l c) (q + piece_start l c))
    ∙ rw (run_length (piece_words l c) (piece_width l c) (q + piece_start l c)) refl

-- fewer pieces have no more words
words_fewer : (j c : ℕ) (l : List ℕ) (q : ℕ) → j ≤ c → length (pieces_places j l q) ≤ length (pieces_places c l q)
words_fewer j zero l q h = let e : j ≡ 0 = omega arith in rw e (omega arith)
words_fewer j (suc c) l q h =
    ⊎_elim (λ (e : j ≡ suc c). rw e (omega arith)) (λ (b : j < suc c). omega (arith, words_fewer j c l q (omega arith), words_more c l q)) (eq-or-lt_of_le h)

-- ---- pieces in turn

-- j pieces are passed, which led from word k to word `next` and from s₀ to s
pub record Passed {S : Type 0} (f : Place → ℕ → S → S) (c : ℕ) (l : List ℕ) (at k : ℕ) (s₀ : S) (j next : ℕ) (s : S) : Type 0 where
  pub within : j ≤ c
  pub next_is : next ≡ k + length (pieces_places j l at)
  pub same : s ≡ over_places f (pieces_places j l at) k s₀

pub pass_start : {S : Type 0} (f : Place → ℕ → S → S) (c : ℕ) (l : List ℕ) (at k : ℕ) (s₀ : S) → Passed f c l at k s₀ 0 k s₀
unfolding pieces_places over_places
pass_start f c l at k s₀ = record { within = omega arith; next_is = omega arith; same = refl }

-- the piece whose turn it is, p, is in the list, and lies inside so many bytes and words
pub record PieceRoom (p : Piece) (at bytes next words : ℕ) : Type 0 where
  pub width : (p.width ≡ 2) ⊎ (p.width ≡ 4)
  pub words_there : next + p.words ≤ words
  pub bytes_there : at + p.start + p.words * p.width ≤ bytes

module _ {S : Type 0} {f : Place → ℕ → S → S} {c : ℕ} {l : List ℕ} {at k : ℕ} {s₀ : S} {j next : ℕ} {s : S} (now : Passed f c l at k s₀ j next s) where
  pub piece_listed : {unit bytes words : ℕ} → PiecesRoom c l unit at bytes k words → j < c → j < most_pieces
  piece_listed room h = omega (arith, room.few)

  pub piece_room : {p : Piece} {unit bytes words : ℕ} → PiecesRoom c l unit at bytes k words → j < c → p ≡ piece_of l j → PieceRoom p at bytes next words
  piece_room room h is =
      rw is
      (record {
        width = room.inside.width j h;
        words_there = omega (arith, now.next_is, words_more j l at, words_fewer (suc j) c l at h, room.unit_is at, room.words_there);
        bytes_there = omega (arith, room.inside.ends j h, room.bytes_there);
      })

  pub pass_next : {p : Piece} {s' : S} → j < c → p ≡ piece_of l j → s' ≡ over_places f (run_places p.words p.width (at + p.start)) next s → Passed f c l at k s₀ (j + 1) (next + p.words) s'
  unfolding pieces_places piece_places
  pass_next h is done =
      let e : j + 1 ≡ suc j = omega arith in
      rw (e, is)
      (record {
        within = omega arith;
        next_is = omega (arith, now.next_is, words_more j l at);
        same = rw (over_append f (pieces_places j l at) (piece_places l j at) k s₀, ← now.same, ← now.next_is) (rw is at done);
      })

  pub pass_all : c ≤ j → s ≡ over_places f (pieces_places c l at) k s₀
  pass_all h = let e : j ≡ c = omega (arith, now.within) in rw e at now.same

-- ---- many types of such pieces

-- What i of them make of s₀, and then the next one, is what i + 1 of them make of it.
pub each_more : {S : Type 0} (f : Place → ℕ → S → S) (c : ℕ) (l : List ℕ) (i unit stride at k : ℕ) (s₀ : S) {s s' : S} → ((q : ℕ) → length (pieces_places c l q) ≡ unit) → s ≡ over_places f (repeated i stride (λ q. pieces_places c l q) at) k s₀ → s' ≡ over_places f (pieces_places c l (at + i * stride)) (k + i * unit) s → s' ≡ over_places f (repeated (i + 1) stride (λ q. pieces_places c l q) at) k s₀
unfolding repeated
each_more f c l i unit stride at k s₀ unit_is before now =
    rw (repeated_append i 1 stride (λ q. pieces_places c l q) at, append-nil (pieces_places c l (at + i * stride)), over_append f (repeated i stride (λ q. pieces_places c l q) at) (pieces_places c l (at + i * stride)) k s₀, repeated_length i stride (λ q. pieces_places c l q) at unit unit_is, ← before) now

-- ---- those of a shape

pub pieced_each : {y : Shape} {c : ℕ} {l : List ℕ} {count unit stride at bytes k words : ℕ} → Pieced y c l → EachRoom y count unit stride at bytes k words → EachPieces c l count unit stride at bytes k words
pieced_each {y} P room =
    record {
      room = λ i h.
          record {
            few = P.few;
            unit_is = λ q. ap length (sym (P.places_are q)) ∙ places_words y q ∙ room.unit_is;
            end = span_of y;
            inside = P.inside;
            bytes_there = (each_room room h).bytes_there;
            words_there = omega (arith, (each_room room h).words_there, room.unit_is);
          };
    }

pub pieced_parts : {y : Shape} {c : ℕ} {l : List ℕ} → Pieced y c l → (count stride at : ℕ) → repeated count stride (λ q. pieces_places c l q) at ≡ places_of (parts count stride y) at
unfolding places_of
pieced_parts {y} {c} {l} P count stride at =
    repeated_alike count stride (λ q. pieces_places c l q) (λ q. places_of y q) at (λ q. sym (P.places_are q))
