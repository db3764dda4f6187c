-- Pieces: the runs that the words of a type lie in, those that touch joined. Three numbers a piece: its start in the type, its words, and
-- the bytes of each.
--
-- In order: a piece, and the places of the first so many; where they lie; pieces that are added, and what that asks; the pieces of a shape,
-- and room for them and for many such.
-- No claim of a public call speaks of it.
-- Definitions only. Assumes nothing.
use Rattle.std.specs.Prelude.{ℕ, zero, suc, ◌+◌, ◌-◌, ◌*◌, ◌<◌, ◌≤◌, ◌≡◌, ◌⊎◌, List, [], ◌++◌, length, get_or}
use Rattle.wgsl.specs.Round.{limit}
use Rattle.wgsl.specs.Place.{Shape, span_of, Place, places_of}
use Rattle.runs.specs.Run.{run_places}
use Rattle.runs.specs.declared.Parts.{Parts}
use Rattle.walk_pieces.specs.declared.Piece.{Piece}

-- ---- a piece

abbrev pub piece_start : List ℕ → ℕ → ℕ
piece_start l j = get_or l (3 * j) 0

abbrev pub piece_words : List ℕ → ℕ → ℕ
piece_words l j = get_or l (3 * j + 1) 0

abbrev pub piece_width : List ℕ → ℕ → ℕ
piece_width l j = get_or l (3 * j + 2) 0

abbrev pub piece_of : List ℕ → ℕ → Piece
piece_of l j = record { start = piece_start l j; words = piece_words l j; width = piece_width l j }

-- the places of piece j, of a type that begins at `at`
unfoldable pub piece_places : List ℕ → ℕ → ℕ → List Place
piece_places l j at = run_places (piece_words l j) (piece_width l j) (at + piece_start l j)

-- those of the first c pieces
unfoldable pub pieces_places : ℕ → List ℕ → ℕ → List Place
pieces_places zero l at = []
pieces_places (suc c) l at = pieces_places c l at ++ piece_places l c at

-- a list of pieces has room for so many
abbrev pub most_pieces : ℕ
most_pieces = 32

-- ---- where they lie

-- the first c pieces have words of two bytes or of four, and end at `end` or before
pub record Inside (c : ℕ) (l : List ℕ) (end : ℕ) : Type 0 where
  pub width : (j : ℕ) → j < c → (piece_width l j ≡ 2) ⊎ (piece_width l j ≡ 4)
  pub ends : (j : ℕ) → j < c → piece_start l j + piece_words l j * piece_width l j ≤ end

-- a run of such words that begins at `at` would begin where the last of c pieces ends
pub record Touching (c : ℕ) (l : List ℕ) (at width : ℕ) : Type 0 where
  pub some : 0 < c
  pub width_is : piece_width l (c - 1) ≡ width
  pub end_is : piece_start l (c - 1) + piece_words l (c - 1) * width ≡ at

-- ---- pieces that are added

-- r pieces of m are c pieces of l and then these places, of a type from any byte on, the last of which ends at `most` or before
pub record Added (c : ℕ) (l : List ℕ) (ps : ℕ → List Place) (most r : ℕ) (m : List ℕ) : Type 0 where
  pub places_are : (q : ℕ) → pieces_places r m q ≡ pieces_places c l q ++ ps q
  pub inside : (end : ℕ) → most ≤ end → Inside c l end → Inside r m end

-- the same, unless there are too many
abbrev pub Gathered : ℕ → List ℕ → (ℕ → List Place) → ℕ → ℕ → List ℕ → Type 0
Gathered c l ps most r m = r ≤ most_pieces → Added c l ps most r m

-- there are not too many yet, and the numbers of one that ends at `end` or before fit
pub record Asks (c : ℕ) (l : List ℕ) (end : ℕ) : Type 0 where
  pub few : c ≤ most_pieces
  pub inside : Inside c l limit
  pub low : end ≤ limit

-- what adding the words of a run, parts that are runs, and a shape asks
pub record WordsAsk (c : ℕ) (l : List ℕ) (at n width : ℕ) : Type 0 where
  pub width_is : (width ≡ 2) ⊎ (width ≡ 4)
  pub asks : Asks c l (at + n * width)

pub record PartsAsk (c : ℕ) (l : List ℕ) (at : ℕ) (p : Parts) : Type 0 where
  pub width_is : (p.width ≡ 2) ⊎ (p.width ≡ 4)
  pub fits : p.unit * p.width ≤ p.stride
  pub asks : Asks c l (at + p.count * p.stride)

abbrev pub PiecesAsk : ℕ → List ℕ → ℕ → Shape → Type 0
PiecesAsk c l at x = Asks c l (at + span_of x)

-- ---- the pieces of a shape

-- c pieces of l are the places of the shape y
pub record Pieced (y : Shape) (c : ℕ) (l : List ℕ) : Type 0 where
  pub few : c ≤ most_pieces
  pub places_are : (q : ℕ) → places_of y q ≡ pieces_places c l q
  pub inside : Inside c l (span_of y)

-- the words of c pieces, `unit` of them from word `k` on, and their bytes from byte `at` on are there
pub record PiecesRoom (c : ℕ) (l : List ℕ) (unit at bytes k words : ℕ) : Type 0 where
  pub few : c ≤ most_pieces
  pub unit_is : (q : ℕ) → length (pieces_places c l q) ≡ unit
  pub end : ℕ
  pub inside : Inside c l end
  pub bytes_there : at + end ≤ bytes
  pub words_there : k + unit ≤ words

-- those of so many types, each a stride after the one before
pub record EachPieces (c : ℕ) (l : List ℕ) (count unit stride at bytes k words : ℕ) : Type 0 where
  pub room : (i : ℕ) → i < count → PiecesRoom c l unit (at + i * stride) bytes (k + i * unit) words
