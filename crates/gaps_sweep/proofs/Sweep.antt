-- Laws of sweeping (specs/Sweep).
--
-- In order: what a sweep keeps; one byte; bytes that are zero already; byte by byte; runs; whatever the word's number; repeated
-- places in turn; pieces in turn.
-- Assumes nothing.
use Prim.Native.Nat.{ℕ, zero, suc, ◌+◌, ◌-◌, ◌*◌, ◌<◌, ◌≤◌}
use mathlib.Core.Bool.{Bool, true, false, cond}
use mathlib.Core.List.{List, [], ◌∷◌}
use mathlib.Core.Path.{◌≡◌, refl, ap, sym, ◌∙◌}
use mathlib.Core.Logic.{◌⊎◌, inl, inr, ⊎_elim}
use native.Mathlib.Nat.{suc-mul, mul_assoc, eq-or-lt_of_le}
use native.Mathlib.Omega.{arith}
use borrow.Author.Tests.{eqb-true, eqb-false, eq-eqb, ne_eqb}
use lib.Dec.{eqb}
use lib.ListN.{length, get_or, set, length-set}
use Rattle.wgsl.specs.Number.{load}
use Rattle.wgsl.specs.Place.{Place, repeated}
use Rattle.runs.specs.Fold.{over_places}
use Rattle.runs.specs.Run.{run_places}
use Rattle.runs.specs.Ask.{PartsRoom}
use Rattle.runs.proofs.OverPlaces.{Repeating, repeating_start, repeating_next, repeating_all}
use Rattle.runs.specs.declared.Parts.{Parts}
use Rattle.walk_pieces.specs.declared.Piece.{Piece}
use Rattle.walk_pieces.specs.Piece.{piece_of, pieces_places, PiecesRoom}
use Rattle.walk_pieces.proofs.Pass.{Passed, pass_start, PieceRoom, piece_room, pass_next, pass_all}
use Rattle.gaps_sweep.specs.Sweep.{Swept, swept_byte, swept_bytes, swept_to, going_on, passed, sweeping, Sweeps, nonzeros, Countable}

-- ---- what a sweep keeps

-- as many bytes, and what is counted with what could be
pub record Keeps (s r : Swept) : Type 0 where
  pub long : length r.bytes ≡ length s.bytes
  pub total : r.changed + nonzeros r.bytes ≡ s.changed + nonzeros s.bytes
  pub first_low : s.first ≤ length s.bytes → r.first ≤ length r.bytes

pub keeps_countable : {s r : Swept} → Keeps s r → Countable s → Countable r
keeps_countable k c = record { counted = omega (arith, k.long, k.total, c.counted) }

pub keeps_both : {s r q : Swept} → Keeps s r → Keeps r q → Keeps s q
keeps_both k l =
    record { long = l.long ∙ k.long; total = l.total ∙ k.total; first_low = λ h. l.first_low (k.first_low h) }

keeps_itself : (s : Swept) → Keeps s s
keeps_itself s = record { long = refl; total = refl; first_low = λ h. h }

-- a byte that is not zero counts once
pub nonzeros_set : (b : List ℕ) (i : ℕ) → (get_or b i 0 ≡ 0 → ⊥) → nonzeros (set b i 0) + 1 ≡ nonzeros b
unfolding nonzeros
nonzeros_set [] i h = absurd (h refl)
nonzeros_set (x ∷ b) zero h = first (eqb x 0) refl
  where
    first : (t : Bool) → eqb x 0 ≡ t → 0 + nonzeros b + 1 ≡ cond t 0 1 + nonzeros b
    first true e = absurd (h (eqb-true x 0 e))
    first false e = omega arith
nonzeros_set (x ∷ b) (suc i) h = omega (arith, nonzeros_set b i h)

pub keeps_byte : (i : ℕ) (s : Swept) → Keeps s (swept_byte i s)
unfolding swept_byte
keeps_byte i s = by (eqb (get_or s.bytes i 0) 0) refl
  where
    there : (b : List ℕ) (i : ℕ) → (get_or b i 0 ≡ 0 → ⊥) → i ≤ length b
    there [] i h = absurd (h refl)
    there (x ∷ b) zero h = omega arith
    there (x ∷ b) (suc i) h = omega (arith, there b i h)

    earlier : (t : Bool) → s.first ≤ length s.bytes → i ≤ length s.bytes → cond t i s.first ≤ length s.bytes
    earlier true h g = g
    earlier false h g = h

    by : (t : Bool) → eqb (get_or s.bytes i 0) 0 ≡ t → Keeps s (cond t s (record { bytes = set s.bytes i 0; from = s.from; changed = s.changed + 1; first = cond (eqb s.changed 0) i s.first }))
    by true e = keeps_itself s
    by false e =
        record {
          long = length-set s.bytes i 0;
          total = omega (arith, nonzeros_set s.bytes i (eqb-false _ _ e));
          first_low = λ h. rw (length-set s.bytes i 0) (earlier (eqb s.changed 0) h (there s.bytes i (eqb-false _ _ e)));
        }

pub keeps_bytes : (n i : ℕ) (s : Swept) → Keeps s (swept_bytes n i s)
unfolding swept_bytes
keeps_bytes zero i s = keeps_itself s
keeps_bytes (suc n) i s = keeps_both (keeps_byte i s) (keeps_bytes n (suc i) (swept_byte i s))

pub keeps_to : (to : ℕ) (s : Swept) → Keeps s (swept_to to s)
unfolding swept_to
keeps_to to s = keeps_bytes (to - s.from) s.from s

pub keeps_passed : (at bytes : ℕ) (s : Swept) → Keeps s (passed at bytes s)
unfolding passed going_on
keeps_passed at bytes s = record { long = (keeps_to at s).long; total = (keeps_to at s).total; first_low = (keeps_to at s).first_low }

keeps_over : (ps : List Place) (k : ℕ) (s : Swept) → Keeps s (over_places sweeping ps k s)
unfolding over_places sweeping
keeps_over [] k s = keeps_itself s
keeps_over (p ∷ ps) k s =
    keeps_both (keeps_passed p.at p.width s) (keeps_over ps (suc k) (passed p.at p.width s))

pub sweep_keeps : (ps : List Place) {s r : Swept} → Sweeps ps s r → Keeps s r
sweep_keeps ps {s} done = rw done (keeps_over ps 0 s)

-- Nothing has changed at the start.
pub start_countable : (b : List ℕ) (from first : ℕ) → Countable (record { bytes = b; from = from; changed = 0; first = first })
unfolding nonzeros
start_countable b from first = record { counted = omega (arith, most b) }
  where
    one : (t : Bool) → cond t 0 1 ≤ 1
    one true = omega arith
    one false = omega arith

    most : (b : List ℕ) → nonzeros b ≤ length b
    most [] = omega arith
    most (x ∷ b) = omega (arith, one (eqb x 0), most b)

-- ---- one byte

pub zero_byte : (i : ℕ) (s : Swept) → get_or s.bytes i 0 ≡ 0 → swept_byte i s ≡ s
unfolding swept_byte
zero_byte i s h = rw h refl

-- One that is not zero counts, and is the first where none was before.
pub first_byte : (i : ℕ) (s : Swept) → (get_or s.bytes i 0 ≡ 0 → ⊥) → s.changed ≡ 0 → swept_byte i s ≡ record { bytes = set s.bytes i 0; from = s.from; changed = s.changed + 1; first = i }
unfolding swept_byte
first_byte i s h n = rw (ne_eqb (get_or s.bytes i 0) 0 h, eq-eqb s.changed 0 n) refl

pub later_byte : (i : ℕ) (s : Swept) → (get_or s.bytes i 0 ≡ 0 → ⊥) → (s.changed ≡ 0 → ⊥) → swept_byte i s ≡ record { bytes = set s.bytes i 0; from = s.from; changed = s.changed + 1; first = s.first }
unfolding swept_byte
later_byte i s h n = rw (ne_eqb (get_or s.bytes i 0) 0 h, ne_eqb s.changed 0 n) refl

-- ---- bytes that are zero already

zero_bytes : (n i : ℕ) (s : Swept) → ((k : ℕ) → i ≤ k → k < i + n → get_or s.bytes k 0 ≡ 0) → swept_bytes n i s ≡ s
unfolding swept_bytes
zero_bytes zero i s h = refl
zero_bytes (suc n) i s h =
    rw (zero_byte i s (h i (omega arith) (omega arith))) (zero_bytes n (suc i) s (λ k l m. h k (omega arith) (omega arith)))

-- They stay, and nothing is counted.
pub zero_stays : (to : ℕ) (s : Swept) → ((k : ℕ) → s.from ≤ k → k < to → get_or s.bytes k 0 ≡ 0) → swept_to to s ≡ s
unfolding swept_to
zero_stays to s h = zero_bytes (to - s.from) s.from s (λ k l m. h k l (omega arith))

-- A number that is zero has bytes that are.
pub load_zero : (n : ℕ) (b : List ℕ) (at : ℕ) → load n b at ≡ 0 → (k : ℕ) → at ≤ k → k < at + n → get_or b k 0 ≡ 0
unfolding load
load_zero zero b at h k l m = absurd (omega arith)
load_zero (suc n) b at h k l m =
    let low : get_or b at 0 ≡ 0 = omega (arith, h) in
    ⊎_elim (λ (e : at ≡ k). rw e at low)
    (λ (g : at < k). load_zero n b (at + 1) (omega (arith, h)) k (omega arith) (omega arith)) (eq-or-lt_of_le l)

lt_or_le : (m n : ℕ) → (m < n) ⊎ (n ≤ m)
lt_or_le m zero = inr (omega arith)
lt_or_le zero (suc n) = inl (omega arith)
lt_or_le (suc m) (suc n) = ⊎_elim (λ (x : m < n). inl (omega arith)) (λ (x : n ≤ m). inr (omega arith)) (lt_or_le m n)

-- bytes that are zero, and further ones
pub zero_on : (b : List ℕ) (from i to : ℕ) → ((k : ℕ) → k < i → from ≤ k → get_or b k 0 ≡ 0) → ((k : ℕ) → i ≤ k → k < to → get_or b k 0 ≡ 0) → (k : ℕ) → k < to → from ≤ k → get_or b k 0 ≡ 0
zero_on b from i to low high k l m = ⊎_elim (λ (h : k < i). low k h m) (λ (h : i ≤ k). high k h l) (lt_or_le k i)

-- ---- byte by byte

pub sweep_next : (to i : ℕ) (s : Swept) → i < to → swept_bytes (to - (i + 1)) (i + 1) (swept_byte i s) ≡ swept_bytes (to - i) i s
unfolding swept_bytes
sweep_next to i s h =
    let e : to - i ≡ suc (to - (i + 1)) = omega arith in
    let n : i + 1 ≡ suc i = omega arith in
    ap (λ (j : ℕ). swept_bytes (to - (i + 1)) j (swept_byte i s)) n ∙ sym (ap (λ (m : ℕ). swept_bytes m i s) e)

pub sweep_none : (to i : ℕ) (s : Swept) → to ≤ i → swept_bytes (to - i) i s ≡ s
unfolding swept_bytes
sweep_none to i s h = let e : to - i ≡ 0 = omega arith in rw e refl

-- ---- runs

-- Where nothing lies between, nothing is swept.
passed_on : (at n m : ℕ) (s : Swept) → passed (at + n) m (passed at n s) ≡ passed at (n + m) s
unfolding passed swept_to going_on swept_bytes
passed_on at n m s =
    let e : at + n - (at + n) ≡ 0 = omega arith in
    let f : at + n + m ≡ at + (n + m) = omega arith in
    rw (e, f) refl

pub run_none : (n width at k : ℕ) (s : Swept) → n ≡ 0 → over_places sweeping (run_places n width at) k s ≡ s
unfolding over_places run_places repeated
run_none n width at k s h = rw h refl

run_step : (n width at k : ℕ) (s : Swept) → over_places sweeping (run_places (suc n) width at) k s ≡ over_places sweeping (run_places n width (at + width)) (suc k) (passed at width s)
unfolding over_places sweeping run_places repeated
run_step n width at k s = refl

run_on : (n width at k : ℕ) (s : Swept) (done : ℕ) → over_places sweeping (run_places n width (at + done)) k (passed at done s) ≡ passed at (done + n * width) s
run_on zero width at k s done =
    let e : done + 0 * width ≡ done = omega arith in
    run_none 0 width (at + done) k (passed at done s) refl ∙ ap (λ (m : ℕ). passed at m s) (sym e)
run_on (suc n) width at k s done =
    let e : at + done + width ≡ at + (done + width) = omega arith in
    let f : done + width + n * width ≡ done + suc n * width = omega (arith, suc-mul n width) in
    run_step n width (at + done) k (passed at done s)
    ∙ rw (passed_on at done width s, e) (run_on n width at (suc k) s (done + width))
    ∙ ap (λ (m : ℕ). passed at m s) f

-- A run is one place of all its bytes.
pub run_passed : (n width at k : ℕ) (s : Swept) → 0 < n → over_places sweeping (run_places n width at) k s ≡ passed at (n * width) s
run_passed zero width at k s h = absurd (omega arith)
run_passed (suc n) width at k s h =
    let f : width + n * width ≡ suc n * width = omega (arith, suc-mul n width) in
    run_step n width at k s ∙ run_on n width at (suc k) s width ∙ ap (λ (m : ℕ). passed at m s) f

-- Parts that touch lie in the buffer, so there are no more words than bytes.
pub parts_count : {p : Parts} {at bytes k words : ℕ} → PartsRoom p at bytes k words → p.stride ≡ p.unit * p.width → p.count * p.unit ≤ bytes
parts_count {p} {at} {bytes} room touch =
    let there : at + p.count * (p.unit * p.width) ≤ bytes = rw touch at room.bytes_there in
    let words : at + p.count * p.unit * p.width ≤ bytes = rw (mul_assoc p.count p.unit p.width) there in
    ⊎_elim (λ (e : p.width ≡ 2). omega (arith, rw e at words)) (λ (e : p.width ≡ 4). omega (arith, rw e at words)) room.width

-- ---- whatever the word's number

pub any_number : (ps : List Place) (j k : ℕ) (s : Swept) → over_places sweeping ps j s ≡ over_places sweeping ps k s
unfolding over_places sweeping
any_number [] j k s = refl
any_number (p ∷ ps) j k s = any_number ps (suc j) (suc k) (passed p.at p.width s)

-- ---- repeated places in turn

-- i of them are swept, which led from s₀ to s, with a counter that still fits
pub record RepeatSwept (g : ℕ → List Place) (count unit stride at : ℕ) (s₀ : Swept) (i : ℕ) (s : Swept) : Type 0 where
  pub turn : Repeating sweeping g count unit stride at 0 s₀ i s
  pub countable : Countable s

pub repeat_start : (g : ℕ → List Place) (count unit stride at : ℕ) (s : Swept) → Countable s → RepeatSwept g count unit stride at s 0 s
repeat_start g count unit stride at s h =
    record { turn = repeating_start sweeping g count unit stride at 0 s; countable = h }

module _ {g : ℕ → List Place} {count unit stride at : ℕ} {s₀ : Swept} {i : ℕ} {s : Swept} (now : RepeatSwept g count unit stride at s₀ i s) where
  pub repeat_next : {s' : Swept} → ((q : ℕ) → length (g q) ≡ unit) → i < count → Sweeps (g (at + i * stride)) s s' → RepeatSwept g count unit stride at s₀ (i + 1) s'
  repeat_next unit_is h done =
      record {
        turn = repeating_next now.turn unit_is h (done ∙ any_number (g (at + i * stride)) 0 (0 + i * unit) s);
        countable = keeps_countable (sweep_keeps (g (at + i * stride)) done) now.countable;
      }

  pub repeat_all : count ≤ i → Sweeps (repeated count stride g at) s₀ s
  repeat_all h = repeating_all now.turn h

-- ---- pieces in turn

-- j pieces are swept, which led from s₀ to s, with as many bytes and a counter that still fits
pub record PiecesSwept (c : ℕ) (l : List ℕ) (at : ℕ) (s₀ : Swept) (j : ℕ) (s : Swept) : Type 0 where
  pub next : ℕ
  pub pass : Passed sweeping c l at 0 s₀ j next s
  pub long : length s.bytes ≡ length s₀.bytes
  pub countable : Countable s

pub pieces_start : (c : ℕ) (l : List ℕ) (at : ℕ) {s₀ : Swept} → Countable s₀ → PiecesSwept c l at s₀ 0 s₀
pieces_start c l at {s₀} h = record { next = 0; pass = pass_start sweeping c l at 0 s₀; long = refl; countable = h }

module _ {c : ℕ} {l : List ℕ} {at : ℕ} {s₀ : Swept} {j : ℕ} {s : Swept} (now : PiecesSwept c l at s₀ j s) where
  pub piece_ready : {p : Piece} {unit k words : ℕ} → PiecesRoom c l unit at (length s₀.bytes) k words → j < c → p ≡ piece_of l j → PieceRoom p at (length s.bytes) now.next unit
  piece_ready {unit} room h is =
      let first : PiecesRoom c l unit at (length s₀.bytes) 0 unit =
      record {
        few = room.few;
        unit_is = room.unit_is;
        end = room.end;
        inside = room.inside;
        bytes_there = room.bytes_there;
        words_there = omega arith;
      } in
      rw now.long (piece_room now.pass first h is)

  pub pieces_next : {p : Piece} {s' : Swept} → j < c → p ≡ piece_of l j → Sweeps (run_places p.words p.width (at + p.start)) s s' → PiecesSwept c l at s₀ (j + 1) s'
  pieces_next {p} h is done =
      let run = run_places p.words p.width (at + p.start) in
      let keeps = sweep_keeps run done in
      record {
        next = now.next + p.words;
        pass = pass_next now.pass h is (done ∙ any_number run 0 now.next s);
        long = keeps.long ∙ now.long;
        countable = keeps_countable keeps now.countable;
      }

  pub pieces_none : c ≤ j → Sweeps (pieces_places c l at) s₀ s
  pieces_none h = pass_all now.pass h
