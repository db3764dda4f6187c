-- A sweep over places in order cleans the buffer (specs/Sweep; crates/wgsl, specs/Clean).
--
-- In order: the state of a sweep, told by its bytes; one gap; the gaps between places; the bytes that they leave; the law.
-- Assumes nothing.
use Prim.Native.Nat.{ℕ, zero, suc, ◌+◌, ◌-◌, ◌<◌, ◌≤◌}
use mathlib.Core.Bool.{and-false}
use mathlib.Core.List.{List, [], ◌∷◌}
use mathlib.Core.Logic.{inl, inr, ⊎_elim}
use mathlib.Core.Path.{◌≡◌, refl, ap, sym, ◌∙◌}
use native.Mathlib.Nat.{zero-add}
use native.Mathlib.Omega.{arith}
use borrow.Author.Tests.{lt-ltb, le-ltb, le-leb, eqb-true, eqb-false}
use lib.Dec.{eqb, ltb}
use lib.ListN.{length, get_or, set, replicate, length-set}
use lib.Seq.{length-sets, set-get_or, get_or-set_other, ext_get_or}
use Rattle.wgsl.specs.Place.{Place}
use Rattle.wgsl.specs.Clean.{is_inside, is_covered, clean_byte, clean_from, differing, first_differing, CleanDone, done_from}
use Rattle.wgsl.specs.Claim.{Ordered}
use Rattle.wgsl.proofs.Absent.{yes_or_no}
use Rattle.wgsl.proofs.Bit.{lt_or_le}
use Rattle.wgsl.proofs.Number.{sets_below}
use Rattle.wgsl.proofs.Shape.{ordered_span}
use Rattle.wgsl.proofs.CleanByte.{outside_false, covered_not_below, clean_length, clean_byte_lem}
use Rattle.wgsl.proofs.CleanCount.{same_none, same_first}
use Rattle.runs.specs.Fold.{over_places}
use Rattle.gaps_sweep.specs.Sweep.{Swept, swept_byte, swept_bytes, swept_to, going_on, passed, sweeping}
use Rattle.gaps_sweep.proofs.Differing.{differing_set, first_set, zeros, zeros_inside, zeros_past}

-- ---- the state of a sweep

-- what changed between b and c is counted
abbrev counted : ℕ → List ℕ → ℕ → List ℕ → Swept
counted extent b from c =
    record { bytes = c; from = from; changed = differing b c; first = first_differing extent 0 b c }

-- the sweep's answer
abbrev done_of : Swept → CleanDone
done_of s = record { changed = s.changed; first = s.first; contents = s.bytes }

-- c is as long as b, and nothing has changed from byte lo on
record Ahead (b c : List ℕ) (lo : ℕ) : Type 0 where
  long : length c ≡ length b
  same : (i : ℕ) → lo ≤ i → get_or c i 0 ≡ get_or b i 0

-- ---- one gap

ahead_set : {b c : List ℕ} {lo : ℕ} → Ahead b c lo → Ahead b (set c lo 0) (suc lo)
ahead_set {b} {c} {lo} a =
    record {
      long = length-set c lo 0 ∙ a.long;
      same = λ i h. get_or-set_other c lo i 0 0 (omega arith) ∙ a.same i (omega arith);
    }

ahead_zeros : (n hi : ℕ) {b c : List ℕ} {lo : ℕ} → Ahead b c lo → lo + n ≤ hi → Ahead b (zeros n lo c) hi
ahead_zeros n hi {b} {c} {lo} a h =
    record {
      long = length-sets c lo (replicate n 0) ∙ a.long;
      same = λ i m. zeros_past n lo c i (omega arith) ∙ a.same i (omega arith);
    }

counted_byte : (extent from i : ℕ) {b c : List ℕ} → Ahead b c i → i < length b → swept_byte i (counted extent b from c) ≡ counted extent b from (set c i 0)
unfolding swept_byte
counted_byte extent from i {b} {c} a h =
    yes_or_no (eqb (get_or c i 0) 0)
    (λ t.
    let e : set c i 0 ≡ c = rw (eqb-true (get_or c i 0) 0 t) at (set-get_or c i 0) in
    rw (t, e))
    (λ t.
    let n : get_or b i 0 ≡ 0 → ⊥ = rw (a.same i (omega arith)) at (eqb-false (get_or c i 0) 0 t) in
    rw
    (t, differing_set b c i 0 a.long h (a.same i (omega arith)) n, first_set extent 0 b c i 0 a.long h a.same n, zero-add i))

counted_bytes : (n extent from i : ℕ) {b c : List ℕ} → Ahead b c i → i + n ≤ length b → swept_bytes n i (counted extent b from c) ≡ counted extent b from (zeros n i c)
unfolding swept_bytes
counted_bytes zero extent from i a h = refl
counted_bytes (suc n) extent from i a h =
    rw (counted_byte extent from i a (omega arith)) (counted_bytes n extent from (suc i) (ahead_set a) (omega arith))

counted_to : (to extent lo : ℕ) {b c : List ℕ} → Ahead b c lo → lo ≤ to → to ≤ length b → swept_to to (counted extent b lo c) ≡ counted extent b lo (zeros (to - lo) lo c)
unfolding swept_to
counted_to to extent lo a l h = counted_bytes (to - lo) extent lo lo a (omega arith)

-- ---- the gaps between places

-- zeros from byte lo to the first place, between the places and to the extent
emptied : List Place → ℕ → ℕ → List ℕ → List ℕ
emptied [] extent lo c = zeros (extent - lo) lo c
emptied (p ∷ ps) extent lo c = emptied ps extent (p.at + p.width) (zeros (p.at - lo) lo c)

counted_gaps : (ps : List Place) (extent k lo : ℕ) {b c : List ℕ} → Ordered ps lo extent → Ahead b c lo → extent ≤ length b → done_of (swept_to extent (over_places sweeping ps k (counted extent b lo c))) ≡ done_from extent b (emptied ps extent lo c)
unfolding Ordered over_places sweeping passed going_on done_from emptied
counted_gaps [] extent k lo o a h = ap done_of (counted_to extent extent lo a o h)
counted_gaps (p ∷ ps) extent k lo o a h =
    let end = p.at + p.width in
    let first : lo ≤ p.at = o.0 in
    let span : end ≤ extent = ordered_span ps end extent o.1 in
    rw (counted_to p.at extent lo a first (omega arith))
    (counted_gaps ps extent (suc k) end o.1 (ahead_zeros (p.at - lo) end a (omega arith)) h)

-- ---- the bytes that they leave

length_emptied : (ps : List Place) (extent lo : ℕ) (c : List ℕ) → length (emptied ps extent lo c) ≡ length c
unfolding emptied
length_emptied [] extent lo c = length-sets c lo (replicate (extent - lo) 0)
length_emptied (p ∷ ps) extent lo c =
    length_emptied ps extent (p.at + p.width) (zeros (p.at - lo) lo c) ∙ length-sets c lo (replicate (p.at - lo) 0)

emptied_below : (ps : List Place) (extent lo : ℕ) (c : List ℕ) (i : ℕ) → Ordered ps lo extent → i < lo → get_or (emptied ps extent lo c) i 0 ≡ get_or c i 0
unfolding Ordered emptied
emptied_below [] extent lo c i o h = sets_below (replicate (extent - lo) 0) c lo i h
emptied_below (p ∷ ps) extent lo c i o h =
    emptied_below ps extent (p.at + p.width) (zeros (p.at - lo) lo c) i o.1 (omega (arith, o.0))
    ∙ sets_below (replicate (p.at - lo) 0) c lo i h

emptied_past : (ps : List Place) (extent lo : ℕ) (c : List ℕ) (i : ℕ) → Ordered ps lo extent → extent ≤ length c → lo ≤ i → get_or (emptied ps extent lo c) i 0 ≡ clean_byte ps extent i (get_or c i 0)
unfolding Ordered emptied is_covered is_inside clean_byte
emptied_past [] extent lo c i o h l =
    ⊎_elim
    (λ (below : i < extent).
    rw (lt-ltb i extent below) (zeros_inside (extent - lo) lo c i (omega arith) l (omega arith)))
    (λ (past : extent ≤ i). rw (le-ltb i extent past) (zeros_past (extent - lo) lo c i (omega arith)))
    (lt_or_le i extent)
emptied_past (p ∷ ps) extent lo c i o h l =
    let end = p.at + p.width in
    let gap = p.at - lo in
    let first : lo ≤ p.at = o.0 in
    let span : end ≤ extent = ordered_span ps end extent o.1 in
    ⊎_elim
    (λ (below : i < p.at).
    rw
    (lt-ltb i extent (omega arith), outside_false p i (inl below), covered_not_below ps end extent i o.1 (omega arith))
    (emptied_below ps extent end (zeros gap lo c) i o.1 (omega arith)
    ∙ zeros_inside gap lo c i (omega arith) l (omega arith)))
    (λ (past : p.at ≤ i).
    ⊎_elim
    (λ (below : i < end).
    rw (le-leb p.at i past, lt-ltb i end below, and-false (ltb i extent))
    (emptied_below ps extent end (zeros gap lo c) i o.1 below ∙ zeros_past gap lo c i (omega arith)))
    (λ (beyond : end ≤ i).
    rw (outside_false p i (inr beyond), ← zeros_past gap lo c i (omega arith))
    (emptied_past ps extent end (zeros gap lo c) i o.1 (rw length-sets h) beyond))
    (lt_or_le i end))
    (lt_or_le i p.at)

-- ---- the law

emptied_cleaned : (ps : List Place) (extent : ℕ) (b : List ℕ) → Ordered ps 0 extent → extent ≤ length b → emptied ps extent 0 b ≡ clean_from ps extent 0 b
emptied_cleaned ps extent b o h =
    let n = length_emptied ps extent 0 b in
    ext_get_or 0 (emptied ps extent 0 b) (clean_from ps extent 0 b) (n ∙ sym (clean_length ps extent 0 b))
    (λ i l. emptied_past ps extent 0 b i o h (omega arith) ∙ sym (clean_byte_lem ps extent b i))

-- Sweeping the gaps between places and up to the extent gives the clean buffer, how many bytes changed and the first that did.
pub sweep_cleans : (ps : List Place) (extent : ℕ) (b : List ℕ) → Ordered ps 0 extent → extent ≤ length b → (s : Swept) → s ≡ swept_to extent (over_places sweeping ps 0 (record { bytes = b; from = 0; changed = 0; first = extent })) → record { changed = s.changed; first = s.first; contents = s.bytes } ≡ done_from extent b (clean_from ps extent 0 b)
sweep_cleans ps extent b o h s e =
    let a : Ahead b b 0 = record { long = refl; same = λ i l. refl } in
    let r = counted_gaps ps extent 0 0 o a h in
    rw (e, ← emptied_cleaned ps extent b o h) (rw (same_none b, same_first extent 0 b) at r)
