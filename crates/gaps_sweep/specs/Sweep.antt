-- Sweeping the gaps between places, in one pass over them (crates/runs, specs/Fold): what stands between the bytes that were passed and the
-- next place becomes zero, and what changed is counted.
--
-- In order: the state of a sweep; a byte, and the bytes up to a place; a place passed; the promise of a function that sweeps; its counter.
-- No claim of a public call speaks of it: that a sweep is what crates/wgsl, specs/Clean, says is a law of crates/gaps.
-- Definitions only. Assumes nothing.
use Rattle.std.specs.Prelude.{ℕ, zero, suc, ◌+◌, ◌-◌, ◌≤◌, cond, List, [], ◌∷◌, ◌≡◌, eqb, length, get_or, set}
use Rattle.wgsl.specs.Place.{Place}
use Rattle.runs.specs.Fold.{over_places}
use Rattle.gaps_sweep.specs.declared.gap.Sweep.{Sweep}

-- ---- the state of a sweep

-- the bytes; where those that were passed end; how many changed, and the first that did
pub record Swept : Type 0 where
  pub bytes : List ℕ
  pub from : ℕ
  pub changed : ℕ
  pub first : ℕ

-- the same of the code's own state, beside the buffer
abbrev pub swept_of : List ℕ → Sweep → Swept
swept_of b s = record { bytes = b; from = s.from; changed = s.changed; first = s.first }

-- ---- a byte, and the bytes up to a place

-- byte i becomes zero; if it was not, it counts, and is the first where none was before
unfoldable pub swept_byte : ℕ → Swept → Swept
swept_byte i s =
    cond (eqb (get_or s.bytes i 0) 0) s
    (record {
      bytes = set s.bytes i 0;
      from = s.from;
      changed = s.changed + 1;
      first = cond (eqb s.changed 0) i s.first;
    })

-- n bytes from byte i on
unfoldable pub swept_bytes : ℕ → ℕ → Swept → Swept
swept_bytes zero i s = s
swept_bytes (suc n) i s = swept_bytes n (suc i) (swept_byte i s)

-- from where the bytes that were passed end
unfoldable pub swept_to : ℕ → Swept → Swept
swept_to to s = swept_bytes (to - s.from) s.from s

-- ---- a place passed

unfoldable pub going_on : ℕ → Swept → Swept
going_on from s = record { bytes = s.bytes; from = from; changed = s.changed; first = s.first }

-- the gap before `at`, and then so many bytes that stay
unfoldable pub passed : ℕ → ℕ → Swept → Swept
passed at bytes s = going_on (at + bytes) (swept_to at s)

-- as a step of a pass over places, whatever the word's number
unfoldable pub sweeping : Place → ℕ → Swept → Swept
sweeping p k s = passed p.at p.width s

-- ---- the promise of a function that sweeps

-- the gaps before these places are swept
abbrev pub Sweeps : List Place → Swept → Swept → Type 0
Sweeps ps before after = after ≡ over_places sweeping ps 0 before

-- ---- its counter

-- how many bytes are not zero
unfoldable pub nonzeros : List ℕ → ℕ
nonzeros [] = 0
nonzeros (x ∷ b) = cond (eqb x 0) 0 1 + nonzeros b

-- no more have changed than there are bytes, nor will have
pub record Countable (s : Swept) : Type 0 where
  pub counted : s.changed + nonzeros s.bytes ≤ length s.bytes
