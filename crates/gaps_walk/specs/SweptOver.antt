-- What passing places makes of a sweeper (src/lib.rt, `Sweeper`): the gaps before them are swept, and nothing else changed.
-- Definitions only. Assumes nothing.
use Rattle.std.specs.Prelude.{ℕ, ◌≡◌, List, length}
use Rattle.wgsl.specs.Place.{Place}
use Rattle.gaps_sweep.specs.Sweep.{swept_of, Sweeps}
use Rattle.gaps_walk.specs.declared.Sweeper.{Sweeper}

pub record SweptOver (ps : List Place) (s t : Sweeper) : Type 0 where
  pub place_is : t.buf.ref_ptr ≡ s.buf.ref_ptr
  pub name_is : t.buf.ghost_name ≡ s.buf.ghost_name
  pub long : length t.buf.now ≡ length s.buf.now
  pub sweeps : Sweeps ps (swept_of s.buf.now s.sweep) (swept_of t.buf.now t.sweep)

abbrev pub swept_over : List Place → ℕ → Sweeper → Sweeper → Type 0
swept_over ps k s t = SweptOver ps s t
