-- What passing places makes of a reader (src/lib.rt, `Read`): its words from the first on are those that stand there, and nothing else
-- changed.
-- Definitions only. Assumes nothing.
use Rattle.std.specs.Prelude.{ℕ, ◌≡◌, List, length}
use Rattle.wgsl.specs.Place.{Place}
use Rattle.runs.specs.Fold.{over_places, loading, Loads}
use Rattle.words_read.specs.declared.Read.{Read}

pub record ReadOff (ps : List Place) (k : ℕ) (s t : Read) : Type 0 where
  pub bytes_are : t.buf ≡ s.buf
  pub place_is : t.words.ref_ptr ≡ s.words.ref_ptr
  pub name_is : t.words.ghost_name ≡ s.words.ghost_name
  pub long : length t.words.now ≡ length s.words.now
  pub loads : Loads s.buf.now ps k s.words.now t.words.now

abbrev pub read_off : List Place → ℕ → Read → Read → Type 0
read_off ps k s t = ReadOff ps k s t
