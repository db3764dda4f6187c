-- What passing places makes of a writer (src/lib.rt, `Write`): its words from the first on stand at them, and nothing else changed.
-- Definitions only. Assumes nothing.
use Rattle.std.specs.Prelude.{ℕ, ◌≡◌, List, length}
use Rattle.wgsl.specs.Place.{Place}
use Rattle.runs.specs.Fold.{over_places, storing, Stores}
use Rattle.words_write.specs.declared.Write.{Write}

pub record Written (ps : List Place) (k : ℕ) (s t : Write) : Type 0 where
  pub words_are : t.words ≡ s.words
  pub place_is : t.buf.ref_ptr ≡ s.buf.ref_ptr
  pub name_is : t.buf.ghost_name ≡ s.buf.ghost_name
  pub long : length t.buf.now ≡ length s.buf.now
  pub stores : Stores s.words.now ps k s.buf.now t.buf.now

abbrev pub written : List Place → ℕ → Write → Write → Type 0
written ps k s t = Written ps k s t
