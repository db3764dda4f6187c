-- The trailer of an accepted file of one form.
-- Definitions only. Assumes nothing.
use Rattle.std.specs.Prelude.{ℕ, List}
use Rattle.wgsl.specs.Said.{Said, good, ◌>>◌}
use Rattle.wgsl.specs.File.{Trailer, trailer_of}
use Rattle.wgsl.specs.Form.{form_is}

unfoldable pub trailer_of_form : ℕ → List ℕ → Said Trailer
trailer_of_form form f = do
  form_is form f
  good (trailer_of f)
