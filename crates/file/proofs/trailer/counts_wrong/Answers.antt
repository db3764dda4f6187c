use mathlib.Core.Path.{sym}
use native.Mathlib.Omega.{arith}
use Rattle.file.proofs.CheckTrailer.{counts_none, counts_types, counts_members}
use Rattle.file.proofs.trailer.counts_wrong.Goals as goal

pub returns-then-types-lt1 : goal.returns-then-types-lt1
returns-then-types-lt1 c = sym (counts_none _ _ (omega arith))

pub returns-then-types-gt-MOST_TYPES : goal.returns-then-types-gt-MOST_TYPES
returns-then-types-gt-MOST_TYPES c = sym (counts_types _ _ (omega arith))

pub returns : goal.returns
returns c = sym (counts_members _ _ (omega arith) (omega arith))
