use mathlib.Core.Path.{sym}
use native.Mathlib.Omega.{arith}
use Rattle.file.proofs.CheckTrailer.{form_none, form_above}
use Rattle.file.proofs.trailer.form_unknown.Goals as goal

pub returns-then-form-lt-FORM_1 : goal.returns-then-form-lt-FORM_1
returns-then-form-lt-FORM_1 c = sym (form_none _ (omega arith))

pub returns : goal.returns
returns c = sym (form_above _ (omega arith))
