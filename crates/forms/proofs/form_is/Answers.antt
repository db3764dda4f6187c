-- Each answer is a law of `FormIs`, at the trailer that was read.
use mathlib.Core.Path.{sym, ap, ◌∙◌}
use native.Mathlib.Omega.{arith}
use Rattle.wgsl.specs.File as wgsl
use Rattle.forms.proofs.FormIs.{form_short, form_other, form_taken}
use Rattle.forms.proofs.form_is.Goals as goal

pub returns-then-f-lt-TRAILER_LENGTH : goal.returns-then-f-lt-TRAILER_LENGTH
returns-then-f-lt-TRAILER_LENGTH c = sym (form_short _ _ (omega arith))

pub returns-then-t-form : goal.returns-then-t-form
returns-then-t-form c =
    let is = ap (λ (r : wgsl.Trailer). r.form) c.trailer_fields-t.ensures in
    sym (form_other _ _ (omega arith) (λ e. omega (arith, is, e)))

pub returns : goal.returns
returns c =
    let is = ap (λ (r : wgsl.Trailer). r.form) c.trailer_fields-t.ensures in
    c.accept.ensures ∙ sym (form_taken _ _ (omega arith) (omega (arith, is)))
