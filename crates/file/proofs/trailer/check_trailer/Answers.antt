-- Each answer is a law of `CheckTrailer`, at the trailer that was read.
use mathlib.Core.Path.{sym, ◌∙◌}
use native.Mathlib.Omega.{arith}
use Rattle.file.proofs.CheckTrailer.{checked_short, checked_form, checked_counts, counts_few, checked_length, checked_good}
use Rattle.file.proofs.trailer.check_trailer.Goals as goal

pub returns-then-f-lt-TRAILER_LENGTH : goal.returns-then-f-lt-TRAILER_LENGTH
returns-then-f-lt-TRAILER_LENGTH c = sym (checked_short _ (omega arith))

pub returns-then-form_unknown : goal.returns-then-form_unknown
returns-then-form_unknown c =
    let t = c in
    sym (checked_form _ _ t.trailer_fields-t.ensures (omega arith) (sym c.form_unknown.ensures ∙ c.if-form_unknown.true))

pub returns-then-counts_wrong : goal.returns-then-counts_wrong
returns-then-counts_wrong c =
    let left = c in
    let t = left in
    sym (checked_counts _ _ t.trailer_fields-t.ensures (omega arith)
    (sym left.form_unknown.ensures ∙ left.if-form_unknown.false) (sym c.counts_wrong.ensures ∙ c.if-counts_wrong.true))

pub length_by-requires : goal.length_by-requires
length_by-requires c = counts_few _ _ (sym c.counts_wrong.ensures ∙ c.if-counts_wrong.false)

pub returns-then-f-length_by : goal.returns-then-f-length_by
returns-then-f-length_by c =
    let counted = c in
    let left = counted in
    let t = left in
    sym (checked_length _ _ t.trailer_fields-t.ensures (omega arith)
    (sym left.form_unknown.ensures ∙ left.if-form_unknown.false)
    (sym counted.counts_wrong.ensures ∙ counted.if-counts_wrong.false) (λ e. omega (arith, c.length_by.ensures)))

pub returns : goal.returns
returns c =
    let counted = c in
    let left = counted in
    let t = left in
    sym (checked_good _ _ t.trailer_fields-t.ensures (omega arith)
    (sym left.form_unknown.ensures ∙ left.if-form_unknown.false)
    (sym counted.counts_wrong.ensures ∙ counted.if-counts_wrong.false) (omega (arith, c.length_by.ensures)))
