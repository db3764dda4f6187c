-- One scalar or none, and as many words as it takes (proofs/SetTarget). Assumes nothing.
use mathlib.Core.Path.{refl, ap, sym, ◌∙◌}
use native.Mathlib.Omega.{arith}
use Rattle.paths.specs.Set.{fit_of}
use Rattle.paths.proofs.SetTarget.{set_none, one_scalar, set_one, of_width, of_four, at_most_four, one_or_none, two_or_none, stored_large, stored_two, stored_four, stored_eight}
use Rattle.paths.proofs.set.fit_scalar.Goals as goal

pub returns-then-not-is_scalar : goal.returns-then-not-is_scalar
unfolding fit_of
returns-then-not-is_scalar c u bytes x b = ap fit_of (sym (set_none x _ b (sym c.is_scalar.ensures ∙ c.if-not-is_scalar.true)))

pub returns-then-words-ne2 : goal.returns-then-words-ne2
unfolding fit_of
returns-then-words-ne2 c u bytes x b =
    let y = one_scalar x (sym c.is_scalar.ensures ∙ c.if-not-is_scalar.false) in
    ap fit_of (sym (set_one y _ b ∙ two_or_none y.scalar _ _ b (of_width y 8 c.if-t-eq8.true) c.if-words-ne2.true))

pub returns-then-t-eq8 : goal.returns-then-t-eq8
unfolding fit_of
returns-then-t-eq8 c u bytes x b =
    let y = one_scalar x (sym c.is_scalar.ensures ∙ c.if-not-is_scalar.false) in
    let word = c.type_inv.words in
    ap fit_of (sym (set_one y _ b ∙ stored_eight y.scalar _ _ b (of_width y 8 c.if-t-eq8.true) c.if-words-ne2.false (word 0).fits (word 1).fits))

pub returns-then-words-ne1 : goal.returns-then-words-ne1
unfolding fit_of
returns-then-words-ne1 c u bytes x b =
    let y = one_scalar x (sym c.is_scalar.ensures ∙ c.if-not-is_scalar.false) in
    let short = at_most_four y c.if-t-eq8.false in
    ap fit_of (sym (set_one y _ b ∙ one_or_none y.scalar _ _ b (of_width y _ refl) short.0 short.1 c.if-words-ne1.true))

pub returns-then-words-gt65535 : goal.returns-then-words-gt65535
unfolding fit_of
returns-then-words-gt65535 c u bytes x b =
    let y = one_scalar x (sym c.is_scalar.ensures ∙ c.if-not-is_scalar.false) in
    ap fit_of (sym (set_one y _ b ∙ stored_large y.scalar _ _ b (of_width y 2 c.if-t-eq2.true) c.if-words-ne1.false (omega arith)))

pub returns-else-words-gt65535 : goal.returns-else-words-gt65535
unfolding fit_of
returns-else-words-gt65535 c u bytes x b =
    let y = one_scalar x (sym c.is_scalar.ensures ∙ c.if-not-is_scalar.false) in
    ap fit_of (sym (set_one y _ b ∙ stored_two y.scalar _ _ b (of_width y 2 c.if-t-eq2.true) c.if-words-ne1.false (omega arith)))

pub returns-else-t-eq2 : goal.returns-else-t-eq2
unfolding fit_of
returns-else-t-eq2 c u bytes x b =
    let y = one_scalar x (sym c.is_scalar.ensures ∙ c.if-not-is_scalar.false) in
    let word = c.type_inv.words in
    ap fit_of (sym (set_one y _ b ∙ stored_four y.scalar _ _ b (of_width y 4 (of_four y c.if-t-eq2.false c.if-t-eq8.false)) c.if-words-ne1.false (word 0).fits))
