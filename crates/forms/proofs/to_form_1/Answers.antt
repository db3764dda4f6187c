-- A file of form 2 without names is put out (`back_goes`).
use Rattle.std.specs.Prelude.{Err}
use mathlib.Core.Path.{◌≡◌, refl, ap, sym, ◌∙◌}
use mathlib.Core.Bool.{not}
use native.Mathlib.Omega.{arith}
use Rattle.wgsl.specs.File.{member_entry_length}
use Rattle.wgsl.specs.Number.{bytes_of}
use Rattle.wgsl.specs.Form.{nameless}
use Rattle.said.proofs.Answered.{answered_refused, answered_same}
use Rattle.forms.proofs.FormIs.{told_form, told_other}
use Rattle.forms.proofs.MoveSaid.{form_checked, entries_begin, entries_inside, members_are, back_refused, back_named, back_goes}
use Rattle.forms.proofs.to_form_1.Goals as goal

pub is_named-requires : goal.is_named-requires
unfolding member_entry_length
is_named-requires c =
    let told = told_form 2 _ _ c.form_is.ensures _ c.in_ok-t.was in
    let start = c.wide.ensures.0 in
    let types = c.wide-2.ensures.0 in (
      told.0.is_form,
      omega (arith, start, types, entries_begin _ _ told.0 told.1),
      omega (arith, start, types, c.wide-3.ensures.0, entries_inside _ _ told.0 told.1),
    )

pub returns-then-is_named : goal.returns-then-is_named
returns-then-is_named c =
    let told = told_form 2 _ _ c.form_is.ensures _ c.in_ok-t.was in
    let all = c.wide-3.ensures.0 ∙ members_are _ _ told.0 told.1 in
    let both = answered_refused c.args.out.now
    (back_named _ _ told.0 (ap (λ n. not (nameless c.args.file.now n)) (sym all) ∙ sym c.is_named.ensures ∙ c.if-is_named.true)) in
    record { answer = both.0; out = both.1 }

pub put_out-requires : goal.put_out-requires
unfolding member_entry_length bytes_of
put_out-requires c =
    let told = told_form 2 _ _ c.form_is.ensures _ c.in_ok-t.was in
    (form_checked _ _ told.0 told.1, omega arith, omega arith, refl, refl)

pub returns-in_err-t : goal.returns-in_err-t
returns-in_err-t c =
    let r = c.in_err-t.field-0.0 in
    let is : c.from_residual.result ≡ Err r = grind arith in
    let both = answered_refused c.args.out.now (back_refused _ _ (told_other 2 _ _ c.form_is.ensures r c.in_err-t.was)) in
    record { answer = rw is both.0; out = both.1 }

pub returns : goal.returns
returns c =
    let told = told_form 2 _ _ c.form_is.ensures _ c.in_ok-t.was in
    let all = c.wide-3.ensures.0 ∙ members_are _ _ told.0 told.1 in
    let both = answered_same c.args.out.now
    (back_goes _ _ told.0 (ap (λ n. not (nameless c.args.file.now n)) (sym all) ∙ sym c.is_named.ensures ∙ c.if-is_named.false))
    c.put_out.ensures in
    record { answer = both.0; out = both.1 }
