-- A file of form 1 is put out (`on_goes`).
use Rattle.std.specs.Prelude.{Err}
use mathlib.Core.Path.{◌≡◌, refl}
use native.Mathlib.Omega.{arith}
use Rattle.wgsl.specs.File.{member_entry_length}
use Rattle.wgsl.specs.Number.{bytes_of}
use Rattle.said.proofs.Answered.{answered_refused, answered_same}
use Rattle.forms.proofs.FormIs.{told_form, told_other}
use Rattle.forms.proofs.MoveSaid.{form_checked, on_refused, on_goes}
use Rattle.forms.proofs.to_form_2.Goals as goal

pub put_out-requires : goal.put_out-requires
unfolding member_entry_length bytes_of
put_out-requires c =
    let told = told_form 1 _ _ c.form_is.ensures _ c.in_ok-t.was in
    (form_checked _ _ told.0 told.1, omega arith, omega arith, refl, refl)

pub returns-in_err-t : goal.returns-in_err-t
returns-in_err-t c =
    let r = c.in_err-t.field-0.0 in
    let is : c.from_residual.result ≡ Err r = grind arith in
    let both = answered_refused c.args.out.now (on_refused _ _ (told_other 1 _ _ c.form_is.ensures r c.in_err-t.was)) in
    record { answer = rw is both.0; out = both.1 }

pub returns : goal.returns
returns c =
    let told = told_form 1 _ _ c.form_is.ensures _ c.in_ok-t.was in
    let both = answered_same c.args.out.now (on_goes _ _ told.0) c.put_out.ensures in
    record { answer = both.0; out = both.1 }
