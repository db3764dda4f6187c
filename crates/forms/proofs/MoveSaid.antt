-- What the two moves say (crates/wgsl, specs/Form), by what was found of the file.
--
-- In order: its trailer; the move on; the move back.
-- Assumes nothing.
use Prim.Native.Nat.{ℕ, ◌+◌, ◌*◌, ◌≤◌}
use mathlib.Core.Bool.{true, false, not}
use mathlib.Core.List.{List, [], ◌∷◌}
use mathlib.Core.Path.{◌≡◌, refl, ap, sym, ◌∙◌}
use native.Mathlib.Nat.{mul-zero}
use native.Mathlib.Omega.{arith}
use lib.ListN.{length}
use Rattle.wgsl.specs.Said.{Said, good, refused, ◌>>◌}
use Rattle.wgsl.specs.File as wgsl
use Rattle.wgsl.specs.File.{trailer_of, check_trailer, member_entry_length, length_by}
use Rattle.wgsl.specs.Form.{member_place, nameless, moved_to, to_form1, to_form2, form_is, put_out, move_on_call, move_back_call}
use Rattle.wgsl.specs.Claim.{OfForm}
use Rattle.wgsl.proofs.Said.{next_is, refuse_no, refuse_yes}
use Rattle.wgsl.proofs.Trailed.{trailed_good}
use Rattle.wgsl.proofs.MoveCall.{trailed_of, form_good}
use Rattle.file.specs.Fields.{trailer_is}
use Rattle.file.specs.declared.trailer.Trailer.{Trailer}

next_refused : {A B : Type 0} {m : Said A} {number place : ℕ} (rest : Said B) → m ≡ refused number place → ◌>>◌ m rest ≡ refused number place
unfolding ◌>>◌
next_refused rest e = rw e refl

-- ---- its trailer

module _ {form : ℕ} (f : List ℕ) (t : Trailer) (o : OfForm form f) (is : trailer_is t ≡ trailer_of f) where
  pub form_checked : check_trailer f ≡ good (trailer_is t)
  form_checked = trailed_good (trailed_of o) ∙ ap good (sym is)

  pub entries_begin : t.start + 12 * t.types ≡ member_place f 0
  unfolding member_place
  entries_begin = rw (← is, mul-zero) (omega arith)

  pub entries_inside : t.start + 12 * t.types + member_entry_length form * t.members ≤ length f
  unfolding length_by
  entries_inside =
      let long = rw (← is) at (trailed_of o).long in
      let same : t.form ≡ form = ap (λ (r : wgsl.Trailer). r.form) is ∙ o.is_form in
      rw (← same) (omega (arith, long))

  pub members_are : t.members ≡ (trailer_of f).members
  members_are = ap (λ (r : wgsl.Trailer). r.members) is

-- ---- the move on

pub on_refused : {number place : ℕ} (f out : List ℕ) → form_is 1 f ≡ refused number place → move_on_call f out ≡ refused number place
unfolding move_on_call
on_refused f out e = next_refused _ e

pub on_goes : (f out : List ℕ) → OfForm 1 f → move_on_call f out ≡ put_out (moved_to 2 (0 ∷ 0 ∷ 0 ∷ 0 ∷ []) f) out
unfolding move_on_call to_form2
on_goes f out o = next_is _ (form_good o)

-- ---- the move back

pub back_refused : {number place : ℕ} (f out : List ℕ) → form_is 2 f ≡ refused number place → move_back_call f out ≡ refused number place
unfolding move_back_call
back_refused f out e = next_refused _ e

module _ (f out : List ℕ) (o : OfForm 2 f) where
  pub back_named : not (nameless f (trailer_of f).members) ≡ true → move_back_call f out ≡ refused 20 0
  unfolding move_back_call
  back_named h = next_is _ (form_good o) ∙ refuse_yes _ h

  pub back_goes : not (nameless f (trailer_of f).members) ≡ false → move_back_call f out ≡ put_out (moved_to 1 [] f) out
  unfolding move_back_call to_form1
  back_goes h = next_is _ (form_good o) ∙ refuse_no 20 0 h
