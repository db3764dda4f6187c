-- What `trailer_of_form` (specs/OfForm) says of a file, and what it tells of one.
--
-- In order: by its tests; what an answer tells.
-- Assumes nothing.
use Rattle.std.specs.Prelude.{Err, Ok, Result}
use Prim.Native.Nat.{ℕ, ◌<◌, ◌≤◌}
use mathlib.Core.List.{List}
use mathlib.Core.Path.{◌≡◌, refl, ap, sym, ◌∙◌}
use borrow.Author.Tests.{lt-ltb, le-ltb, eq-eqb, ne_eqb}
use lib.ListN.{length}
use Rattle.wgsl.specs.Said.{Said, good, refused, refuse, ◌>>◌, ◌>>=◌}
use Rattle.wgsl.specs.File.{trailer_of}
use Rattle.wgsl.specs.Rule.{types_of}
use Rattle.wgsl.specs.Form.{form_is}
use Rattle.wgsl.specs.Claim.{OfForm}
use Rattle.wgsl.proofs.Said.{next_good}
use Rattle.wgsl.proofs.MoveCall.{form_only}
use Rattle.said.specs.Refusal.{number_of, place_of}
use Rattle.said.specs.declared.refusal.Refusal.{Refusal}
use Rattle.file.specs.Fields.{trailer_is}
use Rattle.file.specs.declared.trailer.Trailer.{Trailer}
use Rattle.layout_table.specs.Table.{accepted_trailer, said_checked}
use Rattle.forms.specs.OfForm.{trailer_of_form}

module _ (form : ℕ) (f : List ℕ) where
  -- ---- by its tests

  pub form_short : length f < 10 → trailer_of_form form f ≡ refused 1 0
  unfolding trailer_of_form form_is refuse ◌>>◌
  form_short h = rw (lt-ltb (length f) 10 h) refl

  pub form_other : 10 ≤ length f → ((trailer_of f).form ≡ form → ⊥) → trailer_of_form form f ≡ refused 2 0
  unfolding trailer_of_form form_is refuse ◌>>◌
  form_other long h = rw (le-ltb (length f) 10 long, ne_eqb (trailer_of f).form form h) refl

  pub form_taken : 10 ≤ length f → (trailer_of f).form ≡ form → trailer_of_form form f ≡ accepted_trailer f
  unfolding trailer_of_form form_is accepted_trailer refuse ◌>>◌ ◌>>=◌
  form_taken long h = rw (le-ltb (length f) 10 long, eq-eqb (trailer_of f).form form h) (same (types_of f))
    where
      same : {A : Type 0} (x : Said A) → ◌>>◌ (◌>>=◌ x (λ a. good (tt {0}))) (good (trailer_of f)) ≡ ◌>>=◌ x (λ a. good (trailer_of f))
      same (good a) = refl
      same (refused number place) = refl

  -- ---- what an answer tells

  module _ (answer : Result Trailer Refusal) (says : said_checked answer ≡ trailer_of_form form f) where
    pub told_form : (t : Trailer) → answer ≡ Ok t → OfForm form f × (trailer_is t ≡ trailer_of f)
    unfolding trailer_of_form
    told_form t is =
        let x = next_good (form_is form f) (good (trailer_of f)) (sym says ∙ ap said_checked is) in
        (form_only form f x.0, cc x.1)

    -- A file that is refused is no file of this form.
    pub told_other : (r : Refusal) → answer ≡ Err r → form_is form f ≡ refused (number_of r) (place_of r)
    unfolding trailer_of_form ◌>>◌
    told_other r is = go (form_is form f) (sym says ∙ ap said_checked is)
      where
        go : (x : Said (Unit {0})) → ◌>>◌ x (good (trailer_of f)) ≡ refused (number_of r) (place_of r) → x ≡ refused (number_of r) (place_of r)
        go (good u) e = cc
        go (refused number place) e = cc
