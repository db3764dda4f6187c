-- One more member of any kind, after members on which the verdict is known (`Meets`, specs/SoFar).
--
-- In order: which members are allowed; a member that breaks 5; one that breaks 6; one after members that break 6; one that joins; one
-- after members that are too large.
-- Assumes nothing.
use Rattle.std.specs.Prelude.{Err, Ok, Result}
use mathlib.Core.Bool.{Bool, true, false, ◌&&◌, ◌||◌, and-false, or-true}
use mathlib.Core.Logic.{⊎_elim}
use mathlib.Core.Path.{◌≡◌, sym, ◌∙◌}
use Rattle.wgsl.specs.Types.{Ty, Members, is_runtime}
use Rattle.wgsl.specs.Size.{is_present, size_of, align_of}
use Rattle.wgsl.specs.File.{MemberEntry, given_size, given_align, rest_is_zero}
use Rattle.wgsl.specs.Rule.{member_allowed, given_size_fits, given_align_fits}
use Rattle.wgsl.proofs.Absent.{both_hold, hold_both, either_holds, given_present}
use Rattle.wgsl.proofs.Power.{power_positive}
use Rattle.layout_values.specs.declared.value.Value.{Value}
use Rattle.layout_structs.specs.declared.Ends.{Ends}
use Rattle.layout_structs.specs.SoFar.{followed, so_far, stepped_to, Joins, Meets}
use Rattle.layout_structs.proofs.Going.{member_power, going_end}
use Rattle.layout_structs.proofs.SoFarOf.{placed_before, unfit_size, unfit_align, unfit_before, large_before, not_rule}
use Rattle.layout_values.specs.declared.value.Broken.{Broken}
use Rattle.layout_values.specs.declared.value.Broken.TheVariants.{Given, Large, Rule}

-- What may follow may also be the last.
pub allowed_last : (last : Bool) (t : Ty) → member_allowed last t ≡ true → member_allowed true t ≡ true
unfolding member_allowed
allowed_last last t e =
    let c = both_hold (is_present (align_of t)) (is_present (size_of t) || (last && is_runtime t)) e in
    hold_both (is_present (align_of t)) (is_present (size_of t) || is_runtime t) c.0
    (⊎_elim (λ (p : is_present (size_of t) ≡ true). rw p)
    (λ (p : (last && is_runtime t) ≡ true). rw (both_hold last (is_runtime t) p).1 (or-true (is_present (size_of t))))
    (either_holds (is_present (size_of t)) (last && is_runtime t) c.1))

aligned : (last : Bool) (t : Ty) → member_allowed last t ≡ true → is_present (align_of t) ≡ true
unfolding member_allowed
aligned last t e = (both_hold (is_present (align_of t)) (is_present (size_of t) || (last && is_runtime t)) e).0

module _ (last : Bool) (ms : Members) (t : Ty) (m : MemberEntry) where
  -- ---- a member that breaks 5

  pub steps_rest : rest_is_zero m ≡ false → stepped_to last ms t m ≡ Err Rule
  unfolding stepped_to
  steps_rest h = rw h

  pub steps_not_allowed : member_allowed last t ≡ false → stepped_to last ms t m ≡ Err Rule
  unfolding stepped_to
  steps_not_allowed h = rw (h, and-false (rest_is_zero m))

  module _ (rest : rest_is_zero m ≡ true) (allowed : member_allowed last t ≡ true) where
    pub steps_next : (r : Result Ends Broken) → so_far (followed ms t m) ≡ r → stepped_to last ms t m ≡ Ok r
    unfolding stepped_to
    steps_next r h = rw (rest, allowed, h)

    -- ---- a member that breaks 6

    pub steps_size : given_size_fits t (given_size m) ≡ false → stepped_to last ms t m ≡ Ok (Err Given)
    steps_size h = steps_next (Err Given) (unfit_size ms t (given_size m) (given_align m) h)

    pub steps_align : given_align_fits t (given_align m) ≡ false → stepped_to last ms t m ≡ Ok (Err Given)
    steps_align h = steps_next (Err Given) (unfit_align ms t (given_size m) (given_align m) h)

    module _ (run : Result Ends Broken) (l : Value) (j : Meets run l ms t) where
      module _ (size_fits : given_size_fits t (given_size m) ≡ true) (align_fits : given_align_fits t (given_align m) ≡ true) where
        -- ---- one that joins

        pub steps_joins : (p : Ends) → run ≡ Ok p → Joins p l m ms t
        steps_joins p e =
            let b = placed_before ms p (sym j.verdict ∙ e) in
            record {
              ends = b.2;
              layout = j.layout;
              going = j.going;
              given = b.0;
              fits = b.1;
              well_formed = j.well_formed;
              allowed = allowed_last last t allowed;
              size_fits = size_fits;
              align_fits = align_fits;
            }

        -- ---- one after members that break 6 or 7

        pub steps_past : (b : Broken) → run ≡ Err b → stepped_to last ms t m ≡ Ok (Err b)
        steps_past Rule e = not_rule ms (sym j.verdict ∙ e)
        steps_past Given e = steps_next (Err Given) (unfit_before ms t (given_size m) (given_align m) (sym j.verdict ∙ e))
        steps_past Large e =
            let z = going_end 0 ms j.going.sized in
            let a = given_present (given_align m) (align_of t) (aligned last t allowed) in
            let power = member_power t (given_align m) a.0 j.well_formed align_fits a.1 in
            steps_next (Err Large)
            (large_before ms t (given_size m) (given_align m) (sym j.verdict ∙ e) size_fits align_fits z.0 a.0
            z.1 a.1 (power_positive power))
