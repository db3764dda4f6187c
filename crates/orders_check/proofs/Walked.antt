-- What the loop of `end_in` knows after the members at the first positions of an order (`Walked`), and after one more.
--
-- In order: before the first; the next member, and a turn that goes on; a turn that rule 5 ends; the last member.
-- Assumes nothing.
use Rattle.std.specs.Prelude.{None, Ok, Result}
use Rattle.std.specs.Result.{result_ok}
use Prim.Native.Nat.{ℕ, suc, ◌+◌, ◌<◌, ◌≤◌}
use mathlib.Core.Bool.{true, false, ◌&&◌, and-false}
use mathlib.Core.List.{List}
use mathlib.Core.Option.{none, some}
use mathlib.Core.Path.{◌≡◌, refl, ◌∙◌}
use native.Mathlib.Numerals.{add-one}
use native.Mathlib.Omega.{arith}
use lib.ListN.{take, drop, get_or, length-drop, take-append-drop}
use lib.Seq.{take_all, take-suc, length-take-le}
use Rattle.wgsl.specs.Types.{Ty, struct, Members, no_more, everywhere, every_member}
use Rattle.wgsl.specs.File.{MemberEntry, given_size, given_align, rest_is_zero, between, most_members}
use Rattle.wgsl.specs.Rule.{count_of, member_allowed, members_allowed, is_allowed, given_size_fits, given_align_fits, members_given_fit, is_well_formed}
use Rattle.wgsl.specs.Order.{reordered}
use Rattle.wgsl.proofs.Absent.{hold_both, yes_or_no}
use Rattle.layout_values.specs.declared.value.Value.{Value}
use Rattle.layout_structs.specs.SoFar.{followed, so_far, all_sized, Going, Meets, stepped_to}
use Rattle.layout_structs.proofs.Appended.{after_every, after_given}
use Rattle.layout_structs.proofs.MembersAllowed.{allowed_so, allowed_after}
use Rattle.layout_structs.proofs.Meets.{steps_next, steps_not_allowed}
use Rattle.orders_check.specs.Checked.{laid_end, Last}
use Rattle.orders_check.proofs.LaidEnd.{never, err_is, end_none}
use Rattle.orders_check.proofs.Reordered.{reordered_count, reordered_after, reordered_refused}
use Rattle.orders_check.proofs.Entries.{Coming, Ordered}
use Rattle.layout_values.specs.declared.value.Broken.{Broken}
use Rattle.layout_structs.specs.declared.Ends.{Ends}

pub record Walked (ms : Members) (order : List ℕ) (i : ℕ) (run : Result Ends Broken) : Type 0 where
  pub members : Members
  pub read : reordered ms (take i order) ≡ some members
  pub verdict : run ≡ so_far members
  pub going : Going members
  pub given : members_given_fit members ≡ true

-- ---- before the first

pub walked_none : {run : (Result Ends Broken)} (ms : Members) (order : List ℕ) → run ≡ so_far no_more → Walked ms order 0 run
unfolding reordered all_sized every_member members_given_fit
walked_none ms order e =
    record { members = no_more; read = refl; verdict = e; going = record { sized = refl; well_formed = refl }; given = refl }

-- ---- the next member

-- what `stepped_to` tells of a member that is not the last
next_told : {r : (Result Ends Broken)} (ms : Members) (t : Ty) (e : MemberEntry) → rest_is_zero e ≡ true → Ok r ≡ stepped_to false ms t e → (member_allowed false t ≡ true) × (r ≡ so_far (followed ms t e))
next_told {r} ms t e z h =
    yes_or_no (member_allowed false t)
    (λ q. (q, let s = steps_next false ms t e z q (so_far (followed ms t e)) refl in cc (h, s)))
    (λ q. let s = steps_not_allowed false ms t e q in never (cc (h, s)))

rule_told : (s : Result (Result Ends Broken) Broken) (ms : Members) (t : Ty) (e : MemberEntry) → rest_is_zero e ≡ true → s ≡ stepped_to false ms t e → result_ok s ≡ None → member_allowed false t ≡ false
rule_told s ms t e z h n =
    yes_or_no (member_allowed false t)
    (λ q. let b = err_is s n in let r = steps_next false ms t e z q (so_far (followed ms t e)) refl in never (cc (h, b.1, r)))
    (λ q. q)

-- no rule allows members of which one is refused
not_allowed : (k : ℕ) (ms : Members) → members_allowed ms ≡ false → is_well_formed (struct k ms) ≡ false
unfolding is_well_formed is_allowed
not_allowed k ms e = rw (e, and-false (between 1 most_members (count_of ms)))

pub walked_meets : {ms : Members} {order : List ℕ} {i : ℕ} {run : (Result Ends Broken)} {e : MemberEntry} {l : Value} (d : Walked ms order i run) (m : Coming ms (get_or order i 0) e l) → Meets run l d.members m.type
walked_meets d m = record { verdict = d.verdict; layout = m.layout; going = d.going; well_formed = m.well_formed }

module _ {bytes : List ℕ} {table : List Value} {order : List ℕ} {first long last : ℕ} {ms : Members} {i : ℕ} {run : (Result Ends Broken)} {e : MemberEntry} {l : Value} (o : Ordered bytes table order first long last ms) (d : Walked ms order i run) (m : Coming ms (get_or order i 0) e l) (low : i ≤ last) where
  more_read : reordered ms (take (suc i) order) ≡ some (followed d.members m.type e)
  more_read =
      rw (take-suc order i 0 (omega (arith, o.length_is)))
      (reordered_after ms (get_or order i 0) m.type (given_size e) (given_align e) m.picks (take i order) d.members d.read)

  -- After a step that goes on, one more is known.
  pub walked_next : (r : Result Ends Broken) → Ok r ≡ stepped_to false d.members m.type e → Walked ms order (i + 1) r
  unfolding allowed_so
  walked_next r h =
      let x = next_told d.members m.type e m.rest_zero h in
      record {
        members = followed d.members m.type e;
        read = rw add-one more_read;
        verdict = x.1;
        going =
            record {
              sized =
                  allowed_after false d.members m.type (given_size e) (given_align e)
                  ∙ hold_both (all_sized d.members) (member_allowed false m.type) d.going.sized x.0;
              well_formed =
                  after_every m.type (given_size e) (given_align e) is_well_formed d.members
                  ∙ hold_both (every_member is_well_formed d.members) (everywhere is_well_formed m.type) d.going.well_formed m.well_formed;
            };
        given =
            after_given m.type (given_size e) (given_align e) d.members
            ∙ hold_both (members_given_fit d.members) (given_size_fits m.type (given_size e) && given_align_fits m.type (given_align e)) d.given
            (hold_both (given_size_fits m.type (given_size e)) (given_align_fits m.type (given_align e)) m.size_fits m.align_fits);
      }

  -- ---- a turn that rule 5 ends

  -- A runtime array that is not the last refuses the struct.
  pub walked_rule : (k : ℕ) (new : Members) (s : Result (Result Ends Broken) Broken) → i < last → s ≡ stepped_to false d.members m.type e → result_ok s ≡ None → reordered ms order ≡ some new → none ≡ laid_end k new
  unfolding allowed_so
  walked_rule k new s more h n is =
      let no = rule_told s d.members m.type e m.rest_zero h n in
      let sized : all_sized (followed d.members m.type e) ≡ false =
      allowed_after false d.members m.type (given_size e) (given_align e) ∙ rw no (and-false (all_sized d.members)) in
      end_none k new
      (not_allowed k new
      (reordered_refused ms (take (suc i) order) (drop (suc i) order) (followed d.members m.type e) new
      (omega (arith, length-drop (suc i) order, o.length_is)) more_read (rw take-append-drop is) sized))

  -- ---- the last member

  pub walked_last : Last run l e d.members m.type
  walked_last =
      record {
        meets = walked_meets d m;
        rest_zero = m.rest_zero;
        allowed = m.allowed;
        size_fits = m.size_fits;
        align_fits = m.align_fits;
        given = d.given;
        few = omega (arith, o.few, reordered_count ms (take i order) d.members d.read, length-take-le i order (omega (arith, o.length_is)));
      }

  -- With it the order is read.
  pub walked_all : (new : Members) → i ≡ last → reordered ms order ≡ some new → new ≡ followed d.members m.type e
  walked_all new at is =
      let all : take (suc i) order ≡ order = take_all (suc i) order (omega (arith, o.length_is)) in
      let r : reordered ms order ≡ some (followed d.members m.type e) = rw all at more_read in
      cc (is, r)
