-- What the loop over the members of a struct knows after i of them (`Reached`), and after one turn more (specs/SoFar).
--
-- In order: before the first; the next member (`Coming`), and a turn that goes on or that rule 5 ends; past the last.
-- Assumes nothing.
use Rattle.std.specs.Prelude.{Err, Ok, Result}
use Rattle.file.specs.Members.{member_length}
use Prim.Native.Nat.{ℕ, suc, ◌+◌, ◌*◌, ◌<◌, ◌≤◌}
use mathlib.Core.Bool.{Bool, true, false, cond, ◌&&◌, and-false}
use mathlib.Core.List.{List}
use mathlib.Core.Option.{none, some}
use mathlib.Core.Path.{◌≡◌, refl, sym, ap, ◌∙◌}
use native.Mathlib.Omega.{arith}
use native.Mathlib.Numerals.{add-one}
use borrow.Author.Tests.{ne_eqb}
use lib.Dec.{eqb}
use Rattle.wgsl.specs.Types.{Ty, struct, Members, no_more, ends_in_runtime, everywhere, every_member}
use Rattle.wgsl.specs.Size.{present, members_align, members_end, offsets_of, within_limits}
use Rattle.wgsl.specs.Round.{within_limit}
use Rattle.wgsl.specs.File.{MemberEntry, member_entry_from, given_size, given_align, rest_is_zero}
use Rattle.wgsl.specs.Rule.{when, and_then, lower, count_of, member_allowed, members_allowed, is_well_formed, members_given_fit}
use Rattle.wgsl.proofs.Absent.{both_hold, hold_both, some_not_none}
use Rattle.wgsl.proofs.Said.{when_some}
use Rattle.layout_values.specs.declared.value.Value.{Value}
use Rattle.layout_values.specs.Value.{narrowest, value_of, value_at, verdict_on, made_of}
use Rattle.layout_structs.specs.SoFar.{words_of_members, ends_of, members_fit, so_far, Meets, stepped_to, Closes, Lower, followed, all_sized}
use Rattle.layout_structs.proofs.MembersFrom.{joined, members_at, lower_found, lower_past}
use Rattle.layout_structs.proofs.Appended.{after_every, after_count}
use Rattle.layout_structs.proofs.Meets.{allowed_last}
use Rattle.layout_structs.proofs.MembersAllowed.{allowed_so, allowed_after, refused_members}
use Rattle.layout_values.specs.declared.value.Broken.{Broken}
use Rattle.layout_values.specs.declared.value.Broken.TheVariants.{Rule}
use Rattle.layout_structs.specs.declared.Ends.{Ends}

pub record Reached (f : List ℕ) (ts : List Ty) (at i n : ℕ) (run : Result Ends Broken) : Type 0 where
  pub members : Members
  pub read : members_at f ts at i ≡ some members
  pub verdict : run ≡ so_far members
  pub counted : count_of members ≡ i
  pub well_formed : every_member is_well_formed members ≡ true
  pub allowed : members_allowed members ≡ true
  pub sized : i < n → all_sized members ≡ true

-- the verdict on no members
pub no_members : Ok (record { end = 0; align = 1; words = 0; opens = false; narrow = 4 }) ≡ so_far no_more
unfolding so_far ends_of members_fit members_given_fit words_of_members within_limits within_limit members_end members_align offsets_of present ends_in_runtime narrowest
no_members = refl

pub reached_none : {run : (Result Ends Broken)} (f : List ℕ) (ts : List Ty) (at n : ℕ) → run ≡ so_far no_more → Reached f ts at 0 n run
unfolding members_at every_member count_of members_allowed all_sized
reached_none f ts at n e =
    record { members = no_more; read = refl; verdict = e; counted = refl; well_formed = refl; allowed = refl; sized = λ h. refl }

-- ---- the next member

-- what `stepped_to` tells
next_told : (last : Bool) (ms : Members) (t : Ty) (e : MemberEntry) (r : Result Ends Broken) → Ok r ≡ stepped_to last ms t e → ((rest_is_zero e && member_allowed last t) ≡ true) × (r ≡ so_far (followed ms t e))
unfolding stepped_to
next_told last ms t e r h = go (rest_is_zero e && member_allowed last t) h
  where
    go : (b : Bool) → Ok r ≡ cond b (Ok (so_far (followed ms t e))) (Err Rule) → (b ≡ true) × (r ≡ so_far (followed ms t e))
    go true q = (refl, cc)
    go false q = let z : ◌≡◌ {A = ℕ} 0 1 = cc in absurd (omega arith)

rule_told : (last : Bool) (ms : Members) (t : Ty) (e : MemberEntry) → (Err Rule) ≡ stepped_to last ms t e → (rest_is_zero e && member_allowed last t) ≡ false
unfolding stepped_to
rule_told last ms t e h = go (rest_is_zero e && member_allowed last t) h
  where
    go : (b : Bool) → (Err Rule) ≡ cond b (Ok (so_far (followed ms t e))) (Err Rule) → b ≡ false
    go true q = let z : ◌≡◌ {A = ℕ} 0 1 = cc in absurd (omega arith)
    go false q = refl

-- member i of n: its entry, of a lower type, whose layout is l
pub record Coming (f : List ℕ) (ts : List Ty) (at i n : ℕ) (e : MemberEntry) (l : Value) : Type 0 where
  pub before : i < n
  pub entry : e ≡ member_entry_from f (at + member_length f * i)
  pub type : Ty
  pub type_is : lower ts e.type ≡ some type
  pub layout : l ≡ value_of l.stride l.reference type
  pub well_formed : everywhere is_well_formed type ≡ true

pub coming : {f : List ℕ} {ts : List Ty} {at i n : ℕ} {e : MemberEntry} (table : List Value) (k r : ℕ) → Lower f table k ts → i < n → e ≡ member_entry_from f (at + member_length f * i) → r ≡ e.type → r < k → Coming f ts at i n e (value_at table r)
coming {f} {ts} table k r low h e q l =
    let x = lower_found f table k ts r low l in
    record {
      before = h;
      entry = e;
      type = x.type;
      type_is = rw (← q) x.is;
      layout = x.layout;
      well_formed = x.well_formed;
    }

module _ {f : List ℕ} {ts : List Ty} {at i n : ℕ} {e : MemberEntry} {l : Value} (run : Result Ends Broken) (d : Reached f ts at i n run) (m : Coming f ts at i n e l) where
  pub reached_meets : Meets run l d.members m.type
  reached_meets =
      record {
        verdict = d.verdict;
        layout = m.layout;
        going = record { sized = d.sized m.before; well_formed = d.well_formed };
        well_formed = m.well_formed;
      }

  -- what i + 1 members are
  more_read : members_at f ts at (suc i) ≡ when (rest_is_zero e) (some (followed d.members m.type e))
  unfolding members_at and_then joined
  more_read = rw (d.read, ← m.entry, m.type_is)

  -- After a step that goes on, i + 1 members are known.
  pub reached_next : (r : Result Ends Broken) → Ok r ≡ stepped_to (eqb (i + 1) n) d.members m.type e → Reached f ts at (i + 1) n r
  unfolding when allowed_so
  reached_next r h =
      let x = next_told (eqb (i + 1) n) d.members m.type e r h in
      let b = both_hold (rest_is_zero e) (member_allowed (eqb (i + 1) n) m.type) x.0 in
      record {
        members = followed d.members m.type e;
        read = rw add-one (more_read ∙ rw b.0);
        verdict = x.1;
        counted = after_count m.type (given_size e) (given_align e) d.members ∙ omega (arith, d.counted);
        well_formed =
            after_every m.type (given_size e) (given_align e) is_well_formed d.members
            ∙ hold_both (every_member is_well_formed d.members) (everywhere is_well_formed m.type) d.well_formed m.well_formed;
        allowed =
            allowed_after true d.members m.type (given_size e) (given_align e)
            ∙ hold_both (all_sized d.members) (member_allowed true m.type) (d.sized m.before)
            (allowed_last (eqb (i + 1) n) m.type b.1);
        sized =
            λ q.
            let t : eqb (i + 1) n ≡ false = ne_eqb (i + 1) n (λ z. omega arith) in
            allowed_after false d.members m.type (given_size e) (given_align e)
            ∙ hold_both (all_sized d.members) (member_allowed false m.type) (d.sized m.before) (rw t at b.1);
      }

  -- A step that rule 5 refuses refuses the struct.
  pub reached_rule : (long r k : ℕ) → (Err Rule) ≡ stepped_to (eqb (i + 1) n) d.members m.type e → made_of long r (and_then (members_at f ts at n) (λ ms. some (struct k ms))) ≡ Err Rule
  reached_rule long r k h =
      refused_members f ts at long r i n k m.before
      (λ ms x.
      let w = when_some (rest_is_zero e) (some (followed d.members m.type e)) (sym more_read ∙ x) in
      let q : ms ≡ followed d.members m.type e = cc w.1 in
      let no : member_allowed (eqb (i + 1) n) m.type ≡ false = rw w.0 at (rule_told (eqb (i + 1) n) d.members m.type e h) in
      ap (allowed_so (eqb (i + 1) n)) q ∙ allowed_after (eqb (i + 1) n) d.members m.type (given_size e) (given_align e)
      ∙ rw no (and-false (all_sized d.members)))

-- A member whose type is not lower refuses the struct.
pub reached_past : {f : List ℕ} {ts : List Ty} {at i n : ℕ} {e : MemberEntry} (table : List Value) (long r k : ℕ) (run : Result Ends Broken) → Reached f ts at i n run → Lower f table k ts → i < n → e ≡ member_entry_from f (at + member_length f * i) → k ≤ e.type → made_of long r (and_then (members_at f ts at n) (λ ms. some (struct k ms))) ≡ Err Rule
unfolding members_at and_then joined when
reached_past {f} {ts} {at} {i} {n} {e} table long r k run d low l h past =
    refused_members f ts at long r i n k l
    (λ ms x. some_not_none x (rw (d.read, ← h, lower_past f table k ts e.type low past) (none_when (rest_is_zero e))))
  where
    none_when : (b : Bool) → when {A = Members} b none ≡ none
    none_when true = refl
    none_when false = refl

-- ---- past the last

pub reached_closes : {f : List ℕ} {ts : List Ty} {at i n : ℕ} (run : Result Ends Broken) (d : Reached f ts at i n run) → i ≡ n → 1 ≤ n → n ≤ 1024 → Closes run d.members
reached_closes run d e low high =
    record {
      verdict = d.verdict;
      complete =
          record {
            some_there = omega (arith, d.counted);
            few = omega (arith, d.counted);
            allowed = d.allowed;
            well_formed = d.well_formed;
          };
    }

pub reached_made : {f : List ℕ} {ts : List Ty} {at i n : ℕ} (run : Result Ends Broken) (d : Reached f ts at i n run) (long r k : ℕ) → i ≡ n → made_of long r (and_then (members_at f ts at n) (λ ms. some (struct k ms))) ≡ verdict_on long r (struct k d.members)
unfolding and_then made_of
reached_made run d long r k e = rw (← e, d.read)
