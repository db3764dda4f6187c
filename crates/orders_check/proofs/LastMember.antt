-- Where a struct ends whose last member comes after those that are told (`Last`, specs/Checked).
--
-- In order: a number given or the type's own; all its members; members that are too large; a last member that is a runtime array; one that is not.
-- Assumes nothing.
use Rattle.std.specs.Prelude as std
use Rattle.std.specs.Prelude.{Err, None, Ok, Result, Some}
use Rattle.std.specs.Result.{result_ok}
use Prim.Native.Nat.{ℕ, max, min}
use mathlib.Core.Bool.{true, false, ◌||◌}
use mathlib.Core.Logic.{⊎_elim}
use mathlib.Core.Option.{Option, none, some}
use mathlib.Core.Path.{◌≡◌, refl, sym, ap, ◌∙◌}
use native.Mathlib.Omega.{arith}
use Rattle.wgsl.specs.Round.{IsPower, up}
use Rattle.wgsl.specs.Types.{Ty, struct, Members, is_runtime, is_open, ends_in_runtime, everywhere, every_member}
use Rattle.wgsl.specs.Size.{given_or, is_present, present, size_of, align_of, members_end, member_start}
use Rattle.wgsl.specs.File.{TypeEntry, MemberEntry, given_size, given_align}
use Rattle.wgsl.specs.Rule.{count_of, member_allowed, is_well_formed}
use Rattle.wgsl.specs.Place.{tail_of, extent_of}
use Rattle.wgsl.specs.Order.{end_of}
use Rattle.wgsl.proofs.Absent.{both_hold, hold_both, either_holds, true_not_false, present_some, present_is}
use Rattle.wgsl.proofs.Tail.{closed_not_runtime, closed_extent, sized_closed}
use Rattle.numbers.specs.Limit.{limited}
use Rattle.layout_members.specs.Given.{or_own}
use Rattle.layout_values.specs.declared.value.Value.{Value}
use Rattle.layout_values.specs.Value.{value_of}
use Rattle.layout_structs.specs.declared.Ends.{Ends}
use Rattle.layout_structs.specs.SoFar.{all_sized, followed, ends_of, struct_of, so_far, stepped_to, Joins, Complete, Ended}
use Rattle.layout_structs.proofs.Appended.{after_count, after_every, after_runtime}
use Rattle.layout_structs.proofs.Going.{next_start, going_end}
use Rattle.layout_structs.proofs.SoFarOf.{limited_is}
use Rattle.layout_structs.proofs.MembersAllowed.{allowed_so, allowed_after}
use Rattle.layout_structs.proofs.Joins.{joins_power, joins_past, joins_open}
use Rattle.layout_structs.proofs.Meets.{steps_next, steps_joins, steps_past}
use Rattle.layout_structs.proofs.Ended.{closes_placed, closes_past, ended_power, ended_opens, ended_closes, ended_past}
use Rattle.orders_check.specs.Checked.{laid_end, Last}
use Rattle.orders_check.proofs.LaidEnd.{never, ok_is, err_is, not_ok, verdict_laid, verdict_broken, end_none, end_some, tail_after, tail_start}
use Rattle.layout_values.specs.declared.value.Broken.{Broken}
use Rattle.layout_values.specs.declared.value.Broken.TheVariants.{Large}
use Rattle.said.specs.Answer.{maybe_of}

-- the number given, or the type's own
given_known : (given own : Option ℕ) (x z : ℕ) → own ≡ some x → z ≡ or_own given x → given_or given own ≡ some z
unfolding or_own given_or present
given_known (some n) own x z e f = ap some (sym f)
given_known none own x z e f = e ∙ ap some (sym f)

module _ {run : (Result Ends Broken)} {l : Value} {m : MemberEntry} {ms : Members} {t : Ty} (j : Last run l m ms t) where
  -- ---- all its members

  complete : Complete (followed ms t m)
  unfolding allowed_so
  complete =
      record {
        some_there = omega (arith, after_count t (given_size m) (given_align m) ms);
        few = omega (arith, after_count t (given_size m) (given_align m) ms, j.few);
        allowed =
            allowed_after true ms t (given_size m) (given_align m)
            ∙ hold_both (all_sized ms) (member_allowed true t) j.meets.going.sized j.allowed;
        well_formed =
            after_every t (given_size m) (given_align m) is_well_formed ms
            ∙ hold_both (every_member is_well_formed ms) (everywhere is_well_formed t) j.meets.going.well_formed j.meets.well_formed;
      }

  -- an entry of as many members
  abbrev entry : TypeEntry
  entry =
      record { kind = 12; columns = 0; rows = 0; zero3 = 0; reference = 0; zero6 = 0; count = count_of (followed ms t m) }

  -- The last member is stepped to.
  pub last_stepped : stepped_to true ms t m ≡ Ok (so_far (followed ms t m))
  last_stepped = steps_next true ms t m j.rest_zero j.allowed (so_far (followed ms t m)) refl

  pub all_told : (s : Result (Result Ends Broken) Broken) {r : Result Ends Broken} → s ≡ stepped_to true ms t m → result_ok s ≡ Some r → r ≡ so_far (followed ms t m)
  all_told s e h =
      let q = ok_is s h in
      cc (e, last_stepped, q)

  pub all_there : {A : Type 0} (s : Result (Result Ends Broken) Broken) → s ≡ stepped_to true ms t m → result_ok s ≡ None → A
  all_there s e h =
      let q = err_is s h in
      never (cc (e, last_stepped, q.1))

  -- ---- members that are too large

  -- Where all have no value, there is no end.
  pub all_broken : (k : ℕ) (r : Result Ends Broken) → r ≡ so_far (followed ms t m) → result_ok r ≡ None → none ≡ laid_end k (followed ms t m)
  all_broken k r e h =
      let b = err_is r h in
      end_none k (followed ms t m)
      (verdict_broken 0 0 (struct k (followed ms t m)) b.0
      (closes_past 0 0 k r b.0 (followed ms t m) (record { verdict = e; complete = complete }) b.1))

  -- Where those before have none, all have none.
  pub before_broken : (k : ℕ) → result_ok run ≡ None → none ≡ laid_end k (followed ms t m)
  before_broken k h =
      let b = err_is run h in
      let s = steps_past true ms t m j.rest_zero j.allowed run l j.meets j.size_fits j.align_fits b.0 b.1 in
      all_broken k run (cc (last_stepped, s, b.1)) h

  -- .. whatever they say that is not where they end.
  pub all_large : (k : ℕ) (r : Result Ends Broken) → r ≡ so_far (followed ms t m) → ((x : Ends) → r ≡ Ok x → ⊥) → none ≡ laid_end k (followed ms t m)
  all_large k r e h = all_broken k r e (not_ok r h)

  pub before_large : (k : ℕ) → ((x : Ends) → run ≡ Ok x → ⊥) → none ≡ laid_end k (followed ms t m)
  before_large k h = before_broken k (not_ok run h)

  -- ---- a last member that is a runtime array

  module _ (p : Ends) (is : run ≡ Ok p) (al : ℕ) (al_is : al ≡ or_own (given_align m) l.align) where
    joins : Joins p l m ms t
    joins = steps_joins true ms t m j.rest_zero j.allowed run l j.meets j.size_fits j.align_fits p is

    pub open_power : IsPower al
    open_power = joins_power p l m ms t joins al al_is

    end_known : members_end (some 0) ms ≡ some p.end
    unfolding ends_of
    end_known =
        let z = going_end 0 ms j.meets.going.sized in
        let e : p.end ≡ z.0 = ap (λ (x : Ends). x.end) joins.ends ∙ ap present z.1 ∙ present_is z.0 in
        rw e z.1

    aligned : is_present (align_of t) ≡ true
    unfolding member_allowed
    aligned = (both_hold (is_present (align_of t)) (is_present (size_of t) || is_runtime t) j.allowed).0

    align_known : given_or (given_align m) (align_of t) ≡ some al
    unfolding value_of
    align_known =
        let own = present_some (align_of t) aligned in
        let e : l.align ≡ own.0 = ap (λ (v : Value). v.align) j.meets.layout ∙ ap present own.1 ∙ present_is own.0 in
        given_known (given_align m) (align_of t) own.0 al own.1 (al_is ∙ ap (or_own (given_align m)) e)

    open_runtime : is_open t ≡ true → is_runtime t ≡ true
    unfolding member_allowed
    open_runtime o =
        ⊎_elim
        (λ (q : is_present (size_of t) ≡ true).
        let z = present_some (size_of t) q in
        true_not_false o (sized_closed t z.0 j.meets.well_formed z.1))
        (λ (q : is_runtime t ≡ true). q)
        (either_holds (is_present (size_of t)) (is_runtime t)
        (both_hold (is_present (align_of t)) (is_present (size_of t) || is_runtime t) j.allowed).1)

    open_end : (k : ℕ) → is_open t ≡ true → end_of k (followed ms t m) ≡ up al p.end
    unfolding end_of extent_of tail_of member_start
    open_end k o =
        rw (tail_after t (given_size m) (given_align m) none (some 0) ms, next_start end_known align_known)
        (tail_start t (size_of (struct k (followed ms t m))) (up al p.end) (open_runtime o))

    -- The struct ends where it starts.
    pub open_found : (k : ℕ) → is_open t ≡ true → (r : std.Option ℕ) → r ≡ limited (up al p.end) → maybe_of r ≡ laid_end k (followed ms t m)
    open_found k o (Some n) h =
        let placed = joins_open p l m ms t joins al al_is n (sym h) (max p.align al) refl (min p.narrow l.narrow) refl o in
        let ended = closes_placed _ _ (followed ms t m) (record { verdict = sym placed; complete = complete }) refl in
        let v = verdict_laid 0 0 (struct k (followed ms t m)) _ (ended_opens 0 k entry _ (followed ms t m) ended refl refl) in
        end_some k (followed ms t m) n v.0 (open_end k o ∙ (limited_is (up al p.end) n (sym h)).1)
    open_found k o None h = all_broken k (Err Large) (sym (joins_past p l m ms t joins al al_is (sym h))) refl

  -- ---- one that is not

  module _ (o : is_open t ≡ false) (p : Ends) (is : Ok p ≡ so_far (followed ms t m)) where
    ended : Ended p (followed ms t m)
    ended = closes_placed (Ok p) p (followed ms t m) (record { verdict = is; complete = complete }) refl

    no_tail : ends_in_runtime false (followed ms t m) ≡ false
    no_tail = after_runtime t (given_size m) (given_align m) false ms ∙ closed_not_runtime t o

    not_open : p.opens ≡ false
    unfolding ends_of
    not_open = ap (λ (x : Ends). x.opens) ended.ends ∙ no_tail

    pub closed_power : IsPower p.align
    closed_power = ended_power p (followed ms t m) ended not_open

    closed_end : (k n : ℕ) → value_of 0 0 (struct k (followed ms t m)) ≡ struct_of 0 entry p n → end_of k (followed ms t m) ≡ n
    unfolding end_of is_open value_of struct_of
    closed_end k n e = closed_extent 0 (struct k (followed ms t m)) no_tail ∙ ap (λ (x : Value). x.size) e

    -- The struct ends at its size.
    pub closed_found : (k : ℕ) (r : std.Option ℕ) → r ≡ limited (up p.align p.end) → maybe_of r ≡ laid_end k (followed ms t m)
    closed_found k (Some n) h =
        let v = verdict_laid 0 0 (struct k (followed ms t m)) _ (ended_closes 0 k entry p (followed ms t m) n ended refl not_open h) in
        end_some k (followed ms t m) n v.0 (closed_end k n v.1)
    closed_found k None h =
        end_none k (followed ms t m)
        (verdict_broken 0 0 (struct k (followed ms t m)) Large (ended_past 0 0 k p (followed ms t m) ended not_open h))
