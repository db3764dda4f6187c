-- The planner and the checker of member orders (specs/Order, `plan_call` and `order_call`): when they are good, and what they answer.
--
-- In order: the members of a struct; the planner; one struct for each order; from an accepted order to the tests; from the tests to an
-- accepted order; the checker.
-- Assumes nothing.
use Prim.Native.Nat.{ℕ, ◌<◌}
use mathlib.Core.Bool.{true, ◌&&◌}
use mathlib.Core.List.{List, ◌++◌}
use mathlib.Core.Option.{some}
use mathlib.Core.Path.{◌≡◌, refl, sym, ◌∙◌}
use native.Mathlib.Omega.{arith}
use borrow.Author.Tests.{ltb-true, lt-ltb, ltb-false, le-ltb, eqb-true, eq-eqb}
use lib.Dec.{eqb, ltb}
use lib.ListN.{length, drop, get_or}
use Rattle.wgsl.specs.Types.{Ty, scalar, vector, matrix, array, runtime, atomic, struct, Members, everywhere}
use Rattle.wgsl.specs.Size.{fits_limit}
use Rattle.wgsl.specs.Said.{good, or_refuse}
use Rattle.wgsl.specs.File.{between, most_members}
use Rattle.wgsl.specs.Rule.{when, and_then, count_of, members_allowed, is_allowed, given_fits, is_well_formed}
use Rattle.wgsl.specs.Call.{entry_of}
use Rattle.wgsl.specs.Claim.{GoodIf}
use Rattle.wgsl.specs.Order.{members_in, struct_members, planned_order, plan_members, plan_call, reordered, all_differ, in_order, end_of, is_better, new_end, order_call}
use Rattle.wgsl.specs.OrderClaim.{One, member_at, CanPlan, Accepted, CanOrder}
use Rattle.wgsl.proofs.Absent.{both_hold, hold_both, some_not_none}
use Rattle.wgsl.proofs.Said.{then_good, then_is, refuse_good, refuse_no, or_refuse_good, when_some, and_then_some}
use Rattle.wgsl.proofs.Passed.{passed, well_formed, struct_passed}
use Rattle.wgsl.proofs.EntryFor.{entry_well_formed}
use Rattle.wgsl.proofs.OrderList.{differ, all_differ_lem, none_missing, full_differ, once_there, times_in}
use Rattle.wgsl.proofs.OrderMember.{member_low, members_same, runtime_last}
use Rattle.wgsl.proofs.OrderChosen.{reordered_some, reordered_there, Fits, each_fits, fits_all}

-- ---- the members of a struct

-- Only a struct has members.
members_in_lem : (t : Ty) {ms : Members} → members_in t ≡ some ms → (k : ℕ) × (t ≡ struct k ms)
unfolding members_in
members_in_lem (scalar s) e = some_not_none e refl
members_in_lem (vector n s) e = some_not_none e refl
members_in_lem (matrix c r s) e = some_not_none e refl
members_in_lem (array n t) e = some_not_none e refl
members_in_lem (runtime t) e = some_not_none e refl
members_in_lem (atomic s) e = some_not_none e refl
members_in_lem (struct k ns) e = (k, cc)

-- An entry whose members are found is a struct that has them,
pub struct_good : (f : List ℕ) (e : ℕ) {ms : Members} → struct_members f e ≡ good ms → (k : ℕ) × (entry_of f e ≡ good (struct k ms))
unfolding struct_members
struct_good f e h =
    let s = then_good _ _ h in
    let (k, q) = members_in_lem s.value (or_refuse_good 9 0 _ s.after) in
    (k, rw q at s.first)

-- and the members of a struct are found.
pub struct_is : (f : List ℕ) (e : ℕ) {k : ℕ} {ms : Members} → entry_of f e ≡ good (struct k ms) → struct_members f e ≡ good ms
unfolding struct_members members_in or_refuse
struct_is f e h = then_is _ h

-- ---- the planner

-- The planner puts the planned order into the list, and leaves what stands after it.
pub plan_leaves : {f : List ℕ} {e : ℕ} {lent : List ℕ} (c : CanPlan f e lent) → plan_call f e lent ≡ good (record { value = count_of c.members; contents = planned_order c.members ++ drop (count_of c.members) lent })
unfolding plan_call plan_members
plan_leaves {f} {e} {lent} c =
    then_is _ (struct_is f e c.entry) ∙ refuse_no 14 0 (le-ltb (length lent) (count_of c.members) c.room)

-- The planner is good exactly if the entry is a struct and the list has room for its members.
pub plan_good_if : (f : List ℕ) (e : ℕ) (lent : List ℕ) → GoodIf (plan_call f e lent) (CanPlan f e lent)
unfolding plan_call plan_members
plan_good_if f e lent = record {
  if_so = λ c. (_, plan_leaves c);
  only_if = λ d h.
      let s = then_good _ _ h in
      let (k, entry) = struct_good f e s.first in
      let room = refuse_good 14 0 _ _ s.after in
      record { number = k; members = s.value; entry = entry; room = ltb-false (length lent) (count_of s.value) room.0 };
}

-- ---- one struct for each order

-- The members that an order makes are determined.
pub order_new_one : {k : ℕ} {ms : Members} {order : List ℕ} {new other : Members} → Accepted k ms order new → Accepted k ms order other → new ≡ other
order_new_one {ms = ms} {new = new} {other} a b =
    members_same new other (a.count_same ∙ sym b.count_same)
    (λ i l. let low : i < count_of ms = omega (arith, a.count_same) in a.kept i low ∙ sym (b.kept i low))

-- ---- from an accepted order to the tests

accepted_in_order : {k : ℕ} {ms : Members} {order : List ℕ} {new : Members} → Accepted k ms order new → in_order ms order ≡ some new
unfolding in_order when
accepted_in_order {ms = ms} {order} {new} a =
    let (d, b) = full_differ (count_of ms) order (λ i l. times_in (a.once i l) (omega arith)) a.length_same in
    let (there, e) = reordered_there ms order b in
    let r = reordered_some ms order e in
    let same : there ≡ new =
    members_same there new (r.count ∙ a.length_same ∙ sym a.count_same)
    (λ i l. r.kept i (omega (arith, r.count)) ∙ sym (a.kept i (omega (arith, r.count, a.length_same)))) in
    rw (eq-eqb (length order) (count_of ms) a.length_same, all_differ_lem order d, e, same) refl

accepted_better : {e : ℕ} (k : ℕ) {ms : Members} {order : List ℕ} {new : Members} → everywhere is_well_formed (struct k ms) ≡ true → Accepted e ms order new → is_better e ms new ≡ true
unfolding is_better is_well_formed is_allowed given_fits
accepted_better {e} k {ms} {order} {new} w a =
    let p = struct_passed k ms w in
    let count = (both_hold (between 1 most_members (count_of ms)) (members_allowed ms) (passed (struct k ms) w).allowed).0 in
    let (allowed, given) = fits_all new fit (λ i l. a.runtime_last i (omega (arith, a.count_same))) in
    hold_both (is_allowed (struct e new) && given_fits (struct e new) && fits_limit (struct e new)) (ltb (end_of e new) (end_of e ms))
    (hold_both (is_allowed (struct e new) && given_fits (struct e new)) (fits_limit (struct e new))
    (hold_both (is_allowed (struct e new)) (given_fits (struct e new))
    (hold_both (between 1 most_members (count_of new)) (members_allowed new) (rw a.count_same count) allowed) given) a.within)
    (lt-ltb (end_of e new) (end_of e ms) a.smaller)
  where
    fit : (i : ℕ) (m : One) → member_at new i ≡ some m → Fits m
    fit i m h =
        let low : i < count_of ms = omega (arith, member_low new i h, a.count_same) in
        let p = struct_passed k ms w in
        each_fits ms p.below p.allowed p.given (get_or order i 0) (sym (a.kept i low) ∙ h)

-- ---- from the tests to an accepted order

accepted : {e : ℕ} (ms : Members) (order : List ℕ) {new : Members} → in_order ms order ≡ some new → is_better e ms new ≡ true → Accepted e ms order new
unfolding in_order is_better is_allowed
accepted {e} ms order {new} h better =
    let (tests, made) = when_some (eqb (length order) (count_of ms) && all_differ order) (reordered ms order) h in
    let (count, differing) = both_hold (eqb (length order) (count_of ms)) (all_differ order) tests in
    let same = eqb-true (length order) (count_of ms) count in
    let d = differ order differing in
    let r = reordered_some ms order made in
    let (well, less) = both_hold (is_well_formed (struct e new)) (ltb (end_of e new) (end_of e ms)) better in
    let p = well_formed (struct e new) well in
    let allowed = (both_hold (between 1 most_members (count_of new)) (members_allowed new) p.allowed).1 in
    record {
      once = λ i l. once_there d (none_missing (count_of ms) order d r.below same i l);
      length_same = same;
      count_same = r.count ∙ same;
      kept = λ i l. r.kept i (omega arith);
      runtime_last = λ i l. runtime_last new allowed i (omega (arith, r.count));
      within = p.fits;
      smaller = ltb-true (end_of e new) (end_of e ms) less;
    }

-- ---- the checker

-- An accepted order answers the end of the struct with its members in that order.
pub order_answers : {f : List ℕ} {e : ℕ} {order : List ℕ} (c : CanOrder f e order) → order_call f e order ≡ good (end_of e c.new)
unfolding order_call new_end and_then when or_refuse
order_answers {f} {e} c =
    let w = entry_well_formed f e (struct c.number c.members) c.entry in
    then_is _ (struct_is f e c.entry) ∙ rw (accepted_in_order c.accepted, accepted_better c.number w c.accepted) refl

-- The checker is good exactly if the entry is a struct and the order is accepted.
pub order_good_if : (f : List ℕ) (e : ℕ) (order : List ℕ) → GoodIf (order_call f e order) (CanOrder f e order)
unfolding order_call new_end
order_good_if f e order = record {
  if_so = λ c. (_, order_answers c);
  only_if = λ z h.
      let s = then_good _ _ h in
      let (k, entry) = struct_good f e s.first in
      let b = and_then_some _ _ (or_refuse_good 23 0 _ s.after) in
      let better = when_some (is_better e s.value b.value) _ b.after in
      record {
        number = k;
        members = s.value;
        entry = entry;
        new = b.value;
        accepted = accepted s.value order b.first better.0;
      };
}
