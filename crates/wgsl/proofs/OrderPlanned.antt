-- The planned order (specs/OrderClaim, `IsPlanned`): the planner's list is it, and no other list is.
--
-- In order: sorted lists; those of the planner; the planned order; its length; no other.
-- Assumes nothing.
use Prim.Native.Nat.{ℕ, zero, suc, ◌+◌, ◌^◌, ◌<◌}
use mathlib.Core.Bool.{Bool, true, false, not, ◌&&◌, cond}
use mathlib.Core.List.{List, [], ◌∷◌, ◌++◌, Memᴰ}
use mathlib.Core.Logic.{◌⊎◌, inl, inr, ⊎_elim}
use mathlib.Core.Path.{◌≡◌, refl, sym, ◌∙◌}
use native.Mathlib.Omega.{arith}
use native.Mathlib.Nat.{zero-add}
use lib.Dec.{eqb}
use lib.Pow.{pow-lt}
use lib.ListN.{length, length-append}
use Rattle.wgsl.specs.Types.{struct, Members, no_more, member, is_runtime, everywhere}
use Rattle.wgsl.specs.Size.{given_or, present, align_of}
use Rattle.wgsl.specs.Rule.{count_of, is_last, member_allowed, members_allowed, is_well_formed}
use Rattle.wgsl.specs.Order.{aligned_at, falling, runtimes_at, planned_order}
use Rattle.wgsl.specs.OrderClaim.{align_at, is_runtime_at, Precedes, Sorted, IsPlanned}
use Rattle.wgsl.proofs.Absent.{both_hold, yes_or_no, true_not_false}
use Rattle.wgsl.proofs.Passed.{struct_passed}
use Rattle.wgsl.proofs.OrderList.{Differ, just_as_many}
use Rattle.wgsl.proofs.OrderMember.{runtime_end, member_power}
use Rattle.wgsl.proofs.OrderAligned.{in_cond, aligned_out, aligned_here, falling_out, falling_in, runtimes_out, runtimes_in}

-- ---- sorted lists

-- Nothing goes before what goes before it,
pub precedes_once : {ms : Members} {i j : ℕ} → Precedes ms i j → Precedes ms j i → ⊥
precedes_once {ms} {i} {j} p q =
    ⊎_elim (λ (h : is_runtime_at ms j ≡ true). true_not_false h q.not_runtime)
    (λ (h : (align_at ms j < align_at ms i) ⊎ ((align_at ms i ≡ align_at ms j) × (i < j))).
    ⊎_elim (λ (k : is_runtime_at ms i ≡ true). true_not_false k p.not_runtime)
    (λ (k : (align_at ms i < align_at ms j) ⊎ ((align_at ms j ≡ align_at ms i) × (j < i))). clash h k) q.why)
    p.why
  where
    clash : {a b : ℕ} → (b < a) ⊎ ((a ≡ b) × (i < j)) → (a < b) ⊎ ((b ≡ a) × (j < i)) → ⊥
    clash (inl l) (inl m) = omega arith
    clash (inl l) (inr m) = omega (arith, m.0)
    clash (inr l) (inl m) = omega (arith, l.0)
    clash (inr l) (inr m) = omega (arith, l.1, m.1)

-- so no two of a sorted list are the same.
pub sorted_differ : (ms : Members) (l : List ℕ) → Sorted ms l → Differ l
unfolding Sorted Differ
sorted_differ ms [] s = tt
sorted_differ ms (i ∷ l) s = (λ m. precedes_once (s.0 i m) (s.0 i m), sorted_differ ms l s.1)

sorted_append : (ms : Members) (a b : List ℕ) → Sorted ms a → Sorted ms b → ((i j : ℕ) → Memᴰ i a → Memᴰ j b → Precedes ms i j) → Sorted ms (a ++ b)
unfolding Sorted
sorted_append ms [] b s r h = r
sorted_append ms (i ∷ a) b s r h = (
  λ j m. ⊎_elim (s.0 j) (λ (m' : Memᴰ j b). h i j (mathlib.Core.List.Memᴰ.head refl) m') (mathlib.Core.List.Memᴰ.append_cases a m),
  sorted_append ms a b s.1 r (λ i' j m m'. h i' j (mathlib.Core.List.Memᴰ.tail m) m'),
)

sorted_cond : (ms : Members) (i : ℕ) (test : Bool) (l : List ℕ) → Sorted ms l → (test ≡ true → (j : ℕ) → Memᴰ j l → Precedes ms i j) → Sorted ms (cond test (i ∷ l) l)
unfolding Sorted
sorted_cond ms i true l s h = (h refl, s)
sorted_cond ms i false l s h = s

-- ---- those of the planner

aligned_sorted : (all : Members) (a i : ℕ) (ms : Members) → ((p : ℕ) → Memᴰ p (aligned_at a i ms) → (is_runtime_at all p ≡ false) × (align_at all p ≡ a)) → Sorted all (aligned_at a i ms)
unfolding aligned_at Sorted
aligned_sorted all a i no_more h = tt
aligned_sorted all a i (member t size align ms) h =
    let test : Bool = not (is_runtime t) && eqb (present (given_or align (align_of t))) a in
    sorted_cond all i test (aligned_at a (suc i) ms)
    (aligned_sorted all a (suc i) ms (λ p m. h p (in_cond i test m)))
    (λ e j m.
    let here = h i (rw e (mathlib.Core.List.Memᴰ.head {x = i} refl)) in
    let there = h j (in_cond i test m) in
    let r = aligned_out a (suc i) ms m in
    record { not_runtime = here.0; why = inr (inr (here.1 ∙ sym there.1, omega arith)) })

falling_sorted : (j : ℕ) (ms : Members) → Sorted ms (falling j ms)
unfolding falling Sorted
falling_sorted zero ms = tt
falling_sorted (suc j) ms =
    sorted_append ms (aligned_at (2 ^ j) 0 ms) (falling j ms)
    (aligned_sorted ms (2 ^ j) 0 ms (λ p m. let r = aligned_here (2 ^ j) ms m in (r.1, r.2))) (falling_sorted j ms)
    (λ p q m m'.
    let r = aligned_here (2 ^ j) ms m in
    let s = falling_out j ms m' in
    record { not_runtime = r.1; why = inr (inl (rw (r.2, s.align_is) (pow-lt s.small))) })

runtimes_sorted : (all : Members) (i : ℕ) (ms : Members) → members_allowed ms ≡ true → Sorted all (runtimes_at i ms)
unfolding runtimes_at Sorted members_allowed
runtimes_sorted all i no_more ok = tt
runtimes_sorted all i (member t size align ms) ok =
    sorted_cond all i (is_runtime t) (runtimes_at (suc i) ms)
    (runtimes_sorted all (suc i) ms (both_hold (member_allowed (is_last ms) t) (members_allowed ms) ok).1)
    (λ e j m. absurd (omega (arith, runtime_end t size align ms ok e, (runtimes_out (suc i) ms m).low)))

-- ---- the planned order

-- The planner's list is the planned order.
pub planned_order_lem : (k : ℕ) (ms : Members) → everywhere is_well_formed (struct k ms) ≡ true → IsPlanned ms (planned_order ms)
unfolding planned_order
planned_order_lem k ms w = record {
  only = λ i m. ⊎_elim (λ (h : Memᴰ i (falling 32 ms)). (falling_out 32 ms h).low)
      (λ (h : Memᴰ i (runtimes_at 0 ms)). let r = runtimes_out 0 ms h in omega arith)
      (mathlib.Core.List.Memᴰ.append_cases (falling 32 ms) m);
  each = λ i l.
      yes_or_no (is_runtime_at ms i)
      (λ r. mathlib.Core.List.Memᴰ.append_right (falling 32 ms) (mathlib.Core.List.Memᴰ.cast (sym (zero-add i)) (runtimes_in 0 ms i l r)))
      (λ r.
      let p = member_power k ms w i l in
      mathlib.Core.List.Memᴰ.append_left (runtimes_at 0 ms)
      (falling_in 32 ms
      (record { low = l; not_runtime = r; exponent = p.0; small = p.1; align_is = p.2 })));
  sorted = sorted_append ms (falling 32 ms) (runtimes_at 0 ms) (falling_sorted 32 ms)
      (runtimes_sorted ms 0 ms (struct_passed k ms w).allowed)
      (λ i j m m'.
      let r = runtimes_out 0 ms m' in
      let q : j ≡ r.place = omega arith in
      record { not_runtime = (falling_out 32 ms m).not_runtime; why = inl (rw q r.runtime) });
}

-- ---- its length

-- A planned order has as many positions as there are members;
pub planned_count : {ms : Members} {order : List ℕ} → IsPlanned ms order → length order ≡ count_of ms
planned_count {ms} {order} p = just_as_many (count_of ms) order (sorted_differ ms order p.sorted) p.only p.each

pub planned_length : (k : ℕ) (ms : Members) → everywhere is_well_formed (struct k ms) ≡ true → length (planned_order ms) ≡ count_of ms
planned_length k ms w = planned_count (planned_order_lem k ms w)

-- so many fall, and the rest are runtime arrays.
pub falling_length : (k : ℕ) (ms : Members) → everywhere is_well_formed (struct k ms) ≡ true → length (falling 32 ms) + length (runtimes_at 0 ms) ≡ count_of ms
unfolding planned_order
falling_length k ms w = sym (length-append (falling 32 ms) (runtimes_at 0 ms)) ∙ planned_length k ms w

-- ---- no other

same_sorted : (ms : Members) (a b : List ℕ) → Sorted ms a → Sorted ms b → ((i : ℕ) → Memᴰ i a → Memᴰ i b) → ((i : ℕ) → Memᴰ i b → Memᴰ i a) → a ≡ b
unfolding Sorted
same_sorted ms [] [] s r to from = refl
same_sorted ms [] (j ∷ b) s r to from = absurd (mathlib.Core.List.Memᴰ.not-nil (from j (mathlib.Core.List.Memᴰ.head refl)))
same_sorted ms (i ∷ a) [] s r to from = absurd (mathlib.Core.List.Memᴰ.not-nil (to i (mathlib.Core.List.Memᴰ.head refl)))
same_sorted ms (i ∷ a) (j ∷ b) s r to from =
    let heads : i ≡ j =
    ⊎_elim (λ (e : i ≡ j). e)
    (λ (m : Memᴰ i b).
    ⊎_elim (λ (e : j ≡ i). sym e) (λ (m' : Memᴰ j a). absurd (precedes_once (s.0 j m') (r.0 i m)))
    (mathlib.Core.List.Memᴰ.cases_cons (from j (mathlib.Core.List.Memᴰ.head refl))))
    (mathlib.Core.List.Memᴰ.cases_cons (to i (mathlib.Core.List.Memᴰ.head refl))) in
    let rests = same_sorted ms a b s.1 r.1
    (λ p m.
    ⊎_elim (λ (e : p ≡ j). absurd (twice s (mathlib.Core.List.Memᴰ.cast (heads ∙ sym e) m))) (λ m'. m')
    (mathlib.Core.List.Memᴰ.cases_cons (to p (mathlib.Core.List.Memᴰ.tail m))))
    (λ p m.
    ⊎_elim (λ (e : p ≡ i). absurd (twice r (mathlib.Core.List.Memᴰ.cast (sym heads ∙ sym e) m))) (λ m'. m')
    (mathlib.Core.List.Memᴰ.cases_cons (from p (mathlib.Core.List.Memᴰ.tail m)))) in
    cc
  where
    twice : {i : ℕ} {l : List ℕ} → ((j : ℕ) → Memᴰ j l → Precedes ms i j) × Sorted ms l → Memᴰ i l → ⊥
    twice {i} s m = precedes_once (s.0 i m) (s.0 i m)

-- Two planned orders of the same members are the same.
pub planned_one : {ms : Members} {a b : List ℕ} → IsPlanned ms a → IsPlanned ms b → a ≡ b
planned_one {ms} {a} {b} p q =
    same_sorted ms a b p.sorted q.sorted (λ i m. q.each i (p.only i m)) (λ i m. p.each i (q.only i m))
