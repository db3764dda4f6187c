-- The two calls on a struct (crates/wgsl, specs/Order) by what the code finds.
--
-- In order: the planner; numbers below the members' count; the checker: an order that is none, one that ends nowhere, and one that ends;
-- what it says.
-- Assumes nothing.
use Prim.Native.Nat.{ℕ, ◌<◌, ◌≤◌}
use mathlib.Core.Bool.{Bool, true, false, ◌&&◌, and-false}
use mathlib.Core.List.Memᴰ
use mathlib.Core.List.{List, [], ◌∷◌, ◌++◌, Memᴰ}
use mathlib.Core.Logic.{⊎_elim}
use mathlib.Core.Option.{Option, none, some, some-injective}
use mathlib.Core.Path.{◌≡◌, refl, sym}
use borrow.Author.Tests.{lt-ltb, le-ltb, eq-eqb, ne_eqb, ltb-true}
use lib.Dec.{eqb, ltb}
use lib.ListN.{length, drop}
use Rattle.wgsl.specs.Types.{Members, struct}
use Rattle.wgsl.specs.Said.{good, refused, ◌>>◌, refuse, or_refuse}
use Rattle.wgsl.specs.Rule.{count_of, when, and_then, is_well_formed}
use Rattle.wgsl.specs.Size.{size_of}
use Rattle.wgsl.specs.Place.{tail_of, extent_of}
use Rattle.wgsl.specs.Order.{planned_order, plan_members, reordered, all_differ, in_order, end_of, is_better, new_end}
use Rattle.wgsl.proofs.Absent.{both_hold, hold_both, yes_or_no, true_not_false, some_not_none}
use Rattle.wgsl.proofs.OrderList.{Below}
use Rattle.wgsl.proofs.OrderChosen.{reordered_some, reordered_there}
use Rattle.orders_check.specs.Checked.{all_below, laid_end}

-- ---- the planner

module _ (ms : Members) (lent : List ℕ) where
  pub plan_short : length lent < count_of ms → plan_members ms lent ≡ refused 14 0
  unfolding plan_members ◌>>◌ refuse
  plan_short h = rw (lt-ltb (length lent) (count_of ms) h) refl

  pub plan_there : count_of ms ≤ length lent → plan_members ms lent ≡ good (record { value = count_of ms; contents = planned_order ms ++ drop (count_of ms) lent })
  unfolding plan_members ◌>>◌ refuse
  plan_there h = rw (le-ltb (length lent) (count_of ms) h) refl

-- ---- numbers below the members' count

below_all : (n : ℕ) (xs : List ℕ) → all_below n xs ≡ true → (i : ℕ) → Memᴰ i xs → i < n
unfolding all_below
below_all n [] h i m = absurd (Memᴰ.not-nil m)
below_all n (x ∷ xs) h i m =
    let b = both_hold (ltb x n) (all_below n xs) h in
    ⊎_elim (λ (e : i ≡ x). rw e (ltb-true x n b.0)) (λ (r : Memᴰ i xs). below_all n xs b.1 i r) (Memᴰ.cases_cons m)

all_below_lem : (n : ℕ) (xs : List ℕ) → Below n xs → all_below n xs ≡ true
unfolding all_below
all_below_lem n [] b = refl
all_below_lem n (x ∷ xs) b =
    hold_both (ltb x n) (all_below n xs) (lt-ltb x n (b x (Memᴰ.head refl))) (all_below_lem n xs (λ i m. b i (Memᴰ.tail m)))

-- ---- the checker

module _ (k : ℕ) (ms : Members) (order : List ℕ) where
  pub wrong_length : (length order ≡ count_of ms → ⊥) → new_end k ms order ≡ none
  unfolding new_end in_order when and_then
  wrong_length h = rw (ne_eqb (length order) (count_of ms) h) refl

  no_members : all_below (count_of ms) order ≡ false → (o : Option Members) → reordered ms order ≡ o → o ≡ none
  no_members h none e = refl
  no_members h (some new) e = true_not_false (all_below_lem (count_of ms) order (reordered_some ms order e).below) h

  none_in : (b : Bool) (o : Option Members) → o ≡ none → and_then (when b o) (λ new. when (is_better k ms new) (some (end_of k new))) ≡ none
  unfolding when and_then
  none_in true o e = rw e refl
  none_in false o e = refl

  -- a position that there is not, or one twice
  pub not_once : false ≡ (all_below (count_of ms) order && all_differ order) → new_end k ms order ≡ none
  unfolding new_end in_order when and_then
  not_once h =
      yes_or_no (all_below (count_of ms) order)
      (λ b.
      let d : all_differ order ≡ false = sym (rw b at h) in
      rw (d, and-false (eqb (length order) (count_of ms))) refl)
      (λ b. none_in (eqb (length order) (count_of ms) && all_differ order) (reordered ms order) (no_members b (reordered ms order) refl))

  in_order_lem : {o : Option Members} → length order ≡ count_of ms → all_differ order ≡ true → reordered ms order ≡ o → in_order ms order ≡ o
  unfolding in_order when
  in_order_lem l d e = rw (eq-eqb (length order) (count_of ms) l, d) e

  pub once : length order ≡ count_of ms → true ≡ (all_below (count_of ms) order && all_differ order) → (new : Members) × (reordered ms order ≡ some new) × (in_order ms order ≡ some new)
  once l h =
      let b = both_hold (all_below (count_of ms) order) (all_differ order) (sym h) in
      let there = reordered_there ms order (below_all (count_of ms) order b.0) in
      (there.0, there.1, in_order_lem l b.1 there.1)

  module _ {new : Members} (is : in_order ms order ≡ some new) where
    pub end_nowhere : none ≡ laid_end k new → new_end k ms order ≡ none
    unfolding new_end laid_end is_better when and_then
    end_nowhere h =
        yes_or_no (is_well_formed (struct k new)) (λ w. some_not_none (rw w at h) refl) (λ w. rw (is, w) refl)

    pub end_there : {n : ℕ} → some n ≡ laid_end k new → n < end_of k ms → new_end k ms order ≡ some n
    unfolding new_end laid_end is_better when and_then
    end_there {n} h l =
        yes_or_no (is_well_formed (struct k new))
        (λ w.
        let e : n ≡ end_of k new = some-injective _ _ (rw w at h) in
        rw (is, w, ← e, lt-ltb n (end_of k ms) l) refl)
        (λ w. some_not_none refl (rw w at h))

    pub end_not_less : {n : ℕ} → some n ≡ laid_end k new → end_of k ms ≤ n → new_end k ms order ≡ none
    unfolding new_end laid_end is_better when and_then
    end_not_less {n} h l =
        yes_or_no (is_well_formed (struct k new))
        (λ w.
        let e : n ≡ end_of k new = some-injective _ _ (rw w at h) in
        rw (is, w, ← e, le-ltb n (end_of k ms) l) refl)
        (λ w. rw (is, w) refl)

-- ---- what it says

-- No new end is refused by 23.
pub none_said : {o : Option ℕ} → o ≡ none → refused 23 0 ≡ or_refuse 23 0 o
unfolding or_refuse
none_said e = rw e refl

pub some_said : {o : Option ℕ} {n : ℕ} → o ≡ some n → good n ≡ or_refuse 23 0 o
unfolding or_refuse
some_said e = rw e refl

-- Where a struct ends does not go by its number.
pub end_is : (j k : ℕ) (ms : Members) → extent_of 0 (struct j ms) ≡ end_of k ms
unfolding end_of extent_of size_of tail_of
end_is j k ms = refl
