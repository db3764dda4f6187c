-- Numbers that are all below a bound and no two the same (specs/Checked; crates/wgsl, specs/Order), one number more at a time.
--
-- In order: numbers below a bound; a number that appears; numbers that differ; what the loop of `all_once` knows, and when it ends.
-- Assumes nothing.
use Prim.Native.Nat.{ℕ, zero, suc, ◌+◌, ◌<◌, ◌≤◌}
use mathlib.Core.Bool.{Bool, true, false, not, ◌&&◌, ◌||◌, and_assoc, and-false, or_assoc, or-true, or-false}
use mathlib.Core.List.{List, [], ◌∷◌, ◌++◌}
use mathlib.Core.Path.{◌≡◌, refl, sym, ap, ◌∙◌}
use native.Mathlib.Numerals.{add-one}
use native.Mathlib.Omega.{arith}
use borrow.Author.Tests.{eqb-true, eqb-false, eq-eqb, ne_eqb, ltb-true, lt-ltb, le-ltb}
use lib.Dec.{eqb, ltb}
use lib.ListN.{length, take, drop, get_or, set, replicate, length-set, length-replicate, get_or-replicate}
use lib.Seq.{take-suc, split_at, get_or-set_same, get_or-set_other}
use Rattle.wgsl.specs.Order.{appears, all_differ}
use Rattle.wgsl.proofs.Absent.{both_hold, hold_both, true_not_false, yes_or_no}
use Rattle.orders_check.specs.Checked.{all_below}

-- ---- numbers below a bound

below_append : (n : ℕ) (xs ys : List ℕ) → all_below n (xs ++ ys) ≡ (all_below n xs && all_below n ys)
unfolding all_below
below_append n [] ys = refl
below_append n (x ∷ xs) ys = rw (below_append n xs ys) (sym (and_assoc (ltb x n) (all_below n xs) (all_below n ys)))

below_one : (n x : ℕ) → x < n → all_below n (x ∷ []) ≡ true
unfolding all_below
below_one n x h = rw (lt-ltb x n h)

not_below : (n x : ℕ) (xs ys : List ℕ) → n ≤ x → all_below n (xs ++ x ∷ ys) ≡ false
unfolding all_below
not_below n x xs ys h = below_append n xs (x ∷ ys) ∙ rw (le-ltb x n h) (and-false (all_below n xs))

-- Each of them is.
pub below_at : (n : ℕ) (xs : List ℕ) (i : ℕ) → all_below n xs ≡ true → i < length xs → get_or xs i 0 < n
unfolding all_below
below_at n [] i e h = absurd (omega arith)
below_at n (x ∷ xs) zero e h = ltb-true x n (both_hold (ltb x n) (all_below n xs) e).0
below_at n (x ∷ xs) (suc i) e h = below_at n xs i (both_hold (ltb x n) (all_below n xs) e).1 (omega arith)

-- ---- a number that appears

eqb_swap : (a b : ℕ) → eqb a b ≡ eqb b a
eqb_swap a b =
    yes_or_no (eqb b a) (λ h. rw h (eq-eqb a b (sym (eqb-true b a h)))) (λ h. rw h (ne_eqb a b (λ e. eqb-false b a h (sym e))))

appears_append : (x : ℕ) (xs ys : List ℕ) → appears x (xs ++ ys) ≡ (appears x xs || appears x ys)
unfolding appears
appears_append x [] ys = refl
appears_append x (y ∷ xs) ys = rw (appears_append x xs ys) (sym (or_assoc (eqb x y) (appears x xs) (appears x ys)))

appears_one : (x y : ℕ) → appears x (y ∷ []) ≡ eqb x y
unfolding appears
appears_one x y = or-false (eqb x y)

appears_after : (x : ℕ) (xs : List ℕ) (y : ℕ) → appears x (xs ++ (y ∷ [])) ≡ (appears x xs || eqb x y)
appears_after x xs y = appears_append x xs (y ∷ []) ∙ rw (appears_one x y)

-- ---- numbers that differ

regrouped : (a e d b : Bool) → (not (a || e) && (d && not b)) ≡ ((not a && d) && not (e || b))
regrouped true e d b = refl
regrouped false true d b = sym (and-false d)
regrouped false false d b = refl

differ_after : (xs : List ℕ) (x : ℕ) → all_differ (xs ++ (x ∷ [])) ≡ (all_differ xs && not (appears x xs))
unfolding all_differ appears
differ_after [] x = refl
differ_after (y ∷ xs) x =
    rw (appears_after y xs x, differ_after xs x, eqb_swap y x)
    (regrouped (appears y xs) (eqb x y) (all_differ xs) (appears x xs))

differ_again : (xs : List ℕ) (x : ℕ) (ys : List ℕ) → appears x xs ≡ true → all_differ (xs ++ x ∷ ys) ≡ false
unfolding all_differ appears
differ_again [] x ys e = true_not_false e refl
differ_again (y ∷ xs) x ys e =
    yes_or_no (eqb x y)
    (λ h. rw (appears_append y xs (x ∷ ys), eqb_swap y x, h, or-true (appears y xs)))
    (λ h. rw (differ_again xs x ys (rw h at e)) (and-false (not (appears y (xs ++ x ∷ ys)))))

-- ---- the loop

-- the first i numbers are below n, at most 1,024, and no two the same; `seen` marks them
pub record Passed (order : List ℕ) (n : ℕ) (seen : List Bool) (i : ℕ) : Type 0 where
  pub within : i ≤ length order
  pub long : length seen ≡ 1024
  pub below : all_below n (take i order) ≡ true
  pub differ : all_differ (take i order) ≡ true
  pub marks : (p : ℕ) → p < 1024 → get_or seen p false ≡ appears p (take i order)

pub passed_none : (order : List ℕ) (n : ℕ) → Passed order n (replicate 1024 false) 0
unfolding all_below all_differ appears
passed_none order n =
    record {
      within = omega arith;
      long = length-replicate 1024 false;
      below = refl;
      differ = refl;
      marks = λ p h. get_or-replicate 1024 p false false h;
    }

module _ {order : List ℕ} {n : ℕ} {seen : List Bool} {i : ℕ} (d : Passed order n seen i) where
  module _ (x : ℕ) (is : x ≡ get_or order i 0) (more : i < length order) where
    here : order ≡ take i order ++ x ∷ drop (suc i) order
    here = rw is (split_at order i 0 more)

    -- A number that is not below n ends it,
    pub passed_large : n ≤ x → false ≡ (all_below n order && all_differ order)
    passed_large h = sym (ap (λ (b : Bool). b && all_differ order) (ap (all_below n) here ∙ not_below n x (take i order) (drop (suc i) order) h))

    -- and so does one that was seen;
    pub passed_again : x < 1024 → get_or seen x false ≡ true → false ≡ (all_below n order && all_differ order)
    passed_again l h =
        sym (ap (λ (b : Bool). all_below n order && b)
        (ap all_differ here ∙ differ_again (take i order) x (drop (suc i) order) (sym (d.marks x l) ∙ h))
        ∙ and-false (all_below n order))

    grown : take (i + 1) order ≡ take i order ++ (x ∷ [])
    grown = rw (add-one, is) (take-suc order i 0 more)

    -- any other is marked.
    pub passed_next : x < n → x < 1024 → get_or seen x false ≡ false → Passed order n (set seen x true) (i + 1)
    passed_next b l h =
        record {
          within = omega arith;
          long = length-set seen x true ∙ d.long;
          below = rw (grown, below_append n (take i order) (x ∷ [])) (hold_both (all_below n (take i order)) (all_below n (x ∷ [])) d.below (below_one n x b));
          differ = rw (grown, differ_after (take i order) x, d.differ, ← d.marks x l, h);
          marks = λ p q. rw (grown, appears_after p (take i order) x) (marked p q);
        }
      where
        marked : (p : ℕ) → p < 1024 → get_or (set seen x true) p false ≡ (appears p (take i order) || eqb p x)
        marked p q =
            yes_or_no (eqb p x)
            (λ e. rw (e, or-true (appears p (take i order)), eqb-true p x e) (get_or-set_same seen x true false (omega (arith, d.long))))
            (λ e. rw (e, or-false (appears p (take i order))) (get_or-set_other seen x p true false (eqb-false p x e) ∙ d.marks p q))
