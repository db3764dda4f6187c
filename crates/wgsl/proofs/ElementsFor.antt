-- The elements that words fill (specs/Call, `elements_for` and `is_wrong_count`).
--
-- In order: a count that 14 does not refuse; the words of an open type, counted back; as many words as n elements have.
-- Assumes nothing.
use Prim.Native.Nat.{ℕ, ◌-◌, ◌≤◌, ◌*◌}
use mathlib.Core.Bool.{Bool, true, false, not, ◌&&◌, ◌||◌}
use mathlib.Core.List.{List}
use mathlib.Core.Path.{◌≡◌, refl, ap, sym, ◌∙◌}
use native.Mathlib.Omega.{arith}
use native.Mathlib.Nat.{mul-div_cancel, one-mul}
use borrow.Author.Tests.{eqb-true, ne_eqb, not-false, eq-eqb}
use lib.Dec.{eqb}
use lib.ListN.{length}
use Rattle.wgsl.specs.Types.{Ty, is_open, everywhere, scalar, vector, matrix, array, runtime, atomic, struct, Members, no_more, member, every_member}
use Rattle.wgsl.specs.Rule.{is_well_formed}
use Rattle.wgsl.specs.Place.{Tail, extent_of, Shape, places_of, places, word_count}
use Rattle.wgsl.specs.Call.{elements_for, is_wrong_count}
use Rattle.wgsl.specs.Shapes.{shape_words, Opened}
use Rattle.wgsl.proofs.Absent.{both_hold, true_not_false}
use Rattle.wgsl.proofs.Passed.{runtime_passed, struct_passed}
use Rattle.wgsl.proofs.Tail.{closed_extent, sized_closed}
use Rattle.wgsl.proofs.Closed.{closed_shape}
use Rattle.wgsl.proofs.Count.{count_words, words_positive}
use Rattle.wgsl.proofs.Opened.{last_of, runtime_opened, struct_opened, opened_words}
use Rattle.wgsl.proofs.IsShort.{not_zero}

-- a count that 14 does not refuse
pub right_count : (t : Ty) (ws : List ℕ) → is_wrong_count t ws ≡ false → (length ws ≡ word_count (elements_for (length ws) t) t) × (is_open t ≡ true → 1 ≤ elements_for (length ws) t)
unfolding is_wrong_count
right_count t ws h =
    let n = elements_for (length ws) t in
    let c = or-false (not (eqb (length ws) (word_count n t))) (is_open t && eqb n 0) h in
    (eqb-true (length ws) (word_count n t) (not-false _ c.0), λ o. not_zero n (rw o at c.1))
  where
    or-false : (x y : Bool) → (x || y) ≡ false → (x ≡ false) × (y ≡ false)
    or-false true y q = true_not_false refl q
    or-false false y q = (refl, q)

last_everywhere : (p : Ty → Bool) (before : Ty) (ms : Members) → everywhere p before ≡ true → every_member p ms ≡ true → everywhere p (last_of before ms) ≡ true
unfolding last_of every_member
last_everywhere p before no_more b w = b
last_everywhere p before (member t size align ms) b w =
    let each = both_hold (everywhere p t) (every_member p ms) w in
    last_everywhere p t ms each.0 each.1

-- an open type is a runtime array, or ends in one, of elements of a well-formed type
opened : (t : Ty) → everywhere is_well_formed t ≡ true → is_open t ≡ true → (u : Ty) × (tail : Tail) × (everywhere is_well_formed (runtime u) ≡ true) × Opened t u tail
unfolding is_open
opened (scalar s) w o = true_not_false o refl
opened (vector n s) w o = true_not_false o refl
opened (matrix c r s) w o = true_not_false o refl
opened (array n t) w o = true_not_false o refl
opened (runtime u) w o = (u, _, w, runtime_opened u)
opened (atomic s) w o = true_not_false o refl
opened (struct k ms) w o =
    let (u, tail, last, x) = struct_opened k ms w o in
    (u, tail, rw last at (last_everywhere is_well_formed (struct k ms) ms w (struct_passed k ms w).below), x)

-- The words of n elements are those that n elements fill.
pub elements_counted : (n : ℕ) (t : Ty) → everywhere is_well_formed t ≡ true → is_open t ≡ true → elements_for (word_count n t) t ≡ n
unfolding elements_for
elements_counted n t w o =
    let (u, tail, well, x) = opened t w o in
    let p = runtime_passed u well in
    let closed = sized_closed u p.own p.below p.own_is in
    let same : (m : ℕ) → word_count m u ≡ word_count 0 u =
    λ m. count_words m u ∙ ap shape_words (closed_shape u p.below closed m 0) ∙ sym (count_words 0 u) in
    let k = word_count 0 u in
    let pos : 1 ≤ k = words_positive 0 u p.aligned p.below p.aligned_is (λ q. true_not_false q closed) in
    let all : (m : ℕ) → word_count m t - word_count 0 t ≡ m * k =
    λ m. let e : m * word_count m u ≡ m * k = ap (λ (i : ℕ). m * i) (same m) in omega (arith, opened_words x m) in
    rw (all n, all 1, one-mul) (mul-div_cancel n pos)

-- as many words as n elements have: 14 is not due, and n elements is what the words fill, or the type has the same places for any number
pub record Counted (t : Ty) (n : ℕ) (ws : List ℕ) : Type 0 where
  pub right : is_wrong_count t ws ≡ false
  pub places_same : places (elements_for (length ws) t) t ≡ places n t
  pub extent_same : extent_of (elements_for (length ws) t) t ≡ extent_of n t

-- What has as many words as n elements have is so.
pub counted : (t : Ty) (n : ℕ) (ws : List ℕ) → everywhere is_well_formed t ≡ true → (is_open t ≡ true → 1 ≤ n) → length ws ≡ word_count n t → Counted t n ws
unfolding is_wrong_count places
counted t n ws w some_elements count = go (is_open t) refl
  where
    m : ℕ
    m = elements_for (length ws) t

    go : (o : Bool) → is_open t ≡ o → Counted t n ws
    go true o =
        let same : m ≡ n = ap (λ (k : ℕ). elements_for k t) count ∙ elements_counted n t w o in
        record {
          right =
              rw (same, eq-eqb (length ws) (word_count n t) count, o)
              (ne_eqb n 0 (λ z. omega (arith, some_elements o)));
          places_same = ap (λ (k : ℕ). places k t) same;
          extent_same = ap (λ (k : ℕ). extent_of k t) same;
        }
    go false o =
        let shape = closed_shape t w o m n in
        let words_same : word_count m t ≡ word_count n t = count_words m t ∙ ap shape_words shape ∙ sym (count_words n t) in
        record {
          right = rw (eq-eqb (length ws) (word_count m t) (count ∙ sym words_same), o);
          places_same = ap (λ (x : Shape). places_of x 0) shape;
          extent_same = closed_extent m t o ∙ sym (closed_extent n t o);
        }
