-- The positions that the planner lists (specs/Order): which they are.
--
-- In order: lists that a test lengthens; the members of one alignment; those of falling alignments; runtime arrays.
-- Assumes nothing.
use Prim.Native.Nat.{ℕ, zero, suc, ◌+◌, ◌^◌, ◌<◌, ◌≤◌}
use mathlib.Core.Bool.{Bool, true, false, not, ◌&&◌, cond}
use mathlib.Core.List.Memᴰ
use mathlib.Core.List.{List, ◌∷◌, Memᴰ}
use mathlib.Core.Logic.{⊎_elim}
use mathlib.Core.Path.{◌≡◌, refl, sym}
use native.Mathlib.Omega.{arith}
use native.Mathlib.Nat.{eq-or-lt_of_le, zero-add}
use borrow.Author.Tests.{eqb-true, eq-eqb, not-true}
use lib.Dec.{eqb}
use Rattle.wgsl.specs.Types.{Members, no_more, member, is_runtime}
use Rattle.wgsl.specs.Size.{given_or, present, align_of}
use Rattle.wgsl.specs.Rule.{count_of}
use Rattle.wgsl.specs.Order.{aligned_at, falling, runtimes_at}
use Rattle.wgsl.specs.OrderClaim.{member_at, align_of_one, is_runtime_one, align_at, is_runtime_at}
use Rattle.wgsl.proofs.Absent.{both_hold}

-- ---- lists that a test lengthens

-- What is in such a list is the first element, and the test holds, or in the rest;
pub cond_in : {B : Type 0} {p i : ℕ} (test : Bool) {l : List ℕ} → Memᴰ p (cond test (i ∷ l) l) → (test ≡ true → p ≡ i → B) → (Memᴰ p l → B) → B
cond_in {p = p} {i} true {l} m now later = ⊎_elim (λ (e : p ≡ i). now refl e) later (Memᴰ.cases_cons m)
cond_in false m now later = later m

-- and what is in the rest is in it.
pub in_cond : {p : ℕ} (i : ℕ) (test : Bool) {l : List ℕ} → Memᴰ p l → Memᴰ p (cond test (i ∷ l) l)
in_cond i true m = Memᴰ.tail m
in_cond i false m = m

-- ---- the members of one alignment

-- p is the position of one of these members, the first of which has position i; it is no runtime array and has this alignment
pub record Aligned (a i : ℕ) (ms : Members) (p : ℕ) : Type 0 where
  pub place : ℕ
  pub is : p ≡ i + place
  pub low : place < count_of ms
  pub not_runtime : is_runtime_at ms place ≡ false
  pub align_is : align_at ms place ≡ a

pub aligned_out : {p : ℕ} (a i : ℕ) (ms : Members) → Memᴰ p (aligned_at a i ms) → Aligned a i ms p
unfolding aligned_at member_at count_of align_of_one is_runtime_one
aligned_out a i no_more m = absurd (Memᴰ.not-nil m)
aligned_out a i (member t size align ms) m =
    cond_in (not (is_runtime t) && eqb (present (given_or align (align_of t))) a) m
    (λ h e.
    let both = both_hold (not (is_runtime t)) (eqb (present (given_or align (align_of t))) a) h in
    record {
      place = 0;
      is = omega arith;
      low = omega arith;
      not_runtime = not-true (is_runtime t) both.0;
      align_is = eqb-true _ a both.1;
    })
    (λ m'.
    let r = aligned_out a (suc i) ms m' in
    record {
      place = suc r.place;
      is = omega arith;
      low = omega arith;
      not_runtime = r.not_runtime;
      align_is = r.align_is;
    })

pub aligned_in : (a i : ℕ) (ms : Members) (k : ℕ) → k < count_of ms → is_runtime_at ms k ≡ false → align_at ms k ≡ a → Memᴰ (i + k) (aligned_at a i ms)
unfolding aligned_at member_at count_of align_of_one is_runtime_one
aligned_in a i no_more k l r e = absurd (omega arith)
aligned_in a i (member t size align ms) zero l r e = rw (r, eq-eqb _ a e) (Memᴰ.head {x = i} (omega arith))
aligned_in a i (member t size align ms) (suc k) l r e =
    in_cond i (not (is_runtime t) && eqb (present (given_or align (align_of t))) a)
    (Memᴰ.cast (omega arith) (aligned_in a (suc i) ms k (omega arith) r e))

-- where the first has position 0
pub aligned_here : {p : ℕ} (a : ℕ) (ms : Members) → Memᴰ p (aligned_at a 0 ms) → (p < count_of ms) × (is_runtime_at ms p ≡ false) × (align_at ms p ≡ a)
aligned_here {p} a ms m =
    let r = aligned_out a 0 ms m in
    let q : p ≡ r.place = omega arith in
    (omega arith, rw q r.not_runtime, rw q r.align_is)

-- ---- those of falling alignments

-- p is the position of a member that is no runtime array and has the alignment 2 ^ exponent
pub record Fallen (j : ℕ) (ms : Members) (p : ℕ) : Type 0 where
  pub low : p < count_of ms
  pub not_runtime : is_runtime_at ms p ≡ false
  pub exponent : ℕ
  pub small : exponent < j
  pub align_is : align_at ms p ≡ 2 ^ exponent

pub aligned_fallen : {p : ℕ} (j : ℕ) (ms : Members) → Memᴰ p (aligned_at (2 ^ j) 0 ms) → Fallen (suc j) ms p
aligned_fallen j ms m =
    let r = aligned_here (2 ^ j) ms m in
    record { low = r.0; not_runtime = r.1; exponent = j; small = omega arith; align_is = r.2 }

pub falling_out : {p : ℕ} (j : ℕ) (ms : Members) → Memᴰ p (falling j ms) → Fallen j ms p
unfolding falling
falling_out zero ms m = absurd (Memᴰ.not-nil m)
falling_out {p} (suc j) ms m =
    ⊎_elim (aligned_fallen j ms)
    (λ (m' : Memᴰ p (falling j ms)).
    let r = falling_out j ms m' in
    record {
      low = r.low;
      not_runtime = r.not_runtime;
      exponent = r.exponent;
      small = omega arith;
      align_is = r.align_is;
    })
    (Memᴰ.append_cases (aligned_at (2 ^ j) 0 ms) m)

pub falling_in : {p : ℕ} (j : ℕ) (ms : Members) → Fallen j ms p → Memᴰ p (falling j ms)
unfolding falling
falling_in zero ms r = absurd (omega arith)
falling_in {p} (suc j) ms r =
    let small : r.exponent ≤ j = omega arith in
    ⊎_elim
    (λ (q : r.exponent ≡ j).
    Memᴰ.append_left (falling j ms)
    (Memᴰ.cast (sym (zero-add p)) (aligned_in (2 ^ j) 0 ms p r.low r.not_runtime (rw q at r.align_is))))
    (λ (q : r.exponent < j).
    Memᴰ.append_right (aligned_at (2 ^ j) 0 ms)
    (falling_in j ms
    (record {
      low = r.low;
      not_runtime = r.not_runtime;
      exponent = r.exponent;
      small = q;
      align_is = r.align_is;
    })))
    (eq-or-lt_of_le small)

-- ---- runtime arrays

-- p is the position of a runtime array among these members, the first of which has position i
pub record Runtime (i : ℕ) (ms : Members) (p : ℕ) : Type 0 where
  pub place : ℕ
  pub is : p ≡ i + place
  pub low : place < count_of ms
  pub runtime : is_runtime_at ms place ≡ true

pub runtimes_out : {p : ℕ} (i : ℕ) (ms : Members) → Memᴰ p (runtimes_at i ms) → Runtime i ms p
unfolding runtimes_at member_at count_of is_runtime_one
runtimes_out i no_more m = absurd (Memᴰ.not-nil m)
runtimes_out i (member t size align ms) m =
    cond_in (is_runtime t) m (λ h e. record { place = 0; is = omega arith; low = omega arith; runtime = h })
    (λ m'.
    let r = runtimes_out (suc i) ms m' in
    record { place = suc r.place; is = omega arith; low = omega arith; runtime = r.runtime })

pub runtimes_in : (i : ℕ) (ms : Members) (k : ℕ) → k < count_of ms → is_runtime_at ms k ≡ true → Memᴰ (i + k) (runtimes_at i ms)
unfolding runtimes_at member_at count_of is_runtime_one
runtimes_in i no_more k l r = absurd (omega arith)
runtimes_in i (member t size align ms) zero l r = rw r (Memᴰ.head {x = i} (omega arith))
runtimes_in i (member t size align ms) (suc k) l r =
    in_cond i (is_runtime t) (Memᴰ.cast (omega arith) (runtimes_in (suc i) ms k (omega arith) r))
