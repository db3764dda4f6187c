-- Marks in words of 64 (specs/Strays, mark_at).
--
-- In order: bits of a word; a word with more marks; marks from one member on; a full word.
-- Assumes nothing.
use Prim.Native.Nat.{ℕ, zero, suc, ◌+◌, ◌-◌, ◌*◌, ◌/◌, ◌%◌, ◌^◌, ◌<◌, ◌≤◌}
use mathlib.Core.Bool.{Bool, true, false, ◌&&◌, ◌||◌, or-false, or_assoc}
use mathlib.Core.List.{List}
use mathlib.Core.Logic.{◌⊎◌, inl, inr, ⊎_elim}
use mathlib.Core.Path.{◌≡◌, refl, ap, sym, ◌∙◌}
use native.Mathlib.Nat.{add-zero, mod-lt}
use native.Mathlib.Omega.{arith}
use borrow.Author.Tests.{eqb-true, eqb-false, le-leb, lt-leb, lt-ltb, le-ltb}
use lib.Bits.{bit_or, or_shr, or_mod}
use lib.Dec.{eqb, leb, ltb}
use lib.ListN.{length, get_or, set}
use lib.Pow.{high, pow_pos, ones_lt, ones_split, shl_exact}
use lib.Seq.{get_or-set_same, get_or-set_other}
use Rattle.wgsl.specs.BitField.{bit_at}
use Rattle.wgsl.proofs.Bit.{lt_or_le, bit_above, bit_high, bit_low, bit_ones}
use Rattle.layout_strays.specs.Strays.{mark_at}

-- ---- bits of a word

digit_or : (a b : ℕ) → a < 2 → b < 2 → eqb (bit_or a b) 1 ≡ (eqb a 1 || eqb b 1)
digit_or zero zero h k = refl
digit_or zero (suc zero) h k = refl
digit_or (suc zero) zero h k = refl
digit_or (suc zero) (suc zero) h k = refl
digit_or (suc (suc a)) b h k = absurd (omega arith)
digit_or zero (suc (suc b)) h k = absurd (omega arith)
digit_or (suc zero) (suc (suc b)) h k = absurd (omega arith)

bit_or_lem : (a b i : ℕ) → bit_at (bit_or a b) i ≡ (bit_at a i || bit_at b i)
unfolding bit_at
bit_or_lem a b i =
    ap (λ x. eqb x 1) (ap (λ x. x % 2) (or_shr a b i) ∙ or_mod (a / 2 ^ i) (b / 2 ^ i) 1)
    ∙ digit_or (a / 2 ^ i % 2) (b / 2 ^ i % 2) (mod-lt (a / 2 ^ i) (omega arith)) (mod-lt (b / 2 ^ i) (omega arith))

-- so many bits from one on
pub bit_span : (count place i : ℕ) → bit_at ((2 ^ count - 1) * 2 ^ place) i ≡ (leb place i && ltb i (place + count))
bit_span count place i =
    ap (λ x. bit_at x i) (sym (add-zero ((2 ^ count - 1) * 2 ^ place)))
    ∙ ⊎_elim
    (λ (l : i < place).
    rw (lt-leb place i l) (bit_low (2 ^ count - 1) place 0 i (pow_pos place) l ∙ bit_above 0 0 i (omega arith) (omega arith)))
    (λ (l : place ≤ i). rw (le-leb place i l) (bit_high (2 ^ count - 1) place 0 i (pow_pos place) l ∙ above l (lt_or_le i (place + count))))
    (lt_or_le i place)
  where
    above : place ≤ i → (i < place + count) ⊎ (place + count ≤ i) → bit_at (2 ^ count - 1) (i - place) ≡ ltb i (place + count)
    above l (inl h) = rw (lt-ltb i (place + count) h) (bit_ones count (i - place) (omega arith))
    above l (inr h) = rw (le-ltb i (place + count) h) (bit_above (2 ^ count - 1) count (i - place) (ones_lt count) (omega arith))

-- ---- a word with more marks

leb_same : {a b c d : ℕ} → (a ≤ b → c ≤ d) → (b < a → d < c) → leb a b ≡ leb c d
leb_same {a} {b} {c} {d} h k =
    ⊎_elim (λ (l : b < a). rw (lt-leb a b l, lt-leb c d (k l)) refl) (λ (l : a ≤ b). rw (le-leb a b l, le-leb c d (h l)) refl) (lt_or_le b a)

ltb_same : {a b c d : ℕ} → (a < b → c < d) → (b ≤ a → d ≤ c) → ltb a b ≡ ltb c d
ltb_same {a} {b} {c} {d} h k =
    ⊎_elim (λ (l : a < b). rw (lt-ltb a b l, lt-ltb c d (h l)) refl) (λ (l : b ≤ a). rw (le-ltb a b l, le-ltb c d (k l)) refl) (lt_or_le a b)

-- those below i, from `from` on, are marked beside what was
abbrev pub Marked : List ℕ → List ℕ → ℕ → ℕ → Type 0
Marked old new from i = (m : ℕ) → mark_at new m ≡ (mark_at old m || (leb from m && ltb m i))

pub word_marked : (old : List ℕ) {from to : ℕ} → from < to → from % 64 + (to - from) ≤ 64 → to ≤ 64 * length old → Marked old (set old (from / 64) (bit_or (get_or old (from / 64) 0) ((2 ^ (to - from) - 1) * 2 ^ (from % 64)))) from to
unfolding mark_at
word_marked old {from} {to} some one inside m = go (eqb (m / 64) (from / 64)) refl
  where
    more : ℕ
    more = (2 ^ (to - from) - 1) * 2 ^ (from % 64)

    go : (b : Bool) → eqb (m / 64) (from / 64) ≡ b → bit_at (get_or (set old (from / 64) (bit_or (get_or old (from / 64) 0) more)) (m / 64) 0) (m % 64) ≡ (bit_at (get_or old (m / 64) 0) (m % 64) || (leb from m && ltb m to))
    go true e =
        let same : m / 64 ≡ from / 64 = eqb-true (m / 64) (from / 64) e in
        rw same
        (ap (λ x. bit_at x (m % 64)) (get_or-set_same old (from / 64) _ 0 (omega arith))
        ∙ bit_or_lem (get_or old (from / 64) 0) _ (m % 64)
        ∙ ap (λ b. bit_at (get_or old (from / 64) 0) (m % 64) || b)
        (bit_span (to - from) (from % 64) (m % 64)
        ∙ rw (
          leb_same {a = from % 64} {b = m % 64} {c = from} {d = m} (λ l. omega arith) (λ l. omega arith),
          ltb_same {a = m % 64} {b = from % 64 + (to - from)} {c = m} {d = to} (λ l. omega arith) (λ l. omega arith),
        ) refl))
    go false e =
        let other = eqb-false (m / 64) (from / 64) e in
        ap (λ x. bit_at x (m % 64)) (get_or-set_other old (from / 64) (m / 64) _ 0 other)
        ∙ sym (ap (λ b. bit_at (get_or old (m / 64) 0) (m % 64) || b) (outside other (lt_or_le m from)) ∙ or-false _)
      where
        outside : (m / 64 ≡ from / 64 → ⊥) → (m < from) ⊎ (from ≤ m) → (leb from m && ltb m to) ≡ false
        outside other (inl l) = rw (lt-leb from m l) refl
        outside other (inr l) = rw (le-leb from m l) (le-ltb m to (go2 (lt_or_le m to)))
          where
            go2 : (m < to) ⊎ (to ≤ m) → to ≤ m
            go2 (inl h) = absurd (other (omega arith))
            go2 (inr h) = h

-- ---- marks from one member on

pub marked_none : (old : List ℕ) {from to : ℕ} → to ≤ from → Marked old old from to
marked_none old {from} {to} none m =
    sym (ap (λ b. mark_at old m || b)
    (⊎_elim (λ (l : m < from). rw (lt-leb from m l) refl) (λ (l : from ≤ m). rw (le-leb from m l) (le-ltb m to (omega arith))) (lt_or_le m from))
    ∙ or-false (mark_at old m))

-- two stretches that follow each other are one
joined : (from i to m : ℕ) → from ≤ i → i ≤ to → ((leb from m && ltb m i) || (leb i m && ltb m to)) ≡ (leb from m && ltb m to)
joined from i to m low high = go (lt_or_le m from) (lt_or_le m i)
  where
    go : (m < from) ⊎ (from ≤ m) → (m < i) ⊎ (i ≤ m) → ((leb from m && ltb m i) || (leb i m && ltb m to)) ≡ (leb from m && ltb m to)
    go (inl l) k = rw (lt-leb from m l, lt-leb i m (omega arith)) refl
    go (inr l) (inl k) = rw (le-leb from m l, lt-ltb m i k, lt-ltb m to (omega arith)) refl
    go (inr l) (inr k) = rw (le-leb from m l, le-ltb m i k, le-leb i m k) refl

pub marked_on : (old new next : List ℕ) {from i to : ℕ} → from ≤ i → i ≤ to → Marked old new from i → Marked new next i to → Marked old next from to
marked_on old new next {from} {i} {to} low high h k m =
    k m ∙ rw (h m) (or_assoc (mark_at old m) _ _ ∙ ap (λ b. mark_at old m || b) (joined from i to m low high))

-- ---- a full word

pub full_marked : (named : List ℕ) (m : ℕ) → get_or named (m / 64) 0 ≡ 18446744073709551615 → mark_at named m ≡ true
unfolding mark_at
full_marked named m e = rw e (bit_ones 64 (m % 64) (omega arith))

-- so many bits, by two shifts
pub span_is : (count place : ℕ) → 0 < count → place + count ≤ 64 → 18446744073709551615 / 2 ^ (64 - count) * 2 ^ place % 18446744073709551616 ≡ (2 ^ count - 1) * 2 ^ place
span_is count place some room =
    let all : count + (64 - count) ≡ 64 = omega arith in
    let ones : 18446744073709551615 / 2 ^ (64 - count) ≡ 2 ^ count - 1 = ap (λ x. x / 2 ^ (64 - count)) (rw all at (ones_split count (64 - count))) ∙ high (2 ^ count - 1) (64 - count) (ones_lt (64 - count)) in
    rw ones (shl_exact {a = 2 ^ count - 1} count place 64 (ones_lt count) (omega arith))
