-- The bytes that places cover, and a buffer without rubbish (specs/Clean).
--
-- In order: a byte of a place; a byte of one of the places; places in order; one byte; the buffer, byte by byte.
-- Assumes nothing.
use Prim.Native.Nat.{ℕ, zero, suc, ◌+◌, ◌<◌, ◌≤◌}
use mathlib.Core.Bool.{Bool, true, false, cond, not, ◌&&◌, or-true}
use mathlib.Core.List.Memᴰ
use mathlib.Core.List.{List, [], ◌∷◌, Memᴰ}
use mathlib.Core.Logic.{inl, inr, ⊎_elim}
use mathlib.Core.Path.{◌≡◌, refl, ap, sym, ◌∙◌}
use native.Mathlib.Omega.{arith}
use native.Mathlib.Nat.{zero-add, add-zero}
use borrow.Author.Tests.{ltb-true, ltb-false, leb-true, leb-false, le-leb, lt-ltb, le-ltb}
use lib.Dec.{leb, ltb}
use lib.ListN.{length, get_or}
use Rattle.wgsl.specs.Place.{Place}
use Rattle.wgsl.specs.Claim.{Outside, Ordered, Uncovered}
use Rattle.wgsl.specs.Clean.{is_inside, is_covered, clean_byte, clean_from}
use Rattle.wgsl.proofs.Absent.{both_hold, hold_both, either_holds, yes_or_no, true_not_false}
use Rattle.wgsl.proofs.Word.{uncovered_below, uncovered_past}

-- ---- a byte of a place

-- A byte that the test finds inside lies between the place's ends,
pub inside_true : (p : Place) (i : ℕ) → is_inside p i ≡ true → (p.at ≤ i) × (i < p.at + p.width)
unfolding is_inside
inside_true p i e =
    let h = both_hold (leb p.at i) (ltb i (p.at + p.width)) e in
    (leb-true p.at i h.0, ltb-true i (p.at + p.width) h.1)

-- and one between them the test finds inside;
pub true_inside : (p : Place) (i : ℕ) → p.at ≤ i → i < p.at + p.width → is_inside p i ≡ true
unfolding is_inside
true_inside p i from to = hold_both _ _ (le-leb p.at i from) (lt-ltb i (p.at + p.width) to)

-- one outside it does not.
pub outside_false : (p : Place) (i : ℕ) → Outside p.at p.width i → is_inside p i ≡ false
outside_false p i o =
    yes_or_no (is_inside p i)
    (λ e.
    let h = inside_true p i e in
    ⊎_elim (λ (l : i < p.at). absurd (omega (arith, h.0))) (λ (l : p.at + p.width ≤ i). absurd (omega (arith, h.1))) o)
    (λ e. e)

false_outside : (p : Place) (i : ℕ) → is_inside p i ≡ false → Outside p.at p.width i
false_outside p i e =
    yes_or_no (leb p.at i)
    (λ from. yes_or_no (ltb i (p.at + p.width))
    (λ to. true_not_false (true_inside p i (leb-true p.at i from) (ltb-true i (p.at + p.width) to)) e)
    (λ to. inr (ltb-false i (p.at + p.width) to)))
    (λ from. inl (leb-false p.at i from))

-- ---- a byte of one of the places

-- What the test does not find covered, no place covers,
pub false_uncovered : (ps : List Place) (i : ℕ) → is_covered ps i ≡ false → Uncovered ps i
unfolding is_covered Uncovered
false_uncovered [] i e = tt
false_uncovered (p ∷ ps) i e =
    yes_or_no (is_inside p i) (λ q. true_not_false refl (rw q at e))
    (λ q. (false_outside p i q, false_uncovered ps i (rw q at e)))

-- and what no place covers it does not find covered.
pub uncovered_false : (ps : List Place) (i : ℕ) → Uncovered ps i → is_covered ps i ≡ false
unfolding is_covered Uncovered
uncovered_false [] i u = refl
uncovered_false (p ∷ ps) i u = rw (outside_false p i u.0) (uncovered_false ps i u.1)

-- A covered byte lies in a place of the list,
pub covered_place : (ps : List Place) (i : ℕ) → is_covered ps i ≡ true → (p : Place) × Memᴰ p ps × (is_inside p i ≡ true)
unfolding is_covered
covered_place [] i e = true_not_false e refl
covered_place (p ∷ ps) i e =
    ⊎_elim (λ (h : is_inside p i ≡ true). (p, Memᴰ.head refl, h))
    (λ (h : is_covered ps i ≡ true). let r = covered_place ps i h in (r.0, Memᴰ.tail r.1, r.2))
    (either_holds (is_inside p i) (is_covered ps i) e)

-- and a byte of a place of the list is covered.
pub place_covered : {p : Place} (ps : List Place) (i : ℕ) → Memᴰ p ps → is_inside p i ≡ true → is_covered ps i ≡ true
unfolding is_covered
place_covered [] i m h = absurd (Memᴰ.not-nil m)
place_covered {p} (q ∷ ps) i m h =
    ⊎_elim (λ (e : p ≡ q). let here : is_inside q i ≡ true = rw e at h in rw here refl)
    (λ (r : Memᴰ p ps). rw (place_covered ps i r h) (or-true (is_inside q i))) (Memᴰ.cases_cons m)

-- ---- places in order

-- Places in order cover no byte before the first,
pub covered_not_below : (ps : List Place) (lo hi i : ℕ) → Ordered ps lo hi → i < lo → is_covered ps i ≡ false
covered_not_below ps lo hi i o h = uncovered_false ps i (uncovered_below ps lo hi i o h)

-- and none past the end:
pub covered_not_past : (ps : List Place) (lo hi i : ℕ) → Ordered ps lo hi → hi ≤ i → is_covered ps i ≡ false
covered_not_past ps lo hi i o h = uncovered_false ps i (uncovered_past ps lo hi i o h)

-- what they cover lies between.
pub covered_between : (ps : List Place) (lo hi i : ℕ) → Ordered ps lo hi → is_covered ps i ≡ true → (lo ≤ i) × (i < hi)
covered_between ps lo hi i o e = (
  yes_or_no (ltb i lo) (λ q. true_not_false e (covered_not_below ps lo hi i o (ltb-true i lo q))) (λ q. ltb-false i lo q),
  yes_or_no (ltb i hi) (λ q. ltb-true i hi q) (λ q. true_not_false e (covered_not_past ps lo hi i o (ltb-false i hi q))),
)

-- ---- one byte

module _ (ps : List Place) (extent i byte : ℕ) where
  -- A byte of the extent that no place covers becomes zero;
  pub byte_gap : i < extent → is_covered ps i ≡ false → clean_byte ps extent i byte ≡ 0
  unfolding clean_byte
  byte_gap l e = rw (lt-ltb i extent l, e) refl

  -- one that a place covers stays,
  pub byte_covered : is_covered ps i ≡ true → clean_byte ps extent i byte ≡ byte
  unfolding clean_byte
  byte_covered e = rw e (go (ltb i extent))
    where
      go : (b : Bool) → cond (b && false) 0 byte ≡ byte
      go true = refl
      go false = refl

  -- and so does one past the extent.
  pub byte_later : extent ≤ i → clean_byte ps extent i byte ≡ byte
  unfolding clean_byte
  byte_later l = rw (le-ltb i extent l) refl

  -- A byte cleaned twice is as cleaned once.
  pub byte_again : clean_byte ps extent i (clean_byte ps extent i byte) ≡ clean_byte ps extent i byte
  unfolding clean_byte
  byte_again = go (ltb i extent && not (is_covered ps i))
    where
      go : (b : Bool) → cond b 0 (cond b 0 byte) ≡ cond b 0 byte
      go true = refl
      go false = refl

byte_zero : (ps : List Place) (extent i : ℕ) → clean_byte ps extent i 0 ≡ 0
unfolding clean_byte
byte_zero ps extent i = go (ltb i extent && not (is_covered ps i))
  where
    go : (b : Bool) → ◌≡◌ {A = ℕ} (cond b 0 0) 0
    go true = refl
    go false = refl

-- ---- the buffer, byte by byte

module _ (ps : List Place) (extent : ℕ) where
  -- Cleaning keeps the length.
  pub clean_length : (i : ℕ) (b : List ℕ) → length (clean_from ps extent i b) ≡ length b
  unfolding clean_from
  clean_length i [] = refl
  clean_length i (byte ∷ b) = ap suc (clean_length (suc i) b)

  from_byte : (k : ℕ) (b : List ℕ) (i : ℕ) → get_or (clean_from ps extent k b) i 0 ≡ clean_byte ps extent (k + i) (get_or b i 0)
  unfolding clean_from
  from_byte k [] i = sym (byte_zero ps extent (k + i))
  from_byte k (byte ∷ b) zero = rw add-zero refl
  from_byte k (byte ∷ b) (suc i) =
      from_byte (suc k) b i ∙ ap (λ (j : ℕ). clean_byte ps extent j (get_or b i 0)) (omega arith)

  -- Cleaning cleans each byte.
  pub clean_byte_lem : (b : List ℕ) (i : ℕ) → get_or (clean_from ps extent 0 b) i 0 ≡ clean_byte ps extent i (get_or b i 0)
  clean_byte_lem b i = from_byte 0 b i ∙ ap (λ (j : ℕ). clean_byte ps extent j (get_or b i 0)) (zero-add i)

  -- A buffer cleaned twice is as cleaned once.
  pub clean_again : (k : ℕ) (b : List ℕ) → clean_from ps extent k (clean_from ps extent k b) ≡ clean_from ps extent k b
  unfolding clean_from
  clean_again k [] = refl
  clean_again k (byte ∷ b) = rw (byte_again ps extent k byte, clean_again (suc k) b) refl
