-- The words that a scalar takes (specs/Place, `word_places`).
--
-- In order: how many; the number that they hold together; where they lie.
-- Assumes nothing.
use Prim.Native.Nat.{ℕ, zero, suc, ◌+◌, ◌-◌, ◌*◌, ◌^◌, ◌<◌, ◌≤◌, min}
use mathlib.Core.List.Memᴰ
use mathlib.Core.List.{List, [], ◌∷◌, Memᴰ}
use mathlib.Core.Logic.{⊎_elim}
use mathlib.Core.Option.{some, some-injective}
use mathlib.Core.Path.{◌≡◌, refl, ap, ◌∙◌}
use native.Mathlib.Omega.{arith}
use native.Mathlib.Nat.{lt_of_not-le}
use native.Mathlib.Decide.{dec_le}
use lib.ListN.{length, get_elem?}
use Rattle.wgsl.specs.Round.{up}
use Rattle.wgsl.specs.Number.{load}
use Rattle.wgsl.specs.Types.{Scalar}
use Rattle.wgsl.specs.Size.{present, width_of}
use Rattle.wgsl.specs.Place.{Place, words_over, words_for, word_places, words_read}
use Rattle.wgsl.specs.Claim.{together}
use Rattle.wgsl.specs.Demand.{Words}
use Rattle.wgsl.proofs.Absent.{some_not_none}
use Rattle.wgsl.proofs.Number.{load_add}

-- ---- how many

length_over : (n bytes at : ℕ) → length (words_over n bytes at) ≡ n
unfolding words_over
length_over zero bytes at = refl
length_over (suc n) bytes at = ap suc (length_over n _ _)

-- A scalar takes a word for every four of its bytes, and for a rest of them.
pub scalar_length : (s : Scalar) (at : ℕ) → length (word_places s at) ≡ words_for (present (width_of s))
unfolding word_places
scalar_length s at = length_over _ _ at

-- so many words are enough, and no fewer are
pub words_enough : (bytes : ℕ) → bytes ≤ 4 * words_for bytes
unfolding words_for up
words_enough bytes = omega arith

pub words_needed : (bytes : ℕ) → 4 * words_for bytes < bytes + 4
unfolding words_for up
words_needed bytes = omega arith

-- A scalar that has a size takes a word.
pub words_some : (bytes : ℕ) → 0 < bytes → 0 < words_for bytes
words_some bytes h = omega (arith, words_enough bytes)

-- ---- the number that they hold together

first_word : (bytes at : ℕ) (b : List ℕ) → load bytes b at ≡ load (min 4 bytes) b at + 2 ^ 32 * load (bytes - 4) b (at + 4)
unfolding load
first_word bytes at b = elim (dec_le 4 bytes) [ yes h ↦ long h | no h ↦ short (lt_of_not-le h) ]
  where
    long : 4 ≤ bytes → load bytes b at ≡ load (min 4 bytes) b at + 2 ^ 32 * load (bytes - 4) b (at + 4)
    long h =
        let m : min 4 bytes ≡ 4 = omega arith in
        let r : bytes ≡ 4 + (bytes - 4) = omega arith in
        rw m (ap (λ (k : ℕ). load k b at) r ∙ load_add 4 (bytes - 4) b at)

    short : bytes < 4 → load bytes b at ≡ load (min 4 bytes) b at + 2 ^ 32 * load (bytes - 4) b (at + 4)
    short h =
        let m : min 4 bytes ≡ bytes = omega arith in
        let r : bytes - 4 ≡ 0 = omega arith in
        rw (m, r) (omega arith)

low_first : (n bytes at : ℕ) (b : List ℕ) → bytes ≤ 4 * n → load bytes b at ≡ together (words_read (words_over n bytes at) b)
unfolding words_over words_read together load
low_first zero bytes at b h = let z : bytes ≡ 0 = omega arith in rw z
low_first (suc n) bytes at b h =
    first_word bytes at b
    ∙ ap (λ (rest : ℕ). load (min 4 bytes) b at + 2 ^ 32 * rest) (low_first n (bytes - 4) (at + 4) b (omega arith))

-- The words of a scalar are its number, the lowest first.
pub words_low_first : (s : Scalar) (b : List ℕ) (at : ℕ) → load (present (width_of s)) b at ≡ together (words_read (word_places s at) b)
unfolding word_places
words_low_first s b at = low_first _ _ at b (words_enough _)

-- No other words of 32 bits, as many of them, are that number.
pub together_one : (ws vs : List ℕ) → length ws ≡ length vs → Words ws → Words vs → together ws ≡ together vs → ws ≡ vs
unfolding together Words
together_one [] [] l a b e = refl
together_one [] (v ∷ vs) l a b e = absurd (omega arith)
together_one (w ∷ ws) [] l a b e = absurd (omega arith)
together_one (w ∷ ws) (v ∷ vs) l a b e =
    let first : w ≡ v = omega (arith, a.0, b.0) in
    let rest = together_one ws vs (omega arith) a.1 b.1 (omega (arith, a.0, b.0)) in
    rw (first, rest)

-- ---- where they lie

inside_over : (n bytes at : ℕ) (p : Place) → 4 * n < bytes + 4 → Memᴰ p (words_over n bytes at) → (at ≤ p.at) × (p.at < at + bytes)
unfolding words_over
inside_over zero bytes at p h m = absurd (Memᴰ.not-nil m)
inside_over (suc zero) bytes at p h m =
    ⊎_elim (λ (e : p ≡ record { at = at; width = min 4 bytes }). rw e (omega arith, omega arith))
    (λ (r : Memᴰ p []). absurd (Memᴰ.not-nil r)) (Memᴰ.cases_cons m)
inside_over (suc (suc n)) bytes at p h m =
    ⊎_elim (λ (e : p ≡ record { at = at; width = min 4 bytes }). rw e (omega arith, omega arith))
    (λ (r : Memᴰ p (words_over (suc n) (bytes - 4) (at + 4))).
    let i = inside_over (suc n) (bytes - 4) (at + 4) p (omega arith) r in
    (omega (arith, i.0), omega (arith, i.1))) (Memᴰ.cases_cons m)

-- Each of them begins inside the scalar.
pub word_inside : (s : Scalar) (at : ℕ) (p : Place) → Memᴰ p (word_places s at) → (at ≤ p.at) × (p.at < at + present (width_of s))
unfolding word_places
word_inside s at p m = inside_over _ _ at p (words_needed _) m

lies_over : (n bytes at k : ℕ) (p : Place) → get_elem? (words_over n bytes at) k ≡ some p → (p.at ≡ at + 4 * k) × (p.width ≡ min 4 (bytes - 4 * k))
unfolding words_over
lies_over zero bytes at k p e = some_not_none e refl
lies_over (suc n) bytes at zero p e =
    let same = some-injective _ p e in
    rw (← same) (omega arith, ap (min 4) (omega arith))
lies_over (suc n) bytes at (suc k) p e =
    let l = lies_over n (bytes - 4) (at + 4) k p e in
    (omega (arith, l.0), l.1 ∙ ap (min 4) (omega arith))

-- Word k begins at byte 4 x k of the scalar, and holds four of its bytes, or those that are left.
pub word_lies : (s : Scalar) (at k : ℕ) (p : Place) → get_elem? (word_places s at) k ≡ some p → (p.at ≡ at + 4 * k) × (p.width ≡ min 4 (present (width_of s) - 4 * k))
unfolding word_places
word_lies s at k p e = lies_over _ _ at k p e
