-- Laws of numbers in bytes (specs/Number), each over the width.
--
-- In order: lengths; what is read at two widths in a row; a number from bytes is bounded; what a store sets and leaves alone; a number stored
-- is read back; a number read is stored back.
-- Assumes nothing.
use Prim.Native.Nat.{ℕ, zero, suc, ◌+◌, ◌*◌, ◌/◌, ◌%◌, ◌^◌, ◌<◌, ◌≤◌}
use mathlib.Core.List.{List, [], ◌∷◌}
use mathlib.Core.Path.{◌≡◌, refl, ap, ◌∙◌}
use mathlib.Core.Logic.{⊎_elim}
use native.Mathlib.Omega.{arith, pow_step}
use native.Mathlib.Nat.{zero-add, add-zero, suc-add, one-mul, mul_assoc, pow-suc}
use native.Mathlib.Numerals.{add-one}
use lib.ListN.{length, get_or, take, drop, set, length-set}
use lib.Seq.{sets, length-sets, get_or-set_same, get_or-set_other, drop-cons}
use Rattle.wgsl.specs.Number.{load, bytes_of, store}
use Rattle.wgsl.specs.Claim.{Outside}

-- A number takes as many bytes as it is wide.
pub length_bytes_of : (k n : ℕ) → length (bytes_of k n) ≡ k
unfolding bytes_of
length_bytes_of zero n = refl
length_bytes_of (suc k) n = ap suc (length_bytes_of k (n / 256))

-- A store keeps the length.
pub length_store : (k : ℕ) (b : List ℕ) (at n : ℕ) → length (store k b at n) ≡ length b
unfolding store
length_store k b at n = length-sets b at (bytes_of k n)

-- A number of j + k bytes is one of j bytes and, above it, one of k.
pub load_add : (j k : ℕ) (b : List ℕ) (at : ℕ) → load (j + k) b at ≡ load j b at + 256 ^ j * load k b (at + j)
unfolding load
load_add zero k b at = simp (zero-add, add-zero, one-mul)
load_add (suc j) k b at =
    rw (suc-add, pow_step 256 j, mul_assoc 256 (256 ^ j))
    (let e : at + suc j ≡ at + 1 + j = omega arith in
    rw e (omega (arith, load_add j k b (at + 1))))

-- A number of k bytes is below 256 ^ k.
pub load_bounded : (k : ℕ) (b : List ℕ) (at : ℕ) → ((i : ℕ) → get_or b i 0 < 256) → load k b at < 256 ^ k
unfolding load
load_bounded zero b at h = omega arith
load_bounded (suc k) b at h = rw (pow_step 256 k) (omega (arith, h at, load_bounded k b (at + 1) h))

-- What is set from p on stays below p,
pub sets_below : (vs b : List ℕ) (p i : ℕ) → i < p → get_or (sets b p vs) i 0 ≡ get_or b i 0
sets_below [] b p i h = refl
sets_below (v ∷ vs) b p i h = sets_below vs (set b p v) (suc p) i (omega arith) ∙ get_or-set_other b p i v 0 (omega arith)

-- and past its end.
pub sets_past : (vs b : List ℕ) (p i : ℕ) → p + length vs ≤ i → get_or (sets b p vs) i 0 ≡ get_or b i 0
sets_past [] b p i h = refl
sets_past (v ∷ vs) b p i h = sets_past vs (set b p v) (suc p) i (omega arith) ∙ get_or-set_other b p i v 0 (omega arith)

-- A store changes no byte outside its own.
pub store_other : (k : ℕ) (b : List ℕ) (at n i : ℕ) → Outside at k i → get_or (store k b at n) i 0 ≡ get_or b i 0
unfolding store
store_other k b at n i o =
    ⊎_elim (λ (h : i < at). sets_below (bytes_of k n) b at i h)
    (λ (h : at + k ≤ i). sets_past (bytes_of k n) b at i (omega (arith, length_bytes_of k n))) o

-- What is read depends on the bytes read alone.
pub load_same : (k : ℕ) (a b : List ℕ) (at : ℕ) → ((i : ℕ) → at ≤ i → i < at + k → get_or a i 0 ≡ get_or b i 0) → load k a at ≡ load k b at
unfolding load
load_same zero a b at h = refl
load_same (suc k) a b at h =
    rw (h at (omega arith) (omega arith), load_same k a b (at + 1) (λ i lo hi. h i (omega arith) (omega arith)))

-- A number that fits its width is read back.
pub load_store : (k : ℕ) (b : List ℕ) (at n : ℕ) → at + k ≤ length b → n < 256 ^ k → load k (store k b at n) at ≡ n
unfolding load store bytes_of
load_store zero b at n h f = omega arith
load_store (suc k) b at n h f =
    let b' : List ℕ = set b at (n % 256) in
    let first : get_or (store k b' (suc at) (n / 256)) at 0 ≡ n % 256 =
    sets_below (bytes_of k (n / 256)) b' (suc at) at (omega arith) ∙ get_or-set_same b at (n % 256) 0 (omega arith) in
    let rest : load k (store k b' (suc at) (n / 256)) (suc at) ≡ n / 256 =
    load_store k b' (suc at) (n / 256) (simp length-set (omega arith)) (omega (arith, pow-suc 256 k)) in
    rw (add-one at, first, rest) (omega arith)

-- Bytes are those of the number that they hold.
pub bytes_load : (k : ℕ) (b : List ℕ) (at : ℕ) → at + k ≤ length b → ((i : ℕ) → get_or b i 0 < 256) → bytes_of k (load k b at) ≡ take k (drop at b)
unfolding load bytes_of
bytes_load zero b at h w = refl
bytes_load (suc k) b at h w =
    let x = get_or b at 0 in
    let y = load k b (at + 1) in
    let low : (x + 256 * y) % 256 ≡ x = omega (arith, w at) in
    let high : (x + 256 * y) / 256 ≡ y = omega (arith, w at) in
    rw (low, high, bytes_load k b (at + 1) (omega arith) w, drop-cons b at 0 (omega arith), add-one at) refl
