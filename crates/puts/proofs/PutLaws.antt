-- Laws of `Put` (specs/Put): puts one after another, one store, and the turns of a loop that stores.
--
-- In order: a run of stores; puts; the loop.
-- Assumes nothing.
use Prim.Native.Nat.{ℕ, suc, ◌+◌, ◌<◌}
use mathlib.Core.Path.{◌≡◌, refl, ap, ◌∙◌}
use mathlib.Core.List.{List, [], ◌∷◌, ◌++◌}
use native.Mathlib.Nat.{add-zero}
use native.Mathlib.Numerals.{add-one}
use native.Mathlib.Omega.{arith}
use lib.ListN.{length, get_or, drop, set, length-append}
use lib.Seq.{sets, length-sets, drop-cons, drop-length}
use Rattle.puts.specs.Put.{Put}

-- ---- a run of stores

pub sets_append : (x y b : List ℕ) (at : ℕ) → sets (sets b at x) (at + length x) y ≡ sets b at (x ++ y)
sets_append [] y b at = rw (add-zero at)
sets_append (a ∷ x) y b at =
    let e : at + suc (length x) ≡ suc at + length x = omega arith in
    rw e (sets_append x y (set b at a) (suc at))

-- ---- puts

pub put_then : {b c d x y : List ℕ} {at r s : ℕ} → Put b at x r c → Put c r y s d → Put b at (x ++ y) s d
put_then {b} {c} {d} {x} {y} {at} {r} {s} p q =
    record {
      next = omega (arith, p.next, q.next, length-append x y);
      bytes = q.bytes ∙ rw (p.bytes, p.next) (sets_append x y b at);
    }

pub put_one : (b : List ℕ) (at v : ℕ) → Put b at (v ∷ []) (at + 1) (set b at v)
put_one b at v = record { next = refl; bytes = refl }

pub put_length : {b c x : List ℕ} {at r : ℕ} → Put b at x r c → length c ≡ length b
put_length {b} {c} {x} {at} {r} p = ap length p.bytes ∙ length-sets b at x

-- ---- the loop: what is left to store, from here, gives what the whole gives from the start

pub left_all : (b : List ℕ) (at : ℕ) (x : List ℕ) → sets b (at + 0) (drop 0 x) ≡ sets b at x
left_all b at x = rw (add-zero at)

pub left_more : (b : List ℕ) (at : ℕ) (x : List ℕ) (i : ℕ) → i < length x → sets (set b (at + i) (get_or x i 0)) (at + (i + 1)) (drop (i + 1) x) ≡ sets b (at + i) (drop i x)
left_more b at x i h =
    let e : at + (i + 1) ≡ suc (at + i) = omega arith in
    rw (e, add-one i, drop-cons x i 0 h)

pub left_none : (b : List ℕ) (at : ℕ) (x : List ℕ) (i : ℕ) → i ≡ length x → sets b (at + i) (drop i x) ≡ b
left_none b at x i e = rw (e, drop-length x)
