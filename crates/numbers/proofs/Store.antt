-- What two and four stores in a row are, and what copying the bytes of a number over others is.
-- Assumes nothing.
use Prim.Native.Nat.{ℕ, ◌+◌, ◌/◌, ◌%◌, ◌<◌, ◌≤◌}
use mathlib.Core.List.{List, append_assoc}
use mathlib.Core.Path.{◌≡◌, sym, ◌∙◌}
use native.Mathlib.Omega.{arith}
use native.Mathlib.Numerals.{add-one, add-two, add-three}
use borrow.Rule.Slice.PartMut.{put_mid}
use lib.ListN.{length, set}
use lib.Seq.{sets-eq}
use Rattle.std.proofs.lemmas.Slice.{put_mid-paste}
use Rattle.std.proofs.lemmas.List.Edits.{paste_all}
use Rattle.std.specs.Int.{to_le_bytes, w16, w32}
use Rattle.wgsl.specs.Number.{bytes_of, store}
use Rattle.wgsl.proofs.Number.{length_bytes_of}

pub stores_two : (b : List ℕ) (at n : ℕ) → n < 65536 → set (set b at (n % 256)) (at + 1) (n / 256) ≡ store 2 b at n
unfolding store bytes_of
stores_two b at n h =
    let top : n / 256 % 256 ≡ n / 256 = omega arith in
    rw (top, add-one)

pub stores_four : (b : List ℕ) (at n : ℕ) → set (set (set (set b at (n % 256)) (at + 1) (n / 256 % 256)) (at + 2) (n / 65536 % 256)) (at + 3) (n / 16777216 % 256) ≡ store 4 b at n
unfolding store bytes_of
stores_four b at n =
    let third : n / 65536 ≡ n / 256 / 256 = omega arith in
    let fourth : n / 16777216 ≡ n / 256 / 256 / 256 = omega arith in
    rw (third, fourth, add-one, add-two, add-three)

-- The k lowest bytes of n, copied over the m from `at` on, are n stored there.
stored_bytes : (k n : ℕ) (b ys : List ℕ) (at m : ℕ) → m ≡ k → ys ≡ bytes_of k n → at + k ≤ length b → put_mid at m b ys ≡ store k b at n
unfolding store
stored_bytes k n b ys at m i e h =
    let l = length_bytes_of k n in
    put_mid-paste at m b ys (bytes_of k n) k e (sym i) (sym l)
    ∙ paste_all b at (bytes_of k n) k (sym l)
    ∙ sym (rw (l, append_assoc) at (sets-eq (bytes_of k n) b at (omega (arith, l))))

-- What `copy_from_slice(&n.to_le_bytes())` leaves, for two bytes and for four.
pub stored_two : (b ys : List ℕ) (at m n : ℕ) → m ≡ 2 → ys ≡ to_le_bytes w16 n → at + 2 ≤ length b → put_mid at m b ys ≡ store 2 b at n
unfolding bytes_of
stored_two b ys at m n i e h = stored_bytes 2 n b ys at m i e h

pub stored_four : (b ys : List ℕ) (at m n : ℕ) → m ≡ 4 → ys ≡ to_le_bytes w32 n → at + 4 ≤ length b → put_mid at m b ys ≡ store 4 b at n
unfolding bytes_of
stored_four b ys at m n i e h =
    let third : n / 65536 ≡ n / 256 / 256 = omega arith in
    let fourth : n / 16777216 ≡ n / 256 / 256 / 256 = omega arith in
    stored_bytes 4 n b ys at m i (rw (third, fourth) at e) h
