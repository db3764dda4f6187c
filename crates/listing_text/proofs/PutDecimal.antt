-- A number put in decimal, digit after digit.
-- Assumes nothing.
use Prim.Native.Nat.{ℕ, ◌+◌, ◌/◌, ◌%◌, ◌^◌, ◌<◌, ◌≤◌}
use mathlib.Core.Path.{◌≡◌}
use mathlib.Core.List.{List}
use native.Mathlib.Omega.{arith}
use lib.ListN.{set}
use Rattle.wgsl.specs.Listing.{decimal}
use Rattle.puts.specs.Put.{Put}
use Rattle.puts.proofs.PutLaws.{put_then, put_one}
use Rattle.listing_text.proofs.Decimal.{decimal_digit, decimal_more}

pub put_digit : (b : List ℕ) (at n : ℕ) → n < 10 → Put b at (decimal n) (at + 1) (set b at (48 + n % 10))
put_digit b at n h =
    let e : n % 10 ≡ n = omega arith in
    rw (decimal_digit n h, e) (put_one b at (48 + n))

pub put_last : {b c : List ℕ} {at r : ℕ} (n : ℕ) → 10 ≤ n → n < 2 ^ 32 → Put b at (decimal (n / 10)) r c → Put b at (decimal n) (r + 1) (set c r (48 + n % 10))
put_last {b} {c} {at} {r} n l h p = rw (decimal_more n l h) (put_then p (put_one c r (48 + n % 10)))
