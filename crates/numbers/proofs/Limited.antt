-- Laws of `limited` (specs/Limit).
-- Assumes nothing.
use Rattle.std.specs.Prelude.{Err, None, Ok, OkIff, Option, Result, Some, SomeIff}
use Rattle.std.specs.Result.{result_ok}
use Prim.Native.Nat.{ℕ, ◌<◌, ◌≤◌}
use mathlib.Core.Path.{◌≡◌, ap, sym, ◌∙◌}
use mathlib.Core.Logic.{⊎_elim}
use native.Mathlib.Omega.{arith}
use borrow.Author.Tests.{le-leb, lt-leb}
use Rattle.wgsl.specs.Round.{within_limit}
use Rattle.wgsl.proofs.Bit.{lt_or_le}
use Rattle.numbers.specs.Limit.{limited}

pub limited_within : (n : ℕ) → n ≤ 4294967295 → limited n ≡ Some n
unfolding limited within_limit
limited_within n h = rw (le-leb n 4294967295 h)

pub limited_past : (n : ℕ) → 4294967295 < n → limited n ≡ None
unfolding limited within_limit
limited_past n h = rw (lt-leb n 4294967295 h)

-- What std's checked sums and products tell is `limited`.
pub limited_some : (r : Option ℕ) (n : ℕ) → SomeIff r (n < 4294967296) n → r ≡ limited n
limited_some (Some a) n h = ap Some h.1 ∙ sym (limited_within n (omega (arith, h.0)))
limited_some None n h = sym (limited_past n (⊎_elim (λ (q : n < 4294967296). absurd (h q)) (λ (q : 4294967296 ≤ n). omega arith) (lt_or_le n 4294967296)))

-- .. and so is what its conversion to 32 bits tells.
pub limited_ok : {E : Type 0} (r : Result ℕ E) (n : ℕ) → OkIff r (n < 4294967296) n → result_ok r ≡ limited n
limited_ok (Ok a) n h = limited_some (Some a) n h
limited_ok (Err e) n h = limited_some None n h
