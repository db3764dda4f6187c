-- Member entries put one after the other (specs/Entries).
--
-- In order: their length; one more of them.
-- Assumes nothing.
use Prim.Native.Nat.{ℕ, zero, suc, ◌+◌, ◌-◌, ◌*◌, ◌<◌, ◌≤◌}
use mathlib.Core.List.{List, ◌++◌}
use mathlib.Core.Path.{◌≡◌, refl}
use native.Mathlib.Nat.{mul-suc, mul-zero}
use native.Mathlib.Omega.{arith}
use lib.ListN.{length, take, drop, length-append, length-drop}
use lib.Seq.{sets, length-take-le}
use Rattle.puts.specs.Put.{Put}
use Rattle.puts.proofs.PutLaws.{sets_append}
use Rattle.forms.specs.Entries.{entries_from, file_with}

module _ (f : List ℕ) (long : ℕ) (name : List ℕ) (least : 12 ≤ long) where
  pub entry_long : (from : ℕ) → from + 12 ≤ length f → length (take 12 (drop from f) ++ name) ≡ 12 + length name
  entry_long from h =
      let fields = length-take-le 12 (drop from f) (rw length-drop (omega (arith, h))) in
      rw (length-append, fields) refl

  pub entries_long : (n from : ℕ) → from + long * n ≤ length f → length (entries_from f long name n from) ≡ (12 + length name) * n
  unfolding entries_from
  entries_long zero from h = rw (mul-zero (12 + length name)) refl
  entries_long (suc n) from h =
      let fields = length-take-le 12 (drop from f) (rw length-drop (omega (arith, h, mul-suc long n))) in
      rw (length-append, length-append, fields, entries_long n (from + long) (omega (arith, h, mul-suc long n)))
      (omega (arith, mul-suc (12 + length name) n))

  pub entries_next : {out out' : List ℕ} {at end : ℕ} (n m from : ℕ) → m < n → Put out at (take 12 (drop from f) ++ name) end out' → sets out' end (entries_from f long name (n - (m + 1)) (from + long)) ≡ sets out at (entries_from f long name (n - m) from)
  unfolding entries_from
  entries_next {out} {out'} {at} {end} n m from h p =
      let more : n - m ≡ suc (n - (m + 1)) = omega arith in
      rw (more, p.bytes, p.next) (sets_append (take 12 (drop from f) ++ name) (entries_from f long name (n - (m + 1)) (from + long)) out at)

  -- none are left
  pub entries_none : (out : List ℕ) (at n m from : ℕ) → n ≤ m → sets out at (entries_from f long name (n - m) from) ≡ out
  unfolding entries_from
  entries_none out at n m from h = let none : n - m ≡ 0 = omega arith in rw none refl

-- ---- the whole file

pub file_with_lem : (f : List ℕ) (from long members : ℕ) (name form : List ℕ) → take from f ++ (entries_from f long name members from ++ (take 8 (drop (length f - 10) f) ++ form)) ≡ file_with f from long members name form
unfolding file_with
file_with_lem f from long members name form = refl
