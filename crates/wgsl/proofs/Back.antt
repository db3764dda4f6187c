-- There and back: a file in another form, in its own form again, is the file (specs/Form).
--
-- In order: member entries; the trailer; the file.
-- Assumes nothing.
use Prim.Native.Nat.{ℕ, zero, suc, ◌+◌, ◌-◌, ◌*◌, ◌<◌, ◌≤◌}
use mathlib.Core.List.{List}
use mathlib.Core.Path.{◌≡◌, refl, ap}
use native.Mathlib.Omega.{arith}
use native.Mathlib.Nat.{suc-mul, mul_comm, mul-zero, zero-mul}
use lib.ListN.{length, get_or, take, drop, take-append-drop, length-drop}
use lib.Seq.{take-add, drop-drop, take_all}
use Rattle.wgsl.specs.Number.{load}
use Rattle.wgsl.specs.File.{Trailer, trailer_of, trailer_length, member_entry_length, length_by}
use Rattle.wgsl.specs.Form.{member_place, entries_with, trailer_as, moved_to}
use Rattle.wgsl.proofs.Number.{bytes_load}
use Rattle.wgsl.proofs.Trailed.{Trailed}
use Rattle.wgsl.proofs.Moved.{moved_head, moved_fields, moved_trailer, trailer_moved}

module _ {f : List ℕ} {r : Trailer} (t : Trailed f r) (form : ℕ) (name : List ℕ) (low : 1 ≤ form) (high : form ≤ 2) (wide : 12 + length name ≡ member_entry_length form) (back : List ℕ) (wide_back : 12 + length back ≡ member_entry_length r.form) (names : (m : ℕ) → m < r.members → take (length back) (drop (member_place f m + 12) f) ≡ back) where
  abbrev moved : List ℕ
  moved = moved_to form name f

  next_place : (m : ℕ) → member_place f (suc m) ≡ member_place f m + (12 + length back)
  unfolding member_place
  next_place m = rw (← t.is, wide_back) (omega (arith, mul_comm (member_entry_length r.form) (suc m), suc-mul m (member_entry_length r.form), mul_comm (member_entry_length r.form) m))

  entries_back : (n m : ℕ) → m + n ≤ r.members → entries_with moved back n m ≡ take (n * (12 + length back)) (drop (member_place f m) f)
  unfolding entries_with
  entries_back zero m h = rw (zero-mul (12 + length back)) refl
  entries_back (suc n) m h =
      let p = member_place f m in
      let inside : m < r.members = omega arith in
      let more : suc n * (12 + length back) ≡ 12 + (length back + n * (12 + length back)) = omega (arith, suc-mul n (12 + length back)) in
      let after : p + (12 + length back) ≡ p + 12 + length back = omega arith in
      rw (moved_fields t form name low high wide m inside, entries_back n (suc m) (omega arith), next_place m, more, take-add 12 _ (drop p f), drop-drop 12 p f, take-add (length back) _ (drop (p + 12) f), drop-drop (length back) (p + 12) f, names m inside, after) refl

  module _ (bytes : (i : ℕ) → get_or f i 0 < 256) where
    trailer_back : trailer_as r.form moved ≡ drop (length f - trailer_length) f
    unfolding trailer_as trailer_of
    trailer_back =
        let at : ℕ = length f - 10 in
        let is_form : r.form ≡ load 2 f (at + 8) = ap (λ (x : Trailer). x.form) t.is in
        let all : length (drop at f) ≤ 10 = rw length-drop (omega arith) in
        rw (moved_trailer t form name low high wide, is_form, bytes_load 2 f (at + 8) (omega (arith, t.bytes)) bytes, ← drop-drop 8 at f, ← take-add 8 2 (drop at f), take_all 10 (drop at f) all) refl

    pub there_and_back : moved_to r.form back moved ≡ f
    unfolding moved_to member_place length_by
    there_and_back =
        let p = member_place f 0 in
        let n = r.members * (12 + length back) in
        let members : (trailer_of moved).members ≡ r.members = rw (trailer_moved t form name low high wide) refl in
        let first : p ≡ r.start + 12 * r.types = rw (← t.is, mul-zero) (omega arith) in
        let end : length f - 10 ≡ p + n = rw wide_back (omega (arith, t.long, first, mul_comm r.members (member_entry_length r.form))) in
        rw (moved_head t form name low high wide, members, entries_back r.members 0 (omega arith), trailer_back, end, ← drop-drop n p f, take-append-drop n (drop p f)) (take-append-drop p f)
