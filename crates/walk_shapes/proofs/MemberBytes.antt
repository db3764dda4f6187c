-- The member entries of a file, read from the bytes of all of them (crates/file, specs/Members).
--
-- In order: numbers read from a part of the bytes; how many bytes there are; the entries.
-- Assumes nothing.
use Prim.Native.Nat.{ℕ, zero, suc, ◌+◌, ◌*◌, ◌<◌, ◌≤◌}
use mathlib.Core.List.{List}
use mathlib.Core.Path.{◌≡◌, refl, ap, ◌∙◌}
use native.Mathlib.Nat.{mul_comm}
use native.Mathlib.Omega.{arith}
use lib.ListN.{length, take, drop, length-drop}
use lib.Seq.{get_or-take, get_or-drop, length-take-le}
use Rattle.wgsl.specs.Types.{Ty}
use Rattle.wgsl.specs.Number.{load}
use Rattle.wgsl.specs.Said.{good}
use Rattle.wgsl.specs.File.{trailer_of, length_by, MemberEntry, member_entry_from, member_entry_at, type_entry_length, member_fields_length}
use Rattle.wgsl.specs.Rule.{types_of}
use Rattle.wgsl.proofs.Accepted.{accepted}
use Rattle.file.specs.Members.{members_start, member_bytes, member_length}
use Rattle.wgsl.proofs.MemberLength.{length_least, entry_within}
use Rattle.walk_trees.specs.Slot.{member_at}

-- What is read from the bytes after s is read s bytes later.
load_part : (k n s : ℕ) (f : List ℕ) (at : ℕ) → at + k ≤ n → load k (take n (drop s f)) at ≡ load k f (s + at)
unfolding load
load_part zero n s f at h = refl
load_part (suc k) n s f at h =
    let low : at < n = omega arith in
    let e : s + (at + 1) ≡ s + at + 1 = omega arith in
    rw (get_or-take n (drop s f) at 0 low, get_or-drop s f at 0, load_part k n s f (at + 1) (omega arith), e)

pub length_member_bytes : (f : List ℕ) (ts : List Ty) → types_of f ≡ good ts → length (member_bytes f) ≡ member_length f * (trailer_of f).members
unfolding member_bytes members_start length_by
length_member_bytes f ts e =
    let a = accepted f ts e in
    length-take-le (member_length f * (trailer_of f).members) (drop ((trailer_of f).start + type_entry_length * (trailer_of f).types) f)
    (rw length-drop (omega (arith, a.trailer_good.long)))

-- The fields of member m's entry lie within them.
pub member_inside : (f : List ℕ) (m : ℕ) → m < (trailer_of f).members → m * member_length f + member_fields_length ≤ member_length f * (trailer_of f).members
member_inside f m h =
    omega (arith, entry_within (member_length f) h, mul_comm m (member_length f), length_least (trailer_of f).form)

entry_same_parts : (a b : MemberEntry) → a.type ≡ b.type → a.flags ≡ b.flags → a.size ≡ b.size → a.align ≡ b.align → a ≡ b
entry_same_parts a b p q r s = rw (p, q, r, s)

-- The entry of member m begins where m entries end.
pub member_bytes_at : (f : List ℕ) (m : ℕ) → m < (trailer_of f).members → member_at (member_bytes f) (m * member_length f) ≡ member_entry_at f m
unfolding member_bytes members_start member_entry_at member_entry_from
member_bytes_at f m h =
    let s : ℕ = (trailer_of f).start + type_entry_length * (trailer_of f).types in
    let long : ℕ = member_length f in
    let n : ℕ = long * (trailer_of f).members in
    let inside : m * long + 12 ≤ n = member_inside f m h in
    let place : m * long ≡ long * m = mul_comm m long in
    let one : s + m * long ≡ s + long * m = omega arith in
    let two : s + (m * long + 2) ≡ s + long * m + 2 = omega arith in
    let four : s + (m * long + 4) ≡ s + long * m + 4 = omega arith in
    let eight : s + (m * long + 8) ≡ s + long * m + 8 = omega arith in
    entry_same_parts (member_at (member_bytes f) (m * long)) (member_entry_at f m)
    (load_part 2 n s f (m * long) (omega arith) ∙ ap (load 2 f) one)
    (load_part 2 n s f (m * long + 2) (omega arith) ∙ ap (load 2 f) two)
    (load_part 4 n s f (m * long + 4) (omega arith) ∙ ap (load 4 f) four)
    (load_part 4 n s f (m * long + 8) (omega arith) ∙ ap (load 4 f) eight)
