-- Members that are named, and their marks (specs/Strays).
--
-- In order: what an entry names; marks entry by entry; the verdict.
-- Assumes nothing.
use Prim.Native.Nat.{ℕ, zero, suc, min, ◌+◌, ◌*◌, ◌/◌, ◌%◌, ◌<◌, ◌≤◌}
use mathlib.Core.Bool.{Bool, true, false, ◌&&◌, ◌||◌}
use mathlib.Core.List.{List}
use mathlib.Core.Logic.{◌⊎◌, inl, inr}
use mathlib.Core.Path.{◌≡◌, refl, ap, sym, ◌∙◌}
use native.Mathlib.Numerals.{add-one}
use native.Mathlib.Omega.{arith}
use borrow.Author.Tests.{eq-eqb, ne_eqb, lt-ltb, le-ltb}
use lib.Dec.{leb, ltb}
use lib.ListN.{get_or, replicate}
use Rattle.wgsl.specs.Types.{struct_kind}
use Rattle.wgsl.specs.Said.{refuse}
use Rattle.wgsl.specs.File.{TypeEntry, type_entry_at, type_entry_from, type_entry_length}
use Rattle.wgsl.specs.Rule.{names_member, is_named, all_named}
use Rattle.wgsl.proofs.Bit.{bit_above, lt_or_le}
use Rattle.wgsl.proofs.Stray.{named_all, unnamed_refused}
use Rattle.layout_strays.specs.Strays.{Entries, mark_at, Marks}

-- ---- what an entry names

module _ (e : TypeEntry) (m : ℕ) where
  pub not_struct : (e.kind ≡ struct_kind → ⊥) → names_member e m ≡ false
  unfolding names_member
  not_struct other = rw (ne_eqb e.kind struct_kind other) refl

  of_struct : e.kind ≡ struct_kind → names_member e m ≡ (leb e.reference m && ltb m (e.reference + e.count))
  unfolding names_member
  of_struct is = rw (eq-eqb e.kind struct_kind is) refl

  -- the same by the numbers that the code has, cut where there are no more members
  pub names_cut : {from count members to : ℕ} → e.kind ≡ struct_kind → to ≡ min (from + count) members → from ≡ e.reference → count ≡ e.count → m < members → (leb from m && ltb m to) ≡ names_member e m
  names_cut {from} {count} {members} {to} is cut p q low =
      ap (λ b. leb from m && b) (same (lt_or_le m (from + count))) ∙ rw (p, q) (sym (of_struct is))
    where
      same : (m < from + count) ⊎ (from + count ≤ m) → ltb m to ≡ ltb m (from + count)
      same (inl h) = rw (lt-ltb m to (omega arith), lt-ltb m (from + count) h)
      same (inr h) = rw (le-ltb m to (omega arith), le-ltb m (from + count) h)

-- where the k-th entry begins
pub entry_there : {f : List ℕ} {start types : ℕ} → Entries f start types → {e : TypeEntry} (k : ℕ) → e ≡ type_entry_from f (start + type_entry_length * k) → e ≡ type_entry_at f k
unfolding type_entry_at
entry_there x k h = rw (← x.start_is) h

-- ---- marks entry by entry

pub or_none : (a b : Bool) → b ≡ false → a ≡ (a || b)
or_none true b e = refl
or_none false b e = sym e

pub marks_next : (f : List ℕ) (k m : ℕ) {e : TypeEntry} {held : Bool} → held ≡ is_named f k m → e ≡ type_entry_at f k → (held || names_member e m) ≡ is_named f (k + 1) m
unfolding is_named
marks_next f k m held is = rw (add-one k, held, is) refl

-- none is marked, and none named by no entry
blank : (n i : ℕ) → ◌≡◌ {A = ℕ} (get_or (replicate n 0) i 0) 0
blank zero i = refl
blank (suc n) zero = refl
blank (suc n) (suc i) = blank n i

pub marks_none : (f : List ℕ) (members : ℕ) → Marks f 0 members (replicate 16 0)
unfolding is_named mark_at
marks_none f members m low = rw (blank 16 (m / 64)) (bit_above 0 0 (m % 64) (omega arith) (omega arith))

-- ---- the verdict

-- a stray that is the lowest, or none
pub verdict_stray : (f : List ℕ) (n : ℕ) {members r : ℕ} → r < members → is_named f n r ≡ false → ((i : ℕ) → i < r → is_named f n i ≡ true) → refuse 24 r (ltb r members) ≡ all_named f n members
unfolding refuse
verdict_stray f n {members} {r} low none before =
    rw (lt-ltb r members low) (sym (unnamed_refused f n members r low none before))

pub verdict_none : (f : List ℕ) (n members : ℕ) → ((i : ℕ) → i < members → is_named f n i ≡ true) → refuse 24 members (ltb members members) ≡ all_named f n members
unfolding refuse
verdict_none f n members all = rw (le-ltb members members (omega arith)) (sym (named_all f n members all))
