-- Rule 5 of members, one more at a time (crates/wgsl, specs/Rule).
--
-- In order: one member more; members that rule 5 refuses, and so the struct.
-- Assumes nothing.
use Rattle.std.specs.Prelude.{Err}
use Rattle.file.specs.Members.{member_length}
use Prim.Native.Nat.{ℕ, zero, suc, ◌+◌, ◌*◌, ◌<◌, ◌≤◌}
use mathlib.Core.Bool.{Bool, true, false, ◌&&◌, and_assoc, and-true, and-false}
use mathlib.Core.List.{List}
use mathlib.Core.Logic.{⊎_elim}
use mathlib.Core.Option.{Option, none, some}
use mathlib.Core.Path.{◌≡◌, refl, sym}
use native.Mathlib.Omega.{arith}
use native.Mathlib.Nat.{eq-or-lt_of_le}
use borrow.Author.Tests.{eq-eqb, ne_eqb}
use lib.Dec.{eqb}
use Rattle.wgsl.specs.Types.{Ty, struct, Members, no_more, member}
use Rattle.wgsl.specs.File.{between, MemberEntry, member_entry_from, given_size, given_align, rest_is_zero}
use Rattle.wgsl.specs.Rule.{and_then, lower, count_of, is_last, member_allowed, members_allowed, is_allowed}
use Rattle.wgsl.proofs.Said.{when_some, and_then_some}
use Rattle.layout_values.specs.Value.{verdict_on, made_of}
use Rattle.layout_structs.specs.SoFar.{appended, followed, all_sized}
use Rattle.layout_structs.proofs.MembersFrom.{joined, members_at}
use Rattle.layout_values.specs.declared.value.Broken.TheVariants.{Rule}

-- ---- one member more

is_last_after : (ms : Members) (t : Ty) (size align : Option ℕ) → is_last (appended ms t size align) ≡ false
unfolding is_last appended
is_last_after no_more t size align = refl
is_last_after (member u s a ms) t size align = refl

-- rule 5 of members that are all (last) or that more follow
unfoldable pub allowed_so : Bool → Members → Bool
allowed_so true ms = members_allowed ms
allowed_so false ms = all_sized ms

pub allowed_after : (last : Bool) (ms : Members) (t : Ty) (size align : Option ℕ) → allowed_so last (appended ms t size align) ≡ (all_sized ms && member_allowed last t)
unfolding allowed_so all_sized members_allowed appended is_last
allowed_after true no_more t size align = and-true (member_allowed true t)
allowed_after false no_more t size align = and-true (member_allowed false t)
allowed_after true (member u s a ms) t size align =
    rw (is_last_after ms t size align, allowed_after true ms t size align) (sym (and_assoc (member_allowed false u) (all_sized ms) (member_allowed true t)))
allowed_after false (member u s a ms) t size align =
    rw (allowed_after false ms t size align) (sym (and_assoc (member_allowed false u) (all_sized ms) (member_allowed false t)))

-- ---- members that rule 5 refuses

not_allowed : (long r k : ℕ) (ms : Members) → members_allowed ms ≡ false → verdict_on long r (struct k ms) ≡ Err Rule
unfolding verdict_on is_allowed
not_allowed long r k ms e = rw (e, and-false (between 1 1024 (count_of ms)))

joined_some : (ts : List Ty) (e : MemberEntry) (ms xs : Members) → joined ts e ms ≡ some xs → (t : Ty) × (xs ≡ followed ms t e)
unfolding joined
joined_some ts e ms xs h =
    let a = and_then_some (lower ts e.type) (λ t. some (followed ms t e)) (when_some (rest_is_zero e) _ h).1 in
    (a.value, let q : some xs ≡ some (followed ms a.value e) = sym a.after in cc)

module _ (f : List ℕ) (ts : List Ty) (at : ℕ) where
  -- no i members can have more after them
  abbrev Unsized : ℕ → Type 0
  Unsized i = (ms : Members) → members_at f ts at i ≡ some ms → all_sized ms ≡ false

  unsized_more : (i : ℕ) → Unsized i → (last : Bool) (ms : Members) → members_at f ts at (suc i) ≡ some ms → allowed_so last ms ≡ false
  unfolding members_at
  unsized_more i h last ms e =
      let a = and_then_some (members_at f ts at i) (joined ts (member_entry_from f (at + member_length f * i))) e in
      let j = joined_some ts (member_entry_from f (at + member_length f * i)) a.value ms a.after in
      rw (j.1, allowed_after last a.value j.0 (given_size (member_entry_from f (at + member_length f * i))) (given_align (member_entry_from f (at + member_length f * i))), h a.value a.first)

  unsized_stays : (i n : ℕ) → i ≤ n → Unsized i → Unsized n
  unfolding allowed_so
  unsized_stays i zero l h = let e : i ≡ 0 = omega arith in rw e at h
  unsized_stays i (suc n) l h =
      ⊎_elim (λ (e : i ≡ suc n). rw e at h)
      (λ (m : i < suc n). unsized_more n (unsized_stays i n (omega arith) h) false) (eq-or-lt_of_le l)

  -- where the members up to i are refused, those up to n are
  refused_stays : (i n : ℕ) → i < n → ((ms : Members) → members_at f ts at (suc i) ≡ some ms → allowed_so (eqb (i + 1) n) ms ≡ false) → (ms : Members) → members_at f ts at n ≡ some ms → members_allowed ms ≡ false
  unfolding allowed_so
  refused_stays i zero l h = absurd (omega arith)
  refused_stays i (suc n) l h =
      let m : i ≤ n = omega arith in
      ⊎_elim
      (λ (e : i ≡ n).
      let t : eqb (i + 1) (suc n) ≡ true = eq-eqb (i + 1) (suc n) (omega arith) in
      λ (ms : Members) (x : members_at f ts at (suc n) ≡ some ms). rw t at (h ms (rw e x)))
      (λ (q : i < n).
      let t : eqb (i + 1) (suc n) ≡ false = ne_eqb (i + 1) (suc n) (λ z. omega arith) in
      unsized_more n (unsized_stays (suc i) n q (λ ms x. rw t at (h ms x))) true)
      (eq-or-lt_of_le m)

  -- Where the members up to i are refused, the struct is.
  pub refused_members : (long r i n k : ℕ) → i < n → ((ms : Members) → members_at f ts at (suc i) ≡ some ms → allowed_so (eqb (i + 1) n) ms ≡ false) → made_of long r (and_then (members_at f ts at n) (λ ms. some (struct k ms))) ≡ Err Rule
  unfolding and_then made_of
  refused_members long r i n k l h = go (members_at f ts at n) (refused_stays i n l h)
    where
      go : (o : Option Members) → ((ms : Members) → o ≡ some ms → members_allowed ms ≡ false) → made_of long r (and_then o (λ ms. some (struct k ms))) ≡ Err Rule
      go none q = refl
      go (some ms) q = not_allowed long r k ms (q ms refl)
