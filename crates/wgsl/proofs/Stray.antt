-- Members that nobody names (specs/Rule): when every member is named, and the lowest that is not.
--
-- In order: one that is named; all of them; the lowest that is not.
-- Assumes nothing.
use Prim.Native.Nat.{ℕ, zero, suc, ◌+◌, ◌<◌}
use mathlib.Core.Bool.{Bool, true, false, not, ◌||◌}
use mathlib.Core.List.{List}
use mathlib.Core.Logic.{⊎_elim}
use mathlib.Core.Path.{◌≡◌, refl, sym, ◌∙◌}
use native.Mathlib.Nat.{eq-or-lt_of_le}
use native.Mathlib.Omega.{arith}
use borrow.Author.Tests.{eqb-true, leb-true, ltb-true, eq-eqb, le-leb, lt-ltb}
use Rattle.wgsl.specs.Types.{struct_kind}
use Rattle.wgsl.specs.Said.{Said, good, refused, ◌>>◌, refuse}
use Rattle.wgsl.specs.File.{type_entry_at}
use Rattle.wgsl.specs.Rule.{names_member, is_named, all_named}
use Rattle.wgsl.specs.Claim.{NamedBy}
use Rattle.wgsl.proofs.Absent.{both_hold, true_not_false}
use Rattle.wgsl.proofs.Said.{good_not_refused, next_good, next_is, refuse_not}

-- ---- one that is named

or_either : (a b : Bool) {C : Type 0} → (a || b) ≡ true → (a ≡ true → C) → (b ≡ true → C) → C
or_either true b e left right = left refl
or_either false b e left right = right e

or_first : (a b : Bool) → a ≡ true → (a || b) ≡ true
or_first a b e = rw e refl

or_second : (a b : Bool) → b ≡ true → (a || b) ≡ true
or_second true b e = refl
or_second false b e = e

named_more : {f : List ℕ} {n m : ℕ} → NamedBy f n m → NamedBy f (suc n) m
named_more x = record { entry = x.entry; low = omega arith; is_struct = x.is_struct; from = x.from; to = x.to }

-- A member that passes the test is named by a struct,
pub named_by : (f : List ℕ) (n m : ℕ) → is_named f n m ≡ true → NamedBy f n m
unfolding is_named names_member
named_by f zero m e = true_not_false refl (sym e)
named_by f (suc n) m e =
    or_either (is_named f n m) (names_member (type_entry_at f n) m) e (λ h. named_more (named_by f n m h)) (λ h.
    let x = type_entry_at f n in
    let (start, to) = both_hold _ _ h in
    let (kind, from) = both_hold _ _ start in
    record {
      entry = n;
      low = omega arith;
      is_struct = eqb-true x.kind struct_kind kind;
      from = leb-true x.reference m from;
      to = ltb-true m (x.reference + x.count) to;
    })

-- and one that a struct names passes it.
pub is_named_lem : (f : List ℕ) (n m : ℕ) → NamedBy f n m → is_named f n m ≡ true
unfolding is_named names_member
is_named_lem f zero m x = absurd (omega (arith, x.low))
is_named_lem f (suc n) m x =
    ⊎_elim (λ (last : x.entry ≡ n).
    or_second (is_named f n m) (names_member (type_entry_at f n) m) (rw (← last) (rw (eq-eqb _ struct_kind x.is_struct, le-leb _ m x.from, lt-ltb m _ x.to) refl)))
    (λ (lower : x.entry < n).
    or_first (is_named f n m) (names_member (type_entry_at f n) m)
    (is_named_lem f n m (record { entry = x.entry; low = lower; is_struct = x.is_struct; from = x.from; to = x.to })))
    (eq-or-lt_of_le {n = x.entry} {m = n} (omega (arith, x.low)))

-- ---- all of them

-- Where none is refused, all are named,
pub all_named_lem : (f : List ℕ) (n m : ℕ) → all_named f n m ≡ good tt → (i : ℕ) → i < m → is_named f n i ≡ true
unfolding all_named
all_named_lem f n zero e i l = absurd (omega (arith, l))
all_named_lem f n (suc m) e i l =
    let (before, last) = next_good _ _ e in
    ⊎_elim (λ (same : i ≡ m). rw same (refuse_not 24 m (is_named f n m) last)) (λ (low : i < m). all_named_lem f n m before i low)
    (eq-or-lt_of_le {n = i} {m = m} (omega arith))

-- and where all are named, none is refused.
pub named_all : (f : List ℕ) (n m : ℕ) → ((i : ℕ) → i < m → is_named f n i ≡ true) → all_named f n m ≡ good tt
unfolding all_named refuse
named_all f n zero h = refl
named_all f n (suc m) h =
    next_is _ (named_all f n m (λ i l. h i (omega arith))) ∙ rw (h m (omega arith)) refl

-- ---- the lowest that is not

pub record Unnamed (f : List ℕ) (n m number place : ℕ) : Type 0 where
  pub number_is : number ≡ 24
  pub there : place < m
  pub none : is_named f n place ≡ false
  pub before : (i : ℕ) → i < place → is_named f n i ≡ true

-- A refusal is 24, and names it.
pub unnamed : {number place : ℕ} (f : List ℕ) (n m : ℕ) → all_named f n m ≡ refused number place → Unnamed f n m number place
unfolding all_named refuse ◌>>◌
unnamed f n zero e = good_not_refused refl e
unnamed {number} {place} f n (suc m) e = go (all_named f n m) (is_named f n m) refl refl e (λ h. unnamed f n m h)
  where
    go : (s : Said (Unit {0})) (b : Bool) → all_named f n m ≡ s → is_named f n m ≡ b → ◌>>◌ s (refuse 24 m (not b)) ≡ refused number place → (all_named f n m ≡ refused number place → Unnamed f n m number place) → Unnamed f n (suc m) number place
    go (good u) true p q h lower = good_not_refused refl h
    go (good u) false p q h lower =
        let is : m ≡ place = cc in
        record { number_is = cc; there = omega (arith, is); none = rw (← is) q; before = rw (← is) (all_named_lem f n m p) }
    go (refused a b) c p q h lower =
        let x = lower (p ∙ h) in
        record { number_is = x.number_is; there = omega (arith, x.there); none = x.none; before = x.before }

-- And the lowest that is not named is refused.
pub unnamed_refused : (f : List ℕ) (n m place : ℕ) → place < m → is_named f n place ≡ false → ((i : ℕ) → i < place → is_named f n i ≡ true) → all_named f n m ≡ refused 24 place
unfolding all_named refuse ◌>>◌
unnamed_refused f n zero place l none before = absurd (omega (arith, l))
unnamed_refused f n (suc m) place l none before =
    ⊎_elim (λ (same : place ≡ m).
    let all = named_all f n m (rw same at before) in
    let last : is_named f n m ≡ false = rw same at none in
    rw (all, last, same) refl)
    (λ (low : place < m). rw (unnamed_refused f n m place low none before) refl)
    (eq-or-lt_of_le {n = place} {m = m} (omega arith))
