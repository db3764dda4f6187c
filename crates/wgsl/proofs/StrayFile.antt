-- A file with members that nobody names (specs/Rule, `types_of`; specs/Claim, `IsAccepted`, `Stray`).
-- Assumes nothing.
use Prim.Native.Nat.{ℕ}
use mathlib.Core.Bool.{Bool, true, false}
use mathlib.Core.List.{List}
use mathlib.Core.Path.{◌≡◌, refl, ap, ◌∙◌}
use native.Mathlib.Omega.{arith}
use Rattle.wgsl.specs.Said.{good, refused, ◌>>◌}
use Rattle.wgsl.specs.File.{trailer_of, check_trailer}
use Rattle.wgsl.specs.Rule.{types_below, is_named, types_of}
use Rattle.wgsl.specs.Claim.{GoodIf, NamedBy, Stray, IsAccepted}
use Rattle.wgsl.proofs.Absent.{true_not_false}
use Rattle.wgsl.proofs.Said.{then_cases, then_is, then_refused, next_is}
use Rattle.wgsl.proofs.Trailed.{trailed, trailed_good}
use Rattle.wgsl.proofs.Stray.{Unnamed, named_by, is_named_lem, all_named_lem, named_all, unnamed_refused}
use Rattle.wgsl.proofs.Accepted.{trailer_number, broken_number, refused_by, accepted}

-- A file is accepted exactly if 1 to 7 pass and a struct names every member.
pub accepted_if : (f : List ℕ) → GoodIf (types_of f) (IsAccepted f)
unfolding types_of
accepted_if f = record {
  if_so = λ x.
      let types = (trailer_of f).types in
      let all = named_all f types (trailer_of f).members (λ m l. is_named_lem f types m (x.named m l)) in
      (x.types, then_is _ x.trailer_good ∙ then_is _ x.entries_good ∙ next_is _ all);
  only_if = λ ts h.
      let a = accepted f ts h in
      let types = (trailer_of f).types in
      record {
        types = ts;
        trailer_good = trailed_good a.trailer_good;
        entries_good = a.types_below_lem;
        named = λ m l. named_by f types m (all_named_lem f types (trailer_of f).members a.named m l);
      };
}

-- Entries that are refused are refused, whatever is named.
pub entries_first : (f : List ℕ) {number place : ℕ} → check_trailer f ≡ good (trailer_of f) → types_below f (trailer_of f).types ≡ refused number place → types_of f ≡ refused number place
unfolding types_of
entries_first f trailer entries = then_is _ trailer ∙ then_refused _ entries

unnamed_by : (f : List ℕ) (n m : ℕ) → is_named f n m ≡ false → NamedBy f n m → ⊥
unnamed_by f n m none x = true_not_false (is_named_lem f n m x) none

by_none : (f : List ℕ) (n m : ℕ) → (NamedBy f n m → ⊥) → is_named f n m ≡ false
by_none f n m none = go (is_named f n m) refl
  where
    go : (b : Bool) → is_named f n m ≡ b → b ≡ false
    go true e = absurd (none (named_by f n m e))
    go false e = refl

-- 24 is of the lowest member that nobody names, where nothing else is wrong,
pub stray_is : (f : List ℕ) (place : ℕ) → types_of f ≡ refused 24 place → Stray f place
unfolding types_of
stray_is f place h =
    then_cases (check_trailer f) _ h (λ q. absurd (omega (arith, trailer_number f q))) (λ x.
    let is = (trailed f x.value x.first).is in
    let types = (trailer_of f).types in
    refused_by f x.value x.after (λ y. absurd (omega (arith, broken_number y.broken))) (λ ts below y.
    let z : Unnamed f types (trailer_of f).members 24 place = rw is at y in
    record {
      types = ts;
      entries_good = rw is at below;
      trailer_good = x.first ∙ ap good is;
      there = z.there;
      unnamed = unnamed_by f types place z.none;
      lowest = λ m l. named_by f types m (z.before m l);
    }))

-- and such a member is refused so.
pub stray_refused : (f : List ℕ) (place : ℕ) → Stray f place → types_of f ≡ refused 24 place
unfolding types_of ◌>>◌
stray_refused f place x =
    let types = (trailer_of f).types in
    let all = unnamed_refused f types (trailer_of f).members place x.there (by_none f types place x.unnamed) (λ m l. is_named_lem f types m (x.lowest m l)) in
    then_is _ x.trailer_good ∙ then_is _ x.entries_good ∙ rw all refl

-- There is at most one.
pub stray_one : {f : List ℕ} {a b : ℕ} → Stray f a → Stray f b → a ≡ b
stray_one {f} {a} {b} x y = cc (stray_refused f a x, stray_refused f b y)
