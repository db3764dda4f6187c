-- Laws of steps that may refuse (specs/Said), and of steps that may have no value (specs/Rule).
--
-- In order: nothing is good and refused; a step and the rest; a test that refuses; a value or a refusal; the same of options.
-- Assumes nothing.
use Prim.Native.Nat.{ℕ}
use mathlib.Core.Bool.{Bool, true, false, not}
use mathlib.Core.Option.{Option, none, some}
use mathlib.Core.Path.{◌≡◌, refl, sym}
use native.Mathlib.Omega.{arith}
use Rattle.wgsl.specs.Said.{Said, good, refused, ◌>>=◌, ◌>>◌, refuse, or_refuse}
use Rattle.wgsl.specs.Rule.{when, and_then}
use Rattle.wgsl.proofs.Absent.{some_not_none}

-- Nothing that is good is refused.
pub good_not_refused : {A B : Type 0} {s : Said A} {a : A} {number place : ℕ} → s ≡ good a → s ≡ refused number place → B
good_not_refused e f = let z : ◌≡◌ {A = ℕ} 0 1 = cc in absurd (omega arith)

-- A step is good, and the rest with its value says s.
pub record Then {A B : Type 0} (m : Said A) (rest : A → Said B) (s : Said B) : Type 0 where
  pub value : A
  pub first : m ≡ good value
  pub after : rest value ≡ s

-- Where a step and the rest are good, each of them is.
pub then_good : {A B : Type 0} {b : B} (m : Said A) (rest : A → Said B) → ◌>>=◌ m rest ≡ good b → Then m rest (good b)
unfolding ◌>>=◌
then_good (good a) rest e = record { value = a; first = refl; after = e }
then_good (refused number place) rest e = good_not_refused e refl

-- Where a step and the rest refuse, the step does or, with its value, the rest.
pub then_cases : {A B C : Type 0} {number place : ℕ} (m : Said A) (rest : A → Said B) → ◌>>=◌ m rest ≡ refused number place → (m ≡ refused number place → C) → (Then m rest (refused number place) → C) → C
unfolding ◌>>=◌
then_cases (good a) rest e first after = after (record { value = a; first = refl; after = e })
then_cases (refused number place) rest e first after = first cc

-- After a good step comes the rest.
pub then_is : {A B : Type 0} {m : Said A} {a : A} (rest : A → Said B) → m ≡ good a → ◌>>=◌ m rest ≡ rest a
unfolding ◌>>=◌
then_is rest e = rw e

-- After a refused step nothing comes.
pub then_refused : {A B : Type 0} {m : Said A} {number place : ℕ} (rest : A → Said B) → m ≡ refused number place → ◌>>=◌ m rest ≡ refused number place
unfolding ◌>>=◌
then_refused rest e = rw e

-- Where a step whose value is not used and the rest are good, each of them is.
pub next_good : {B : Type 0} {b : B} (m : Said (Unit {0})) (rest : Said B) → ◌>>◌ m rest ≡ good b → (m ≡ good tt) × (rest ≡ good b)
unfolding ◌>>◌
next_good (good u) rest e = (refl, e)
next_good (refused number place) rest e = good_not_refused e refl

-- After such a step that is good comes the rest.
pub next_is : {A B : Type 0} {m : Said A} {a : A} (rest : Said B) → m ≡ good a → ◌>>◌ m rest ≡ rest
unfolding ◌>>◌
next_is rest e = rw e

-- A test that holds refuses.
pub refuse_yes : {B : Type 0} {number place : ℕ} {test : Bool} (rest : Said B) → test ≡ true → ◌>>◌ (refuse number place test) rest ≡ refused number place
unfolding ◌>>◌ refuse
refuse_yes rest e = rw e

-- A test that does not hold leaves the rest.
pub refuse_no : {B : Type 0} {test : Bool} {rest : Said B} (number place : ℕ) → test ≡ false → ◌>>◌ (refuse number place test) rest ≡ rest
unfolding ◌>>◌ refuse
refuse_no number place e = rw e

-- Where a test and the rest are good, the test does not hold and the rest is good.
pub refuse_good : {B : Type 0} {b : B} (number place : ℕ) (test : Bool) (rest : Said B) → ◌>>◌ (refuse number place test) rest ≡ good b → (test ≡ false) × (rest ≡ good b)
unfolding ◌>>◌ refuse
refuse_good number place true rest e = good_not_refused e refl
refuse_good number place false rest e = (refl, e)

-- A test alone that is good does not hold.
pub refuse_not : (number place : ℕ) (test : Bool) → refuse number place (not test) ≡ good tt → test ≡ true
unfolding refuse
refuse_not number place true e = refl
refuse_not number place false e = good_not_refused e refl

-- What a test and the rest say, the test says, with its number and place, where it holds, and else the rest.
pub refuse_cases : {B C : Type 0} {s : Said B} (number place : ℕ) (test : Bool) (rest : Said B) → ◌>>◌ (refuse number place test) rest ≡ s → (test ≡ true → s ≡ refused number place → C) → (test ≡ false → rest ≡ s → C) → C
unfolding ◌>>◌ refuse
refuse_cases number place true rest e first after = first refl (sym e)
refuse_cases number place false rest e first after = after refl e

-- A value that is not refused is there.
pub or_refuse_good : {A : Type 0} {a : A} (number place : ℕ) (o : Option A) → or_refuse number place o ≡ good a → o ≡ some a
unfolding or_refuse
or_refuse_good number place (some x) e = cc
or_refuse_good number place none e = good_not_refused e refl

-- A value that is refused is not there, and number and place are those of the step.
pub or_refuse_refused : {A : Type 0} {n p : ℕ} (number place : ℕ) (o : Option A) → or_refuse number place o ≡ refused n p → (o ≡ none) × (n ≡ number) × (p ≡ place)
unfolding or_refuse
or_refuse_refused number place (some a) e = good_not_refused refl e
or_refuse_refused number place none e = (refl, cc, cc)

-- What stands under a test is there only where the test holds.
pub when_some : {A : Type 0} {a : A} (test : Bool) (o : Option A) → when test o ≡ some a → (test ≡ true) × (o ≡ some a)
unfolding when
when_some true o e = (refl, e)
when_some false o e = some_not_none e refl

-- A step has a value, and so has the rest with that value.
pub record Both {A B : Type 0} (o : Option A) (rest : A → Option B) (b : B) : Type 0 where
  pub value : A
  pub first : o ≡ some value
  pub after : rest value ≡ some b

-- Where a step and the rest have a value, each of them has.
pub and_then_some : {A B : Type 0} {b : B} (o : Option A) (rest : A → Option B) → and_then o rest ≡ some b → Both o rest b
unfolding and_then
and_then_some (some a) rest e = record { value = a; first = refl; after = e }
and_then_some none rest e = some_not_none e refl
