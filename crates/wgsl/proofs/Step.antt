-- Steps as numbers (specs/Path), and how large these are.
--
-- In order: the code of a step; the counts of a shape (`Small`); the steps of a path are below them (`Below`).
-- Assumes nothing.
use Prim.Native.Nat.{ℕ, suc, ◌+◌, ◌/◌, ◌%◌, ◌^◌, ◌<◌, ◌≤◌}
use mathlib.Core.Bool.{Bool, true, false, cond}
use mathlib.Core.List.{List, [], ◌∷◌}
use mathlib.Core.Path.{◌≡◌, refl}
use native.Mathlib.Omega.{arith}
use borrow.Author.Tests.{eqb-true, eqb-false}
use lib.Dec.{eqb}
use Rattle.wgsl.specs.Said.{good}
use Rattle.wgsl.specs.Place.{Shape, one, parts, field, whole}
use Rattle.wgsl.specs.Path.{Step, index, member, step_of, Target, walk}
use Rattle.wgsl.specs.Claim.{Leads, here, part, first, later}
use Rattle.wgsl.proofs.Path.{walk_leads}

-- the number of a part or of a member
unfoldable pub number_of : Step → ℕ
number_of (index i) = i
number_of (member i) = i

-- the u32 that says a step
unfoldable pub step_code : Step → ℕ
step_code (index i) = i
step_code (member i) = i + 2 ^ 31

-- A step whose number has 31 bits is read back from its code.
pub step_of_code : (s : Step) → number_of s < 2 ^ 31 → step_of (step_code s) ≡ s
unfolding number_of step_code step_of
step_of_code (index i) h =
    let b : i / 2 ^ 31 % 2 ≡ 0 = omega arith in
    let r : i % 2 ^ 31 ≡ i = omega arith in
    rw (b, r)
step_of_code (member i) h =
    let b : (i + 2 ^ 31) / 2 ^ 31 % 2 ≡ 1 = omega arith in
    let r : (i + 2 ^ 31) % 2 ^ 31 ≡ i = omega arith in
    rw (b, r)

-- A number of 32 bits is the code of the step that it says.
pub code_step_of : (n : ℕ) → n < 2 ^ 32 → step_code (step_of n) ≡ n
unfolding step_code step_of
code_step_of n h = go (eqb (n / 2 ^ 31 % 2) 1) refl
  where
    go : (b : Bool) → eqb (n / 2 ^ 31 % 2) 1 ≡ b → step_code (cond b (member (n % 2 ^ 31)) (index (n % 2 ^ 31))) ≡ n
    go true e = omega (arith, eqb-true (n / 2 ^ 31 % 2) 1 e)
    go false e =
        let d : ¬ (n / 2 ^ 31 % 2 ≡ 1) = eqb-false (n / 2 ^ 31 % 2) 1 e in
        omega arith

-- Numbers of 32 bits that say the same step are the same.
pub step_of_injective : (m n : ℕ) → m < 2 ^ 32 → n < 2 ^ 32 → step_of m ≡ step_of n → m ≡ n
step_of_injective m n g h e = cc (code_step_of m g, code_step_of n h)

-- how many members are left of a struct
unfoldable pub members_left : Shape → ℕ
members_left (one s) = 0
members_left (parts n stride x) = 0
members_left (field offset x rest) = suc (members_left rest)
members_left (whole z) = 0

-- no part of the shape has more than `bound` parts or members
unfoldable pub Small : ℕ → Shape → Type 0
Small bound (one s) = Unit {0}
Small bound (parts n stride x) = (n ≤ bound) × Small bound x
Small bound (field offset x rest) = (suc (members_left rest) ≤ bound) × Small bound x × Small bound rest
Small bound (whole z) = Unit {0}

-- every step has a number below `bound`
unfoldable pub Below : ℕ → List Step → Type 0
Below bound [] = Unit {0}
Below bound (s ∷ steps) = (number_of s < bound) × Below bound steps

member_below : {off a i : ℕ} {x y : Shape} {steps : List Step} → Leads off x (member i ∷ steps) a y → i < members_left x
unfolding members_left
member_below (first l) = omega arith
member_below (later l) = omega (arith, member_below l)

leads_below : {off a : ℕ} {x y : Shape} {steps : List Step} (bound : ℕ) → Leads off x steps a y → Small bound x → Below bound steps
unfolding Small Below number_of
leads_below bound here small = tt
leads_below bound (part h l) small = (omega (arith, small.0), leads_below bound l small.1)
leads_below bound (first l) small = (omega (arith, small.0), leads_below bound l small.1)
leads_below bound (later l) small = (omega (arith, small.0, member_below l), (leads_below bound l small.2).1)

-- The steps of a path that finds a target have numbers below the bound of the shape's counts.
pub steps_below : (k off : ℕ) (x : Shape) (steps : List Step) (t : Target) (bound : ℕ) → Small bound x → walk k off x steps ≡ good t → Below bound steps
steps_below k off x steps t bound small h = leads_below bound (walk_leads k off x steps t h) small
