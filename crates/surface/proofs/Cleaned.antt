-- What cleaning changed, or a refusal, as it crosses (specs/Crossing).
-- Assumes nothing.
use Prim.Native.Nat.{ℕ}
use mathlib.Core.Path.{◌≡◌, refl, sym}
use Rattle.wgsl.specs.Said.{Said, good, refused}
use Rattle.wgsl.specs.Clean.{CleanDone, changed_of, first_after}
use Rattle.wgsl.proofs.Said.{good_not_refused}
use Rattle.said.specs.declared.answer.Gaps.{Gaps}
use Rattle.said.specs.Answer.{gaps_is, gaps_of}

pub changed : {g : Gaps} (said : Said CleanDone) → good g ≡ gaps_of said → changed_of said ≡ good g.changed
unfolding changed_of
changed {g} (good d) e = let is : g ≡ gaps_is d = cc in rw is refl
changed (refused number place) e = good_not_refused refl e

pub first_changed : {g : Gaps} (said : Said CleanDone) (before : ℕ) → good g ≡ gaps_of said → first_after before said ≡ g.first
unfolding first_after
first_changed {g} (good d) before e = let is : g ≡ gaps_is d = cc in rw is refl
first_changed (refused number place) before e = good_not_refused refl e

-- a refusal is the same one, and what was lent stays
pub not_cleaned : {number place : ℕ} (said : Said CleanDone) → refused number place ≡ gaps_of said → changed_of said ≡ refused number place
unfolding changed_of
not_cleaned (good d) e = good_not_refused refl (sym e)
not_cleaned {number} {place} (refused n p) e =
    let a : number ≡ n = cc in
    let b : place ≡ p = cc in
    rw (a, b) refl

pub first_stays : {number place : ℕ} (said : Said CleanDone) (before : ℕ) → refused number place ≡ gaps_of said → first_after before said ≡ before
unfolding first_after
first_stays (good d) before e = good_not_refused refl (sym e)
first_stays (refused n p) before e = refl

pub ruleset gaps = (changed, first_changed, not_cleaned, first_stays)
