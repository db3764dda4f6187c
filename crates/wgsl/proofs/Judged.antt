-- One entry that is judged over the types of the lower ones (specs/Rule, `judged`).
--
-- In order: a bad one is refused at its place (specs/Claim, `Broken`); a good one (`Judged`); its type is well formed.
-- Assumes nothing.
use Prim.Native.Nat.{ℕ}
use mathlib.Core.Bool.{true, ◌&&◌}
use mathlib.Core.List.{List}
use mathlib.Core.Option.{some}
use mathlib.Core.Path.{◌≡◌, refl}
use borrow.Author.Tests.{not-true, not-false}
use Rattle.wgsl.specs.Types.{Ty}
use Rattle.wgsl.specs.Size.{fits_limit}
use Rattle.wgsl.specs.Said.{Said, good, refused}
use Rattle.wgsl.specs.Rule.{type_of_entry, is_allowed, given_fits, is_well_formed, judged}
use Rattle.wgsl.specs.Claim.{Broken, no_type, not_allowed, not_given, too_large}
use Rattle.wgsl.proofs.Absent.{hold_both}
use Rattle.wgsl.proofs.Said.{good_not_refused, then_good, then_cases, refuse_good, refuse_cases, or_refuse_good, or_refuse_refused}

-- a refusal at entry k, as another's number and place
refused_as : {f : List ℕ} {ts : List Ty} {number place n k : ℕ} → ◌≡◌ {A = Said Ty} (refused number place) (refused n k) → Broken f ts k n → (place ≡ k) × Broken f ts k number
refused_as {number = number} {n = n} e b = let same : number ≡ n = cc in (cc, rw same b)

-- An entry that is judged bad is refused at its own place, by 5, 6 or 7 in this order: what comes before its number is not broken.
pub judged_broken : {number place : ℕ} (f : List ℕ) (ts : List Ty) (k : ℕ) → judged f ts k ≡ refused number place → (place ≡ k) × Broken f ts k number
unfolding judged
judged_broken f ts k e =
    then_cases _ _ e (λ h. let r = or_refuse_refused _ _ _ h in (r.2, rw r.1 (no_type r.0))) (λ h.
    let t = h.value in
    let made = or_refuse_good _ _ _ h.first in
    refuse_cases _ _ _ _ h.after
    (λ bad q. refused_as q (not_allowed t made (not-true (is_allowed t) bad))) (λ five h₅.
    let allowed = not-false (is_allowed t) five in
    refuse_cases _ _ _ _ h₅
    (λ bad q. refused_as q (not_given t made allowed (not-true (given_fits t) bad))) (λ six h₆.
    let given = not-false (given_fits t) six in
    refuse_cases _ _ _ _ h₆
    (λ bad q. refused_as q (too_large t made allowed given (not-true (fits_limit t) bad))) (λ seven h₇.
    good_not_refused refl h₇))))

-- Entry k makes the type t, which neither 5 nor 6 nor 7 refuses.
pub record Judged (f : List ℕ) (ts : List Ty) (k : ℕ) (t : Ty) : Type 0 where
  pub made : type_of_entry f ts k ≡ some t
  pub allowed : is_allowed t ≡ true
  pub given_fits_lem : given_fits t ≡ true
  pub fits : fits_limit t ≡ true

-- An entry that is judged good makes a type that nothing refuses.
pub judged_good : {f : List ℕ} {ts : List Ty} {k : ℕ} {t : Ty} → judged f ts k ≡ good t → Judged f ts k t
unfolding judged
judged_good {f} {ts} {k} {t} e =
    let h = then_good _ _ e in
    let five = refuse_good _ _ _ _ h.after in
    let six = refuse_good _ _ _ _ five.1 in
    let seven = refuse_good _ _ _ _ six.1 in
    let same : h.value ≡ t = cc seven.1 in
    record {
      made = cc (or_refuse_good _ _ _ h.first);
      allowed = cc (not-false (is_allowed h.value) five.0);
      given_fits_lem = cc (not-false (given_fits h.value) six.0);
      fits = cc (not-false (fits_limit h.value) seven.0);
    }

-- The type of an entry that is judged good is well formed.
pub judged_well_formed : {f : List ℕ} {ts : List Ty} {k : ℕ} {t : Ty} → Judged f ts k t → is_well_formed t ≡ true
unfolding is_well_formed
judged_well_formed {t = t} j =
    hold_both (is_allowed t && given_fits t) (fits_limit t)
    (hold_both (is_allowed t) (given_fits t) j.allowed j.given_fits_lem) j.fits
