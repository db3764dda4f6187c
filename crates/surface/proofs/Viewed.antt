-- A target that was found, or none, as it crosses (specs/Crossing).
-- Assumes nothing.
use Prim.Native.Nat.{ℕ}
use mathlib.Core.Bool.{cond}
use mathlib.Core.Path.{◌≡◌, refl, sym}
use Rattle.wgsl.specs.Said.{Said, good, refused}
use Rattle.wgsl.specs.Path as path
use Rattle.wgsl.specs.Call.{offset_of}
use Rattle.wgsl.specs.BitField.{bit_at}
use Rattle.wgsl.proofs.Said.{good_not_refused}
use Rattle.said.specs.declared.target.Target.{Target}
use Rattle.said.specs.Target.{target_is, reached}
use Rattle.surface.specs.Crossing.{size_out, site_out}

-- where it begins, and how many bytes it has
pub offset_found : {t : Target} (said : Said path.Target) → good t ≡ reached said → offset_of said ≡ good t.offset
unfolding offset_of
offset_found {t} (good u) e = let is : t ≡ target_is u = cc in rw is refl
offset_found (refused number place) e = good_not_refused refl e

pub size_found : {t : Target} (said : Said path.Target) (before : ℕ) → good t ≡ reached said → size_out said before ≡ t.size
size_found {t} (good u) before e = let is : t ≡ target_is u = cc in rw is refl
size_found (refused number place) before e = good_not_refused refl e

-- which buffer shows it
pub site_found : {t : Target} (said : Said path.Target) (mask member before : ℕ) → good t ≡ reached said → site_out said mask member before ≡ cond (bit_at mask member) 1 0
site_found (good u) mask member before e = refl
site_found (refused number place) mask member before e = good_not_refused refl e

-- a refusal is the same one, and what was lent stays
pub none_found : {number place : ℕ} (said : Said path.Target) → refused number place ≡ reached said → offset_of said ≡ refused number place
unfolding offset_of
none_found (good u) e = good_not_refused refl (sym e)
none_found {number} {place} (refused n p) e =
    let a : number ≡ n = cc in
    let b : place ≡ p = cc in
    rw (a, b) refl

pub size_stays : {number place : ℕ} (said : Said path.Target) (before : ℕ) → refused number place ≡ reached said → size_out said before ≡ before
size_stays (good u) before e = good_not_refused refl (sym e)
size_stays (refused n p) before e = refl

pub site_stays : {number place : ℕ} (said : Said path.Target) (mask member before : ℕ) → refused number place ≡ reached said → site_out said mask member before ≡ before
site_stays (good u) mask member before e = good_not_refused refl (sym e)
site_stays (refused n p) mask member before e = refl

pub ruleset targets = (offset_found, size_found, site_found, none_found, size_stays, site_stays)
