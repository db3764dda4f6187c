-- Every refusal crosses to C whole (specs/Crossing, `AllCross`): its place is a number of 32 bits (crates/wgsl, `refused_places_fit`).
-- Assumes nothing.
use Prim.Native.Nat.{ℕ, ◌%◌, ◌^◌}
use mathlib.Core.List.{List}
use mathlib.Core.Path.{◌≡◌, refl}
use native.Mathlib.Omega.{arith}
use Rattle.wgsl.specs.Said.{Said, good, refused}
use Rattle.wgsl.specs.Path.{Target}
use Rattle.wgsl.specs.Call.{Layout, Done, answer_of, offset_of}
use Rattle.wgsl.specs.Site.{SiteDone, site_answer, zero_of}
use Rattle.wgsl.specs.Clean.{CleanDone, changed_of}
use Rattle.wgsl.specs.Claim.{PlaceFits}
use Rattle.wgsl.proofs.Said.{good_not_refused}
use Rattle.wgsl.proofs.Claims.{refused_places_fit}
use Rattle.surface.specs.Crossing.{told, CrossesWhole, AllCross}

whole : (said : Said ℕ) → PlaceFits said → CrossesWhole said
whole said fits number place e =
    let low : place % 2 ^ 32 ≡ place = omega (arith, fits number place e) in
    rw (e, low)

-- what is refused as an answer, a layout or an offset was refused so
answer_fits : (said : Said Done) → PlaceFits said → PlaceFits (answer_of said)
unfolding answer_of
answer_fits (good d) h number place e = good_not_refused refl e
answer_fits (refused n p) h number place e = h number place cc

told_fits : (said : Said Layout) → PlaceFits said → PlaceFits (told said)
told_fits (good l) h number place e = good_not_refused refl e
told_fits (refused n p) h number place e = h number place cc

offset_fits : (said : Said Target) → PlaceFits said → PlaceFits (offset_of said)
unfolding offset_of
offset_fits (good t) h number place e = good_not_refused refl e
offset_fits (refused n p) h number place e = h number place cc

site_fits : (said : Said SiteDone) → PlaceFits said → PlaceFits (site_answer said)
unfolding site_answer
site_fits (good d) h number place e = good_not_refused refl e
site_fits (refused n p) h number place e = h number place cc

zero_fits : (said : Said ℕ) → PlaceFits said → PlaceFits (zero_of said)
unfolding zero_of
zero_fits (good mask) h number place e = good_not_refused refl e
zero_fits (refused n p) h number place e = h number place cc

changed_fits : (said : Said CleanDone) → PlaceFits said → PlaceFits (changed_of said)
unfolding changed_of
changed_fits (good d) h number place e = good_not_refused refl e
changed_fits (refused n p) h number place e = h number place cc

-- Every refusal of every call crosses whole.
pub all_cross : (f : List ℕ) → AllCross f
all_cross f =
    let fits = refused_places_fit f in
    record {
      check = whole _ fits.check;
      size = λ e. whole _ (fits.size e);
      align = λ e. whole _ (fits.align e);
      minimum_size = λ e. whole _ (fits.minimum_size e);
      layout = λ e. whole _ (told_fits _ (fits.layout e));
      read = λ e b ws. whole _ (answer_fits _ (fits.read e b ws));
      write = λ e ws b. whole _ (answer_fits _ (fits.write e ws b));
      view = λ e steps b. whole _ (offset_fits _ (fits.view e steps b));
      set = λ e steps ws b. whole _ (answer_fits _ (fits.set e steps ws b));
      extract = λ e steps b offset count. whole _ (fits.extract e steps b offset count);
      insert = λ e steps new offset count b. whole _ (answer_fits _ (fits.insert e steps new offset count b));
      uniform = λ e. whole _ (fits.uniform e);
      rank = λ x y. whole _ (fits.rank x y);
      common = λ es. whole _ (fits.common es);
      to_form_2 = λ out. whole _ (answer_fits _ (fits.to_form_2 out));
      to_form_1 = λ out. whole _ (answer_fits _ (fits.to_form_1 out));
      site_inheriting = λ e. whole _ (zero_fits _ (fits.site_inheriting e));
      site_fresh = λ e factory site. whole _ (site_fits _ (fits.site_fresh e factory site));
      site_clear = λ e k mask. whole _ (zero_fits _ (fits.site_clear e k mask));
      site_member = λ e k mask factory site. whole _ (offset_fits _ (fits.site_member e k mask factory site));
      site_set = λ e k steps ws mask factory site. whole _ (site_fits _ (fits.site_set e k steps ws mask factory site));
      clean = λ e b. whole _ (changed_fits _ (fits.clean e b));
      plan_order = λ e lent. whole _ (answer_fits _ (fits.plan_order e lent));
      check_order = λ e order. whole _ (fits.check_order e order);
      convert = λ a b c. whole _ (fits.convert a b c);
    }
