-- The member and the target that `locate_in` finds, and the words that `store_in` stores (`SiteSet`).
use Rattle.std.specs.Prelude.{Err}
use mathlib.Core.Path.{◌≡◌, refl, ap, ◌∙◌}
use native.Mathlib.Omega.{arith}
use Rattle.site.specs.declared.spot.Spot.{Spot}
use Rattle.site.proofs.SiteSet.{spot_there, set_stopped, words_refused, words_stored, site_refused, site_done_lem}
use Rattle.site.proofs.set.set.Goals as goal

pub bit-requires : goal.bit-requires
bit-requires c =
    (spot_there _ _ _ _ c.args.words.now _ _ _ _ (rw c.in_ok-spot.was at (c.locate_in.ensures c.args.factory.now c.args.site.now refl refl))).at.low

pub store_in-requires : goal.store_in-requires
store_in-requires c =
    let x = spot_there _ _ _ _ c.args.words.now _ _ _ _ (rw c.in_ok-spot.was at (c.locate_in.ensures c.args.factory.now c.args.site.now refl refl)) in
    let from = ap (λ (s : Spot). s.from) x.is in
    let size = ap (λ (s : Spot). s.size) x.is in
    (omega (arith, from, size, x.at.in_factory), omega (arith, from, size, x.at.in_site), (x.u, x.in_site))

pub with_bit-requires : goal.with_bit-requires
with_bit-requires c =
    (spot_there _ _ _ _ c.args.words.now _ _ _ _ (rw c.in_ok-spot.was at (c.locate_in.ensures c.args.factory.now c.args.site.now refl refl))).at.low

pub returns-in_err-spot : goal.returns-in_err-spot
returns-in_err-spot c =
    let a = c.args in
    let is : c.from_residual.result ≡ Err c.in_err-spot.field-0.0 = grind arith in
    let stopped = set_stopped _ _ _ _ _ _ _ _ (rw c.in_err-spot.was at (c.locate_in.ensures a.factory.now a.site.now refl refl)) in
    let y = site_refused a.site.now a.mask.now stopped in
    record { answer = rw is y.0; site = y.1; mask = y.2 }

pub returns-in_err-at : goal.returns-in_err-at
returns-in_err-at c =
    let a = c.args in
    let is : c.from_residual-in_err-at.result ≡ Err c.in_err-at.field-0.0 = grind arith in
    let x = spot_there _ _ _ _ c.args.words.now _ _ _ _ (rw c.in_ok-spot.was at (c.locate_in.ensures c.args.factory.now c.args.site.now refl refl)) in
    let said = simp c.in_err-at.was at (c.store_in.ensures x.u x.in_site) in
    let stopped = words_refused _ _ _ _ _ _ _ _ x c.bit.ensures said in
    let y = site_refused a.site.now a.mask.now stopped.0 in
    record { answer = rw is y.0; site = stopped.1 ∙ y.1; mask = y.2 }

pub returns : goal.returns
returns c =
    let a = c.args in
    let x = spot_there _ _ _ _ c.args.words.now _ _ _ _ (rw c.in_ok-spot.was at (c.locate_in.ensures c.args.factory.now c.args.site.now refl refl)) in
    let said = simp c.in_ok-at.was at (c.store_in.ensures x.u x.in_site) in
    let y = site_done_lem a.site.now a.mask.now (words_stored _ _ _ _ _ _ _ _ x c.bit.ensures said) in
    record { answer = y.0; site = y.1; mask = c.with_bit.ensures ∙ y.2 }
