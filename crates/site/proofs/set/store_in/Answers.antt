-- Words that fit are stored (`StoreIn`).
use Rattle.std.specs.Prelude.{Err}
use Prim.Native.Nat.{ℕ}
use mathlib.Core.List.{List}
use mathlib.Core.Path.{◌≡◌, ap, ◌∙◌}
use native.Mathlib.Omega.{arith}
use lib.ListN.{length}
use Rattle.wgsl.specs.Call.{answer_of, contents_of, set_target}
use Rattle.said.proofs.Answered.{answered_refused}
use Rattle.paths.proofs.SetTarget.{fit_refused}
use Rattle.site.specs.Set.{brought_in}
use Rattle.site.proofs.StoreIn.{length_brought, fit_left}
use Rattle.site.proofs.set.store_in.Goals as goal

pub returns-in_err-fit_scalar : goal.returns-in_err-fit_scalar
returns-in_err-fit_scalar c u x =
    let a = c.args in
    let is : c.from_residual.result ≡ Err c.in_err-fit_scalar.field-0.0 = grind arith in
    let bad = rw c.in_err-fit_scalar.was at (c.fit_scalar.ensures u _ x (brought_in a.on a.s.from a.s.size a.factory.now a.site.now)) in
    rw is (answered_refused a.site.now (fit_refused _ bad))

pub returns : goal.returns
returns c u x =
    let a = c.args in
    let brought = brought_in a.on a.s.from a.s.size a.factory.now a.site.now in
    let long = ap length c.bring.ensures ∙ length_brought a.on a.s.from a.s.size a.factory.now a.site.now in
    let said = c.set_scalar.ensures u (record { is = x.is; sound = x.sound; inside = omega (arith, x.inside, long); within = omega (arith, x.within, long) }) in
    let good_words = rw c.in_ok-fit_scalar.was at (c.fit_scalar.ensures u _ x brought) in (
      said.0 ∙ ap (λ (b : List ℕ). answer_of (set_target u a.words.now b)) c.bring.ensures,
      said.1
          ∙ ap (λ (b : List ℕ). contents_of b (set_target u a.words.now b)) c.bring.ensures
          ∙ fit_left _ brought a.site.now good_words,
    )
