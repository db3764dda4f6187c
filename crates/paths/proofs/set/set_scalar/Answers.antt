-- Words that fit, and how many bytes they are stored in (proofs/SetTarget). Assumes nothing.
use Rattle.std.specs.Prelude.{Err}
use mathlib.Core.Path.{◌≡◌, refl}
use native.Mathlib.Omega.{arith}
use Rattle.said.proofs.Answered.{answered_refused, answered_done}
use Rattle.paths.proofs.SetTarget.{fit_refused, one_half, set_half, two_words, set_eight, one_word, set_four}
use Rattle.paths.proofs.InBuffer.{room}
use Rattle.paths.proofs.set.set_scalar.Goals.{in-2, in-8, in_default}
use Rattle.paths.proofs.set.set_scalar.Goals as goal

pub returns-in_err-fit_scalar : goal.returns-in_err-fit_scalar
returns-in_err-fit_scalar c u x =
    let is : c.from_residual.result ≡ Err c.in_err-fit_scalar.field-0.0 = grind arith in
    rw is (answered_refused _ (fit_refused _ (rw c.in_err-fit_scalar.was at (c.fit_scalar.ensures u _ x c.args.buf.now))))

pub bounds-words-0 : goal.bounds-words-0
bounds-words-0 c = omega (arith, (one_half c.requires.1 _ _ (rw c.in_ok-fit_scalar.was at (c.fit_scalar.ensures c.requires.0 _ c.requires.1 c.args.buf.now)) c.in-2.is).0)

pub overflow_cast-words : goal.overflow_cast-words
overflow_cast-words c = record { fits = omega (arith, (one_half c.requires.1 _ _ (rw c.in_ok-fit_scalar.was at (c.fit_scalar.ensures c.requires.0 _ c.requires.1 c.args.buf.now)) c.in-2.is).1) }

pub bounds-words-0-in-8 : goal.bounds-words-0-in-8
bounds-words-0-in-8 c = omega (arith, two_words c.requires.1 _ _ (rw c.in_ok-fit_scalar.was at (c.fit_scalar.ensures c.requires.0 _ c.requires.1 c.args.buf.now)) c.in-8.is)

pub bounds-words-1 : goal.bounds-words-1
bounds-words-1 c = omega (arith, two_words c.requires.1 _ _ (rw c.in_ok-fit_scalar.was at (c.fit_scalar.ensures c.requires.0 _ c.requires.1 c.args.buf.now)) c.in-8.is)

pub bounds-words-0-in_default : goal.bounds-words-0-in_default
bounds-words-0-in_default c =
    omega (arith, (one_word c.requires.1 _ _ (rw c.in_ok-fit_scalar.was at (c.fit_scalar.ensures c.requires.0 _ c.requires.1 c.args.buf.now)) (λ q. omega (arith, q)) (λ q. omega (arith, q))).0)

pub store_u32-requires-in_default : goal.store_u32-requires-in_default
store_u32-requires-in_default c =
    let size = (one_word c.requires.1 _ _ (rw c.in_ok-fit_scalar.was at (c.fit_scalar.ensures c.requires.0 _ c.requires.1 c.args.buf.now)) (λ q. omega (arith, q)) (λ q. omega (arith, q))).1 in
    omega (arith, room c.requires.1, size)

pub returns : goal.returns
returns c u x =
    let fits = (rw c.in_ok-fit_scalar.was at (c.fit_scalar.ensures u _ x c.args.buf.now)) in
    let word = c.type_inv.words in
    elim c.match-t.branch [
      | in-2 w ↦
          rw w.buf-is (answered_done _ (set_half x _ _ fits w.in-2.is) refl w.store_u16.ensures)
      | in-8 w ↦
          rw w.buf-is (answered_done _ (set_eight x _ _ fits w.in-8.is (word 0).fits (word 1).fits) refl (rw w.store_u32.ensures at w.store_u32-in-8.ensures))
      | in_default w ↦
          rw w.buf-is (answered_done _ (set_four x _ _ fits (λ q. omega (arith, q)) (λ q. omega (arith, q)) (word 0).fits) refl w.store_u32-in_default.ensures)
    ]
