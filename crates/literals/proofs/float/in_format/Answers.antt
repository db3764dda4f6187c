-- Infinity or more, or a number with its sign (`Parts`).
use Prim.Native.Nat.{ℕ, ◌+◌, ◌*◌, ◌^◌}
use mathlib.Core.Path.{◌≡◌, ap, sym, ◌∙◌}
use mathlib.Core.Bool.{cond}
use native.Mathlib.Omega.{arith}
use Rattle.wgsl.specs.Said.{good}
use Rattle.wgsl.specs.Literal as literal
use Rattle.literals.specs.Formats.{IsFormat}
use Rattle.literals.specs.declared.float.Format.{Format}
use Rattle.literals.proofs.Parts.{format_refused, format_good}
use Rattle.literals.proofs.float.in_format.Goals as goal

-- the pattern, by the format's own numbers
own : (f : Format) (g : literal.Format) (n : ℕ) {m : ℕ} → IsFormat f g → m ≡ literal.rounded f.digits (2 ^ f.unit) n → m ≡ literal.rounded g.digits (literal.unit_of g) n
own f g n is e =
    e ∙ ap (λ d. literal.rounded d (2 ^ f.unit) n) is.digits ∙ ap (λ u. literal.rounded g.digits u n) is.unit

pub returns-then-f-pattern : goal.returns-then-f-pattern
returns-then-f-pattern c g is =
    let round = c in
    let a = round.args in
    sym (format_refused g (record { negative = a.negative; worth = a.number * 2 ^ a.power }) (own a.f g (a.number * 2 ^ a.power) is round.round_to-pattern.ensures) (omega (arith, is.infinity)))

pub returns-then-negative : goal.returns-then-negative
returns-then-negative c g is =
    let round = c in
    let a = round.args in
    let l : literal.Literal = record { negative = a.negative; worth = a.number * 2 ^ a.power } in
    sym (format_good g l (own a.f g (a.number * 2 ^ a.power) is round.round_to-pattern.ensures) (omega (arith, is.infinity))
    ∙ ap (λ b. good (cond b (literal.sign_of g + round.round_to-pattern.result) round.round_to-pattern.result)) c.if-negative.true
    ∙ ap (λ s. good (s + round.round_to-pattern.result)) (sym is.sign))

pub returns : goal.returns
returns c g is =
    let round = c in
    let a = round.args in
    let l : literal.Literal = record { negative = a.negative; worth = a.number * 2 ^ a.power } in
    sym (format_good g l (own a.f g (a.number * 2 ^ a.power) is round.round_to-pattern.ensures) (omega (arith, is.infinity))
    ∙ ap (λ b. good (cond b (literal.sign_of g + round.round_to-pattern.result) round.round_to-pattern.result)) c.if-negative.false)
