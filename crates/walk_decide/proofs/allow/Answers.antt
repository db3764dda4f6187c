-- Each answer is a law of `AllowedBy`.
use mathlib.Core.Path.{sym}
use native.Mathlib.Omega.{arith}
use Rattle.walk_decide.proofs.AllowedBy.{too_long, no_layout, storable, unstorable, not_stored}
use Rattle.walk_decide.proofs.allow.Goals as goal

pub returns-then-bytes-gt-LIMIT : goal.returns-then-bytes-gt-LIMIT
returns-then-bytes-gt-LIMIT c t is w = sym (too_long _ t _ (omega arith))

pub returns-then-l-eq0 : goal.returns-then-l-eq0
returns-then-l-eq0 c t is w = sym (no_layout t _ is w _ (omega arith) _ (omega arith))

pub returns-then-l-ne0 : goal.returns-then-l-ne0
returns-then-l-ne0 c t is w = sym (storable t _ is w _ (omega arith) _ c.if-l-eq0.false c.if-l-ne0.true)

pub returns-then-stored : goal.returns-then-stored
returns-then-stored c t is w =
    rw c.if-stored.true (sym (unstorable t _ is w _ (omega arith) c.if-l-eq0.false c.if-l-ne0.false))

pub returns : goal.returns
returns c t is w =
    rw c.if-stored.false (sym (not_stored t _ is w _ (omega arith) c.if-l-eq0.false))
