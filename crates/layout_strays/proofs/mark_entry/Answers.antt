-- What a struct's entry names is marked, and nothing by another (`Named`).
use mathlib.Core.Bool.{Bool, ◌||◌}
use mathlib.Core.Path.{ap, ◌∙◌}
use native.Mathlib.Omega.{arith}
use Rattle.file.specs.Fields.{entry_is}
use Rattle.layout_strays.specs.Strays.{mark_at}
use Rattle.layout_strays.proofs.Named.{not_struct, or_none, names_cut}
use Rattle.layout_strays.proofs.mark_entry.Goals as goal

pub returns-then-e-ne-STRUCT : goal.returns-then-e-ne-STRUCT
returns-then-e-ne-STRUCT c m low =
    let a = c.args in
    or_none (mark_at a.named.now m) _ (not_struct (entry_is a.e) m (λ is. omega (arith, is)))

pub returns : goal.returns
returns c m low =
    let a = c.args in
    c.mark.ensures m
    ∙ ap (λ (b : Bool). mark_at a.named.now m || b)
    (names_cut (entry_is a.e) m (omega arith) c.min.ensures c.wide-from.ensures.0 c.wide.ensures.0 low)
