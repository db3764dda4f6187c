-- The marks tell (`Named`).
use mathlib.Core.Path.{refl}
use Rattle.layout_strays.proofs.Named.{marks_none}
use Rattle.layout_strays.proofs.lowest_stray.Goals as goal

pub mark_all-requires : goal.mark_all-requires
mark_all-requires c =
    let s = c in
    (s.requires.0, s.requires.1, refl, marks_none s.args.f.now s.args.members)
