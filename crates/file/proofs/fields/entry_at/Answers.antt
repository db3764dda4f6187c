-- Each field is the one that `type_entry_from` names; the reads stay inside, since twelve bytes are there.
use Rattle.file.proofs.FieldsAt.{type_entry_is}
use Rattle.file.proofs.fields.entry_at.Goals as goal

pub returns : goal.returns
returns c =
    let h = c in
    let b = h in
    let a = b.args in
    type_entry_is a.f.now a.at _ b.byte.ensures.0 b.byte-2.ensures.0
    b.byte-3.ensures.0 h.byte-4.ensures.0 h.half.ensures.0 c.half-2.ensures.0
    c.u32_at.ensures
