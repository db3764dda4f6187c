-- Each field is the one that `member_entry_from` names; the reads stay inside, since twelve bytes are there.
use Rattle.file.proofs.FieldsAt.{member_entry_is}
use Rattle.file.proofs.fields.member_at.Goals as goal

pub returns : goal.returns
returns c =
    let h = c in
    let a = h.args in
    member_entry_is a.f.now a.at _ h.half.ensures.0 h.half-2.ensures.0
    c.u32_at.ensures c.u32_at-2.ensures
