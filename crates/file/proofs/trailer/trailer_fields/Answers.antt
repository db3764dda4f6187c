-- Each field is the one that `trailer_of` names, in the last ten bytes.
use Rattle.file.proofs.FieldsAt.{trailer_is_lem}
use Rattle.file.proofs.trailer.trailer_fields.Goals as goal

pub returns : goal.returns
returns c =
    let h = c in
    let a = h.args in
    trailer_is_lem a.f.now _ h.half.ensures.0 h.half-2.ensures.0 c.u32_at.ensures
    c.half-3.ensures.0
