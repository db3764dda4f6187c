-- Room or none (`PutOut`).
use Prim.Native.Nat.{◌+◌, ◌*◌}
use mathlib.Core.Path.{◌≡◌, ◌∙◌}
use native.Mathlib.Omega.{arith}
use Rattle.wgsl.proofs.Trailed.{trailed}
use Rattle.wgsl.proofs.MemberLength.{length_least}
use Rattle.said.proofs.Answered.{answered_refused}
use Rattle.forms.proofs.PutOut.{given_long, new_file, new_long, new_fits, no_room, put_whole}
use Rattle.forms.proofs.put_out.Goals as goal

pub length_by-requires : goal.length_by-requires
length_by-requires c = let x = c in let t = trailed _ _ x.requires.0 in (t.high, t.few)

pub returns-then-out-length_by : goal.returns-then-out-length_by
returns-then-out-length_by c =
    let x = c in
    let a = x.args in
    let long = new_long (trailed _ _ x.requires.0) a.form a.name.now x.requires.1 x.requires.2 x.requires.3 in
    answered_refused a.out.now (no_room _ a.out.now (omega (arith, long, c.length_by.ensures)))

pub put_file-requires : goal.put_file-requires
put_file-requires c =
    let x = c in
    let a = x.args in
    let t = trailed _ _ x.requires.0 in
    let tested = c in
    let first : c.wide.result + 12 * c.wide-2.result ≡ a.t.start + 12 * a.t.types = omega (arith, c.wide.ensures.0, c.wide-2.ensures.0) in
    let each = c.wide-long.ensures.0 ∙ c.member_length.ensures.0 in
    let long = new_long t a.form a.name.now x.requires.1 x.requires.2 x.requires.3 in (
      omega (arith, each, length_least a.t.form),
      given_long t first each c.wide-3.ensures.0,
      new_fits t first each c.wide-3.ensures.0 a.form a.name.now a.bytes.now x.requires.1 x.requires.2 x.requires.3 x.requires.4
          (omega (arith, long, tested.length_by.ensures)),
    )

pub returns : goal.returns
returns c =
    let x = c in
    let a = x.args in
    let t = trailed _ _ x.requires.0 in
    let tested = c in
    let first : c.wide.result + 12 * c.wide-2.result ≡ a.t.start + 12 * a.t.types = omega (arith, c.wide.ensures.0, c.wide-2.ensures.0) in
    let each = c.wide-long.ensures.0 ∙ c.member_length.ensures.0 in
    let long = new_long t a.form a.name.now x.requires.1 x.requires.2 x.requires.3 in
    let is = new_file t first each c.wide-3.ensures.0 a.form a.name.now a.bytes.now x.requires.1 x.requires.2 x.requires.3 x.requires.4 in
    put_whole _ (omega (arith, long, tested.length_by.ensures)) (rw is at c.put_file.ensures)
