-- The member lies in both buffers (`MemberFound`), and its bit says which is handed back.
use mathlib.Core.Path.{refl, ap, ◌∙◌}
use native.Mathlib.Omega.{arith}
use Rattle.wgsl.specs.Call.{part_of, part_start}
use Rattle.wgsl.specs.Site.{shown_in, handed_from}
use Rattle.said.specs.declared.target.Target.{Target}
use Rattle.site.proofs.MemberFound.{reached_at, reached_none, shown_part, shown_place}
use Rattle.site.proofs.member.member.Goals as goal

pub overflow_add-to : goal.overflow_add-to
overflow_add-to c =
    let x = reached_at _ _ _ _ _ _ _ (rw c.in-Ok.is at (c.member_in.ensures c.args.factory.now c.args.site.now refl refl)) in
    record { fits = omega (arith, ap (λ (t : Target). t.offset) x.1, ap (λ (t : Target). t.size) x.1, x.2.in_factory, x.2.within) }

pub bit-requires : goal.bit-requires
bit-requires c =
    (reached_at _ _ _ _ _ _ _ (rw c.in-Ok.is at (c.member_in.ensures c.args.factory.now c.args.site.now refl refl))).2.low

pub part_of-requires : goal.part_of-requires
part_of-requires c =
    let x = reached_at _ _ _ _ _ _ _ (rw c.in-Ok.is at (c.member_in.ensures c.args.factory.now c.args.site.now refl refl)) in
    let from = ap (λ (t : Target). t.offset) x.1 in
    let size = ap (λ (t : Target). t.size) x.1 in
    (omega arith, omega (arith, from, size, x.2.in_factory), omega (arith, from, size, x.2.in_site))

pub returns-in-Err : goal.returns-in-Err
unfolding part_of part_start handed_from
returns-in-Err c =
    let none = reached_none _ _ _ _ _ _ (rw c.in-Err.is at (c.member_in.ensures c.args.factory.now c.args.site.now refl refl)) in
    rw none (record {
      bytes = refl;
      place = refl;
    })

pub returns-in-Ok : goal.returns-in-Ok
unfolding part_of part_start handed_from shown_in
returns-in-Ok c =
    let x = reached_at _ _ _ _ _ _ _ (rw c.in-Ok.is at (c.member_in.ensures c.args.factory.now c.args.site.now refl refl)) in
    let from = ap (λ (t : Target). t.offset) x.1 in
    let size = ap (λ (t : Target). t.size) x.1 in
    let on = c.bit.ensures in
    rw x.2.is (record {
      bytes = c.part_of.ensures.bytes ∙ shown_part _ _ _ _ _ _ _ _ _ on from size;
      place = c.part_of.ensures.place ∙ shown_place _ _ _ _ _ _ _ on from;
    })
