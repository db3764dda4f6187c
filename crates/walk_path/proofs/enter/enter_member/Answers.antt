-- Kind 12 is a struct; its layout names the members, and those below the count are there.
use Prim.Native.Nat.{ℕ, ◌*◌}
use mathlib.Core.List.{List}
use Rattle.wgsl.specs.Types.{Ty}
use Rattle.wgsl.specs.Place.{Shape}
use Rattle.walk_path.specs.declared.enter.Stand.TheVariants.{Entry}
use Rattle.walk_path.specs.Way.{Standing, Enters}
use Rattle.walk_path.proofs.SizeAt.{size_within}
use Rattle.walk_path.proofs.IndexStep.{entry_inside}
use Rattle.walk_path.proofs.MemberStep.{MemberFound, member_outside, member_past, member_found, found_inside, found_within, found_enters}
use Rattle.walk_path.proofs.enter.enter_member.Goals.{Else-r-number}
use Rattle.walk_path.proofs.enter.enter_member.Goals as goal

found : (c : Else-r-number) {f : List ℕ} {ts : List Ty} {x : Shape} →
    let l = c.value_at-r.result in
    Standing f ts c.args.members.now c.args.table.now c.args.n (Entry c.args.e) x →
    MemberFound ts c.args.members.now c.args.table.now c.args.n l.stride (l.reference * l.stride) 0 c.args.number x
found c s = member_found s.basis s.stands c.value_at-r.ensures c.if-r-ne-STRUCT.false _ c.if-r-number.false

pub value_at-r-requires : goal.value_at-r-requires
value_at-r-requires c = let (f, ts, x, s) = c.requires in entry_inside s

pub returns-then-r-ne-STRUCT : goal.returns-then-r-ne-STRUCT
unfolding Enters
returns-then-r-ne-STRUCT c f ts x s j = member_outside s.basis s.stands (rw c.value_at-r.ensures at c.if-r-ne-STRUCT.true) _ j

pub returns-then-r-number : goal.returns-then-r-number
unfolding Enters
returns-then-r-number c f ts x s j = member_past s.basis s.stands _ (rw c.value_at-r.ensures at c.if-r-number.true) j

pub member_in-p-requires : goal.member_in-p-requires
member_in-p-requires c = let (f, ts, x, s) = c.requires in (found c s).slots_ask

pub into_entry-requires : goal.into_entry-requires
into_entry-requires c =
    let (f, ts, x, s) = c.requires in
    let here = found (goal.at.into_entry-requires c).Else-r-number s in
    rw c.member_in-p.ensures (found_inside s here, size_within _ _ _ (found_within s here))

pub returns : goal.returns
returns c f ts x s = rw (c.into_entry.ensures, c.member_in-p.ensures) (found_enters s (found (goal.at.returns c).Else-r-number s))
