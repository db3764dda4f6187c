-- The laws of `SlotAt`, over what the entry and the layout are found to be.
use mathlib.Core.Path.{refl}
use native.Mathlib.Omega.{arith}
use Rattle.file.specs.Fields.{member_is}
use Rattle.walk_trees.proofs.SlotAt.{MemberFound, given_align_lem, given_size_lem, own_align, own_size, placed_is, may_place}
use Rattle.walk_trees.proofs.slot_after.Goals.{After-words-words}
use Rattle.walk_trees.proofs.slot_after.Goals as goal

-- the entry and the layout
found : (c : After-words-words) → MemberFound c.args.members.now c.args.table.now c.args.m (member_is c.member_at-e.result) c.member_at-e.result.ty c.value_at-r.result
found c = record { is_entry = c.member_at-e.ensures; type_is = refl; is_layout = c.value_at-r.ensures }

pub put_after-requires : goal.put_after-requires
put_after-requires c =
    let f = found (goal.at.put_after-requires c).After-words-words in
    may_place f c.args.end _ c.requires (own_align f (omega arith))

pub returns-then-e-eq0 : goal.returns-then-e-eq0
returns-then-e-eq0 c =
    let f = found (goal.at.returns-then-e-eq0 c).After-words-words in
    placed_is f _ c.args.end _ _ _ c.put_after.ensures c.words-words.ensures (own_align f (omega arith)) (own_size f (omega arith))

pub returns : goal.returns
returns c =
    let f = found (goal.at.returns c).After-words-words in
    placed_is f _ c.args.end _ _ _ c.put_after-2.ensures c.words-words.ensures (given_align_lem f c.given_align.ensures) (given_size_lem f c.given_size.ensures)
