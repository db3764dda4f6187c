-- The cycle of the walk meets its contracts: each function takes the visitor past the places of what it is handed (crates/walk_trees,
-- specs/Tree).
--
-- A walk goes down from an entry to the entries below it, which have lower numbers: that is the measure.
-- The loops' invariants are `Turn` and `Walk` of proofs/Steps: what was passed so far.
-- Assumes nothing.
use Prim.Native.Nat.{◌+◌, ◌*◌}
use mathlib.Core.Logic.{inr}
use mathlib.Core.Path.{ap, refl, sym, ◌∙◌}
use native.Mathlib.Omega.{arith}
use Rattle.walk_trees.specs.declared.Series.{Series}
use Rattle.walk_trees.proofs.Many.{tree_many, many_none}
use Rattle.walk_trees.proofs.Room.{each_entry, each_room, type_is, type_inside, type_tree, member_room, run_places_lem, run_room}
use Rattle.walk_pieces.proofs.Pass.{pieced_each, pieced_parts}
use Rattle.walk.proofs.Steps.{one_part, turn_start, turn_next, turn_all, walk_start, walk_first, walk_room, walk_words, walk_next, walk_none}
use Rattle.walk.proofs.+visit_entry_visit_many_visit_member_visit_struct.Goals as goal

pub visit_entry-returns : goal.visit_entry-returns
visit_entry-returns g t c x u =
    let layout = c.value_at-r.ensures in
    c.visit_many.ensures x (rw layout (tree_many u (rw layout at c.if-r-eq-STRUCT.false)))

pub visit_many-returns-then-r-eq0 : goal.visit_many-returns-then-r-eq0
visit_many-returns-then-r-eq0 g t c x m =
    rw (many_none m c.if-r-eq0.true c.args.at) (g.V.Visitor.laws.nil c.args.k c.args.v.now)

pub visit_many-pieces_of-few-requires : goal.visit_many-pieces_of-few-requires
visit_many-pieces_of-few-requires g t c =
    let e = each_entry c.requires.0.1 (c.parts_of-p.ensures.none c.if-p-ne0.false) c.requires.0.2 c.from-q.ensures in
    let stride = ap (λ (q : Series). q.stride) c.from-q.ensures in
    (e.y, e.tree, omega (arith, e.low, stride))

pub visit_many-pass_each-requires : goal.visit_many-pass_each-requires
visit_many-pass_each-requires g t c =
    let e = each_entry c.requires.0.1 (c.parts_of-p.ensures.none c.if-p-ne0.false) c.requires.0.2 c.from-q.ensures in
    pieced_each (c.pieces_of-few.ensures c.if-few-le-MOST.true e.y e.tree) e.room

pub visit_many-returns-then-few-le-MOST : goal.visit_many-returns-then-few-le-MOST
visit_many-returns-then-few-le-MOST g t c x m =
    let e = each_entry c.requires.0.1 (c.parts_of-p.ensures.none c.if-p-ne0.false) c.requires.0.2 c.from-q.ensures in
    let z = e.any x m in
    rw (z.2, ← pieced_parts (c.pieces_of-few.ensures c.if-few-le-MOST.true z.0 z.1) _ _ _) c.pass_each.ensures

pub visit_many-loop-i-init : goal.visit_many-loop-i-init
visit_many-loop-i-init g t c = turn_start g.V.Visitor.laws _ _ _ _ _ _ _

pub visit_many-overflow_add-at : goal.visit_many-overflow_add-at
visit_many-overflow_add-at g t c =
    let e = each_entry c.requires.0.1 (c.parts_of-p.ensures.none c.if-p-ne0.false) c.requires.0.2 c.from-q.ensures in
    omega (arith, (each_room e.room c.loop-i-test.true).bytes_there)

pub visit_many-overflow_add-k : goal.visit_many-overflow_add-k
visit_many-overflow_add-k g t c =
    let e = each_entry c.requires.0.1 (c.parts_of-p.ensures.none c.if-p-ne0.false) c.requires.0.2 c.from-q.ensures in
    omega (arith, (each_room e.room c.loop-i-test.true).words_there)

pub visit_many-visit_entry-requires : goal.visit_many-visit_entry-requires
visit_many-visit_entry-requires g t c κs within =
    let e = each_entry c.requires.0.1 (c.parts_of-p.ensures.none c.if-p-ne0.false) c.requires.0.2 c.from-q.ensures in
    let passed = c.loop-i.invariant.passed e.y e.tree in
    let b = g.V.Visitor.laws.bytes_stay _ _ _ _ passed in
    let w = g.V.Visitor.laws.words_stay _ _ _ _ passed in
    (omega (arith, c.decreases, e.deep), (within, ((e.y, e.tree, rw (b, w) (each_room e.room c.loop-i-test.true)), rw (b, w) c.requires.1)))

pub visit_many-loop-i-preserved : goal.visit_many-loop-i-preserved
visit_many-loop-i-preserved g t c =
    let e = each_entry c.requires.0.1 (c.parts_of-p.ensures.none c.if-p-ne0.false) c.requires.0.2 c.from-q.ensures in
    turn_next g.V.Visitor.laws c.loop-i.invariant e.tree e.room.unit_is c.visit_entry.ensures

pub visit_many-returns : goal.visit_many-returns
visit_many-returns g t c x m =
    let e = each_entry c.requires.0.1 (c.parts_of-p.ensures.none c.if-p-ne0.false) c.requires.0.2 c.from-q.ensures in
    let z = e.any x m in
    rw z.2 (turn_all c.loop-i.invariant (omega arith) z.0 z.1)

pub visit_member-value_at-r-requires : goal.visit_member-value_at-r-requires
visit_member-value_at-r-requires g t c = type_inside c.requires.0.1 c.slot_after-p.ensures

pub visit_member-packed-requires : goal.visit_member-packed-requires
visit_member-packed-requires g t c =
    rw (c.value_at-r.ensures, type_is c.requires.0.1 c.slot_after-p.ensures) c.requires.0.1.slot_asks.counted

pub visit_member-pass_few-requires : goal.visit_member-pass_few-requires
visit_member-pass_few-requires g t c =
    let room = run_room c.requires.0.1 c.slot_after-p.ensures c.value_at-r.ensures (sym c.packed.ensures ∙ c.if-packed-eq4.true) in
    (c.if-p-le4.true, room.1, room.0)

pub visit_member-returns-then-p-le4-clause-passed : goal.visit_member-returns-then-p-le4-clause-passed
visit_member-returns-then-p-le4-clause-passed g t c y u =
    let is = c.slot_after-p.ensures in
    rw (run_places_lem c.requires.0.1 is c.value_at-r.ensures (sym c.packed.ensures ∙ c.if-packed-eq4.true) u) (rw is at c.pass_few.ensures)

pub visit_member-overflow_mul-run : goal.visit_member-overflow_mul-run
visit_member-overflow_mul-run g t c =
    let room = run_room c.requires.0.1 c.slot_after-p.ensures c.value_at-r.ensures (sym c.packed.ensures ∙ c.if-packed-eq4.true) in
    record { fits = omega (arith, room.1, c.requires.1.bytes_low) }

pub visit_member-pass_parts-requires : goal.visit_member-pass_parts-requires
visit_member-pass_parts-requires g t c =
    let room = run_room c.requires.0.1 c.slot_after-p.ensures c.value_at-r.ensures (sym c.packed.ensures ∙ c.if-packed-eq4.true) in
    record { width = inr refl; fits = omega arith; bytes_there = omega (arith, room.1); words_there = omega (arith, room.0) }

pub visit_member-returns-then-packed-eq4-clause-passed : goal.visit_member-returns-then-packed-eq4-clause-passed
visit_member-returns-then-packed-eq4-clause-passed g t c y u =
    let is = c.slot_after-p.ensures in
    let n = c.slot_after-p.result.words in
    let passed = rw (one_part n 4 (n * 4) (c.args.at + c.slot_after-p.result.start)) at c.pass_parts.ensures in
    rw (run_places_lem c.requires.0.1 is c.value_at-r.ensures (sym c.packed.ensures ∙ c.if-packed-eq4.true) u) (rw is at passed)

pub visit_member-visit_entry-requires : goal.visit_member-visit_entry-requires
visit_member-visit_entry-requires g t c κs within =
    let is = c.slot_after-p.ensures in
    let ready = c.requires.0.1 in
    (omega (arith, c.decreases, type_is ready is), (within, ((c.requires.0.0, type_tree ready is, member_room ready is), c.requires.1)))

pub visit_struct-overflow_add-first : goal.visit_struct-overflow_add-first
visit_struct-overflow_add-first g t c =
    record { fits = omega (arith, (walk_first c.loop-i.invariant c.loop-i-test.true).member.slot_asks.inside, c.well_formed.0.0) }

pub visit_struct-loop-i-init : goal.visit_struct-loop-i-init
visit_struct-loop-i-init g t c =
    let pre = c.requires.0 in
    walk_start g.V.Visitor.laws _ pre.1 pre.2 pre.3 pre.4

pub visit_struct-visit_member-p-requires : goal.visit_struct-visit_member-p-requires
visit_struct-visit_member-p-requires g t c κs within =
    let walk = c.loop-i.invariant in
    let more = c.loop-i-test.true in
    let b = g.V.Visitor.laws.bytes_stay _ _ _ _ walk.passed in
    let w = g.V.Visitor.laws.words_stay _ _ _ _ walk.passed in (
      omega (arith, c.decreases, (walk_first walk more).member.lower),
      (within, (((walk_first walk more).y, rw (b, w) (walk_room walk more)), rw (b, w) c.requires.1)),
    )

pub visit_struct-overflow_add-next : goal.visit_struct-overflow_add-next
visit_struct-overflow_add-next g t c =
    omega (arith, walk_words c.loop-i.invariant c.loop-i-test.true c.visit_member-p.ensures.placed)

pub visit_struct-loop-i-preserved : goal.visit_struct-loop-i-preserved
visit_struct-loop-i-preserved g t c =
    walk_next c.loop-i.invariant c.loop-i-test.true c.visit_member-p.ensures.placed g.V.Visitor.laws c.visit_member-p.ensures.passed

pub visit_struct-returns : goal.visit_struct-returns
visit_struct-returns g t c = walk_none c.loop-i.invariant c.loop-i-test.false
