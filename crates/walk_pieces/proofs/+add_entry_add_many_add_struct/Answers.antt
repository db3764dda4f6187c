-- The cycle that gathers pieces meets its contracts: each function adds the places of what it is handed (specs/Piece, `Added`).
--
-- A walk goes down from an entry to the entries below it, which have lower numbers: that is the measure.
-- Assumes nothing.
use Prim.Native.Nat.{ℕ, ◌+◌, ◌*◌, ◌≤◌}
use mathlib.Core.Path.{sym, subst, ◌∙◌}
use native.Mathlib.Omega.{arith}
use Rattle.wgsl.specs.Place.{Shape, span_of, repeated, places_of}
use Rattle.wgsl.specs.Round.{limit}
use Rattle.walk_trees.specs.Tree.{Tree}
use Rattle.walk_trees.proofs.Many.{tree_many, depth_each}
use Rattle.walk_pieces.proofs.Added.{added_none, apart, part_ends, added_part, added_parts, member_type, MembersAdded, members_start_lem, member_first, member_low, member_added, members_added}
use Rattle.walk_pieces.proofs.+add_entry_add_many_add_struct.Goals.{add_struct-Else-few-gt-MOST}
use Rattle.walk_pieces.proofs.+add_entry_add_many_add_struct.Goals as goal

pub add_entry-returns : goal.add_entry-returns
add_entry-returns t c =
    let layout = c.value_at-r.ensures in
    λ x u. c.add_many.ensures x (rw layout (tree_many u (rw layout at c.if-r-eq-STRUCT.false)))

pub add_many-loop-i-init : goal.add_many-loop-i-init
unfolding repeated
add_many-loop-i-init t c y u f few = added_none _ _ _

pub add_many-add_entry-few-requires : goal.add_many-add_entry-few-requires
unfolding span_of
add_many-add_entry-few-requires t c =
    let asks = c.requires.2 in
    let none = c.parts_of-p.ensures.none c.if-p-ne0.false in
    let E = apart c.requires.1 none in
    let low : c.args.at + c.args.r.count * c.args.r.stride ≤ limit = rw E.is at asks.low in (
      omega (arith, c.decreases, depth_each c.args.table.now c.args.r none),
      (
        E.part,
        E.tree,
        record {
          few = c.if-few-gt-MOST.false;
          inside = (c.loop-i.invariant E.part E.tree E.fits c.if-few-gt-MOST.false).inside limit low asks.inside;
          low = omega (arith, low, part_ends c.args.at c.loop-i.i c.args.r.count (span_of E.part) c.args.r.stride c.loop-i-test.true E.fits);
        },
      ),
    )

pub add_many-loop-i-preserved : goal.add_many-loop-i-preserved
add_many-loop-i-preserved t c y u f few =
    added_part (λ b. places_of y b) _ c.loop-i.i _ c.args.at (c.loop-i.invariant y u f c.if-few-gt-MOST.false) (c.add_entry-few.ensures y u few)
    (part_ends _ _ _ (span_of y) _ c.loop-i-test.true f)

pub add_many-returns : goal.add_many-returns
unfolding places_of span_of
add_many-returns t c x m few =
    let E = apart m (c.parts_of-p.ensures.none c.if-p-ne0.false) in
    rw E.is (added_parts (λ b. places_of E.part b) _ c.loop-i.i _ c.args.at (c.loop-i.invariant E.part E.tree E.fits few) (omega arith))

-- the members that are left, of the shape that was asked with
here : (t : ℕ) (c : add_struct-Else-few-gt-MOST t) →
    let a = c.args in
    MembersAdded a.members.now a.table.now a.e a.r a.at a.k a.pieces.now c.loop-i.i c.loop-i.end c.loop-i.few c.loop-i.pieces c.requires.0
here t c = c.loop-i.invariant c.requires.0 c.requires.1 c.if-few-gt-MOST.false

pub add_struct-loop-i-init : goal.add_struct-loop-i-init
add_struct-loop-i-init t c x u few = members_start_lem _ _ _ u c.requires.2 c.requires.3

pub add_struct-overflow_add-first : goal.add_struct-overflow_add-first
add_struct-overflow_add-first t c =
    record { fits = omega (arith, (member_first (here t c) c.loop-i-test.true).member.slot_asks.inside, c.well_formed.0.0) }

pub add_struct-slot_after-p-requires : goal.add_struct-slot_after-p-requires
add_struct-slot_after-p-requires t c = (member_first (here t c) c.loop-i-test.true).member.slot_asks

pub add_struct-overflow_add-at : goal.add_struct-overflow_add-at
add_struct-overflow_add-at t c =
    let now = here t (goal.at.add_struct-overflow_add-at t c).Else-few-gt-MOST in
    record { fits = omega (arith, member_low now c.loop-i-test.true c.slot_after-p.ensures c.requires.4.low) }

pub add_struct-add_entry-few-requires : goal.add_struct-add_entry-few-requires
add_struct-add_entry-few-requires t c =
    let asks = c.requires.4 in
    let now = here t (goal.at.add_struct-add_entry-few-requires t c).Else-few-gt-MOST in
    let f = member_first now c.loop-i-test.true in
    let ty = member_type _ _ _ _ c.slot_after-p.ensures in (
      omega (arith, c.decreases, f.member.lower, ty),
      (
        f.y,
        subst (λ (e : ℕ). Tree c.args.members.now c.args.table.now e f.y) (sym ty) f.tree,
        record {
          few = c.if-few-gt-MOST.false;
          inside = now.added.inside limit asks.low asks.inside;
          low = member_low now c.loop-i-test.true c.slot_after-p.ensures asks.low;
        },
      ),
    )

pub add_struct-loop-i-preserved : goal.add_struct-loop-i-preserved
add_struct-loop-i-preserved t c x u few =
    member_added (c.loop-i.invariant x u c.if-few-gt-MOST.false) c.loop-i-test.true c.slot_after-p.ensures (λ y v. c.add_entry-few.ensures y v few)

pub add_struct-returns : goal.add_struct-returns
add_struct-returns t c x u few = members_added (c.loop-i.invariant x u few) c.loop-i-test.false
