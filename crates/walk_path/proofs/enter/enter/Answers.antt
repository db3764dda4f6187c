-- A step is a member step or an index step, from an entry or from a column, which has no members.
use Rattle.walk_path.specs.Way.{Enters}
use Rattle.walk_path.proofs.IndexStep.{column_no_member}
use Rattle.walk_path.proofs.enter.enter.Goals as goal

pub returns-in-Entry-Index : goal.returns-in-Entry-Index
returns-in-Entry-Index c =
    let arm = c.in-Entry-Index in
    rw arm.is-1 (λ f ts x at. c.enter_index.ensures f ts _ x (rw arm.is-0 at at))

pub returns-in-Column-Member : goal.returns-in-Column-Member
unfolding Enters
returns-in-Column-Member c =
    let arm = c.in-Column-Member in
    rw arm.is-1 (λ f ts x at. column_no_member (rw arm.is-0 at at) _)

pub returns-in-Column-Index : goal.returns-in-Column-Index
returns-in-Column-Index c =
    let arm = c.in-Column-Index in
    rw arm.is-1 (λ f ts x at. c.enter_column.ensures f ts _ _ x (rw arm.is-0 at at))
