-- No slack: two tables that the claim of a fill allows are the same, and so are the answers beside them.
-- Assumes nothing.
use Rattle.std.specs.Prelude.{Err, Ok, Result}
use mathlib.Core.List.{List, []}
use mathlib.Core.Path.{◌≡◌, refl, sym, ap, ◌∙◌}
use Rattle.wgsl.specs.Said.{Said, good, refused}
use Rattle.wgsl.specs.File as wgsl
use Rattle.said.proofs.Single.{single, refusal_from, refusal_told}
use Rattle.file.specs.declared.trailer.Trailer.{Trailer}
use Rattle.layout_table.specs.Table.{Table, said_table, said_checked}
use Rattle.said.specs.declared.refusal.Refusal.{Refusal}
use Rattle.layout_values.specs.declared.value.Value.{Value}

abbrev checked_from : Said wgsl.Trailer → Result Trailer Refusal
checked_from (good t) = Ok (record { types = t.types; members = t.members; start = t.start; form = t.form })
checked_from (refused number place) = Err (refusal_from place number)

checked_told : (a : Result Trailer Refusal) → checked_from (said_checked a) ≡ a
checked_told (Ok t) = refl
checked_told (Err r) = ap Err (refusal_told r)

-- Two answers that the table's claim allows are the same.
pub single_checked : {said : Said wgsl.Trailer} (a b : Result Trailer Refusal) → said_checked a ≡ said → said_checked b ≡ said → a ≡ b
single_checked = single said_checked checked_from checked_told

-- what a table's answer says without its values, and its values
abbrev trailer_in : Said Table → Said wgsl.Trailer
trailer_in (good x) = good x.trailer
trailer_in (refused number place) = refused number place

abbrev values_in : Said Table → List Value
values_in (good x) = x.values
values_in (refused number place) = []

answer_in : (a : Result Trailer Refusal) (table : List Value) → said_checked a ≡ trailer_in (said_table a table)
answer_in (Ok t) table = refl
answer_in (Err r) table = refl

-- Two answers of a fill are the same,
pub single_fill : {said : Said Table} (a b : Result Trailer Refusal) (t u : List Value) → said_table a t ≡ said → said_table b u ≡ said → a ≡ b
single_fill a b t u p q = single_checked a b (answer_in a t ∙ ap trailer_in p) (answer_in b u ∙ ap trailer_in q)

-- and so are two tables that it leaves of an accepted file.
pub single_table : {said : Said Table} (a b : Trailer) (t u : List Value) → said_table (Ok a) t ≡ said → said_table (Ok b) u ≡ said → t ≡ u
single_table a b t u p q = ap values_in (p ∙ sym q)
