-- The entry that a call speaks of (specs/Table).
--
-- In order: what `find` finds; what its answer tells.
-- Assumes nothing.
use Rattle.std.specs.Prelude.{Err, Ok, Result}
use Prim.Native.Nat.{ℕ, ◌+◌, ◌*◌, ◌<◌, ◌≤◌}
use mathlib.Core.List.{List}
use mathlib.Core.Option.{some}
use mathlib.Core.Path.{◌≡◌, refl, sym, ap, ◌∙◌}
use native.Mathlib.Omega.{arith}
use lib.ListN.{length, get_elem?}
use Rattle.wgsl.specs.Types.{Ty}
use Rattle.wgsl.specs.Said.{good, refused, or_refuse}
use Rattle.wgsl.specs.Rule.{types_of}
use Rattle.wgsl.specs.Call.{entry_of}
use Rattle.wgsl.specs.File.{type_entry_length, member_entry_length}
use Rattle.wgsl.proofs.Said.{good_not_refused, then_good, then_cases, then_is, then_refused}
use Rattle.wgsl.proofs.AtEntry.{get_elem_past}
use Rattle.said.specs.Refusal.{number_of, place_of}
use Rattle.file.specs.Members.{members_start}
use Rattle.said.specs.declared.refusal.Refusal.{Refusal}
use Rattle.file.specs.declared.trailer.Trailer.{Trailer}
use Rattle.layout_values.specs.declared.value.Value.{Value}
use Rattle.layout_values.specs.Value.{value_at, values_of}
use Rattle.layout_values.proofs.ValuesOf.{table_at}
use Rattle.layout_structs.proofs.MembersFrom.{get_elem_below}
use Rattle.layout_table.specs.Table.{ground_of, InTable, ground_in, said_ground}
use Rattle.layout_table.specs.declared.Ground.{Ground}
use Rattle.layout_table.proofs.SaidTable.{Taken, inner}

-- ---- what `find` finds

pub ground_refused : {number place : ℕ} (f : List ℕ) (e : ℕ) → types_of f ≡ refused number place → refused number place ≡ ground_in f e
unfolding ground_in
ground_refused f e h = sym (then_refused _ h)

module _ (f : List ℕ) (t : Trailer) (e : ℕ) (x : Taken f t) where
  -- 8: "entry number not below T"
  pub ground_missing : t.types ≤ e → refused 8 0 ≡ ground_in f e
  unfolding ground_in entry_of or_refuse
  ground_missing h =
      let past : length x.ts ≤ e = omega (arith, x.count) in
      sym (then_is _ x.taken ∙ then_refused _ (then_is _ x.taken ∙ rw (get_elem_past x.ts e past)))

  module _ (low : e < t.types) where
    -- the type of the entry
    type_there : (u : Ty) × (get_elem? x.ts e ≡ some u)
    type_there = get_elem_below x.ts e (omega (arith, x.count))

    pub ground_is : {l : Value} {start end : ℕ} (table : List Value) → table ≡ values_of f x.ts → l ≡ value_at table e → start ≡ t.start + type_entry_length * t.types → end ≡ start + member_entry_length t.form * t.members → good (record { ground = record { value = l; start = start; end = end }; table = table }) ≡ ground_in f e
    unfolding ground_in entry_of or_refuse ground_of members_start
    ground_is table values is p q =
        let u = type_there in
        let known = is ∙ ap (λ (v : List Value). value_at v e) values ∙ table_at f x.ts e u.0 u.1 in
        sym (then_is _ x.taken ∙ then_is {a = u.0} _ (then_is _ x.taken ∙ rw u.1) ∙ rw (known, values, q, p, ← x.trailer_is_lem))

-- ---- what its answer tells

-- The file is accepted, ts are its types, and entry e has this type, ground and table.
pub record On (f : List ℕ) (e : ℕ) (g : Ground) (table : List Value) : Type 0 where
  pub ts : List Ty
  pub taken : types_of f ≡ good ts
  pub type : Ty
  pub is_entry : entry_of f e ≡ good type
  pub ground_is : g ≡ ground_of f e type
  pub table_is : table ≡ values_of f ts

module _ (f : List ℕ) (e : ℕ) (answer : Result Ground Refusal) (table : List Value) (says : said_ground answer table ≡ ground_in f e) where
  pub ground_told : (g : Ground) → answer ≡ Ok g → On f e g table
  unfolding ground_in
  ground_told g is =
      let x = then_good _ _ (sym says ∙ ap (λ (a : Result Ground Refusal). said_ground a table) is) in
      let y = then_good _ _ x.after in
      let same = inner y.after in
      record {
        ts = x.value;
        taken = x.first;
        type = y.value;
        is_entry = y.first;
        ground_is = sym (ap (λ (s : InTable). s.ground) same);
        table_is = sym (ap (λ (s : InTable). s.table) same);
      }

  pub ground_told_refused : (r : Refusal) → answer ≡ Err r → entry_of f e ≡ refused (number_of r) (place_of r)
  unfolding ground_in entry_of
  ground_told_refused r is =
      then_cases _ _ (sym says ∙ ap (λ (a : Result Ground Refusal). said_ground a table) is) (λ h. then_refused _ h)
      (λ x. then_cases _ _ x.after (λ h. h) (λ y. good_not_refused refl y.after))
