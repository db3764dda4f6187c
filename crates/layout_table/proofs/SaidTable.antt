-- What the table and its answer tell of the file (specs/Table): its types and its trailer, or that it has none.
--
-- In order: an accepted file; the trailer alone; the whole table.
-- Assumes nothing.
use Rattle.std.specs.Prelude.{Err, Ok, Result}
use Prim.Native.Nat.{ℕ, ◌+◌, ◌*◌, ◌≤◌}
use mathlib.Core.List.{List}
use mathlib.Core.Path.{◌≡◌, refl, sym, ap, ◌∙◌}
use native.Mathlib.Omega.{arith}
use lib.ListN.{length}
use Rattle.wgsl.specs.Types.{Ty}
use Rattle.wgsl.specs.Said.{good, refused}
use Rattle.wgsl.specs.File as wgsl
use Rattle.wgsl.specs.File.{trailer_of, length_by, check_trailer, type_entry_length, member_entry_length}
use Rattle.wgsl.specs.Rule.{types_of}
use Rattle.wgsl.proofs.Said.{good_not_refused, then_good, then_cases, then_is, then_refused}
use Rattle.wgsl.proofs.Trailed.{trailed}
use Rattle.wgsl.proofs.Accepted.{accepted}
use Rattle.file.specs.Fields.{trailer_is}
use Rattle.said.specs.Refusal.{number_of, place_of}
use Rattle.said.specs.declared.refusal.Refusal.{Refusal}
use Rattle.file.specs.declared.trailer.Trailer.{Trailer}
use Rattle.layout_values.specs.Value.{values_of}
use Rattle.layout_table.specs.Table.{Table, table_of, said_table, accepted_trailer, said_checked}
use Rattle.layout_values.specs.declared.value.Value.{Value}

-- ---- an accepted file

-- The file is accepted, ts are its types, and t is its trailer.
pub record Taken (f : List ℕ) (t : Trailer) : Type 0 where
  pub ts : List Ty
  pub taken : types_of f ≡ good ts
  pub trailer_is_lem : trailer_is t ≡ trailer_of f
  pub start_is : t.start ≡ (trailer_of f).start
  pub count : length ts ≡ t.types
  pub few : t.types ≤ 256
  pub inside : t.start + type_entry_length * t.types + member_entry_length t.form * t.members ≤ length f

taken_so : (f : List ℕ) (t : Trailer) (ts : List Ty) → types_of f ≡ good ts → trailer_is t ≡ trailer_of f → Taken f t
unfolding length_by
taken_so f t ts e same =
    let a = accepted f ts e in
    let types : t.types ≡ (trailer_of f).types = ap (λ (r : wgsl.Trailer). r.types) same in
    let members : t.members ≡ (trailer_of f).members = ap (λ (r : wgsl.Trailer). r.members) same in
    let start : t.start ≡ (trailer_of f).start = ap (λ (r : wgsl.Trailer). r.start) same in
    let bytes : member_entry_length t.form * t.members ≡ member_entry_length (trailer_of f).form * (trailer_of f).members =
    ap (λ (r : wgsl.Trailer). member_entry_length r.form * r.members) same in
    record {
      ts = ts;
      taken = e;
      trailer_is_lem = same;
      start_is = start;
      count = a.count ∙ sym types;
      few = omega (arith, a.trailer_good.high);
      inside = omega (arith, a.trailer_good.long, bytes);
    }

-- A file whose trailer is refused has no types.
pub trailer_refused : {number place : ℕ} (f : List ℕ) → check_trailer f ≡ refused number place → types_of f ≡ refused number place
unfolding types_of
trailer_refused f e = then_refused _ e

-- ---- the trailer alone

pub accepted_refused : {number place : ℕ} (f : List ℕ) → types_of f ≡ refused number place → refused number place ≡ accepted_trailer f
unfolding accepted_trailer
accepted_refused f e = sym (then_refused _ e)

module _ (f : List ℕ) (answer : Result Trailer Refusal) (says : said_checked answer ≡ accepted_trailer f) where
  pub told : (t : Trailer) → answer ≡ Ok t → Taken f t
  unfolding accepted_trailer
  told t is =
      let x = then_good _ _ (sym says ∙ ap said_checked is) in
      taken_so f t x.value x.first (cc x.after)

  -- A file that is refused has no types.
  pub told_refused : (r : Refusal) → answer ≡ Err r → types_of f ≡ refused (number_of r) (place_of r)
  unfolding accepted_trailer
  told_refused r is =
      then_cases _ _ (sym says ∙ ap said_checked is) (λ h. h) (λ h. good_not_refused refl h.after)

-- ---- the whole table

-- Two good values that are the same.
pub inner : {A : Type 0} {a b : A} → good a ≡ good b → a ≡ b
inner e = cc

-- What is said of the table says the trailer.
pub table_trailer : (f : List ℕ) (answer : Result Trailer Refusal) (table : List Value) → said_table answer table ≡ table_of f → said_checked answer ≡ accepted_trailer f
unfolding table_of accepted_trailer
table_trailer f (Ok t) table e =
    let x = then_good _ _ (sym e) in
    ap good (sym (ap (λ (y : Table). y.trailer) (inner x.after))) ∙ sym (then_is _ x.first)
table_trailer f (Err r) table e =
    sym (then_cases _ _ (sym e) (λ h. then_refused _ h) (λ h. good_not_refused refl h.after))

module _ (f : List ℕ) (answer : Result Trailer Refusal) (table : List Value) (says : said_table answer table ≡ table_of f) where
  pub table_refused : (r : Refusal) → answer ≡ Err r → types_of f ≡ refused (number_of r) (place_of r)
  table_refused = told_refused f answer (table_trailer f answer table says)

  -- The table of an accepted file holds the values of its types.
  pub table_told : (s t : Trailer) → answer ≡ Ok s → check_trailer f ≡ good (trailer_is t) → (x : Taken f t) × (table ≡ values_of f x.ts)
  unfolding table_of taken_so
  table_told s t is checked =
      let x = then_good _ _ (sym says ∙ ap (λ (a : Result Trailer Refusal). said_table a table) is) in (
        taken_so f t x.value x.first (trailed f (trailer_is t) checked).is,
        sym (ap (λ (y : Table). y.values) (inner x.after)),
      )
