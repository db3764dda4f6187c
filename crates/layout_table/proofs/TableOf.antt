-- The table of values, filled upward (specs/Table).
--
-- In order: a table that is filled up to entry k; what that entry is judged over; one entry more, or a refusal; the whole table.
-- Assumes nothing.
use Rattle.std.specs.Prelude.{Err, Ok}
use Rattle.file.specs.Members.{member_length}
use Prim.Native.Nat.{ℕ, suc, ◌+◌, ◌-◌, ◌<◌, ◌≤◌, ◌*◌}
use mathlib.Core.List.{List, [], ◌∷◌, ◌++◌}
use mathlib.Core.Path.{◌≡◌, refl, sym, ap, ◌∙◌, ap₂}
use native.Mathlib.Omega.{arith}
use native.Mathlib.Numerals.{add-one}
use borrow.Author.Tests.{lt-ltb, le-ltb}
use lib.Dec.{ltb}
use lib.ListN.{length, take, drop, set, replicate, length-set, length-replicate, take-append-drop}
use lib.Seq.{take-suc-set, drop-set-lt, drop-drop}
use Rattle.wgsl.specs.Types.{Ty}
use Rattle.wgsl.specs.Said.{Said, good, refused, refuse, ◌>>◌}
use Rattle.wgsl.specs.File.{Trailer, length_by, TypeEntry, type_entry_at, type_entry_from, check_trailer, type_entry_length, member_entry_length}
use Rattle.wgsl.specs.Rule.{type_of_entry, types_below, all_named, types_of}
use Rattle.wgsl.proofs.Said.{then_is, then_refused, refuse_yes, refuse_no}
use Rattle.wgsl.proofs.Trailed.{Trailed, trailed}
use Rattle.wgsl.proofs.Accepted.{below_length, below_well_formed}
use Rattle.said.specs.Refusal.{number_of, place_of}
use Rattle.layout_values.specs.Value.{refusal_at, value_of, made_of, blank_value, blank_table, values_from, values_of}
use Rattle.layout_values.specs.declared.value.Value.{Value}
use Rattle.layout_values.proofs.ValuesOf.{values_more}
use Rattle.layout_strays.specs.Strays.{Entries}
use Rattle.layout_table.specs.Table.{table_of, Upward}
use Rattle.layout_table.proofs.Judged.{types_of_lem, is_entry, base_is, members_are, says, entry_laid, entry_refused}
use Rattle.layout_values.specs.declared.value.Broken.{Broken}
use Rattle.layout_values.specs.declared.value.Broken.TheVariants.{Given, Large, Rule}

-- ---- a table that is filled up to entry k

pub record Filled (f : List ℕ) (r : Trailer) (k : ℕ) (table : List Value) : Type 0 where
  pub checked : check_trailer f ≡ good r
  pub trailer : Trailed f r
  pub long : length f ≡ r.start + (type_entry_length * r.types + member_entry_length r.form * r.members) + 10
  pub turn : k ≤ r.types
  pub types : List Ty
  pub below : types_below f k ≡ good types
  pub first : take k table ≡ values_from f 0 types
  pub rest : drop k table ≡ replicate (256 - k) blank_value
  pub whole : length table ≡ 256

pub blank_length : length blank_table ≡ 256
unfolding blank_table
blank_length = length-replicate 256 blank_value

pub filled_none : {f : List ℕ} {r : Trailer} {table : List Value} → check_trailer f ≡ good r → table ≡ blank_table → Filled f r 0 table
unfolding types_below length_by blank_table values_from
filled_none {f} {r} e h =
    record {
      checked = e;
      trailer = trailed f r e;
      long = (trailed f r e).long;
      turn = omega arith;
      types = [];
      below = refl;
      first = refl;
      rest = h;
      whole = ap length h ∙ blank_length;
    }

module _ {f : List ℕ} {r : Trailer} {k : ℕ} {table : List Value} (t : Filled f r k table) where
  count : length t.types ≡ k
  count = below_length f k t.types t.below

-- what entry k is judged over
pub filled_upward : {f : List ℕ} {r : Trailer} {k : ℕ} {table : List Value} (t : Filled f r k table) {e : TypeEntry} {start types members long : ℕ} → k < r.types → start ≡ r.start → types ≡ r.types → members ≡ r.members → long ≡ member_entry_length r.form → e ≡ type_entry_from f (start + type_entry_length * k) → Upward f k e (start + type_entry_length * types) members long table t.types
filled_upward {f} {r} {k} {table} t {members = members} {long = long} h at n m p is =
    let few = t.trailer.few in
    let high = t.trailer.high in
    let bytes : long * members ≡ member_entry_length r.form * r.members = ap₂ ◌*◌ p m in
    let whole = t.long in
    record {
      is_entry = is_entry t.trailer at k is;
      base_is = base_is t.trailer at n;
      members_is = members_are t.trailer at m;
      long_is = p ∙ ap (λ (x : Trailer). member_entry_length x.form) t.trailer.is;
      inside = omega arith;
      few = omega arith;
      lower =
          record {
            holds = record { first = rw (count t) t.first; well_formed = below_well_formed f k t.types t.below };
            count = count t;
            few = omega arith;
          };
      table_inside = omega (arith, t.whole);
    }

-- ---- one entry more

-- one element more of those that are filled, and one less of those that are not
first_more : (f : List ℕ) (table : List Value) (k : ℕ) (l : Value) (ts : List Ty) (t : Ty) → length ts ≡ k → k < length table → take k table ≡ values_from f 0 ts → l ≡ value_of (member_length f) (type_entry_at f k).reference t → take (k + 1) (set table k l) ≡ values_from f 0 (ts ++ (t ∷ []))
first_more f table k l ts t n h e q =
    let z : 0 + length ts ≡ k = omega arith in
    rw (add-one k, values_more f 0 ts t, z, ← e, ← q) (take-suc-set table k l h)

rest_more : (table : List Value) (k : ℕ) (v : Value) → k < 256 → drop k table ≡ replicate (256 - k) blank_value → drop (k + 1) (set table k v) ≡ replicate (256 - (k + 1)) blank_value
rest_more table k v h e =
    let z : 256 - k ≡ suc (256 - (k + 1)) = omega arith in
    let b : k < k + 1 = omega arith in
    drop-set-lt (k + 1) table k v b ∙ sym (drop-drop 1 k table) ∙ ap (drop 1) e
    ∙ ap (λ (n : ℕ). drop 1 (replicate n blank_value)) z

module _ {f : List ℕ} {r : Trailer} {k : ℕ} {table : List Value} (t : Filled f r k table) {e : TypeEntry} {base members long : ℕ} (h : k < r.types) (u : Upward f k e base members long table t.types) where
  pub filled_more : (l : Value) → Ok l ≡ made_of long e.reference (type_of_entry f t.types k) → Filled f r (k + 1) (set table k l)
  filled_more l made =
      let x = entry_laid f k long e.reference t.below made l refl in
      let high = t.trailer.high in
      let inside : k < length table = omega (arith, t.whole) in
      record {
        checked = t.checked;
        trailer = t.trailer;
        long = t.long;
        turn = omega arith;
        types = t.types ++ (x.0 ∷ []);
        below = rw (add-one k) x.1;
        first = first_more f table k l t.types x.0 (count t) inside t.first (x.2 ∙ ap₂ (λ (n : ℕ) (y : TypeEntry). value_of n y.reference x.0) u.long_is u.is_entry);
        rest = rest_more table k l (omega arith) t.rest;
        whole = length-set table k l ∙ t.whole;
      }

  refused_with : (b : Broken) {number place : ℕ} → Err b ≡ made_of long e.reference (type_of_entry f t.types k) → says k (Err b) ≡ refused number place → refused number place ≡ table_of f
  unfolding table_of
  refused_with b made s =
      sym (then_refused _ (types_of_lem f r t.checked ∙ then_refused _ (entry_refused f k long e.reference t.below made r.types s h)))

  pub filled_refused : (b : Broken) → Err b ≡ made_of long e.reference (type_of_entry f t.types k) → refused (number_of (refusal_at b k)) (place_of (refusal_at b k)) ≡ table_of f
  unfolding says
  filled_refused Rule made = refused_with Rule made refl
  filled_refused Given made = refused_with Given made refl
  filled_refused Large made = refused_with Large made refl

-- ---- the whole table

whole_table : (f : List ℕ) (table : List Value) (k : ℕ) (ts : List Ty) → length ts ≡ k → take k table ≡ values_from f 0 ts → drop k table ≡ replicate (256 - k) blank_value → table ≡ values_of f ts
unfolding values_of
whole_table f table k ts n e d = rw (n, ← e, ← d) (sym (take-append-drop k table))

-- where its entries lie, for the members that they name
pub filled_entries : {f : List ℕ} {r : Trailer} {k start types : ℕ} {table : List Value} → Filled f r k table → start ≡ r.start → types ≡ r.types → Entries f start types
filled_entries t at n = record {
  start_is = at ∙ ap (λ (x : Trailer). x.start) t.trailer.is;
  inside = let long = t.long in omega arith;
}

module _ {f : List ℕ} {r : Trailer} {k : ℕ} (types members stray : ℕ) {table : List Value} (t : Filled f r k table) (all : k ≡ r.types) (n : types ≡ r.types) (m : members ≡ r.members) (said : refuse 24 stray (ltb stray members) ≡ all_named f types members) where
  named_as : all_named f r.types r.members ≡ refuse 24 stray (ltb stray members)
  named_as = rw (← n, ← m) (sym said)

  left : types_of f ≡ ◌>>◌ (refuse 24 stray (ltb stray members)) (good t.types)
  left = types_of_lem f r t.checked ∙ then_is _ (rw (← all) t.below) ∙ ap (λ (s : Said (Unit {0})). ◌>>◌ s (good t.types)) named_as

  -- a member that nobody names
  pub filled_stray : stray < members → refused 24 stray ≡ table_of f
  unfolding table_of
  filled_stray low = sym (then_refused _ (left ∙ refuse_yes _ (lt-ltb stray members low)))

  pub filled_named : members ≤ stray → types_of f ≡ good t.types
  filled_named high = left ∙ refuse_no 24 stray (le-ltb stray members high)

pub filled_table : {f : List ℕ} {r : Trailer} {k : ℕ} {table : List Value} (t : Filled f r k table) → types_of f ≡ good t.types → good (record { trailer = r; values = table }) ≡ table_of f
unfolding table_of
filled_table {f} {r} {k} {table} t is =
    let values = whole_table f table k t.types (count t) t.first t.rest in
    sym (then_is _ is ∙ rw (← t.trailer.is, ← values))
