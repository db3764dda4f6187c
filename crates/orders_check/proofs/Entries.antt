-- The member entries of a struct (crates/orders_members, specs/Entries), by number.
--
-- In order: one of them; that one as it is read; an order of them, and the member at a position of it.
-- Assumes nothing.
use Prim.Native.Nat.{ℕ, zero, suc, ◌+◌, ◌-◌, ◌*◌, ◌<◌, ◌≤◌}
use mathlib.Core.Bool.{true}
use mathlib.Core.List.{List}
use mathlib.Core.Option.{Option}
use mathlib.Core.Path.{◌≡◌, refl, sym, ap, ◌∙◌}
use native.Mathlib.Nat.{suc-mul, add-mul}
use native.Mathlib.Omega.{arith}
use lib.ListN.{length, get_or, take}
use lib.Seq.{length-take-le}
use Rattle.std.proofs.lemmas.List.{get_or-take}
use Rattle.wgsl.specs.Types.{Ty, Members, everywhere}
use Rattle.wgsl.specs.File.{MemberEntry, member_entry_from, given_size, given_align, rest_is_zero, most_members, member_fields_length}
use Rattle.wgsl.specs.Rule.{count_of, member_allowed, given_size_fits, given_align_fits, is_well_formed}
use Rattle.wgsl.specs.Order.{chosen}
use Rattle.wgsl.proofs.Passed.{struct_passed}
use Rattle.layout_values.specs.declared.value.Value.{Value}
use Rattle.layout_values.specs.Value.{value_of, value_at}
use Rattle.orders_members.specs.Entries.{Entered, Entries, none, more, Struct}
use Rattle.orders_check.specs.Checked.{all_below}
use Rattle.orders_check.proofs.Once.{below_at}
use Rattle.orders_check.proofs.Reordered.{Picks}

-- ---- one of them

-- entry j of those from byte m on
record Entry (bytes : List ℕ) (table : List Value) (long m : ℕ) (ms : Members) (j : ℕ) : Type 0 where
  type : Ty
  size : Option ℕ
  align : Option ℕ
  entered : Entered bytes table (m + j * long) type size align
  picks : Picks ms j type size align

entry_at : {bytes : List ℕ} {table : List Value} {long c m : ℕ} {ms : Members} → Entries bytes table long c m ms → (j : ℕ) → j < c → Entry bytes table long m ms j
unfolding chosen
entry_at none j h = absurd (omega arith)
entry_at {bytes} {table} {long} {c} {m} (more {t = t} {size = size} {align = align} e es) zero h =
    let q : m + 0 * long ≡ m = omega arith in
    record { type = t; size = size; align = align; entered = rw q e; picks = λ rest. refl }
entry_at {bytes} {table} {long} {c} {m} (more e es) (suc j) h =
    let x = entry_at es j (omega arith) in
    let q : m + suc j * long ≡ m + long + j * long = omega (arith, suc-mul j long) in
    record { type = x.type; size = x.size; align = x.align; entered = rw q x.entered; picks = x.picks }

-- ---- that one as it is read

-- member j has the entry e, which passed 5 to 7, and its type the value l
pub record Coming (ms : Members) (j : ℕ) (e : MemberEntry) (l : Value) : Type 0 where
  pub type : Ty
  pub picks : Picks ms j type (given_size e) (given_align e)
  pub layout : l ≡ value_of l.stride l.reference type
  pub well_formed : everywhere is_well_formed type ≡ true
  pub rest_zero : rest_is_zero e ≡ true
  pub allowed : member_allowed true type ≡ true
  pub size_fits : given_size_fits type (given_size e) ≡ true
  pub align_fits : given_align_fits type (given_align e) ≡ true

-- ---- an order of them

-- the entries of the members ms, last + 1 of them from number `first` on, and an order of as many positions
pub record Ordered (bytes : List ℕ) (table : List Value) (order : List ℕ) (first long last : ℕ) (ms : Members) : Type 0 where
  pub few : last < most_members
  pub entries : Entries bytes table long (last + 1) (first * long) ms
  pub length_is : length order ≡ last + 1
  pub below : all_below (last + 1) order ≡ true

-- A struct has a member at least.
pub struct_some : {bytes : List ℕ} {table : List Value} {l : Value} {ms : Members} → Struct bytes table l ms → 1 ≤ l.count
struct_some {ms = ms} s = omega (arith, (struct_passed s.number ms s.well_formed).some_there, s.count_is)

-- An order of one struct's members is one of those of any struct with its value.
pub ordered : {bytes : List ℕ} {table : List Value} {l : Value} {own ms : Members} {order : List ℕ} → Struct bytes table l own → length order ≡ count_of own → all_below (count_of own) order ≡ true → Struct bytes table l ms → Ordered bytes table order l.reference l.stride (l.count - 1) ms
ordered {l = l} s n below t =
    let c : l.count - 1 + 1 ≡ l.count = omega (arith, struct_some s) in
    record {
      few = omega (arith, struct_some s, s.few);
      entries = rw c t.entries;
      length_is = rw c (n ∙ sym s.count_is);
      below = rw (c, s.count_is) below;
    }

-- the positions before the last
module _ {bytes : List ℕ} {table : List Value} {order : List ℕ} {first long last : ℕ} {ms : Members} (o : Ordered bytes table order first long last ms) where
  long_is : length (take last order) ≡ last
  long_is = length-take-le last order (omega (arith, o.length_is))

  pub before_last : (i : ℕ) → i < length (take last order) → i < last
  before_last i h = omega (arith, long_is)

  pub before_is : (i : ℕ) → i < length (take last order) → get_or (take last order) i 0 ≡ get_or order i 0
  before_is i h = get_or-take last order i 0 (before_last i h)

  pub at_last : (i : ℕ) → i ≤ length (take last order) → length (take last order) ≤ i → i ≡ last
  at_last i h g = omega (arith, long_is)

-- the member at position i of the order, whose number is p
module _ {bytes : List ℕ} {table : List Value} {order : List ℕ} {first long last : ℕ} {ms : Members} (o : Ordered bytes table order first long last ms) (i : ℕ) (low : i ≤ last) (p : ℕ) (is : p ≡ get_or order i 0) where
  entry : Entry bytes table long (first * long) ms (get_or order i 0)
  entry = entry_at o.entries (get_or order i 0) (below_at (last + 1) order i o.below (omega (arith, o.length_is)))

  byte_is : (first + p) * long ≡ first * long + get_or order i 0 * long
  byte_is = rw is (add-mul first (get_or order i 0) long)

  -- Its fields are there,
  pub entry_inside : (first + p) * long + member_fields_length ≤ length bytes
  entry_inside = omega (arith, byte_is, entry.entered.inside)

  module _ (e : MemberEntry) (e_is : e ≡ member_entry_from bytes ((first + p) * long)) (r : ℕ) (r_is : r ≡ e.type) where
    same : e ≡ member_entry_from bytes (first * long + get_or order i 0 * long)
    same = e_is ∙ ap (member_entry_from bytes) byte_is

    type_is : r ≡ (member_entry_from bytes (first * long + get_or order i 0 * long)).type
    type_is = r_is ∙ ap (λ (m : MemberEntry). m.type) same

    pub entry_type : r < length table
    entry_type = omega (arith, type_is, entry.entered.type_inside)

    -- and say what it is.
    pub coming : (l : Value) → l ≡ value_at table r → Coming ms (get_or order i 0) e l
    coming l l-is =
        let d = entry.entered in
        let v : l ≡ value_at table (member_entry_from bytes (first * long + get_or order i 0 * long)).type = l-is ∙ ap (value_at table) type_is in
        let z : given_size e ≡ entry.size = ap given_size same ∙ d.size_is in
        let a : given_align e ≡ entry.align = ap given_align same ∙ d.align_is in
        record {
          type = entry.type;
          picks = rw (z, a) entry.picks;
          layout = rw v d.value_is;
          well_formed = d.well_formed;
          rest_zero = ap rest_is_zero same ∙ d.rest_zero;
          allowed = d.allowed;
          size_fits = rw z d.size_fits;
          align_fits = rw a d.align_fits;
        }
