-- Values in a table (specs/Value).
--
-- In order: the layout of an entry; the values of several types, one more, each of them; a table that begins with them; the table of a
-- file.
-- Assumes nothing.
use Prim.Native.Nat.{ℕ, zero, suc, ◌+◌, ◌≤◌}
use mathlib.Core.List.{List, [], ◌∷◌, ◌++◌}
use mathlib.Core.Option.{some}
use mathlib.Core.Path.{◌≡◌, refl, sym, ap, ◌∙◌, ap₂}
use native.Mathlib.Omega.{arith}
use lib.ListN.{length, take, get_or, get_elem?, length-append, length-replicate}
use lib.Seq.{get_or-take, take_all, take-append-le}
use Rattle.wgsl.specs.Types.{Ty, scalar, vector, matrix, array, runtime, atomic, struct}
use Rattle.wgsl.specs.Size.{present}
use Rattle.wgsl.specs.File.{type_entry_at}
use Rattle.file.specs.Members.{member_length}
use Rattle.wgsl.proofs.Absent.{some_not_none}
use Rattle.wgsl.proofs.AtEntry.{get_elem_low}
use Rattle.layout_values.specs.declared.value.Value.{Value}
use Rattle.layout_values.specs.Value.{value_of, blank_value, value_at, values_from, values_of, stride_in}

-- A value whose numbers are all 0 is the blank one.
pub blank_is : (v : Value) → (v.kind ≡ 0) × ((v.narrow ≡ 0) × ((v.reference ≡ 0) × ((v.count ≡ 0) × ((v.unit ≡ 0) × ((v.stride ≡ 0) × ((v.size ≡ 0) × (v.align ≡ 0))))))) → v ≡ blank_value
blank_is v h =
    let own : ◌≡◌ {A = Value} (record { kind = v.kind; narrow = v.narrow; reference = v.reference; count = v.count; unit = v.unit; stride = v.stride; size = v.size; align = v.align }) blank_value =
    rw (h.0, h.1.0, h.1.1.0, h.1.1.1.0, h.1.1.1.1.0, h.1.1.1.1.1.0, h.1.1.1.1.1.1.0, h.1.1.1.1.1.1.1) in
    own

-- What stands at an entry is its value.
pub layout_numbers : (table : List Value) (e : ℕ) (l : Value) → get_or table e blank_value ≡ l → value_at table e ≡ l
unfolding value_at
layout_numbers table e l h = h

-- The length of member entries stands in a struct's value, and in no other.
value_long : (long r : ℕ) (t : Ty) → value_of long r t ≡ value_of (value_of long r t).stride r t
unfolding value_of stride_in present
value_long long r (scalar s) = refl
value_long long r (vector n s) = refl
value_long long r (matrix c m s) = refl
value_long long r (array n t) = refl
value_long long r (runtime t) = refl
value_long long r (atomic s) = refl
value_long long r (struct k ms) = refl

-- A layout that is some type's value is so with its own reference.
pub own_reference : {l : Value} (long r : ℕ) (t : Ty) → l ≡ value_of long r t → l ≡ value_of l.stride l.reference t
unfolding value_of
own_reference long r t e =
    e
    ∙ value_long long r t
    ∙ ap₂ (λ (n x : ℕ). value_of n x t) (sym (ap (λ (x : Value). x.stride) e)) (sym (ap (λ (x : Value). x.reference) e))

pub length_values : (f : List ℕ) (k : ℕ) (ts : List Ty) → length (values_from f k ts) ≡ length ts
unfolding values_from
length_values f k [] = refl
length_values f k (t ∷ ts) = ap suc (length_values f (suc k) ts)

values_at : (f : List ℕ) (k : ℕ) (ts : List Ty) (e : ℕ) (t : Ty) → get_elem? ts e ≡ some t → get_or (values_from f k ts) e blank_value ≡ value_of (member_length f) (type_entry_at f (k + e)).reference t
unfolding values_from
values_at f k [] e t h = some_not_none h refl
values_at f k (u ∷ ts) zero t h =
    let q : u ≡ t = cc in
    let z : k + 0 ≡ k = omega arith in
    rw (q, z)
values_at f k (u ∷ ts) (suc e) t h =
    let z : k + suc e ≡ suc k + e = omega arith in
    rw z (values_at f (suc k) ts e t h)

-- The values of one type more.
pub values_more : (f : List ℕ) (k : ℕ) (ts : List Ty) (t : Ty) → values_from f k (ts ++ (t ∷ [])) ≡ values_from f k ts ++ (value_of (member_length f) (type_entry_at f (k + length ts)).reference t ∷ [])
unfolding values_from
values_more f k [] t = let z : k + 0 ≡ k = omega arith in rw z
values_more f k (u ∷ ts) t =
    let z : k + suc (length ts) ≡ suc k + length ts = omega arith in
    rw z (ap (λ (l : List Value). value_of (member_length f) (type_entry_at f k).reference u ∷ l) (values_more f (suc k) ts t))

-- A table that begins with the values of several types holds each.
pub value_held : (f : List ℕ) (table : List Value) (ts : List Ty) (e : ℕ) (t : Ty) → take (length ts) table ≡ values_from f 0 ts → get_elem? ts e ≡ some t → value_at table e ≡ value_of (member_length f) (type_entry_at f e).reference t
value_held f table ts e t first h =
    let z : 0 + e ≡ e = omega arith in
    layout_numbers table e _
    (sym (get_or-take (length ts) table e blank_value (get_elem_low ts e h)) ∙ ap (λ (l : List Value). get_or l e blank_value) first
    ∙ rw z at (values_at f 0 ts e t h))

module _ (f : List ℕ) (ts : List Ty) where
  -- The table of a file has 256 entries,
  pub length_table : length ts ≤ 256 → length (values_of f ts) ≡ 256
  unfolding values_of
  length_table h =
      rw (length-append, length_values f 0 ts, length-replicate) (omega arith)

  -- and each of them is its type's value.
  pub table_at : (e : ℕ) (t : Ty) → get_elem? ts e ≡ some t → value_at (values_of f ts) e ≡ value_of (member_length f) (type_entry_at f e).reference t
  unfolding values_of
  table_at e t h =
      let all : length (values_from f 0 ts) ≤ length ts = omega (arith, length_values f 0 ts) in
      let enough : length ts ≤ length (values_from f 0 ts) = omega (arith, length_values f 0 ts) in
      value_held f _ ts e t (take-append-le (length ts) (values_from f 0 ts) _ enough ∙ take_all (length ts) (values_from f 0 ts) all) h
