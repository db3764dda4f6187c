-- The members of a struct, read from the file (crates/wgsl, specs/Rule), and the lower entries that they refer to.
--
-- In order: members taken from the front and from the back; what they make; the lower entries.
-- Assumes nothing.
use Rattle.std.specs.Prelude.{Result}
use native.Mathlib.Nat.{mul-zero, mul-suc}
use Rattle.file.specs.Members.{member_length}
use Prim.Native.Nat.{ℕ, zero, suc, ◌+◌, ◌*◌, ◌<◌, ◌≤◌}
use mathlib.Core.Bool.{Bool, true, false}
use mathlib.Core.List.{List, [], ◌∷◌}
use mathlib.Core.Option.{Option, none, some}
use mathlib.Core.Path.{◌≡◌, refl, sym, ap, ◌∙◌}
use native.Mathlib.Omega.{arith}
use lib.ListN.{length, get_or, get_elem?}
use Rattle.wgsl.specs.Types.{Ty, struct, Members, no_more, member, everywhere}
use Rattle.wgsl.specs.File.{type_entry_at, MemberEntry, member_entry_from, member_entry_at, given_size, given_align, rest_is_zero}
use Rattle.wgsl.specs.Rule.{when, and_then, lower, members_from, is_well_formed}
use Rattle.wgsl.proofs.AtEntry.{get_elem_past, get_elem_get_d}
use Rattle.layout_values.specs.Value.{value_of, value_at, made_of}
use Rattle.layout_values.proofs.ValuesOf.{own_reference, value_held}
use Rattle.layout_structs.specs.SoFar.{Lower, appended, followed, member_place}
use Rattle.layout_values.specs.declared.value.Broken.{Broken}
use Rattle.layout_values.specs.declared.value.Value.{Value}

-- ---- members from the front and from the back

-- one member more, if its entry makes one
unfoldable pub joined : List Ty → MemberEntry → Members → Option Members
joined ts e ms = when (rest_is_zero e) (and_then (lower ts e.type) (λ t. some (followed ms t e)))

-- the first n members whose entries lie from byte `at` on, the last one added last
unfoldable pub members_at : List ℕ → List Ty → ℕ → ℕ → Option Members
members_at f ts at zero = some no_more
members_at f ts at (suc i) = and_then (members_at f ts at i) (joined ts (member_entry_from f (at + member_length f * i)))

swap : (r : Bool) (o : Option Ty) (ms : Option Members) (ts : List Ty) (size align : Option ℕ) (e : MemberEntry) → and_then (when r (and_then o (λ t. and_then ms (λ x. some (member t size align x))))) (joined ts e) ≡ when r (and_then o (λ t. and_then (and_then ms (joined ts e)) (λ x. some (member t size align x))))
unfolding when and_then joined appended
swap false o ms ts size align e = refl
swap true none ms ts size align e = refl
swap true (some t) none ts size align e = refl
swap true (some t) (some x) ts size align e = go (rest_is_zero e) (lower ts e.type)
  where
    go : (r : Bool) (o : Option Ty) → when r (and_then o (λ u. some (member t size align (followed x u e)))) ≡ and_then (when r (and_then o (λ u. some (followed x u e)))) (λ y. some (member t size align y))
    go false o = refl
    go true none = refl
    go true (some u) = refl

-- the first member, and those after it
abbrev fronted : List ℕ → List Ty → ℕ → Option Members → Option Members
fronted f ts at rest =
    when (rest_is_zero (member_entry_from f at))
    (and_then (lower ts (member_entry_from f at).type)
    (λ t. and_then rest (λ ms. some (member t (given_size (member_entry_from f at)) (given_align (member_entry_from f at)) ms))))

front : (f : List ℕ) (ts : List Ty) (at n : ℕ) → members_at f ts at (suc n) ≡ fronted f ts at (members_at f ts (at + member_length f) n)
unfolding members_at and_then joined appended
front f ts at zero = let e : at + member_length f * 0 ≡ at = rw (mul-zero (member_length f)) (omega arith) in rw e
front f ts at (suc n) =
    let e : at + member_length f * suc n ≡ at + member_length f + member_length f * n = omega (arith, mul-suc (member_length f) n) in
    rw (front f ts at n, e)
    (swap (rest_is_zero (member_entry_from f at)) (lower ts (member_entry_from f at).type) (members_at f ts (at + member_length f) n) ts
    (given_size (member_entry_from f at)) (given_align (member_entry_from f at)) (member_entry_from f (at + member_length f + member_length f * n)))

next_place : (f : List ℕ) (first : ℕ) → member_place f (suc first) ≡ member_place f first + member_length f
unfolding member_place
next_place f first = omega (arith, mul-suc (member_length f) first)

-- The members of a file are those that lie from the first's byte on.
pub members_at_lem : (f : List ℕ) (ts : List Ty) (n first : ℕ) → members_from f ts n first ≡ members_at f ts (member_place f first) n
unfolding members_from members_at member_place member_entry_at
members_at_lem f ts zero first = refl
members_at_lem f ts (suc n) first =
    ap (fronted f ts (member_place f first)) (members_at_lem f ts n (suc first) ∙ ap (λ (p : ℕ). members_at f ts p n) (next_place f first))
    ∙ sym (front f ts (member_place f first) n)

-- What the members from byte `at` on make, those from number `first` on make, if that is where they lie.
pub from_first : (f : List ℕ) (ts : List Ty) (long r at n first k : ℕ) (x : Result Value Broken) → made_of long r (and_then (members_at f ts at n) (λ ms. some (struct k ms))) ≡ x → at ≡ member_place f first → x ≡ made_of long r (and_then (members_from f ts n first) (λ ms. some (struct k ms)))
from_first f ts long r at n first k x e p = sym (rw (members_at_lem f ts n first, ← p) e)

-- ---- the lower entries

-- the type of entry r, whose value the table holds
pub record LowerFound (f : List ℕ) (table : List Value) (ts : List Ty) (r : ℕ) : Type 0 where
  pub type : Ty
  pub is : lower ts r ≡ some type
  pub value : value_at table r ≡ value_of (member_length f) (type_entry_at f r).reference type
  pub layout : value_at table r ≡ value_of (value_at table r).stride (value_at table r).reference type
  pub well_formed : everywhere is_well_formed type ≡ true

pub get_elem_below : {A : Type 0} (l : List A) (r : ℕ) → r < length l → (a : A) × (get_elem? l r ≡ some a)
get_elem_below [] r h = absurd (omega arith)
get_elem_below (a ∷ l) r h = (get_or (a ∷ l) r a, get_elem_get_d (a ∷ l) r a h)

pub lower_found : (f : List ℕ) (table : List Value) (k : ℕ) (ts : List Ty) (r : ℕ) → Lower f table k ts → r < k → LowerFound f table ts r
unfolding lower
lower_found f table k ts r low h =
    let x : r < length ts = omega (arith, low.count) in
    let t = get_elem_below ts r x in
    let value = value_held f table ts r t.0 low.holds.first t.1 in
    record {
      type = t.0;
      is = t.1;
      value = value;
      layout = own_reference _ _ t.0 value;
      well_formed = low.holds.well_formed r t.0 t.1;
    }

pub lower_past : (f : List ℕ) (table : List Value) (k : ℕ) (ts : List Ty) (r : ℕ) → Lower f table k ts → k ≤ r → lower ts r ≡ none
unfolding lower
lower_past f table k ts r low h = get_elem_past ts r (omega (arith, low.count))
