-- Laws of a pass over the member entries of a struct (specs/Keyed).
--
-- In order: the members that are left; the first of them; a pass over it, with the key and without; no member left.
-- Assumes nothing.
use Prim.Native.Nat.{ℕ, suc, ◌+◌, ◌*◌, ◌<◌, ◌≤◌}
use mathlib.Core.List.{List, ◌∷◌}
use mathlib.Core.Option.{Option}
use mathlib.Core.Path.{◌≡◌, refl, ap}
use native.Mathlib.Nat.{zero-add, mul-suc}
use native.Mathlib.Numerals.{add-one, unary_clauses}
use native.Mathlib.Omega.{arith}
use borrow.Author.Tests.{eq-eqb, ne_eqb}
use lib.ListN.{length, set}
use lib.Seq.{sets, length-sets}
use Rattle.wgsl.specs.Types.{Ty, Members, member}
use Rattle.orders_members.specs.Entries.{Entered, Entries, none, more, Struct, key_of}
use Rattle.orders_plan.specs.Keyed.{keyed_at}
use Rattle.layout_values.specs.declared.value.Value.{Value}

-- ---- the members that are left

-- a pass for a key over the member entries of a struct of the value `l`, which are `all`: it puts positions into the list `old` from place k on
pub record Pass : Type 0 where
  pub bytes : List ℕ
  pub table : List Value
  pub l : Value
  pub key : ℕ
  pub old : List ℕ
  pub k : ℕ
  pub all : Members

-- these members make of the list, from place `next` on, what all make of the list as it was
pub record Makes (p : Pass) (i next : ℕ) (order : List ℕ) (members : Members) : Type 0 where
  pub list_is : sets order next (keyed_at p.key i members) ≡ sets p.old p.k (keyed_at p.key 0 p.all)
  pub place_is : next + length (keyed_at p.key i members) ≡ p.k + length (keyed_at p.key 0 p.all)

-- where entry i of the pass begins
abbrev pub entry_at : Pass → ℕ → ℕ
entry_at p i = p.l.reference * p.l.stride + p.l.stride * i

-- the members from number i on are left
pub record Left (p : Pass) (i next : ℕ) (order : List ℕ) : Type 0 where
  pub number : ℕ
  pub members : Members
  pub counts : i + number ≡ p.l.count
  pub entries : Entries p.bytes p.table p.l.stride number (entry_at p i) members
  pub makes : Makes p i next order members

-- At the start all are left.
pub all_left : (p : Pass) → Struct p.bytes p.table p.l p.all → Left p 0 p.k p.old
all_left p s =
    record {
      number = p.l.count;
      members = p.all;
      counts = zero-add p.l.count;
      entries = simp unary_clauses s.entries;
      makes = record { list_is = refl; place_is = refl };
    }

-- The list keeps its length.
pub same_long : {p : Pass} {i next : ℕ} {order : List ℕ} → Left p i next order → length order ≡ length p.old
same_long l = simp length-sets at (ap length l.makes.list_is)

-- ---- the first of them

pub record First (p : Pass) (i next : ℕ) (order : List ℕ) : Type 0 where
  pub type : Ty
  pub size : Option ℕ
  pub align : Option ℕ
  pub entered : Entered p.bytes p.table (entry_at p i) type size align
  pub number : ℕ
  pub rest : Members
  pub counts : suc i + number ≡ p.l.count
  pub entries : Entries p.bytes p.table p.l.stride number (entry_at p (suc i)) rest
  pub makes : Makes p i next order (member type size align rest)

entry_next : (p : Pass) (i : ℕ) → entry_at p (suc i) ≡ entry_at p i + p.l.stride
entry_next p i = omega (arith, mul-suc p.l.stride i)

pub first_left : {p : Pass} {i next : ℕ} {order : List ℕ} → i < p.l.count → Left p i next order → First p i next order
first_left {p} {i} {next} {order} h l = go l.counts l.entries l.makes
  where
    go : {n : ℕ} {ms : Members} → i + n ≡ p.l.count → Entries p.bytes p.table p.l.stride n (entry_at p i) ms → Makes p i next order ms → First p i next order
    go c none makes = absurd (omega arith)
    go c (more {c = n} entered rest) makes =
        record {
          type = _;
          size = _;
          align = _;
          entered = entered;
          number = n;
          rest = _;
          counts = omega arith;
          entries = rw (entry_next p i) rest;
          makes = makes;
        }

-- ---- a pass over it

module _ {p : Pass} {i next : ℕ} {order : List ℕ} (f : First p i next order) where
  module _ (is : key_of f.type f.align ≡ p.key) where
    keyed : keyed_at p.key i (member f.type f.size f.align f.rest) ≡ i ∷ keyed_at p.key (suc i) f.rest
    unfolding keyed_at
    keyed = rw (eq-eqb (key_of f.type f.align) p.key is)

    -- There is a place for its position.
    pub place_left : next < p.k + length (keyed_at p.key 0 p.all)
    place_left = omega (arith, rw keyed at f.makes.place_is)

    -- After it is put there, the members after it are left.
    pub left_keyed : Left p (i + 1) (next + 1) (set order next i)
    left_keyed =
        rw (add-one i, add-one next) (record {
          number = f.number;
          members = f.rest;
          counts = f.counts;
          entries = f.entries;
          makes = record {
            list_is = rw keyed at f.makes.list_is;
            place_is = omega (arith, rw keyed at f.makes.place_is);
          };
        })

  module _ (other : key_of f.type f.align ≡ p.key → ⊥) where
    not_keyed : keyed_at p.key i (member f.type f.size f.align f.rest) ≡ keyed_at p.key (suc i) f.rest
    unfolding keyed_at
    not_keyed = rw (ne_eqb (key_of f.type f.align) p.key other)

    -- A member without the key is passed by.
    pub left_other : Left p (i + 1) next order
    left_other =
        rw add-one (record {
          number = f.number;
          members = f.rest;
          counts = f.counts;
          entries = f.entries;
          makes = record { list_is = rw not_keyed at f.makes.list_is; place_is = rw not_keyed at f.makes.place_is };
        })

-- ---- no member left

-- Then the list and the place are those of all members.
pub none_left : {p : Pass} {i next : ℕ} {order : List ℕ} → p.l.count ≤ i → Left p i next order →
    (next ≡ p.k + length (keyed_at p.key 0 p.all)) × (order ≡ sets p.old p.k (keyed_at p.key 0 p.all))
unfolding keyed_at
none_left {p} {i} {next} {order} h l = go l.counts l.entries l.makes
  where
    go : {n : ℕ} {ms : Members} → i + n ≡ p.l.count → Entries p.bytes p.table p.l.stride n (entry_at p i) ms → Makes p i next order ms →
        (next ≡ p.k + length (keyed_at p.key 0 p.all)) × (order ≡ sets p.old p.k (keyed_at p.key 0 p.all))
    go c none makes = (omega (arith, makes.place_is), makes.list_is)
    go c (more entered rest) makes = absurd (omega arith)
