-- The struct that a call means (specs/Promise), by its kind; or none.
--
-- In order: what is a struct by its kind; where it ends; the struct of an entry; the calls once the entry is decided.
-- Assumes nothing.
use Prim.Native.Nat.{ℕ}
use mathlib.Core.List.{List}
use mathlib.Core.Option.{some, none}
use mathlib.Core.Path.{◌≡◌, refl, ap, sym, subst, ◌∙◌}
use native.Mathlib.Omega.{arith}
use Rattle.wgsl.specs.Types.{Ty, scalar, vector, matrix, array, runtime, atomic, struct, Members, kind_of, struct_kind}
use Rattle.wgsl.specs.Said.{good, refused, ◌>>=◌, or_refuse}
use Rattle.wgsl.specs.Call.{entry_of}
use Rattle.wgsl.specs.Order.{members_in, struct_members, plan_members, plan_call, new_end, order_call}
use Rattle.wgsl.proofs.Said.{then_is, then_refused}
use Rattle.wgsl.proofs.ScalarKind.{no_scalar_kind}
use Rattle.wgsl.proofs.Opened.{opened_extent}
use Rattle.layout_values.specs.declared.value.Value.{Value}
use Rattle.layout_values.specs.Value.{value_of}
use Rattle.layout_table.specs.declared.Ground.{Ground}
use Rattle.walk_decide.specs.Meant.{members_part, Meant}
use Rattle.walk_decide.proofs.Tailed.{open_found}
use Rattle.walk_decide.proofs.Meant.{entry_site, entry_layout, entry_value, entry_well_formed}
use Rattle.orders_members.specs.Entries.{Struct}
use Rattle.orders_members.proofs.StructOf.{struct_at}
use Rattle.orders.specs.Promise.{Ends, StructMeant}

-- ---- by its kind

-- t is a struct of these members
record IsStruct (t : Ty) : Type 0 where
  number : ℕ
  members : Members
  is : t ≡ struct number members

by_kind : (t : Ty) → kind_of t ≡ struct_kind → IsStruct t
unfolding kind_of
by_kind (scalar s) e = absurd (no_scalar_kind s 12 (omega arith) (omega arith) e)
by_kind (vector n s) e = absurd (omega (arith, e))
by_kind (matrix c r s) e = absurd (omega (arith, e))
by_kind (array n t) e = absurd (omega (arith, e))
by_kind (runtime t) e = absurd (omega (arith, e))
by_kind (atomic s) e = absurd (omega (arith, e))
by_kind (struct k ms) e = record { number = k; members = ms; is = refl }

other_kind : (t : Ty) → (kind_of t ≡ struct_kind → ⊥) → members_in t ≡ none
unfolding kind_of members_in
other_kind (scalar s) h = refl
other_kind (vector n s) h = refl
other_kind (matrix c r s) h = refl
other_kind (array n t) h = refl
other_kind (runtime t) h = refl
other_kind (atomic s) h = refl
other_kind (struct k ms) h = absurd (h refl)

members_are : (f : List ℕ) (e k : ℕ) (ms : Members) → entry_of f e ≡ good (struct k ms) → struct_members f e ≡ good ms
unfolding struct_members members_in or_refuse ◌>>=◌
members_are f e k ms h = rw h refl

module _ {f : List ℕ} {e : ℕ} {g : Ground} {table : List Value} {t : Ty} (x : Meant f e g table t) where
  kind_is : g.value.kind ≡ kind_of t
  unfolding value_of
  kind_is = ap (λ (l : Value). l.kind) (entry_value x)

  -- ---- where it ends

  ends_at : Ends (members_part f g) table g.value t
  ends_at =
      record {
        value_is = entry_value x;
        well_formed = entry_well_formed x;
        findable = λ o. rw (entry_layout x) (open_found (entry_site x) e t x.there o).2.findable;
        offset_is = λ o.
            rw (entry_layout x)
            (let found = (open_found (entry_site x) e t x.there o).2 in
            let is = opened_extent found.opened 0 in
            omega (arith, is));
      }

  -- ---- the struct of an entry

  pub meant_struct : g.value.kind ≡ struct_kind → (ms : Members) × StructMeant (members_part f g) table g.value ms × (struct_members f e ≡ good ms)
  meant_struct h =
      let s = by_kind t (sym kind_is ∙ h) in
      let there = x.there ∙ ap some s.is in
      let is = struct_at (entry_site x) e s.number s.members there in (
        s.members,
        record {
          is_struct = subst (λ (l : Value). Struct (members_part f g) table l s.members) (sym (entry_layout x)) is;
          number = s.number;
          ends = subst (λ (u : Ty). Ends (members_part f g) table g.value u) s.is ends_at;
        },
        members_are f e s.number s.members (x.is_entry ∙ ap good s.is),
      )

  -- An entry of another kind is refused by 9.
  pub no_struct_lem : (g.value.kind ≡ struct_kind → ⊥) → struct_members f e ≡ refused 9 0
  unfolding struct_members or_refuse ◌>>=◌
  no_struct_lem h = rw (x.is_entry, other_kind t (λ k. h (kind_is ∙ k))) refl

-- ---- the calls once the entry is decided

module _ (f : List ℕ) (e : ℕ) where
  pub plan_refused : (lent : List ℕ) {number place : ℕ} → struct_members f e ≡ refused number place → plan_call f e lent ≡ refused number place
  unfolding plan_call
  plan_refused lent h = then_refused _ h

  pub plan_allowed : (lent : List ℕ) {ms : Members} → struct_members f e ≡ good ms → plan_call f e lent ≡ plan_members ms lent
  unfolding plan_call plan_members
  plan_allowed lent h = then_is _ h

  pub order_refused : (order : List ℕ) {number place : ℕ} → struct_members f e ≡ refused number place → order_call f e order ≡ refused number place
  unfolding order_call
  order_refused order h = then_refused _ h

  pub order_allowed : (order : List ℕ) {ms : Members} → struct_members f e ≡ good ms → order_call f e order ≡ or_refuse 23 0 (new_end e ms order)
  unfolding order_call
  order_allowed order h = then_is _ h

  -- what refuses the entry refuses both
  pub members_missing : {number place : ℕ} → entry_of f e ≡ refused number place → struct_members f e ≡ refused number place
  unfolding struct_members
  members_missing h = then_refused _ h
