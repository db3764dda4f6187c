-- A member's place, from what its entry and its type's layout say (specs/Slot).
--
-- In order: a member's entry and layout, as they are found; its alignment and size, given or its type's own; its place.
-- Assumes nothing.
use Prim.Native.Nat.{ℕ, ◌+◌, ◌≤◌}
use mathlib.Core.List.{List}
use mathlib.Core.Path.{◌≡◌, refl, ap, ◌∙◌}
use Rattle.layout_members.specs.Given.{or_own}
use Rattle.wgsl.specs.Round.{IsPower, up, limit}
use Rattle.wgsl.specs.Size.{given_or, present}
use Rattle.wgsl.specs.File.{MemberEntry, size_is_given, align_is_given, given_size, given_align}
use Rattle.layout_values.specs.declared.value.Value.{Value}
use Rattle.walk_trees.specs.declared.Slot.{Slot}
use Rattle.layout_values.specs.Value.{value_at, words_in}
use Rattle.walk_trees.specs.Slot.{member_at, member_value, member_align, member_size, slot_at, Counted, SlotAsks}

-- the member at m has the entry x, its type is ty and that type's layout r
pub record MemberFound (ms : List ℕ) (table : List Value) (m : ℕ) (x : MemberEntry) (ty : ℕ) (r : Value) : Type 0 where
  pub is_entry : x ≡ member_at ms m
  pub type_is : ty ≡ x.type
  pub is_layout : r ≡ value_at table ty

module _ {ms : List ℕ} {table : List Value} {m ty : ℕ} {x : MemberEntry} {r : Value} (f : MemberFound ms table m x ty r) where
  pub type_found : ty ≡ (member_at ms m).type
  type_found = f.type_is ∙ ap (λ (y : MemberEntry). y.type) f.is_entry

  pub layout_found : r ≡ member_value ms table m
  layout_found = f.is_layout ∙ ap (value_at table) type_found

  pub given_align_lem : {a : ℕ} → a ≡ or_own (given_align x) r.align → a ≡ member_align ms table m
  given_align_lem e = rw (← layout_found, ← f.is_entry) e

  pub given_size_lem : {a : ℕ} → a ≡ or_own (given_size x) r.size → a ≡ member_size ms table m
  given_size_lem e = rw (← layout_found, ← f.is_entry) e

  -- A member without flags has its type's own alignment and size.
  pub own_align : x.flags ≡ 0 → r.align ≡ member_align ms table m
  unfolding or_own given_or present given_align align_is_given
  own_align e = given_align_lem (rw e refl)

  pub own_size : x.flags ≡ 0 → r.size ≡ member_size ms table m
  unfolding or_own given_or present given_size size_is_given
  own_size e = given_size_lem (rw e refl)

  -- What has the alignment and the size of member m is placed as member m.
  pub placed_is : (p : Slot) (end align size words : ℕ) → p ≡ record { ty = ty; start = up align end; end = up align end + size; words = words } → words ≡ words_in r → align ≡ member_align ms table m → size ≡ member_size ms table m → p ≡ slot_at ms table m end
  unfolding slot_at
  placed_is p end align size words e n a s = e ∙ rw (n, type_found, layout_found, a, s) refl

  pub counted : {end : ℕ} → SlotAsks ms table m end → Counted r
  counted p = rw layout_found p.counted

  -- It may be placed.
  pub may_place : (end align : ℕ) → SlotAsks ms table m end → align ≡ member_align ms table m → IsPower align × (up align end ≤ limit)
  may_place end align p a = rw a (p.power, p.low)
