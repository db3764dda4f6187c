-- The members of a struct of an accepted file, storable or not, as the file and the table say them.
--
-- In order: what the rules say of members; of the first of them and of the rest; the first of some members, read from the file; its
-- alignment, size and place.
-- Assumes nothing.
use Prim.Native.Nat.{ℕ, zero, suc, ◌+◌, ◌*◌, ◌<◌, ◌≤◌}
use mathlib.Core.Bool.{true}
use mathlib.Core.List.{List, ◌∷◌}
use mathlib.Core.Option.{Option, none, some, some-injective}
use mathlib.Core.Path.{◌≡◌, refl, sym, ap, ◌∙◌}
use borrow.Author.Tests.{leb-true}
use lib.Dec.{leb}
use lib.ListN.{length, take, get_elem?}
use Rattle.layout_members.specs.Given.{or_own}
use Rattle.wgsl.specs.Round.{up, limit, within_limit}
use Rattle.wgsl.specs.Types.{Ty, struct, Members, no_more, member, everywhere, every_member}
use Rattle.wgsl.specs.Size.{both, is_present, present, given_or, start_after, end_after, size_of, align_of, min_size_of, offsets_of, inner_numbers_of, numbers_of, within_limits, fits_limit, member_start, member_end}
use Rattle.wgsl.specs.File.{trailer_of, MemberEntry, member_entry_at, given_size, given_align, type_entry_at, member_fields_length}
use Rattle.wgsl.specs.Rule.{is_last, lower, count_of, members_from, members_allowed, is_well_formed, members_given_fit}
use Rattle.wgsl.proofs.Absent.{both_hold, true_not_false, some_present, present_is, present_some, given_present}
use Rattle.wgsl.proofs.Said.{when_some, and_then_some}
use Rattle.wgsl.proofs.Passed.{passed, struct_passed}
use Rattle.wgsl.proofs.Align.{align_power, member_aligned}
use Rattle.wgsl.proofs.Members.{Member, first_member, start_is}
use Rattle.wgsl.proofs.AtEntry.{get_elem_first}
use Rattle.file.specs.Members.{member_bytes, member_length}
use Rattle.layout_values.specs.declared.value.Value.{Value}
use Rattle.layout_values.specs.Value.{value_of}
use Rattle.layout_values.proofs.WordsIn.{value_words}
use Rattle.walk_trees.specs.Slot.{Counted, member_at, member_value, member_align, member_size, slot_at, SlotAsks}
use Rattle.walk_shapes.specs.Basis.{Basis}
use Rattle.walk_shapes.proofs.Basis.{basis_inside, basis_layout}
use Rattle.walk_shapes.proofs.Counted.{fixed_counted}
use Rattle.walk_shapes.proofs.MemberBytes.{length_member_bytes, member_bytes_at, member_inside}

-- ---- what the rules say of members, where the one before them ended at `end`

pub record Ruled (end : Option ℕ) (ms : Members) : Type 0 where
  pub well : every_member is_well_formed ms ≡ true
  pub allowed : members_allowed ms ≡ true
  pub given : members_given_fit ms ≡ true
  pub within : within_limits (offsets_of end ms) ≡ true

limits_first : (n : ℕ) (ns : List (Option ℕ)) → within_limits (some n ∷ ns) ≡ true → n ≤ limit
unfolding within_limits within_limit
limits_first n ns e = leb-true n limit (both_hold (leb n limit) (within_limits ns) e).0

limits_rest : (n : Option ℕ) (ns : List (Option ℕ)) → within_limits (n ∷ ns) ≡ true → within_limits ns ≡ true
unfolding within_limits
limits_rest none ns e = e
limits_rest (some n) ns e = (both_hold (within_limit n) (within_limits ns) e).1

-- They hold of all members of a well-formed struct,
pub struct_ruled : (k : ℕ) (ms : Members) → everywhere is_well_formed (struct k ms) ≡ true → Ruled (some 0) ms
unfolding fits_limit numbers_of inner_numbers_of
struct_ruled k ms w =
    let p = struct_passed k ms w in
    let t = struct k ms in
    record {
      well = p.below;
      allowed = p.allowed;
      given = p.given;
      within = limits_rest (min_size_of t) _ (limits_rest (align_of t) _ (limits_rest (size_of t) _ (passed t w).fits));
    }

-- ---- the first of them and the rest

module _ {end : Option ℕ} {t : Ty} {size align : Option ℕ} {ms : Members} (x : Ruled end (member t size align ms)) where
  pub first_ruled : Member t size align ms
  first_ruled = first_member t size align ms x.well x.allowed x.given

  -- and of those after the first.
  pub rest_ruled : Ruled (member_end end align (align_of t) size (size_of t)) ms
  unfolding offsets_of
  rest_ruled =
      record {
        well = first_ruled.rest_well;
        allowed = first_ruled.rest_allowed;
        given = first_ruled.rest_fits;
        within = limits_rest (member_start end align (align_of t)) _ x.within;
      }

start_within : {lo a : ℕ} {t : Ty} {size align : Option ℕ} {ms : Members} → Ruled (some lo) (member t size align ms) → given_or align (align_of t) ≡ some a → up a lo ≤ limit
unfolding offsets_of member_start
start_within {lo} {a} {t} {align = align} x e =
    limits_first (up a lo) _ (rw (start_is lo a (given_or align (align_of t)) e) at x.within)

-- After the last member there is none.
pub last_none : (f : List ℕ) (ts : List Ty) (c m : ℕ) (ms : Members) → members_from f ts c m ≡ some ms → is_last ms ≡ true → (c ≡ 0) × (ms ≡ no_more)
unfolding members_from is_last lower
last_none f ts zero m ms e h = (refl, cc)
last_none f ts (suc c) m ms e h =
    let t = and_then_some _ _ (when_some _ _ e).1 in
    let rest = and_then_some _ _ t.after in
    true_not_false h (rw (← some-injective _ _ rest.after) refl)

-- Members that are read are as many as were asked for.
pub count_from : (f : List ℕ) (ts : List Ty) (c m : ℕ) (ms : Members) → members_from f ts c m ≡ some ms → count_of ms ≡ c
unfolding members_from count_of lower
count_from f ts zero m ms e = let q : ms ≡ no_more = cc in rw q
count_from f ts (suc c) m ms e =
    let t = and_then_some _ _ (when_some _ _ e).1 in
    let rest = and_then_some _ _ t.after in
    rw (← some-injective _ _ rest.after) (ap suc (count_from f ts c (suc m) rest.value rest.first))

or_own_lem : (given own : Option ℕ) (n : ℕ) → own ≡ some n → or_own given (present own) ≡ present (given_or given own)
unfolding or_own present
or_own_lem given own n e = rw e

-- ---- the first of some members, read from the file

-- member m of a struct with the entry e has the type t
pub record Read (f : List ℕ) (ts : List Ty) (table : List Value) (e m : ℕ) (t : Ty) : Type 0 where
  pub is_entry : member_at (member_bytes f) (m * member_length f) ≡ member_entry_at f m
  pub inside : m * member_length f + member_fields_length ≤ length (member_bytes f)
  pub lower_is : (member_at (member_bytes f) (m * member_length f)).type < e
  pub there : get_elem? ts (member_at (member_bytes f) (m * member_length f)).type ≡ some t
  pub type_inside : (member_at (member_bytes f) (m * member_length f)).type < length table
  pub is_layout : member_value (member_bytes f) table (m * member_length f) ≡ value_of (member_length f) (type_entry_at f (member_at (member_bytes f) (m * member_length f)).type).reference t

pub read : {f : List ℕ} {ts : List Ty} {ms : List ℕ} {table : List Value} → Basis f ts ms table → {e : ℕ} (m : ℕ) (t : Ty) → m < (trailer_of f).members → lower (take e ts) (member_entry_at f m).type ≡ some t → Read f ts table e m t
unfolding lower
read {f} {ts} basis {e} m t h is =
    let same = member_bytes_at f m h in
    let found = get_elem_first e ts (member_entry_at f m).type is in
    let type : (member_at (member_bytes f) (m * member_length f)).type ≡ (member_entry_at f m).type = ap (λ (x : MemberEntry). x.type) same in
    let down : (member_at (member_bytes f) (m * member_length f)).type < e = rw type found.0 in
    let there : get_elem? ts (member_at (member_bytes f) (m * member_length f)).type ≡ some t = rw type found.1 in
    record {
      is_entry = same;
      inside = rw (length_member_bytes f ts basis.good_file) (member_inside f m h);
      lower_is = down;
      there = there;
      type_inside = basis_inside basis _ t there;
      is_layout = basis_layout basis _ t there;
    }

-- ---- its alignment, size and place

module _ {f : List ℕ} {ts : List Ty} {table : List Value} {e m : ℕ} {t : Ty} (r : Read f ts table e m t) where
  align_is : (own a : ℕ) → align_of t ≡ some own → given_or (given_align (member_entry_at f m)) (align_of t) ≡ some a → member_align (member_bytes f) table (m * member_length f) ≡ a
  unfolding value_of
  align_is own a h is =
      ap (λ (q : Value). or_own (given_align (member_at (member_bytes f) (m * member_length f))) q.align) r.is_layout
      ∙ ap (λ (x : MemberEntry). or_own (given_align x) (present (align_of t))) r.is_entry
      ∙ or_own_lem (given_align (member_entry_at f m)) (align_of t) own h ∙ ap present is ∙ present_is a

  size_is : (own a : ℕ) → size_of t ≡ some own → given_or (given_size (member_entry_at f m)) (size_of t) ≡ some a → member_size (member_bytes f) table (m * member_length f) ≡ a
  unfolding value_of
  size_is own a h is =
      ap (λ (q : Value). or_own (given_size (member_at (member_bytes f) (m * member_length f))) q.size) r.is_layout
      ∙ ap (λ (x : MemberEntry). or_own (given_size x) (present (size_of t))) r.is_entry
      ∙ or_own_lem (given_size (member_entry_at f m)) (size_of t) own h ∙ ap present is ∙ present_is a

  module _ {lo : ℕ} {ms : Members} (x : Ruled (some lo) (member t (given_size (member_entry_at f m)) (given_align (member_entry_at f m)) ms)) where
    aligned : (a : ℕ) × (given_or (given_align (member_entry_at f m)) (align_of t) ≡ some a) × (member_align (member_bytes f) table (m * member_length f) ≡ a)
    aligned =
        let v = first_ruled x in
        let a = given_present (given_align (member_entry_at f m)) (align_of t) (some_present v.own_is) in
        (a.0, a.1, align_is v.own a.0 v.own_is a.1)

    -- The words of a member's type are within the limit.
    member_counted : Counted (member_value (member_bytes f) table (m * member_length f))
    member_counted = rw (r.is_layout, value_words _ _ t) (fixed_counted t (first_ruled x).well)

    pub first_placeable : SlotAsks (member_bytes f) table (m * member_length f) lo
    first_placeable =
        let v = first_ruled x in
        let (a, is, al) = aligned in
        let p = member_aligned t (given_align (member_entry_at f m)) a (λ own h. align_power t own v.well h) v.align_fits is in
        record { inside = r.inside; type_inside = r.type_inside; counted = member_counted; power = rw al p.is_power_here; low = rw al (start_within x is) }

    -- It starts where the rules say,
    pub first_start : (slot_at (member_bytes f) table (m * member_length f) lo).start ≡ present (member_start (some lo) (given_align (member_entry_at f m)) (align_of t))
    unfolding slot_at member_start
    first_start =
        let (a, is, al) = aligned in
        let start = start_is lo a (given_or (given_align (member_entry_at f m)) (align_of t)) is in
        ap (λ (n : ℕ). up n lo) al ∙ sym (ap present start ∙ present_is (up a lo))

    -- and ends there, if it has a size.
    pub first_end : is_present (size_of t) ≡ true → member_end (some lo) (given_align (member_entry_at f m)) (align_of t) (given_size (member_entry_at f m)) (size_of t) ≡ some (slot_at (member_bytes f) table (m * member_length f) lo).end
    unfolding slot_at member_end end_after start_after both
    first_end q =
        let (a, is, al) = aligned in
        let own = present_some (size_of t) q in
        let g = given_present (given_size (member_entry_at f m)) (size_of t) q in
        rw (is, g.1, al, size_is own.0 g.0 own.1 g.1)
