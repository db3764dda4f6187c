-- The members of a storable struct, as the walks ask for them (crates/walk_trees, specs/Tree).
--
-- In order: one member and those after it; all of them.
-- Assumes nothing.
use Prim.Native.Nat.{ℕ, zero, suc, ◌+◌, ◌*◌, ◌<◌, ◌≤◌}
use mathlib.Core.Bool.{true}
use mathlib.Core.List.{List}
use mathlib.Core.Logic.{⊎_elim}
use mathlib.Core.Option.{Option, some, some-injective}
use mathlib.Core.Path.{◌≡◌}
use native.Mathlib.Nat.{suc-mul}
use native.Mathlib.Omega.{arith}
use lib.ListN.{take, get_elem?}
use Rattle.wgsl.specs.Types.{Ty, Members, no_more, member, is_runtime, everywhere, every_member}
use Rattle.wgsl.specs.Size.{is_present, present, size_of, align_of, is_plain, member_start, member_end}
use Rattle.wgsl.specs.File.{trailer_of, member_entry_at, given_size, given_align}
use Rattle.wgsl.specs.Rule.{is_last, members_from}
use Rattle.wgsl.specs.Place.{Shape, shape_of, fields_of, span_of, places_of}
use Rattle.wgsl.specs.Shapes.{Sound}
use Rattle.wgsl.proofs.Absent.{both_hold}
use Rattle.wgsl.proofs.Said.{when_some, and_then_some}
use Rattle.wgsl.proofs.Shape.{rest_ordered, ordered_span}
use Rattle.wgsl.proofs.Members.{member_has}
use Rattle.layout_values.specs.Value.{value_at}
use Rattle.walk_trees.specs.Slot.{slot_at}
use Rattle.walk_trees.specs.Tree as tree
use Rattle.walk_trees.specs.Tree.{Member, Left, more, Tree}
use Rattle.file.specs.Members.{member_bytes, member_length}
use Rattle.walk_shapes.specs.Basis.{Basis}
use Rattle.walk_shapes.proofs.MemberRead.{first_ruled, rest_ruled, last_none, Read, read, first_placeable, first_start, first_end}
use Rattle.walk_shapes.proofs.Kept.{Kept, Fine}
use Rattle.layout_values.specs.declared.value.Value.{Value}

-- ---- one member and those after it

module _ {end : Option ℕ} {z : ℕ} {t : Ty} {size align : Option ℕ} {ms : Members} (x : Fine end z (member t size align ms)) where
  first_kept : Kept t
  unfolding every_member
  first_kept =
      let first = first_ruled x.ruled in
      record {
        well = first.well;
        aligned = first.own;
        aligned_is = first.own_is;
        has = member_has t size align ms first;
        plain = (both_hold (everywhere is_plain t) (every_member is_plain ms) x.plain).0;
      }

  rest_fine : Fine (member_end end align (align_of t) size (size_of t)) z ms
  unfolding every_member fields_of Sound
  rest_fine =
      record {
        ruled = rest_ruled x.ruled;
        plain = (both_hold (everywhere is_plain t) (every_member is_plain ms) x.plain).1;
        sound = x.sound.1;
      }

  -- It ends where those after it end, or before.
  rest_within : present (member_start end align (align_of t)) + span_of (shape_of 0 t) ≤ span_of (fields_of 0 z (member_end end align (align_of t) size (size_of t)) ms)
  unfolding fields_of Sound
  rest_within =
      let rest = fields_of 0 z (member_end end align (align_of t) size (size_of t)) ms in
      let lo = present (member_start end align (align_of t)) + span_of (shape_of 0 t) in
      let o = rest_ordered rest 0 lo x.sound.1 x.sound.2 in
      omega (arith, ordered_span (places_of rest 0) (0 + lo) (0 + span_of rest) o)

module _ (f : List ℕ) (ts : List Ty) (ms : List ℕ) (table : List Value) (basis : Basis f ts ms table) (e : ℕ) (long : (value_at table e).stride ≡ member_length f) (below : (i : ℕ) (u : Ty) → i < e → get_elem? ts i ≡ some u → Kept u → Tree (member_bytes f) table i (shape_of 0 u)) where
  -- one member, in front of those after it
  left_more : (c m lo z : ℕ) (t : Ty) (ns : Members) → Read f ts table e m t → members_from f (take e ts) c (suc m) ≡ some ns → Fine (some lo) z (member t (given_size (member_entry_at f m)) (given_align (member_entry_at f m)) ns) → ((lo' : ℕ) → Fine (some lo') z ns → Left (member_bytes f) table e c (suc m * member_length f) lo' (fields_of 0 z (some lo') ns)) → Left (member_bytes f) table e (suc c) (m * member_length f) lo (fields_of 0 z (some lo) (member t (given_size (member_entry_at f m)) (given_align (member_entry_at f m)) ns))
  unfolding fields_of
  left_more c m lo z t ns r are x more_left =
      let size = given_size (member_entry_at f m) in
      let align = given_align (member_entry_at f m) in
      let start = first_start r x.ruled in
      let next_byte : m * member_length f + (value_at table e).stride ≡ suc m * member_length f = omega (arith, long, suc-mul m (member_length f)) in
      let rest : Shape = fields_of 0 z (member_end (some lo) align (align_of t) size (size_of t)) ns in
      let here : Member (member_bytes f) table e (m * member_length f) lo (shape_of 0 t) rest =
      record {
        slot_asks = first_placeable r x.ruled;
        lower = r.lower_is;
        within = rw start (rest_within x);
      } in
      let after : Left (member_bytes f) table e c (m * member_length f + (value_at table e).stride) (slot_at (member_bytes f) table (m * member_length f) lo).end rest =
      ⊎_elim
      (λ (q : is_present (size_of t) ≡ true).
      let next = first_end r x.ruled q in
      rw (next, next_byte) (more_left (slot_at (member_bytes f) table (m * member_length f) lo).end (rw next at (rest_fine x))))
      (λ (q : (is_last ns ≡ true) × (is_runtime t ≡ true)).
      let no = last_none f (take e ts) c (suc m) ns are q.0 in
      rw (no.0, no.1) tree.none)
      (first_ruled x.ruled).sized_or_last in
      rw start at (more here (below _ t r.lower_is r.there (first_kept x)) after)

  -- ---- all of them

  pub left : (c m lo z : ℕ) (ns : Members) → members_from f (take e ts) c m ≡ some ns → m + c ≤ (trailer_of f).members → Fine (some lo) z ns → Left (member_bytes f) table e c (m * member_length f) lo (fields_of 0 z (some lo) ns)
  unfolding members_from fields_of
  left zero m lo z ns are within x = let q : ns ≡ no_more = cc in rw q tree.none
  left (suc c) m lo z ns are within x =
      let t = and_then_some _ _ (when_some _ _ are).1 in
      let rest = and_then_some _ _ t.after in
      let q = some-injective _ _ rest.after in
      rw (← q)
      (left_more c m lo z t.value rest.value (read basis m t.value (omega arith) t.first) rest.first (rw (← q) at x)
      (λ lo' y. left c (suc m) lo' z rest.value rest.first (omega arith) y))
