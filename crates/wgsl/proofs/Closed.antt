-- The shape of a type that is not open (specs/Place): it depends on no number of elements.
--
-- In order: a member that is open ends its struct; every type.
-- Assumes nothing.
use Prim.Native.Nat.{ℕ}
use mathlib.Core.Bool.{Bool, true, false}
use mathlib.Core.Logic.{⊎_elim}
use mathlib.Core.Option.{Option, some}
use mathlib.Core.Path.{◌≡◌, refl, ap, ◌∙◌}
use Rattle.wgsl.specs.Types.{Ty, scalar, vector, matrix, array, runtime, atomic, struct, Members, no_more, member, is_runtime, ends_in_runtime, is_open, everywhere, every_member}
use Rattle.wgsl.specs.Size.{is_present, present, size_of, align_of, stride_of, member_end}
use Rattle.wgsl.specs.Rule.{is_last, members_allowed, is_well_formed, members_given_fit}
use Rattle.wgsl.specs.Place.{parts, shape_of, fields_of}
use Rattle.wgsl.proofs.Absent.{true_not_false, present_some}
use Rattle.wgsl.proofs.Passed.{array_passed, struct_passed}
use Rattle.wgsl.proofs.Tail.{closed_extent, sized_closed}
use Rattle.wgsl.proofs.Members.{Member, first_member}

last_ends : (b : Bool) (ms : Members) → is_last ms ≡ true → ends_in_runtime b ms ≡ b
unfolding is_last ends_in_runtime
last_ends b no_more e = refl
last_ends b (member t size align ms) e = true_not_false e refl

-- A member that is open ends its struct.
pub member_open : (t : Ty) (size align : Option ℕ) (ms : Members) → Member t size align ms → is_open t ≡ true → ends_in_runtime (is_runtime t) ms ≡ true
member_open t size align ms m o =
    ⊎_elim
    (λ (p : is_present (size_of t) ≡ true).
    let z = present_some (size_of t) p in
    true_not_false o (sized_closed t z.0 m.well z.1))
    (λ (p : (is_last ms ≡ true) × (is_runtime t ≡ true)). last_ends (is_runtime t) ms p.0 ∙ p.1) m.sized_or_last

contrary : (b : Bool) {c : Bool} → (b ≡ true → c ≡ true) → c ≡ false → b ≡ false
contrary true h e = true_not_false (h refl) e
contrary false h e = refl

mutual
  unfolding is_open ends_in_runtime fields_of

  -- The shape of a type that is not open depends on no number of elements.
  pub closed_shape : (t : Ty) → everywhere is_well_formed t ≡ true → is_open t ≡ false → (m n : ℕ) → shape_of m t ≡ shape_of n t
  closed_shape (scalar s) w e m n = refl
  closed_shape (vector k s) w e m n = refl
  closed_shape (matrix c r s) w e m n = refl
  closed_shape (array k t) w e m n =
      let p = array_passed k t w in
      ap (parts k (present (stride_of t))) (closed_shape t p.below p.closed m n)
  closed_shape (runtime t) w e m n = true_not_false refl e
  closed_shape (atomic s) w e m n = refl
  closed_shape (struct k ms) w e m n =
      let p = struct_passed k ms w in
      rw (closed_extent m (struct k ms) e, closed_extent n (struct k ms) e)
      (closed_fields ms false p.below p.allowed p.given e m n (present (size_of (struct k ms))) (some 0))

  closed_fields : (ms : Members) (b : Bool) → every_member is_well_formed ms ≡ true → members_allowed ms ≡ true → members_given_fit ms ≡ true → ends_in_runtime b ms ≡ false → (m n z : ℕ) (end : Option ℕ) → fields_of m z end ms ≡ fields_of n z end ms
  closed_fields no_more b w ok g e m n z end = refl
  closed_fields (member t size align ms) b w ok g e m n z end =
      let x = first_member t size align ms w ok g in
      let here = closed_shape t x.well (contrary (is_open t) (member_open t size align ms x) e) m n in
      let end' : Option ℕ = member_end end align (align_of t) size (size_of t) in
      rw (here, closed_fields ms (is_runtime t) x.rest_well x.rest_allowed x.rest_fits e m n z end')
