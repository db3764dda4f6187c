-- Well-formed types with a layout have sound shapes (specs/Place, proofs/Shape): the step from the rules of a file to where bytes lie.
--
-- In order: what is shown of a type (`Laid`); scalars, vectors, matrices; members; every type.
-- Assumes nothing.
use Prim.Native.Nat.{ℕ, ◌+◌, ◌*◌, ◌<◌, ◌≤◌, max}
use mathlib.Core.Bool.{true, ◌||◌}
use mathlib.Core.Option.{Option, some}
use mathlib.Core.Path.{◌≡◌, refl, ap, ◌∙◌}
use mathlib.Core.Logic.{⊎_elim}
use native.Mathlib.Omega.{arith}
use native.Mathlib.Nat.{mod_self, zero-add}
use Rattle.wgsl.specs.Round.{IsPower, up}
use Rattle.wgsl.specs.Types.{Scalar, Ty, scalar, vector, matrix, array, runtime, atomic, struct, Members, no_more, member, is_runtime, is_open, everywhere, every_member}
use Rattle.wgsl.specs.Size.{both, given_or, is_present, present, width_of, vector_size, vector_align, start_after, end_after, size_of, align_of, members_align, stride_of, member_end, member_start}
use Rattle.wgsl.specs.Rule.{is_last, members_allowed, is_allowed, is_well_formed, members_given_fit}
use Rattle.wgsl.specs.Place.{tail_at, tail_of, extent_by, extent_of, parts, column, shape_of, fields_of, span_of}
use Rattle.wgsl.specs.Shapes.{Divides, From, Sound}
use Rattle.wgsl.proofs.Round.{up_multiple, up_not_below}
use Rattle.wgsl.proofs.Absent.{true_not_false, present_some, present_is, both_some, given_present}
use Rattle.wgsl.proofs.Power.{power_positive, power_divides}
use Rattle.wgsl.proofs.Passed.{passed, matrix_passed, array_passed, runtime_passed, struct_passed}
use Rattle.wgsl.proofs.Align.{width_power, atomic_width, VectorAligned, vector_align_lem, member_aligned, align_power, members_power}
use Rattle.wgsl.proofs.Shape.{divides_multiple, from_low}
use Rattle.wgsl.proofs.Tail.{sized_has, sized_takes}
use Rattle.wgsl.proofs.Members.{Member, first_member, member_extent, member_room, member_has, start_is, end_after_lem, end_of, struct_end}

-- ---- what is to be shown of a type: its shape is sound, takes its extent, and suits its alignment

pub record Laid (n : ℕ) (t : Ty) (a : ℕ) : Type 0 where
  pub sound : Sound (shape_of n t)
  pub span : span_of (shape_of n t) ≡ extent_of n t
  pub divides : Divides (shape_of n t) a

-- ---- scalars, vectors, matrices

scalar_laid : (n : ℕ) (s : Scalar) (a : ℕ) → width_of s ≡ some a → Laid n (scalar s) a
unfolding shape_of Sound span_of Divides extent_of extent_by tail_of size_of present
scalar_laid n s a e =
    record { sound = rw e (omega (arith, (width_power s a e).low)); span = refl; divides = rw e (mod_self a) }

column_sound : (r : ℕ) (s : Scalar) (w : ℕ) → width_of s ≡ some w → Sound (column r s)
unfolding column Sound span_of Divides present
column_sound r s w e = rw e (omega (arith, (width_power s w e).low), omega arith, mod_self w)

vector_laid : (n k : ℕ) (s : Scalar) (a : ℕ) → VectorAligned k s a → Laid n (vector k s) a
unfolding shape_of column span_of Divides extent_of extent_by tail_of size_of vector_size both present
vector_laid n k s a v =
    record {
      sound = column_sound k s v.width v.width_is;
      span = rw v.width_is;
      divides = rw v.width_is v.multiple;
    }

matrix_laid : (n c r : ℕ) (s : Scalar) (a : ℕ) → vector_align r s ≡ some a → VectorAligned r s a → Laid n (matrix c r s) a
unfolding shape_of column Sound span_of Divides extent_of extent_by tail_of size_of both present
matrix_laid n c r s a e v =
    record {
      sound =
          rw e
          (column_sound r s v.width v.width_is, rw v.width_is v.not_below, rw v.width_is v.multiple);
      span = rw e;
      divides = rw v.width_is v.multiple;
    }

-- ---- members

-- the members from ms on, where the one before them ended at lo, of a struct that takes z bytes and has the alignment `all`
record FieldsLaid (n z lo : ℕ) (end : Option ℕ) (ms : Members) (all : ℕ) : Type 0 where
  sound : Sound (fields_of n z end ms)
  from : From (fields_of n z end ms) lo
  span : span_of (fields_of n z end ms) ≡ z
  divides : Divides (fields_of n z end ms) all

-- one member, in front of those after it
field_laid : (n z lo a all : ℕ) (t : Ty) (size align : Option ℕ) (ms : Members) (m : Member t size align ms) → given_or align (align_of t) ≡ some a → IsPower all → a ≤ all → Laid n t m.own → FieldsLaid n z (up a lo + member_extent n t size) (member_end (some lo) align (align_of t) size (size_of t)) ms all → FieldsLaid n z lo (some lo) (member t size align ms) all
unfolding fields_of Sound From span_of Divides member_start member_end
field_laid n z lo a all t size align ms m e p le here rest =
    let al : Option ℕ = given_or align (align_of t) in
    let aligned = member_aligned t align a (λ own h. align_power t own m.well h) m.align_fits e in
    let pos : 0 < a = power_positive aligned.is_power_here in
    let start : present (start_after (some lo) al) ≡ up a lo = ap present (start_is lo a al e) ∙ present_is (up a lo) in
    let suits : Divides (shape_of n t) a = divides_multiple (shape_of n t) m.own a here.divides (aligned.multiple m.own m.own_is) in
    let room : span_of (shape_of n t) ≤ member_extent n t size = rw here.span (member_room n t size align ms m) in
    record {
      sound =
          rw start (
            here.sound,
            rest.sound,
            from_low (fields_of n z (end_after (some lo) al (given_or size (size_of t))) ms) (up a lo + span_of (shape_of n t))
                (up a lo + member_extent n t size) (omega arith) rest.from,
            divides_multiple (shape_of n t) a (up a lo) suits (up_multiple a lo),
          );
      from = rw start (up_not_below a lo pos);
      span = rest.span;
      divides =
          (divides_multiple (shape_of n t) a all suits (power_divides aligned.is_power_here p le), rest.divides);
    }

-- past the last member
last_laid : (n z lo all : ℕ) (end : Option ℕ) (ms : Members) → is_last ms ≡ true → end_of n lo ms ≤ z → FieldsLaid n z lo end ms all
unfolding is_last fields_of Sound From span_of Divides end_of
last_laid n z lo all end no_more e h = record { sound = tt; from = h; span = refl; divides = tt }
last_laid n z lo all end (member t size align ms) e h = true_not_false e refl

-- ---- every type

stride_is : (t : Ty) (a z : ℕ) → align_of t ≡ some a → size_of t ≡ some z → present (stride_of t) ≡ up a z
unfolding stride_of both present
stride_is t a z e s = rw (e, s)

-- parts at the stride of a type that is not open
parts_sound : (n k : ℕ) (t : Ty) (a z : ℕ) → IsPower a → align_of t ≡ some a → size_of t ≡ some z → extent_of n t ≡ z → Laid n t a → Sound (parts k (present (stride_of t)) (shape_of n t))
unfolding Sound
parts_sound n k t a z p e s x here =
    rw (stride_is t a z e s) (
      here.sound,
      omega (arith, here.span, up_not_below a z (power_positive p)),
      divides_multiple (shape_of n t) a (up a z) here.divides (up_multiple a z),
    )

array_laid : (n k : ℕ) (t : Ty) (a z : ℕ) → IsPower a → align_of t ≡ some a → size_of t ≡ some z → extent_of n t ≡ z → Laid n t a → Laid n (array k t) a
unfolding shape_of span_of Divides extent_of extent_by tail_of size_of both present
array_laid n k t a z p e s x here =
    record { sound = parts_sound n k t a z p e s x here; span = rw (stride_is t a z e s, e, s); divides = here.divides }

runtime_laid : (n : ℕ) (t : Ty) (a z : ℕ) → IsPower a → align_of t ≡ some a → size_of t ≡ some z → extent_of n t ≡ z → Laid n t a → Laid n (runtime t) a
unfolding shape_of span_of Divides extent_of extent_by tail_of tail_at present
runtime_laid n t a z p e s x here =
    record { sound = parts_sound n n t a z p e s x here; span = rw zero-add; divides = here.divides }

atomic_laid : (n : ℕ) (s : Scalar) (a : ℕ) → width_of s ≡ some 4 → a ≡ 4 → Laid n (atomic s) a
unfolding shape_of Sound span_of Divides extent_of extent_by tail_of size_of present
atomic_laid n s a e h = record { sound = rw e (omega arith); span = rw e; divides = rw (e, h) }

mutual
  unfolding is_allowed is_open size_of shape_of end_of is_last member_end

  -- A well-formed type with a layout has a sound shape, which takes its extent and suits its alignment.
  pub laid : (n : ℕ) (t : Ty) (a : ℕ) → everywhere is_well_formed t ≡ true → align_of t ≡ some a → (is_open t || is_present (size_of t)) ≡ true → Laid n t a
  laid n (scalar s) a w e h = scalar_laid n s a e
  laid n (vector k s) a w e h = vector_laid n k s a (vector_align_lem k s a (passed (vector k s) w).allowed e)
  laid n (matrix c r s) a w e h =
      matrix_laid n c r s a e (vector_align_lem r s a (matrix_passed c r s w).1 e)
  laid n (array k t) a w e h =
      let below = (array_passed k t w).below in
      let z = present_some (both ◌*◌ (some k) (both up (align_of t) (size_of t))) h in
      let outer = both_some ◌*◌ (some k) (both up (align_of t) (size_of t)) z.0 z.1 in
      let inner = both_some up (align_of t) (size_of t) outer.right outer.right_is in
      array_laid n k t a inner.right (align_power t a below e) e inner.right_is
      (sized_takes n t inner.right below inner.right_is)
      (laid n t a below e (sized_has t inner.right inner.right_is))
  laid n (runtime t) a w e h =
      let p = runtime_passed t w in
      runtime_laid n t a p.own (align_power t a p.below e) e p.own_is (sized_takes n t p.own p.below p.own_is)
      (laid n t a p.below e (sized_has t p.own p.own_is))
  laid n (atomic s) a w e h = atomic_laid n s a (atomic_width s (passed (atomic s) w).allowed) (cc)
  laid n (struct k ms) a w e h =
      let p = struct_passed k ms w in
      let f = fields_laid n (extent_of n (struct k ms)) 0 a ms a p.below p.allowed p.given e
      (members_power ms a p.below p.given e) (omega arith)
      (struct_end n k ms w p.below p.allowed p.given h) in
      record { sound = f.sound; span = f.span; divides = f.divides }

  fields_laid : (n z lo all : ℕ) (ms : Members) (most : ℕ) → every_member is_well_formed ms ≡ true → members_allowed ms ≡ true → members_given_fit ms ≡ true → members_align ms ≡ some most → IsPower all → most ≤ all → end_of n lo ms ≤ z → FieldsLaid n z lo (some lo) ms all
  fields_laid n z lo all no_more most w ok g e p le end = last_laid n z lo all (some lo) no_more refl end
  fields_laid n z lo all (member t size align ms) most w ok g e p le end =
      let m = first_member t size align ms w ok g in
      let al : Option ℕ = given_or align (align_of t) in
      let mx = both_some max al (members_align ms) most e in
      let a : present al ≡ mx.left = ap present mx.left_is ∙ present_is mx.left in
      let lo' : ℕ = up mx.left lo + member_extent n t size in
      let end' : end_of n lo' ms ≤ z = rw a at end in
      field_laid n z lo mx.left all t size align ms m mx.left_is p (omega (arith, mx.is))
      (laid n t m.own m.well m.own_is (member_has t size align ms m))
      (⊎_elim
      (λ (s : is_present (size_of t) ≡ true).
      let z' = given_present size (size_of t) s in
      let q : member_end (some lo) align (align_of t) size (size_of t) ≡ some lo' =
      end_after_lem n lo mx.left t size al z'.0 m.well mx.left_is z'.1
      ∙ ap (λ (i : ℕ). some (up i lo + member_extent n t size)) a in
      rw q (fields_laid n z lo' all ms mx.right m.rest_well m.rest_allowed m.rest_fits mx.right_is p
      (omega (arith, mx.is)) end'))
      (λ (s : (is_last ms ≡ true) × (is_runtime t ≡ true)).
      last_laid n z lo' all (member_end (some lo) align (align_of t) size (size_of t)) ms s.0 end') m.sized_or_last)
