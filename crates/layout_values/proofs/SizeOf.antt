-- Which types have a size and which an alignment (crates/wgsl, specs/Size, `size_of` and `align_of`).
--
-- In order: members end somewhere; a type that is not open has a size if it has an alignment; open types have an alignment.
-- Assumes nothing.
use Prim.Native.Nat.{ℕ, ◌+◌, ◌*◌, max}
use mathlib.Core.Bool.{Bool, true, false}
use mathlib.Core.Logic.{⊎_elim}
use mathlib.Core.Option.{Option, some}
use mathlib.Core.Path.{◌≡◌, refl, ap, ◌∙◌}
use Rattle.wgsl.specs.Round.{up}
use Rattle.wgsl.specs.Types.{Ty, scalar, vector, matrix, array, runtime, atomic, struct, Members, no_more, member, is_runtime, ends_in_runtime, is_open, everywhere, every_member}
use Rattle.wgsl.specs.Size.{both, is_present, vector_size, start_after, end_after, size_of, align_of, members_align, members_end, member_end}
use Rattle.wgsl.specs.Rule.{is_last, is_allowed, is_well_formed, members_allowed, members_given_fit}
use Rattle.wgsl.proofs.Absent.{true_not_false, some_present, given_present}
use Rattle.wgsl.proofs.Passed.{passed, array_passed, runtime_passed, struct_passed}
use Rattle.wgsl.proofs.Align.{vector_align_lem}
use Rattle.wgsl.proofs.Members.{first_member}

-- a runtime array that is last ends its struct
last_ends : (b : Bool) (ms : Members) → is_last ms ≡ true → ends_in_runtime b ms ≡ b
unfolding is_last ends_in_runtime
last_ends b no_more e = refl
last_ends b (member t size align ms) e = true_not_false e refl

end_there : (lo : ℕ) (align size : Option ℕ) (a z : ℕ) → align ≡ some a → size ≡ some z → end_after (some lo) align size ≡ some (up a lo + z)
unfolding end_after start_after both
end_there lo align size a z p q = rw (p, q)

-- Members that end in no runtime array end somewhere.
members_sized : (lo : ℕ) (b : Bool) (ms : Members) → every_member is_well_formed ms ≡ true → members_allowed ms ≡ true → members_given_fit ms ≡ true → ends_in_runtime b ms ≡ false → (z : ℕ) × (members_end (some lo) ms ≡ some z)
unfolding members_end ends_in_runtime member_end
members_sized lo b no_more w ok g e = (lo, refl)
members_sized lo b (member t size align ms) w ok g e =
    let m = first_member t size align ms w ok g in
    let a = given_present align (align_of t) (some_present m.own_is) in
    ⊎_elim
    (λ (p : is_present (size_of t) ≡ true).
    let z = given_present size (size_of t) p in
    let rest =
    members_sized (up a.0 lo + z.0) (is_runtime t) ms m.rest_well m.rest_allowed m.rest_fits e in
    (rest.0, ap (λ (x : Option ℕ). members_end x ms) (end_there lo _ _ a.0 z.0 a.1 z.1) ∙ rest.1))
    (λ (p : (is_last ms ≡ true) × (is_runtime t ≡ true)).
    true_not_false (last_ends (is_runtime t) ms p.0 ∙ p.1) e)
    m.sized_or_last

both_there : (f : ℕ → ℕ → ℕ) (x y : Option ℕ) (a b : ℕ) → x ≡ some a → y ≡ some b → both f x y ≡ some (f a b)
unfolding both
both_there f x y a b p q = rw (p, q)

-- A well-formed type that is not open and has an alignment has a size.
pub aligned_sized : (t : Ty) (a : ℕ) → everywhere is_well_formed t ≡ true → is_open t ≡ false → align_of t ≡ some a → (z : ℕ) × (size_of t ≡ some z)
unfolding is_open size_of align_of is_allowed vector_size
aligned_sized (scalar s) a w o e = (a, e)
aligned_sized (vector n s) a w o e =
    let v = vector_align_lem n s a (passed (vector n s) w).allowed e in
    (n * v.width, both_there ◌*◌ (some n) _ n v.width refl v.width_is)
aligned_sized (matrix c r s) a w o e = (c * a, both_there ◌*◌ (some c) _ c a refl e)
aligned_sized (array n t) a w o e =
    let p = array_passed n t w in
    let z = aligned_sized t a p.below p.closed e in
    (n * up a z.0, both_there ◌*◌ (some n) _ n _ refl (both_there up _ _ a z.0 e z.1))
aligned_sized (runtime t) a w o e = true_not_false refl o
aligned_sized (atomic s) a w o e = (4, refl)
aligned_sized (struct k ms) a w o e =
    let p = struct_passed k ms w in
    let z = members_sized 0 false ms p.below p.allowed p.given o in
    (up a z.0, both_there up _ _ a z.0 e z.1)

-- Members have an alignment.
members_aligned : (ms : Members) → every_member is_well_formed ms ≡ true → members_allowed ms ≡ true → members_given_fit ms ≡ true → (a : ℕ) × (members_align ms ≡ some a)
unfolding members_align
members_aligned no_more w ok g = (1, refl)
members_aligned (member t size align ms) w ok g =
    let m = first_member t size align ms w ok g in
    let a = given_present align (align_of t) (some_present m.own_is) in
    let r = members_aligned ms m.rest_well m.rest_allowed m.rest_fits in
    (max a.0 r.0, both_there max _ _ a.0 r.0 a.1 r.1)

-- An open type has an alignment.
pub open_aligned : (t : Ty) → everywhere is_well_formed t ≡ true → is_open t ≡ true → (a : ℕ) × (align_of t ≡ some a)
unfolding is_open align_of
open_aligned (scalar s) w o = true_not_false o refl
open_aligned (vector n s) w o = true_not_false o refl
open_aligned (matrix c r s) w o = true_not_false o refl
open_aligned (array n t) w o = true_not_false o refl
open_aligned (runtime t) w o = let p = runtime_passed t w in (p.aligned, p.aligned_is)
open_aligned (atomic s) w o = true_not_false o refl
open_aligned (struct k ms) w o =
    let p = struct_passed k ms w in
    members_aligned ms p.below p.allowed p.given
