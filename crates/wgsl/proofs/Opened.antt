-- Open types (specs/Place): the fixed part, and after it the elements of the runtime array.
--
-- In order: a runtime array; members; every open type; its words.
-- Assumes nothing.
use Prim.Native.Nat.{ℕ, ◌+◌, ◌*◌}
use mathlib.Core.Bool.{true, false}
use mathlib.Core.List.{◌++◌, append-nil, append_assoc}
use mathlib.Core.Logic.{⊎_elim}
use mathlib.Core.Option.{Option, none, some}
use mathlib.Core.Path.{◌≡◌, refl, ap, sym, ◌∙◌}
use native.Mathlib.Nat.{zero-add}
use lib.ListN.{length, length-append}
use Rattle.wgsl.specs.Types.{Ty, scalar, vector, matrix, array, runtime, atomic, struct, Members, no_more, member, is_runtime, ends_in_runtime, is_open, everywhere, every_member}
use Rattle.wgsl.specs.Size.{is_present, present, size_of, align_of, stride_of, member_start, member_end}
use Rattle.wgsl.specs.Rule.{is_last, members_allowed, is_well_formed, members_given_fit}
use Rattle.wgsl.specs.Place.{Tail, tail_at, members_tail, tail_of, extent_by, extent_of, repeated, shape_of, fields_of, places_of, places, word_count}
use Rattle.wgsl.specs.Shapes.{Opened}
use Rattle.wgsl.proofs.Absent.{true_not_false, present_some}
use Rattle.wgsl.proofs.Passed.{struct_passed}
use Rattle.wgsl.proofs.Tail.{sized_closed}
use Rattle.wgsl.proofs.Members.{first_member}
use Rattle.wgsl.proofs.Closed.{closed_shape}
use Rattle.wgsl.proofs.Count.{word_count_runtime, places_words}

-- the type of the last member, or `before` where there is none
unfoldable pub last_of : Ty → Members → Ty
last_of before no_more = before
last_of before (member t size align ms) = last_of t ms

-- ---- members

is_runtime_lem : (t : Ty) → is_runtime t ≡ true → (u : Ty) × (t ≡ runtime u)
unfolding is_runtime
is_runtime_lem (scalar s) e = true_not_false e refl
is_runtime_lem (vector n s) e = true_not_false e refl
is_runtime_lem (matrix c r s) e = true_not_false e refl
is_runtime_lem (array n t) e = true_not_false e refl
is_runtime_lem (runtime t) e = (t, refl)
is_runtime_lem (atomic s) e = true_not_false e refl
is_runtime_lem (struct k ms) e = true_not_false e refl

-- members that end in a runtime array, where the one before the first ended at `end`
record MembersOpened (before : Ty) (end : Option ℕ) (tail : Option Tail) (ms : Members) : Type 0 where
  element : Ty
  array : Tail
  last_is : last_of before ms ≡ runtime element
  tail_is : members_tail tail end ms ≡ some array
  stride_is : array.stride ≡ present (stride_of element)
  places_are : (n z z' at : ℕ) → places_of (fields_of n z end ms) at ≡ places_of (fields_of 0 z' end ms) at ++ places_of (shape_of n (runtime element)) (at + array.offset)

-- a runtime array that is the last member
last_opened : (before t : Ty) (size align end : Option ℕ) (tail : Option Tail) → is_runtime t ≡ true → MembersOpened before end tail (member t size align no_more)
unfolding last_of members_tail tail_at fields_of shape_of places_of repeated
last_opened before t size align end tail e =
    let (u, is) = is_runtime_lem t e in
    rw is (record {
      element = u;
      array = record { offset = present (member_start end align (align_of (runtime u))); stride = present (stride_of u) };
      last_is = refl;
      tail_is = refl;
      stride_is = refl;
      places_are = λ n z z' at. append-nil _;
    })

-- a member with a size, before others
more_opened : (before t : Ty) (size align end : Option ℕ) (tail : Option Tail) (ms : Members) → everywhere is_well_formed t ≡ true → is_open t ≡ false → MembersOpened t (member_end end align (align_of t) size (size_of t)) (tail_at (member_start end align (align_of t)) t) ms → MembersOpened before end tail (member t size align ms)
unfolding last_of members_tail fields_of places_of
more_opened before t size align end tail ms w o rest =
    record {
      element = rest.element;
      array = rest.array;
      last_is = rest.last_is;
      tail_is = rest.tail_is;
      stride_is = rest.stride_is;
      places_are = λ n z z' at.
          let start = present (member_start end align (align_of t)) in
          rw (closed_shape t w o n 0, rest.places_are n z z' at)
          (sym (append_assoc (places_of (shape_of 0 t) (at + start))
          (places_of (fields_of 0 z' (member_end end align (align_of t) size (size_of t)) ms) at)
          (places_of (shape_of n (runtime rest.element)) (at + rest.array.offset))));
    }

members_opened : (before : Ty) (end : Option ℕ) (tail : Option Tail) (t : Ty) (size align : Option ℕ) (ms : Members) → every_member is_well_formed (member t size align ms) ≡ true → members_allowed (member t size align ms) ≡ true → members_given_fit (member t size align ms) ≡ true → ends_in_runtime (is_runtime t) ms ≡ true → MembersOpened before end tail (member t size align ms)
unfolding ends_in_runtime is_last
members_opened before end tail t size align no_more w ok g e = last_opened before t size align end tail e
members_opened before end tail t size align (member u size' align' ms) w ok g e =
    let m = first_member t size align (member u size' align' ms) w ok g in
    ⊎_elim
    (λ (p : is_present (size_of t) ≡ true).
    let z = present_some (size_of t) p in
    more_opened before t size align end tail (member u size' align' ms) m.well (sized_closed t z.0 m.well z.1)
    (members_opened t _ _ u size' align' ms m.rest_well m.rest_allowed m.rest_fits e))
    (λ (p : (is_last (member u size' align' ms) ≡ true) × (is_runtime t ≡ true)). true_not_false p.0 refl)
    m.sized_or_last

-- ---- every open type

-- A runtime array is one.
pub runtime_opened : (u : Ty) → Opened (runtime u) u (record { offset = 0; stride = present (stride_of u) })
unfolding tail_of tail_at places shape_of places_of repeated present
runtime_opened u = record { tail_is = refl; stride_is = refl; places_are = λ n. refl }

-- A struct that is open is one, over the type of its last member.
pub struct_opened : (k : ℕ) (ms : Members) → everywhere is_well_formed (struct k ms) ≡ true → is_open (struct k ms) ≡ true → (u : Ty) × (tail : Tail) × (last_of (struct k ms) ms ≡ runtime u) × Opened (struct k ms) u tail
unfolding is_open ends_in_runtime tail_of places shape_of
struct_opened k no_more w o = true_not_false o refl
struct_opened k (member t size align ms) w o =
    let p = struct_passed k (member t size align ms) w in
    let x = members_opened (struct k (member t size align ms)) (some 0) none t size align ms p.below p.allowed p.given o in (
      x.element,
      x.array,
      x.last_is,
      record {
        tail_is = x.tail_is;
        stride_is = x.stride_is;
        places_are = λ n. rw (← zero-add x.array.offset) (x.places_are n _ _ 0);
      },
    )

-- ---- words and bytes

-- An open type has its fixed words and those of the elements.
pub opened_words : {t u : Ty} {tail : Tail} → Opened t u tail → (n : ℕ) → word_count n t ≡ word_count 0 t + n * word_count n u
unfolding word_count places
opened_words {t} {u} {tail} x n =
    ap length (x.places_are n) ∙ length-append (places 0 t) _
    ∙ ap (λ (k : ℕ). word_count 0 t + k) (places_words (shape_of n (runtime u)) tail.offset ∙ sym (places_words (shape_of n (runtime u)) 0) ∙ word_count_runtime n u)

-- It takes the bytes up to its array, and those of the elements.
pub opened_extent : {t u : Ty} {tail : Tail} → Opened t u tail → (n : ℕ) → extent_of n t ≡ tail.offset + n * tail.stride
unfolding extent_of extent_by
opened_extent x n = rw x.tail_is
