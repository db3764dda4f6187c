-- The bytes and the words of a type, with no element of a runtime array, are within the limit.
--
-- In order: where a struct's runtime array begins; bytes; words.
-- Assumes nothing.
use Prim.Native.Nat.{ℕ, ◌≤◌}
use mathlib.Core.Bool.{Bool, true, false, cond, ◌||◌}
use mathlib.Core.List.Memᴰ
use mathlib.Core.List.{List, ◌∷◌}
use mathlib.Core.Option.{Option, none, some}
use mathlib.Core.Path.{◌≡◌, refl}
use native.Mathlib.Omega.{arith}
use borrow.Author.Tests.{leb-true}
use lib.Dec.{leb}
use Rattle.wgsl.specs.Round.{limit, within_limit}
use Rattle.wgsl.specs.Types.{Ty, scalar, vector, matrix, array, runtime, atomic, struct, Members, no_more, member, is_open, everywhere}
use Rattle.wgsl.specs.Size.{is_present, present, size_of, align_of, has_layout, numbers_of, inner_numbers_of, min_size_of, offsets_of, within_limits, fits_limit, member_start, member_end}
use Rattle.wgsl.specs.Rule.{is_well_formed}
use Rattle.wgsl.specs.Place.{Tail, tail_at, members_tail, tail_of, extent_by, extent_of, shape_of, word_count}
use Rattle.wgsl.proofs.Absent.{some_not_none, both_hold, present_some}
use Rattle.wgsl.proofs.Passed.{passed}
use Rattle.wgsl.proofs.Entry.{number_limit}
use Rattle.wgsl.proofs.Laid.{laid}
use Rattle.wgsl.proofs.Count.{count_words, words_room}
use Rattle.layout_values.specs.Value.{fixed_words}

-- ---- where a struct's runtime array begins

first_within : (o : Option ℕ) (os : List (Option ℕ)) → within_limits (o ∷ os) ≡ true → present o ≤ limit
unfolding within_limits within_limit present
first_within (some n) os e = leb-true n limit (both_hold (leb n limit) (within_limits os) e).0
first_within none os e = omega arith

rest_within : (o : Option ℕ) (os : List (Option ℕ)) → within_limits (o ∷ os) ≡ true → within_limits os ≡ true
unfolding within_limits
rest_within (some n) os e = (both_hold (within_limit n) (within_limits os) e).1
rest_within none os e = e

at_within : (start : Option ℕ) (t : Ty) (tail : Tail) → present start ≤ limit → tail_at start t ≡ some tail → tail.offset ≤ limit
unfolding tail_at
at_within start (scalar s) tail h e = some_not_none e refl
at_within start (vector n s) tail h e = some_not_none e refl
at_within start (matrix c r s) tail h e = some_not_none e refl
at_within start (array n t) tail h e = some_not_none e refl
at_within start (runtime t) tail h e =
    let q : present start ≡ tail.offset = cc in
    omega arith
at_within start (atomic s) tail h e = some_not_none e refl
at_within start (struct k ms) tail h e = some_not_none e refl

tail_within : (ms : Members) (end : Option ℕ) (before : Option Tail) (tail : Tail) → ((x : Tail) → before ≡ some x → x.offset ≤ limit) → within_limits (offsets_of end ms) ≡ true → members_tail before end ms ≡ some tail → tail.offset ≤ limit
unfolding members_tail offsets_of
tail_within no_more end before tail h w e = h tail e
tail_within (member t size align ms) end before tail h w e =
    tail_within ms (member_end end align (align_of t) size (size_of t)) (tail_at (member_start end align (align_of t)) t) tail
    (λ x q. at_within (member_start end align (align_of t)) t x (first_within (member_start end align (align_of t)) _ w) q)
    (rest_within (member_start end align (align_of t)) _ w) e

-- ---- bytes

offset_within : (t : Ty) (tail : Tail) → everywhere is_well_formed t ≡ true → tail_of t ≡ some tail → tail.offset ≤ limit
unfolding tail_of fits_limit numbers_of inner_numbers_of present
offset_within (scalar s) tail w e = some_not_none e refl
offset_within (vector n s) tail w e = some_not_none e refl
offset_within (matrix c r s) tail w e = some_not_none e refl
offset_within (array n t) tail w e = some_not_none e refl
offset_within (runtime t) tail w e = at_within (some 0) (runtime t) tail (omega arith) e
offset_within (atomic s) tail w e = some_not_none e refl
offset_within (struct k ms) tail w e =
    let t = struct k ms in
    tail_within ms (some 0) none tail (λ x q. some_not_none q refl)
    (rest_within (min_size_of t) _ (rest_within (align_of t) _ (rest_within (size_of t) _ (passed t w).fits))) e

pub extent_within : (t : Ty) → everywhere is_well_formed t ≡ true → extent_of 0 t ≤ limit
unfolding extent_of extent_by present numbers_of
extent_within t w = go (tail_of t) refl (size_of t) refl
  where
    go : (o : Option Tail) → tail_of t ≡ o → (z : Option ℕ) → size_of t ≡ z → extent_by 0 z o ≤ limit
    go (some tail) e z q = omega (arith, offset_within t tail w e)
    go none e (some z) q = number_limit t z w (Memᴰ.head (rw q))
    go none e none q = omega arith

-- ---- words

-- Each takes at least 2 bytes.
pub fixed_counted : (t : Ty) → everywhere is_well_formed t ≡ true → fixed_words t ≤ 4294967295
unfolding fixed_words has_layout
fixed_counted t w = go (has_layout t) refl
  where
    go : (b : Bool) → has_layout t ≡ b → cond b (word_count 0 t) 0 ≤ 4294967295
    go true h =
        let b = both_hold (is_present (align_of t)) (is_open t || is_present (size_of t)) h in
        let a = present_some (align_of t) b.0 in
        let l = laid 0 t a.0 w a.1 b.1 in
        omega (arith, count_words 0 t, words_room (shape_of 0 t) l.sound, l.span, extent_within t w)
    go false h = omega arith
