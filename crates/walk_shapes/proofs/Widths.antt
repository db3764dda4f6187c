-- The widths of a type's words, and its narrowest word (crates/layout_values, specs/Value).
--
-- In order: scalars; words of two or four bytes; no word is narrower than the narrowest; words in order that fill their bytes.
-- Assumes nothing.
use Prim.Native.Nat.{ℕ, zero, suc, ◌+◌, ◌*◌, ◌≤◌, min}
use mathlib.Core.Bool.{true}
use mathlib.Core.List.{List, [], ◌∷◌, ◌++◌}
use mathlib.Core.Logic.{◌⊎◌, inl, inr, ⊎_elim}
use mathlib.Core.Option.{Option, some}
use mathlib.Core.Path.{◌≡◌, refl, ap, ◌∙◌}
use native.Mathlib.Omega.{arith}
use native.Mathlib.Nat.{suc-mul}
use lib.ListN.{length}
use Rattle.wgsl.specs.Round.{up}
use Rattle.wgsl.specs.Types.{Scalar, bool, i32, u32, f32, f16, abstract_int, abstract_float, i64, u64, f64, Ty, scalar, vector, matrix, array, runtime, atomic, struct, Members, no_more, member, everywhere, every_member}
use Rattle.wgsl.specs.Size.{present, width_of, size_of, align_of, is_stored, is_plain, member_end}
use Rattle.wgsl.specs.Place.{Shape, one, parts, field, whole, column, shape_of, fields_of, Place, words_for, words_over, word_places, repeated, places_of}
use Rattle.wgsl.specs.Claim.{Ordered}
use Rattle.wgsl.proofs.Absent.{true_not_false, both_hold}
use Rattle.wgsl.proofs.ScalarWords.{scalar_length}
use Rattle.wgsl.proofs.Shape.{scalar_ordered}
use Rattle.runs.specs.Run.{run_places}
use Rattle.layout_values.specs.Value.{stored_width, scalar_words, narrow_of, narrowest}
use Rattle.walk_trees.specs.Tree.{AllWide, Wide}

-- ---- scalars

abbrev pub TwoOrFour : ℕ → Type 0
TwoOrFour w = (w ≡ 2) ⊎ (w ≡ 4)

pub stored_width_lem : (s : Scalar) → is_stored s ≡ true → stored_width s ≡ min 4 (present (width_of s))
unfolding stored_width
stored_width_lem s e = rw e

-- ---- words of two or four bytes

stored_two_or_four : (s : Scalar) → is_stored s ≡ true → TwoOrFour (stored_width s)
unfolding is_stored stored_width width_of present
stored_two_or_four bool e = true_not_false e refl
stored_two_or_four i32 e = inr refl
stored_two_or_four u32 e = inr refl
stored_two_or_four f32 e = inr refl
stored_two_or_four f16 e = inl refl
stored_two_or_four abstract_int e = true_not_false e refl
stored_two_or_four abstract_float e = true_not_false e refl
stored_two_or_four i64 e = inr refl
stored_two_or_four u64 e = inr refl
stored_two_or_four f64 e = inr refl

-- The words of a stored scalar fill it.
pub scalar_fills : (s : Scalar) → is_stored s ≡ true → scalar_words s * stored_width s ≡ present (width_of s)
unfolding is_stored stored_width width_of present words_for up
scalar_fills bool e = true_not_false e refl
scalar_fills i32 e = refl
scalar_fills u32 e = refl
scalar_fills f32 e = refl
scalar_fills f16 e = refl
scalar_fills abstract_int e = true_not_false e refl
scalar_fills abstract_float e = true_not_false e refl
scalar_fills i64 e = refl
scalar_fills u64 e = refl
scalar_fills f64 e = refl

min_two_or_four : (a b : ℕ) → TwoOrFour a → TwoOrFour b → TwoOrFour (min a b)
min_two_or_four a b p q =
    ⊎_elim
    (λ (x : a ≡ 2). inl (⊎_elim (λ (y : b ≡ 2). omega arith) (λ (y : b ≡ 4). omega arith) q))
    (λ (x : a ≡ 4). ⊎_elim (λ (y : b ≡ 2). inl (omega arith)) (λ (y : b ≡ 4). inr (omega arith)) q) p

mutual
  unfolding everywhere every_member is_plain narrow_of narrowest

  pub narrow_width : (t : Ty) → everywhere is_plain t ≡ true → TwoOrFour (narrow_of t)
  narrow_width (scalar s) e = stored_two_or_four s e
  narrow_width (vector n s) e = stored_two_or_four s e
  narrow_width (matrix c r s) e = stored_two_or_four s e
  narrow_width (array n t) e = narrow_width t e
  narrow_width (runtime t) e = narrow_width t e
  narrow_width (atomic s) e = stored_two_or_four s e
  narrow_width (struct k ms) e = members_width ms e

  members_width : (ms : Members) → every_member is_plain ms ≡ true → TwoOrFour (narrowest ms)
  members_width no_more e = inr refl
  members_width (member t size align ms) e =
      let b = both_hold (everywhere is_plain t) (every_member is_plain ms) e in
      min_two_or_four (narrow_of t) (narrowest ms) (narrow_width t b.0) (members_width ms b.1)

-- ---- no word is narrower

-- every word of the shape has at least w bytes
unfoldable pub From : ℕ → Shape → Type 0
From w (one s) = w ≤ min 4 (present (width_of s))
From w (parts n stride x) = From w x
From w (field offset x rest) = From w x × From w rest
From w (whole z) = Unit {0}

from_less : (x : Shape) (w v : ℕ) → v ≤ w → From w x → From v x
unfolding From
from_less (one s) w v h f = omega arith
from_less (parts n stride x) w v h f = from_less x w v h f
from_less (field offset x rest) w v h f = (from_less x w v h f.0, from_less rest w v h f.1)
from_less (whole z) w v h f = tt

stored_from : (s : Scalar) → is_stored s ≡ true → stored_width s ≤ min 4 (present (width_of s))
stored_from s e = omega (arith, stored_width_lem s e)

mutual
  unfolding everywhere every_member is_plain narrow_of narrowest shape_of column fields_of From

  pub shape_from : (n : ℕ) (t : Ty) → everywhere is_plain t ≡ true → From (narrow_of t) (shape_of n t)
  shape_from n (scalar s) e = stored_from s e
  shape_from n (vector k s) e = stored_from s e
  shape_from n (matrix c r s) e = stored_from s e
  shape_from n (array k t) e = shape_from n t e
  shape_from n (runtime t) e = shape_from n t e
  shape_from n (atomic s) e = stored_from s e
  shape_from n (struct k ms) e = fields_from n _ (some 0) ms e

  fields_from : (n z : ℕ) (end : Option ℕ) (ms : Members) → every_member is_plain ms ≡ true → From (narrowest ms) (fields_of n z end ms)
  fields_from n z end no_more e = tt
  fields_from n z end (member t size align ms) e =
      let b = both_hold (everywhere is_plain t) (every_member is_plain ms) e in (
        from_less (shape_of n t) (narrow_of t) (min (narrow_of t) (narrowest ms)) (omega arith) (shape_from n t b.0),
        from_less (fields_of n z (member_end end align (align_of t) size (size_of t)) ms) (narrowest ms) (min (narrow_of t) (narrowest ms)) (omega arith)
            (fields_from n z (member_end end align (align_of t) size (size_of t)) ms b.1),
      )

-- every place has at least w bytes
unfoldable pub AllFrom : ℕ → List Place → Type 0
AllFrom w [] = Unit {0}
AllFrom w (p ∷ ps) = (w ≤ p.width) × AllFrom w ps

all_append : (w : ℕ) (ps qs : List Place) → AllFrom w ps → AllFrom w qs → AllFrom w (ps ++ qs)
unfolding AllFrom
all_append w [] qs a b = b
all_append w (p ∷ ps) qs a b = (a.0, all_append w ps qs a.1 b)

all_repeated : (w n stride : ℕ) (f : ℕ → List Place) (at : ℕ) → ((p : ℕ) → AllFrom w (f p)) → AllFrom w (repeated n stride f at)
unfolding repeated AllFrom
all_repeated w zero stride f at h = tt
all_repeated w (suc n) stride f at h = all_append w (f at) _ (h at) (all_repeated w n stride f (at + stride) h)

scalar_from : (w : ℕ) (s : Scalar) (at : ℕ) → w ≤ min 4 (present (width_of s)) → AllFrom w (word_places s at)
unfolding word_places words_for words_over up width_of present AllFrom
scalar_from w bool at h = (h, tt)
scalar_from w i32 at h = (h, tt)
scalar_from w u32 at h = (h, tt)
scalar_from w f32 at h = (h, tt)
scalar_from w f16 at h = (h, tt)
scalar_from w abstract_int at h = tt
scalar_from w abstract_float at h = tt
scalar_from w i64 at h = (h, (h, tt))
scalar_from w u64 at h = (h, (h, tt))
scalar_from w f64 at h = (h, (h, tt))

pub places_from : (w : ℕ) (x : Shape) (at : ℕ) → From w x → AllFrom w (places_of x at)
unfolding places_of From AllFrom
places_from w (one s) at h = scalar_from w s at h
places_from w (parts n stride x) at h = all_repeated w n stride (λ p. places_of x p) at (λ p. places_from w x p h)
places_from w (field offset x rest) at h =
    all_append w (places_of x (at + offset)) (places_of rest at) (places_from w x (at + offset) h.0) (places_from w rest at h.1)
places_from w (whole z) at h = tt

-- No word is wider than four bytes.
wide_append : (ps qs : List Place) → AllWide ps → AllWide qs → AllWide (ps ++ qs)
unfolding AllWide
wide_append [] qs a b = b
wide_append (p ∷ ps) qs a b = (a.0, wide_append ps qs a.1 b)

wide_repeated : (n stride : ℕ) (f : ℕ → List Place) (at : ℕ) → ((p : ℕ) → AllWide (f p)) → AllWide (repeated n stride f at)
unfolding repeated AllWide
wide_repeated zero stride f at h = tt
wide_repeated (suc n) stride f at h = wide_append (f at) _ (h at) (wide_repeated n stride f (at + stride) h)

scalar_wide : (s : Scalar) (at : ℕ) → 4 ≤ min 4 (present (width_of s)) → AllWide (word_places s at)
unfolding word_places words_for words_over up width_of present AllWide
scalar_wide bool at h = (refl, tt)
scalar_wide i32 at h = (refl, tt)
scalar_wide u32 at h = (refl, tt)
scalar_wide f32 at h = (refl, tt)
scalar_wide f16 at h = absurd (omega arith)
scalar_wide abstract_int at h = tt
scalar_wide abstract_float at h = tt
scalar_wide i64 at h = (refl, (refl, tt))
scalar_wide u64 at h = (refl, (refl, tt))
scalar_wide f64 at h = (refl, (refl, tt))

places_wide : (x : Shape) → From 4 x → (at : ℕ) → AllWide (places_of x at)
unfolding places_of From AllWide
places_wide (one s) h at = scalar_wide s at h
places_wide (parts n stride x) h at = wide_repeated n stride (λ p. places_of x p) at (places_wide x h)
places_wide (field offset x rest) h at =
    wide_append (places_of x (at + offset)) (places_of rest at) (places_wide x h.0 (at + offset)) (places_wide rest h.1 at)
places_wide (whole z) h at = tt

-- Where the narrowest word has not two bytes, every word has four.
pub shape_wide : (n : ℕ) (t : Ty) → everywhere is_plain t ≡ true → (narrow_of t ≡ 2 → ⊥) → Wide (shape_of n t)
unfolding Wide
shape_wide n t e h =
    ⊎_elim (λ (q : narrow_of t ≡ 2). absurd (h q))
    (λ (q : narrow_of t ≡ 4). places_wide (shape_of n t) (rw q at (shape_from n t e))) (narrow_width t e)

-- ---- words in order that fill their bytes

ordered_room : (ps : List Place) (lo hi w : ℕ) → Ordered ps lo hi → AllFrom w ps → lo + length ps * w ≤ hi
unfolding Ordered AllFrom
ordered_room [] lo hi w o a = omega arith
ordered_room (p ∷ ps) lo hi w o a =
    omega (arith, o, a.0, ordered_room ps (p.at + p.width) hi w o.1 a.1, suc-mul (length ps) w)

place_then : (p : Place) (ps qs : List Place) (at width : ℕ) → p.at ≡ at → p.width ≡ width → ps ≡ qs → p ∷ ps ≡ record { at = at; width = width } ∷ qs
place_then p ps qs at width a w e = rw (← a, ← w, e)

-- Places in order, each of at least w bytes, in no more bytes than that, lie one after the other.
pub ordered_run : (ps : List Place) (lo hi w : ℕ) → Ordered ps lo hi → AllFrom w ps → hi ≤ lo + length ps * w → ps ≡ run_places (length ps) w lo
unfolding Ordered AllFrom run_places repeated
ordered_run [] lo hi w o a h = refl
ordered_run (p ∷ ps) lo hi w o a h =
    let room = ordered_room ps (p.at + p.width) hi w o.1 a.1 in
    let more = suc-mul (length ps) w in
    let here : p.at ≡ lo = omega (arith, o, a.0) in
    let wide : p.width ≡ w = omega (arith, o, a.0) in
    let end : p.at + p.width ≡ lo + w = omega arith in
    let rest = ordered_run ps (p.at + p.width) hi w o.1 a.1 (omega arith) in
    place_then p ps (run_places (length ps) w (lo + w)) lo w here wide (rest ∙ ap (λ (i : ℕ). run_places (length ps) w i) end)

-- The words of a stored scalar lie one after the other.
pub scalar_run : (s : Scalar) (at : ℕ) → is_stored s ≡ true → word_places s at ≡ run_places (scalar_words s) (stored_width s) at
scalar_run s at e =
    let count = scalar_length s at in
    ordered_run (word_places s at) at _ (stored_width s) (scalar_ordered s at) (scalar_from (stored_width s) s at (stored_from s e))
    (rw count (omega (arith, scalar_fills s e)))
    ∙ ap (λ (n : ℕ). run_places n (stored_width s) at) count
