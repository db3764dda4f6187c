-- Shapes that are laid out as they should be (specs/Place), and where their places lie.
--
-- In order: multiples; lists of places in order (`Ordered`); the places of a sound shape are in order, inside.
-- Assumes nothing.
use Prim.Native.Nat.{ℕ, zero, suc, ◌+◌, ◌-◌, ◌*◌, ◌/◌, ◌%◌, ◌<◌, ◌≤◌, min}
use mathlib.Core.List.{List, [], ◌∷◌, ◌++◌}
use mathlib.Core.Path.{◌≡◌}
use native.Mathlib.Omega.{arith}
use native.Mathlib.Nat.{suc-mul, mul_assoc, mul-mod_left, div-add-mod'}
use Rattle.wgsl.specs.Size.{present, width_of}
use Rattle.wgsl.specs.Types.{Scalar}
use Rattle.wgsl.specs.Place.{Shape, one, parts, field, whole, span_of, Place, words_over, word_places, repeated, places_of}
use Rattle.wgsl.specs.Claim.{Ordered}
use Rattle.wgsl.specs.Shapes.{Divides, From, Sound}
use Rattle.wgsl.proofs.ScalarWords.{words_needed}

-- a multiple of a multiple is a multiple
pub multiple_trans : (w a m : ℕ) → a % w ≡ 0 → m % a ≡ 0 → m % w ≡ 0
multiple_trans w a m h k =
    let e : a / w * w ≡ a = omega (arith, div-add-mod' a w) in
    let f : m / a * a ≡ m = omega (arith, div-add-mod' m a) in
    let g : m / a * (a / w) * w ≡ m = rw (mul_assoc (m / a) (a / w) w, e) f in
    rw g at (mul-mod_left (m / a * (a / w)) w)

-- What suits a number suits its multiples.
pub divides_multiple : (x : Shape) (a m : ℕ) → Divides x a → m % a ≡ 0 → Divides x m
unfolding Divides
divides_multiple (one s) a m d h = multiple_trans (present (width_of s)) a m d h
divides_multiple (parts n stride x) a m d h = divides_multiple x a m d h
divides_multiple (field offset x rest) a m d h = (divides_multiple x a m d.0 h, divides_multiple rest a m d.1 h)
divides_multiple (whole z) a m d h = tt

-- What begins at lo or later begins at anything lower or later.
pub from_low : (x : Shape) (lo' lo : ℕ) → lo' ≤ lo → From x lo → From x lo'
unfolding From
from_low (one s) lo' lo h f = f
from_low (parts n stride x) lo' lo h f = f
from_low (field offset x rest) lo' lo h f = omega arith
from_low (whole z) lo' lo h f = omega arith

pub ordered_low : (ps : List Place) (lo' lo hi : ℕ) → lo' ≤ lo → Ordered ps lo hi → Ordered ps lo' hi
unfolding Ordered
ordered_low [] lo' lo hi h o = omega arith
ordered_low (p ∷ ps) lo' lo hi h o = (omega (arith, o.0), o.1)

pub ordered_high : (ps : List Place) (lo hi hi' : ℕ) → hi ≤ hi' → Ordered ps lo hi → Ordered ps lo hi'
unfolding Ordered
ordered_high [] lo hi hi' h o = omega arith
ordered_high (p ∷ ps) lo hi hi' h o = (o.0, ordered_high ps (p.at + p.width) hi hi' h o.1)

pub ordered_append : (ps qs : List Place) (lo mid hi : ℕ) → Ordered ps lo mid → Ordered qs mid hi → Ordered (ps ++ qs) lo hi
unfolding Ordered
ordered_append [] qs lo mid hi o u = ordered_low qs lo mid hi o u
ordered_append (p ∷ ps) qs lo mid hi o u = (o.0, ordered_append ps qs (p.at + p.width) mid hi o.1 u)

pub ordered_span : (ps : List Place) (lo hi : ℕ) → Ordered ps lo hi → lo ≤ hi
unfolding Ordered
ordered_span [] lo hi o = o
ordered_span (p ∷ ps) lo hi o = omega (arith, o.0, ordered_span ps (p.at + p.width) hi o.1)

over_ordered : (n bytes at : ℕ) → 4 * n < bytes + 4 → Ordered (words_over n bytes at) at (at + bytes)
unfolding words_over Ordered
over_ordered zero bytes at h = omega arith
over_ordered (suc zero) bytes at h = (omega arith, omega arith)
over_ordered (suc (suc n)) bytes at h =
    let rest = over_ordered (suc n) (bytes - 4) (at + 4) (omega arith) in
    let ps = words_over (suc n) (bytes - 4) (at + 4) in
    (omega arith, ordered_high ps _ _ (at + bytes) (omega arith) (ordered_low ps (at + min 4 bytes) (at + 4) _ (omega arith) rest))

-- The words of a scalar lie one after the other, inside it.
pub scalar_ordered : (s : Scalar) (at : ℕ) → Ordered (word_places s at) at (at + present (width_of s))
unfolding word_places
scalar_ordered s at = over_ordered _ _ at (words_needed _)

repeated_ordered : (n stride z : ℕ) (f : ℕ → List Place) (at : ℕ) → ((p : ℕ) → Ordered (f p) p (p + z)) → z ≤ stride → Ordered (repeated n stride f at) at (at + n * stride)
unfolding repeated Ordered
repeated_ordered zero stride z f at h l = omega arith
repeated_ordered (suc n) stride z f at h l =
    ordered_append (f at) (repeated n stride f (at + stride)) at (at + stride) (at + suc n * stride)
    (ordered_high (f at) at (at + z) (at + stride) (omega arith) (h at))
    (ordered_high (repeated n stride f (at + stride)) (at + stride) (at + stride + n * stride) (at + suc n * stride)
    (omega (arith, suc-mul n stride)) (repeated_ordered n stride z f (at + stride) h l))

field_ordered : (at offset : ℕ) (x rest : Shape) → Ordered (places_of x (at + offset)) (at + offset) (at + offset + span_of x) → Ordered (places_of rest at) (at + (offset + span_of x)) (at + span_of rest) → Ordered (places_of (field offset x rest) at) (at + offset) (at + span_of rest)
unfolding places_of
field_ordered at offset x rest o u =
    ordered_append (places_of x (at + offset)) (places_of rest at) (at + offset) (at + offset + span_of x) (at + span_of rest) o
    (ordered_low (places_of rest at) (at + offset + span_of x) (at + (offset + span_of x)) (at + span_of rest) (omega arith) u)

-- The places of a sound shape are in rising order, share no byte and lie inside it; those of the members that are left of a struct lie
-- past the members before.
mutual
  unfolding Sound From places_of span_of Ordered

  pub places_ordered : (x : Shape) (at : ℕ) → Sound x → Ordered (places_of x at) at (at + span_of x)
  places_ordered (one s) at sound = scalar_ordered s at
  places_ordered (parts n stride x) at sound =
      repeated_ordered n stride (span_of x) (λ p. places_of x p) at (λ p. places_ordered x p sound.0) sound.1
  places_ordered (field offset x rest) at sound =
      ordered_low (places_of (field offset x rest) at) at (at + offset) (at + span_of rest) (omega arith)
      (field_ordered at offset x rest (places_ordered x (at + offset) sound.0)
      (rest_ordered rest at (offset + span_of x) sound.1 sound.2))
  places_ordered (whole z) at sound = omega arith

  pub rest_ordered : (x : Shape) (at lo : ℕ) → Sound x → From x lo → Ordered (places_of x at) (at + lo) (at + span_of x)
  rest_ordered (one s) at lo sound from = absurd from
  rest_ordered (parts n stride x) at lo sound from = absurd from
  rest_ordered (field offset x rest) at lo sound from =
      ordered_low (places_of (field offset x rest) at) (at + lo) (at + offset) (at + span_of rest) (omega arith)
      (field_ordered at offset x rest (places_ordered x (at + offset) sound.0)
      (rest_ordered rest at (offset + span_of x) sound.1 sound.2))
  rest_ordered (whole z) at lo sound from = omega arith
