-- Scalars of 64 bits (02, E6).
--
-- In order: a set of their words, by the number that these are; their ranks; no bit fields.
-- Assumes nothing.
use Prim.Native.Nat.{ℕ, ◌≤◌}
use mathlib.Core.Bool.{Bool, true, false}
use mathlib.Core.List.{List}
use mathlib.Core.Option.{none, some}
use mathlib.Core.Path.{◌≡◌, refl, ap, sym, ◌∙◌}
use native.Mathlib.Omega.{arith}
use borrow.Author.Tests.{eqb-true}
use lib.Dec.{eqb}
use lib.ListN.{length}
use Rattle.wgsl.specs.Number.{load}
use Rattle.wgsl.specs.Types.{Scalar, bool, i32, u32, f32, f16, abstract_int, abstract_float, i64, u64, f64, scalar_kind}
use Rattle.wgsl.specs.Size.{present, width_of}
use Rattle.wgsl.specs.Said.{refused, ◌>>=◌, ◌>>◌, refuse, or_refuse}
use Rattle.wgsl.specs.Place.{one, word_places, word_count, words_read}
use Rattle.wgsl.specs.Path.{Target}
use Rattle.wgsl.specs.Call.{scalar_at}
use Rattle.wgsl.specs.BitFieldCall.{is_integer, integer_of}
use Rattle.wgsl.specs.Rank.{from_abstract_int, from_abstract_float, if_same, scalar_rank}
use Rattle.wgsl.specs.Claim.{Holds, together}
use Rattle.wgsl.specs.Demand.{Given, Leading, SetThenRead}
use Rattle.wgsl.proofs.Absent.{some_not_none}
use Rattle.wgsl.proofs.BitFieldCall.{integer_width}
use Rattle.wgsl.proofs.ScalarRank.{kind_same}
use Rattle.wgsl.proofs.ScalarWords.{scalar_length, words_low_first}
use Rattle.wgsl.proofs.Shape.{scalar_ordered}
use Rattle.wgsl.proofs.Word.{words_read_store_words}
use Rattle.wgsl.proofs.Demand.{scalar_inside, set_stores}

-- ---- a set of words

-- The scalar then holds the number that the words are together.
pub set_number : {f : List ℕ} {e : ℕ} {b path : List ℕ} {a : ℕ} {s : Scalar} (g : Given f e b) → Leading f e b path a s → (new : List ℕ) (h : Holds (present (width_of s)) a new) (ws : List ℕ) (room : word_count 0 g.type ≤ length ws) → (x : SetThenRead g path a s new ws) → load (present (width_of s)) x.b' a ≡ together new
unfolding word_places
set_number {b = b} {a = a} {s = s} g l new h ws room x =
    let inside = (scalar_inside g l).0 in
    words_low_first s x.b' a
    ∙ ap together
    (ap (words_read (word_places s a)) (set_stores g l new h x.set_is)
    ∙ words_read_store_words (word_places s a) new b a _ (scalar_ordered s a) (omega (arith, inside, g.room)) (h.count ∙ sym (scalar_length s a)) h.words_fit)

-- ---- ranks

same_only : (k : ℕ) (t : Scalar) (r : ℕ) → if_same (eqb k (scalar_kind t)) ≡ some r → k ≡ scalar_kind t
unfolding if_same
same_only k t r e = go (eqb k (scalar_kind t)) refl e
  where
    go : (b : Bool) → eqb k (scalar_kind t) ≡ b → if_same b ≡ some r → k ≡ scalar_kind t
    go true q e = eqb-true _ _ q
    go false q e = some_not_none e refl

-- A 64-bit scalar converts to none but itself,
pub wide_to_itself : (s t : Scalar) (r : ℕ) → present (width_of s) ≡ 8 → scalar_rank s t ≡ some r → s ≡ t
unfolding width_of present scalar_rank
wide_to_itself bool t r h e = absurd (omega arith)
wide_to_itself i32 t r h e = absurd (omega arith)
wide_to_itself u32 t r h e = absurd (omega arith)
wide_to_itself f32 t r h e = absurd (omega arith)
wide_to_itself f16 t r h e = absurd (omega arith)
wide_to_itself abstract_int t r h e = absurd (omega arith)
wide_to_itself abstract_float t r h e = absurd (omega arith)
wide_to_itself i64 t r h e = kind_same (same_only _ t r e)
wide_to_itself u64 t r h e = kind_same (same_only _ t r e)
wide_to_itself f64 t r h e = kind_same (same_only _ t r e)

-- and none converts to it: the abstract ones neither.
not_abstract : (t : Scalar) → present (width_of t) ≡ 8 → (from_abstract_int t ≡ none) × (from_abstract_float t ≡ none)
unfolding width_of present from_abstract_int from_abstract_float
not_abstract bool h = absurd (omega arith)
not_abstract i32 h = absurd (omega arith)
not_abstract u32 h = absurd (omega arith)
not_abstract f32 h = absurd (omega arith)
not_abstract f16 h = absurd (omega arith)
not_abstract abstract_int h = absurd (omega arith)
not_abstract abstract_float h = absurd (omega arith)
not_abstract i64 h = (refl, refl)
not_abstract u64 h = (refl, refl)
not_abstract f64 h = (refl, refl)

pub none_to_wide : (s t : Scalar) (r : ℕ) → present (width_of t) ≡ 8 → scalar_rank s t ≡ some r → s ≡ t
unfolding scalar_rank
none_to_wide bool t r h e = kind_same (same_only _ t r e)
none_to_wide i32 t r h e = kind_same (same_only _ t r e)
none_to_wide u32 t r h e = kind_same (same_only _ t r e)
none_to_wide f32 t r h e = kind_same (same_only _ t r e)
none_to_wide f16 t r h e = kind_same (same_only _ t r e)
none_to_wide abstract_int t r h e = some_not_none e (not_abstract t h).0
none_to_wide abstract_float t r h e = some_not_none e (not_abstract t h).1
none_to_wide i64 t r h e = kind_same (same_only _ t r e)
none_to_wide u64 t r h e = kind_same (same_only _ t r e)
none_to_wide f64 t r h e = kind_same (same_only _ t r e)

-- ---- no bit fields

no_integer : (s : Scalar) → present (width_of s) ≡ 8 → is_integer s ≡ false
no_integer s h = go (is_integer s) refl
  where
    go : (b : Bool) → is_integer s ≡ b → b ≡ false
    go true q = absurd (omega (arith, integer_width s q))
    go false q = refl

-- "one i32 or u32": a 64-bit scalar is none of them, and is refused by 14.
pub no_wide_field : (u : Target) (s : Scalar) → u.shape ≡ one s → present (width_of s) ≡ 8 → integer_of u ≡ refused 14 0
unfolding integer_of scalar_at or_refuse ◌>>=◌ ◌>>◌ refuse
no_wide_field u s is h = rw (is, no_integer s h)
