-- Conversions of literals (02, E14; specs/Literal, specs/LiteralClaim).
--
-- In order: a float with its sign; what a literal is converted to; every literal has one nearest pattern; ranks; how many bits; refusals.
-- Not here: rounding (`Nearest`).
-- Assumes nothing.
use Prim.Native.Nat.{ℕ, ◌+◌, ◌-◌, ◌*◌, ◌%◌, ◌<◌, ◌≤◌}
use mathlib.Core.Bool.{Bool, true, false, cond}
use mathlib.Core.Option.{Option, some, some-injective}
use mathlib.Core.Path.{◌≡◌, refl, ap, sym, ◌∙◌}
use native.Mathlib.Nat.{mod-eq_of_lt, add-mod_left}
use native.Mathlib.Omega.{arith}
use borrow.Author.Tests.{eqb-true, ltb-true, lt-ltb, le-leb, lt-leb, leb-true, leb-false}
use lib.Dec.{eqb, leb}
use lib.Ieee.{size}
use lib.Pow.{pow_pos}
use Rattle.wgsl.specs.Rule.{when, and_then}
use Rattle.wgsl.specs.Types.{Scalar, bool, i32, u32, f32, f16, abstract_int, abstract_float, i64, u64, f64, scalar_kind}
use Rattle.wgsl.specs.Rank as rank
use Rattle.wgsl.specs.Rank.{from_abstract_int, from_abstract_float, scalar_rank}
use Rattle.wgsl.specs.Literal.{Format, half, single, double, sign_of, infinity, lowest, worth, stepped, rounded_by, rounded, Literal, whole_of, literal_of, float_of, unit_of, in_format, in_i32, in_u32, from_int, from_float, if_same, converted}
use Rattle.wgsl.specs.LiteralClaim.{IsFloat, literal_in, format_of}
use Rattle.wgsl.proofs.Absent.{some_not_none}
use Rattle.wgsl.proofs.Said.{when_some, and_then_some}
use Rattle.wgsl.proofs.Nearest.{rounded_nearest, nearest_unique, exact_unchanged, rounded_keeps}

-- ---- a float with its sign

module _ (s m : ℕ) (low : m < s) where
  signed_low : (b : Bool) → cond b (s + m) m % s ≡ m
  signed_low true = add-mod_left s m ∙ mod-eq_of_lt low
  signed_low false = mod-eq_of_lt low

  signed_sign : (b : Bool) → leb s (cond b (s + m) m) ≡ b
  signed_sign true = le-leb s (s + m) (omega arith)
  signed_sign false = lt-leb s m low

  signed_fits : (b : Bool) → cond b (s + m) m < s + s
  signed_fits true = omega arith
  signed_fits false = omega arith

-- a pattern is told by its rest and its sign
signed_is : (s m p : ℕ) (b : Bool) → p < s + s → p % s ≡ m → leb s p ≡ b → p ≡ cond b (s + m) m
signed_is s m p true fits rest sign =
    let high = leb-true s p sign in
    let e : s + (p - s) ≡ p = omega arith in
    let under : (p - s) % s ≡ p - s = mod-eq_of_lt (omega arith) in
    omega (arith, sym (add-mod_left s (p - s)) ∙ ap (λ x. x % s) e, under, rest, high)
signed_is s m p false fits rest sign = sym (mod-eq_of_lt (leb-false s p sign)) ∙ rest

-- ---- what a literal is converted to

module _ (f : Format) (l : Literal) (digits : 0 < f.digits) where
  unit_positive : 0 < unit_of f
  unfolding unit_of
  unit_positive = pow_pos _

  abbrev pattern : ℕ
  pattern = rounded f.digits (unit_of f) l.worth

  finite_low : {m : ℕ} → m < infinity f → m < sign_of f
  unfolding infinity
  finite_low h = omega (arith, h)

  -- "one statement over the width of the target serves all": the nearest, with the literal's sign,
  pub float_is : {p : ℕ} → in_format f l ≡ some p → IsFloat f l p
  unfolding in_format
  float_is {p} h =
      let x = when_some _ _ h in
      let low = ltb-true pattern (infinity f) x.0 in
      let is : cond l.negative (sign_of f + pattern) pattern ≡ p = some-injective _ _ x.1 in
      record {
        pattern = pattern;
        nearest = rounded_nearest f.digits (unit_of f) l.worth digits unit_positive;
        finite = low;
        low = ap (λ q. q % sign_of f) (sym is) ∙ signed_low (sign_of f) pattern (finite_low low) l.negative;
        sign = ap (leb (sign_of f)) (sym is) ∙ signed_sign (sign_of f) pattern (finite_low low) l.negative;
        fits = rw is at (signed_fits (sign_of f) pattern (finite_low low) l.negative);
      }

  -- and only that.
  pub float_if : {p : ℕ} → IsFloat f l p → in_format f l ≡ some p
  unfolding in_format when
  float_if {p} h =
      let same : h.pattern ≡ pattern = nearest_unique f.digits (unit_of f) l.worth unit_positive h.nearest (rounded_nearest f.digits (unit_of f) l.worth digits unit_positive) in
      let finite : pattern < infinity f = rw same at h.finite in
      let is : p ≡ cond l.negative (sign_of f + pattern) pattern = signed_is (sign_of f) pattern p l.negative h.fits (h.low ∙ same) h.sign in
      rw (lt-ltb pattern (infinity f) finite) (ap some (sym is))

  pub float_one : {p q : ℕ} → IsFloat f l p → IsFloat f l q → p ≡ q
  float_one h k = some-injective _ _ (sym (float_if h) ∙ float_if k)

-- ---- exact values, and the order

pub exact_stays : (f : Format) (m : ℕ) → 0 < f.digits → rounded f.digits (unit_of f) (unit_of f * worth f.digits m) ≡ m
unfolding unit_of
exact_stays f m digits = exact_unchanged f.digits _ m digits (pow_pos _)

pub order_kept : (f : Format) (n n' : ℕ) → 0 < f.digits → n ≤ n' → rounded f.digits (unit_of f) n ≤ rounded f.digits (unit_of f) n'
unfolding unit_of
order_kept f n n' digits = rounded_keeps f.digits _ n n' digits (pow_pos _)

-- ---- ranks

same_rank : (k j b : ℕ) {p : ℕ} → when (eqb k j) (some b) ≡ some p → (r : ℕ) × (rank.if_same (eqb k j) ≡ some r)
unfolding rank.if_same
same_rank k j b h = rw (when_some (eqb k j) _ h).0 (0, refl)

pub converts_ranked : (s t : Scalar) (b : ℕ) {p : ℕ} → converted s t b ≡ some p → (r : ℕ) × (scalar_rank s t ≡ some r)
unfolding converted if_same scalar_rank from_int from_float from_abstract_int from_abstract_float
converts_ranked bool t b h = same_rank (scalar_kind bool) (scalar_kind t) b h
converts_ranked i32 t b h = same_rank (scalar_kind i32) (scalar_kind t) b h
converts_ranked u32 t b h = same_rank (scalar_kind u32) (scalar_kind t) b h
converts_ranked f32 t b h = same_rank (scalar_kind f32) (scalar_kind t) b h
converts_ranked f16 t b h = same_rank (scalar_kind f16) (scalar_kind t) b h
converts_ranked i64 t b h = same_rank (scalar_kind i64) (scalar_kind t) b h
converts_ranked u64 t b h = same_rank (scalar_kind u64) (scalar_kind t) b h
converts_ranked f64 t b h = same_rank (scalar_kind f64) (scalar_kind t) b h
converts_ranked abstract_int bool b h = some_not_none h refl
converts_ranked abstract_int i32 b h = (3, refl)
converts_ranked abstract_int u32 b h = (4, refl)
converts_ranked abstract_int f32 b h = (6, refl)
converts_ranked abstract_int f16 b h = (7, refl)
converts_ranked abstract_int abstract_int b h = (0, refl)
converts_ranked abstract_int abstract_float b h = (5, refl)
converts_ranked abstract_int i64 b h = some_not_none h refl
converts_ranked abstract_int u64 b h = some_not_none h refl
converts_ranked abstract_int f64 b h = some_not_none h refl
converts_ranked abstract_float bool b h = some_not_none h refl
converts_ranked abstract_float i32 b h = some_not_none h refl
converts_ranked abstract_float u32 b h = some_not_none h refl
converts_ranked abstract_float f32 b h = (1, refl)
converts_ranked abstract_float f16 b h = (2, refl)
converts_ranked abstract_float abstract_int b h = some_not_none h refl
converts_ranked abstract_float abstract_float b h = (0, refl)
converts_ranked abstract_float i64 b h = some_not_none h refl
converts_ranked abstract_float u64 b h = some_not_none h refl
converts_ranked abstract_float f64 b h = some_not_none h refl

-- where there is a rank, zero can be had
rank_same : (k j : ℕ) {r : ℕ} → rank.if_same (eqb k j) ≡ some r → (p : ℕ) × (when (eqb k j) (some 0) ≡ some p)
unfolding rank.if_same when
rank_same k j h = go (eqb k j) h
  where
    go : (b : Bool) {r : ℕ} → rank.if_same b ≡ some r → (p : ℕ) × (when b (some 0) ≡ some p)
    go true h = (0, refl)
    go false h = some_not_none h refl

pub ranked_converts : (s t : Scalar) {r : ℕ} → scalar_rank s t ≡ some r → (p : ℕ) × (converted s t 0 ≡ some p)
unfolding converted if_same scalar_rank from_int from_float from_abstract_int from_abstract_float size sign_of infinity lowest worth stepped rounded_by rounded whole_of literal_of float_of unit_of in_format in_i32 in_u32 when and_then
ranked_converts bool t h = rank_same (scalar_kind bool) (scalar_kind t) h
ranked_converts i32 t h = rank_same (scalar_kind i32) (scalar_kind t) h
ranked_converts u32 t h = rank_same (scalar_kind u32) (scalar_kind t) h
ranked_converts f32 t h = rank_same (scalar_kind f32) (scalar_kind t) h
ranked_converts f16 t h = rank_same (scalar_kind f16) (scalar_kind t) h
ranked_converts i64 t h = rank_same (scalar_kind i64) (scalar_kind t) h
ranked_converts u64 t h = rank_same (scalar_kind u64) (scalar_kind t) h
ranked_converts f64 t h = rank_same (scalar_kind f64) (scalar_kind t) h
ranked_converts abstract_int bool h = some_not_none h refl
ranked_converts abstract_int i32 h = (0, refl)
ranked_converts abstract_int u32 h = (0, refl)
ranked_converts abstract_int f32 h = (0, refl)
ranked_converts abstract_int f16 h = (0, refl)
ranked_converts abstract_int abstract_int h = (0, refl)
ranked_converts abstract_int abstract_float h = (0, refl)
ranked_converts abstract_int i64 h = some_not_none h refl
ranked_converts abstract_int u64 h = some_not_none h refl
ranked_converts abstract_int f64 h = some_not_none h refl
ranked_converts abstract_float bool h = some_not_none h refl
ranked_converts abstract_float i32 h = some_not_none h refl
ranked_converts abstract_float u32 h = some_not_none h refl
ranked_converts abstract_float f32 h = (0, refl)
ranked_converts abstract_float f16 h = (0, refl)
ranked_converts abstract_float abstract_int h = some_not_none h refl
ranked_converts abstract_float abstract_float h = (0, refl)
ranked_converts abstract_float i64 h = some_not_none h refl
ranked_converts abstract_float u64 h = some_not_none h refl
ranked_converts abstract_float f64 h = some_not_none h refl

-- ---- to a float

float_made : (f : Format) → 0 < f.digits → (o : Option Literal) {p : ℕ} → and_then o (in_format f) ≡ some p → (l : Literal) × (o ≡ some l) × IsFloat f l p
float_made f digits o h =
    let x = and_then_some o (in_format f) h in
    (x.value, x.first, float_is f x.value digits x.after)

-- A literal that is converted to a float of another kind becomes the nearest with its sign.
pub converted_float : (s t : Scalar) (b : ℕ) (f : Format) {p : ℕ} → (scalar_kind s ≡ scalar_kind t → ⊥) → format_of t ≡ some f → converted s t b ≡ some p → (l : Literal) × (literal_in s b ≡ some l) × IsFloat f l p
unfolding converted if_same when from_int from_float literal_in format_of
converted_float s t b f other is h = go s t other is h
  where
    no : (k j : ℕ) {A : Type 0} {p : ℕ} → (k ≡ j → ⊥) → when (eqb k j) (some b) ≡ some p → A
    no k j other h = absurd (other (eqb-true k j (when_some (eqb k j) _ h).0))

    int : (g : Format) {p : ℕ} → 0 < g.digits → some g ≡ some f → in_format g (literal_of (whole_of b)) ≡ some p → (l : Literal) × (some (literal_of (whole_of b)) ≡ some l) × IsFloat f l p
    int g digits e h = let same = some-injective g f e in rw (← same) (literal_of (whole_of b), refl, float_is g (literal_of (whole_of b)) digits h)

    flt : (g : Format) {p : ℕ} → 0 < g.digits → some g ≡ some f → and_then (float_of b) (in_format g) ≡ some p → (l : Literal) × (float_of b ≡ some l) × IsFloat f l p
    flt g digits e h = let same = some-injective g f e in rw (← same) (float_made g digits (float_of b) h)

    go : (s t : Scalar) {p : ℕ} → (scalar_kind s ≡ scalar_kind t → ⊥) → format_of t ≡ some f → converted s t b ≡ some p → (l : Literal) × (literal_in s b ≡ some l) × IsFloat f l p
    go bool t other e h = no (scalar_kind bool) (scalar_kind t) other h
    go i32 t other e h = no (scalar_kind i32) (scalar_kind t) other h
    go u32 t other e h = no (scalar_kind u32) (scalar_kind t) other h
    go f32 t other e h = no (scalar_kind f32) (scalar_kind t) other h
    go f16 t other e h = no (scalar_kind f16) (scalar_kind t) other h
    go i64 t other e h = no (scalar_kind i64) (scalar_kind t) other h
    go u64 t other e h = no (scalar_kind u64) (scalar_kind t) other h
    go f64 t other e h = no (scalar_kind f64) (scalar_kind t) other h
    go abstract_int bool other e h = some_not_none h refl
    go abstract_int i32 other e h = some_not_none e refl
    go abstract_int u32 other e h = some_not_none e refl
    go abstract_int f32 other e h = int single (omega arith) e h
    go abstract_int f16 other e h = int half (omega arith) e h
    go abstract_int abstract_int other e h = some_not_none e refl
    go abstract_int abstract_float other e h = int double (omega arith) e h
    go abstract_int i64 other e h = some_not_none e refl
    go abstract_int u64 other e h = some_not_none e refl
    go abstract_int f64 other e h = some_not_none e refl
    go abstract_float bool other e h = some_not_none e refl
    go abstract_float i32 other e h = some_not_none e refl
    go abstract_float u32 other e h = some_not_none e refl
    go abstract_float f32 other e h = flt single (omega arith) e h
    go abstract_float f16 other e h = flt half (omega arith) e h
    go abstract_float abstract_int other e h = some_not_none e refl
    go abstract_float abstract_float other e h = absurd (other refl)
    go abstract_float i64 other e h = some_not_none e refl
    go abstract_float u64 other e h = some_not_none e refl
    go abstract_float f64 other e h = some_not_none e refl
