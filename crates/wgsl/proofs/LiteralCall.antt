-- The call that converts a literal (02, E14; specs/Literal, `convert_call`).
--
-- In order: the kinds of a call that is good; ranks; the same kind; a float; an integer; how many bits the answer has; refusals.
-- Assumes nothing.
use Prim.Native.Nat.{ℕ, ◌+◌, ◌-◌, ◌%◌, ◌^◌, ◌<◌, ◌≤◌}
use mathlib.Core.Bool.{Bool, true, false, cond, not, ◌&&◌, and-eq-true_iff}
use mathlib.Core.Logic.{⊎_elim}
use mathlib.Core.Option.{some, some-injective}
use mathlib.Core.Path.{◌≡◌, refl, ap, sym, ◌∙◌}
use native.Mathlib.Nat.{mod-lt, mod-eq_of_lt}
use native.Mathlib.Omega.{arith}
use borrow.Author.Tests.{eqb-true, ltb-true, leb-true, lt-ltb, le-ltb, le-leb}
use lib.Dec.{eqb, leb, ltb}
use lib.Pow.{pow_pos}
use Rattle.wgsl.specs.Types.{Scalar, bool, i32, u32, f32, f16, abstract_int, abstract_float, i64, u64, f64, scalar_kind}
use Rattle.wgsl.specs.Said.{good, refused, or_refuse, ◌>>=◌}
use Rattle.wgsl.specs.Rule.{when, scalar_of_kind}
use Rattle.wgsl.specs.Rank.{scalar_rank}
use Rattle.wgsl.specs.Literal.{Format, half, single, double, sign_of, Literal, Whole, whole_of, in_i32, in_u32, from_int, from_float, if_same, converted, pattern_bits, convert_call}
use Rattle.wgsl.specs.LiteralClaim.{IsFloat, literal_in, format_of, widened}
use Rattle.wgsl.proofs.Absent.{true_not_false, some_not_none}
use Rattle.wgsl.proofs.Said.{then_good, then_cases, or_refuse_good, or_refuse_refused, when_some}
use Rattle.wgsl.proofs.Bit.{lt_or_le}
use Rattle.wgsl.proofs.ScalarRank.{kind_same}
use Rattle.wgsl.proofs.Literal.{converts_ranked, ranked_converts, converted_float}

-- ---- the kinds of a call that is good

-- the pattern that is converted
abbrev pub cut : Scalar → ℕ → ℕ
cut s bits = bits % 2 ^ pattern_bits s

pub record Converting (a b c p : ℕ) : Type 0 where
  pub from : Scalar
  pub to : Scalar
  pub from_is : scalar_of_kind a ≡ some from
  pub to_is : scalar_of_kind c ≡ some to
  pub is : converted from to (cut from b) ≡ some p

pub converting : (a b c p : ℕ) → convert_call a b c ≡ good p → Converting a b c p
unfolding convert_call
converting a b c p h =
    let x = then_good (or_refuse 25 0 (scalar_of_kind a)) _ h in
    let y = then_good (or_refuse 25 0 (scalar_of_kind c)) _ x.after in
    record {
      from = x.value;
      to = y.value;
      from_is = or_refuse_good 25 0 _ x.first;
      to_is = or_refuse_good 25 0 _ y.first;
      is = or_refuse_good 25 0 _ y.after;
    }

pub converts_so : (a b c : ℕ) {s t : Scalar} {p : ℕ} → scalar_of_kind a ≡ some s → scalar_of_kind c ≡ some t → converted s t (cut s b) ≡ some p → convert_call a b c ≡ good p
unfolding convert_call or_refuse ◌>>=◌
converts_so a b c e f h = rw (e, f, h) refl

-- the same by scalars that are known
known : (a b c : ℕ) {s t : Scalar} {p : ℕ} → scalar_of_kind a ≡ some s → scalar_of_kind c ≡ some t → convert_call a b c ≡ good p → converted s t (cut s b) ≡ some p
known a b c {s} {t} {p} e f h =
    let x = converting a b c p h in
    let from : x.from ≡ s = some-injective _ _ (sym x.from_is ∙ e) in
    let to : x.to ≡ t = some-injective _ _ (sym x.to_is ∙ f) in
    rw (from, to) at x.is

-- ---- ranks

pub convert_ranked : (a b c : ℕ) {s t : Scalar} {p : ℕ} → scalar_of_kind a ≡ some s → scalar_of_kind c ≡ some t → convert_call a b c ≡ good p → (r : ℕ) × (scalar_rank s t ≡ some r)
convert_ranked a b c {s} {t} e f h = converts_ranked s t (cut s b) (known a b c e f h)

pub ranked_convert : (a c : ℕ) {s t : Scalar} {r : ℕ} → scalar_of_kind a ≡ some s → scalar_of_kind c ≡ some t → scalar_rank s t ≡ some r → (p : ℕ) × (convert_call a 0 c ≡ good p)
ranked_convert a c {s} {t} e f h =
    let (p, is) = ranked_converts s t h in
    let zero : 0 % 2 ^ pattern_bits s ≡ 0 = mod-eq_of_lt {n = 0} {m = 2 ^ pattern_bits s} (pow_pos _) in
    (p, converts_so a 0 c e f (ap (converted s t) zero ∙ is))

-- ---- the same kind

same_stays : (s : Scalar) (b : ℕ) → converted s s b ≡ some b
unfolding converted if_same when from_int from_float scalar_kind
same_stays bool b = refl
same_stays i32 b = refl
same_stays u32 b = refl
same_stays f32 b = refl
same_stays f16 b = refl
same_stays abstract_int b = refl
same_stays abstract_float b = refl
same_stays i64 b = refl
same_stays u64 b = refl
same_stays f64 b = refl

pub convert_same : (a b : ℕ) {s : Scalar} → scalar_of_kind a ≡ some s → convert_call a b a ≡ good (b % 2 ^ pattern_bits s)
convert_same a b {s} e = converts_so a b a e e (same_stays s (cut s b))

-- ---- a float

pub convert_float : (a b c : ℕ) {s t : Scalar} (f : Format) {p : ℕ} → scalar_of_kind a ≡ some s → scalar_of_kind c ≡ some t → (scalar_kind s ≡ scalar_kind t → ⊥) → format_of t ≡ some f → convert_call a b c ≡ good p → (l : Literal) × (literal_in s (b % 2 ^ pattern_bits s) ≡ some l) × IsFloat f l p
convert_float a b c {s} {t} f e g other format h = converted_float s t (cut s b) f other format (known a b c e g h)

-- ---- an integer

i32_widened : (b p : ℕ) → b < 2 ^ 64 → in_i32 (whole_of b) ≡ some p → b ≡ widened p
unfolding in_i32 whole_of widened
i32_widened b p small h = go (ltb b (2 ^ 63)) refl h
  where
    go : (x : Bool) → ltb b (2 ^ 63) ≡ x → (let n : Whole = cond x (record { negative = false; number = b }) (record { negative = true; number = 2 ^ 64 - b }) in cond n.negative (when (leb n.number (2 ^ 31)) (some (2 ^ 32 - n.number))) (when (ltb n.number (2 ^ 31)) (some n.number))) ≡ some p → b ≡ cond (ltb p (2 ^ 31)) p (p + (2 ^ 64 - 2 ^ 32))
    go true e h =
        let x = when_some _ _ h in
        let is : b ≡ p = some-injective _ _ x.1 in
        let low = ltb-true b (2 ^ 31) x.0 in
        rw (lt-ltb p (2 ^ 31) (omega arith)) is
    go false e h =
        let x = when_some _ _ h in
        let is : 2 ^ 32 - (2 ^ 64 - b) ≡ p = some-injective _ _ x.1 in
        let near = leb-true (2 ^ 64 - b) (2 ^ 31) x.0 in
        rw (le-ltb p (2 ^ 31) (omega arith)) (omega arith)

u32_is : (b p : ℕ) → in_u32 (whole_of b) ≡ some p → b ≡ p
unfolding in_u32 whole_of
u32_is b p h = go (ltb b (2 ^ 63)) h
  where
    go : (x : Bool) → (let n : Whole = cond x (record { negative = false; number = b }) (record { negative = true; number = 2 ^ 64 - b }) in when (not n.negative && ltb n.number (2 ^ 32)) (some n.number)) ≡ some p → b ≡ p
    go true h = some-injective _ _ (when_some _ _ h).1
    go false h = true_not_false {b = false} (when_some _ _ h).0 refl

-- an abstract int that is converted to an i32, or to a u32, is the same number,
pub convert_i32 : (b p : ℕ) → b < 2 ^ 64 → convert_call 5 b 1 ≡ good p → b ≡ widened p
unfolding converted from_int pattern_bits scalar_of_kind
convert_i32 b p small h =
    i32_widened b p small (ap (λ x. in_i32 (whole_of x)) (sym (mod-eq_of_lt {n = b} {m = 2 ^ 64} small)) ∙ known 5 b 1 {s = abstract_int} {t = i32} refl refl h)

pub convert_u32 : (b p : ℕ) → b < 2 ^ 64 → convert_call 5 b 2 ≡ good p → b ≡ p
unfolding converted from_int pattern_bits scalar_of_kind
convert_u32 b p small h =
    u32_is b p (ap (λ x. in_u32 (whole_of x)) (sym (mod-eq_of_lt {n = b} {m = 2 ^ 64} small)) ∙ known 5 b 2 {s = abstract_int} {t = u32} refl refl h)

-- and every i32, and every u32, is had so.
i32_had : (p : ℕ) → p < 2 ^ 32 → in_i32 (whole_of (widened p)) ≡ some p
unfolding in_i32 whole_of widened when
i32_had p small =
    ⊎_elim (λ (l : p < 2 ^ 31). rw (lt-ltb p (2 ^ 31) l, lt-ltb p (2 ^ 63) (omega arith), lt-ltb p (2 ^ 31) l) refl)
    (λ (l : 2 ^ 31 ≤ p).
    let number : 2 ^ 64 - (p + (2 ^ 64 - 2 ^ 32)) ≡ 2 ^ 32 - p = omega arith in
    let back : 2 ^ 32 - (2 ^ 32 - p) ≡ p = omega arith in
    rw (le-ltb p (2 ^ 31) l, le-ltb (p + (2 ^ 64 - 2 ^ 32)) (2 ^ 63) (omega arith), number, le-leb (2 ^ 32 - p) (2 ^ 31) (omega arith)) (ap some back))
    (lt_or_le p (2 ^ 31))

u32_had : (p : ℕ) → p < 2 ^ 32 → in_u32 (whole_of p) ≡ some p
unfolding in_u32 whole_of when
u32_had p small = rw (lt-ltb p (2 ^ 63) (omega arith), lt-ltb p (2 ^ 32) small) refl

widened_small : (p : ℕ) → p < 2 ^ 32 → widened p < 2 ^ 64
unfolding widened
widened_small p small =
    ⊎_elim (λ (l : p < 2 ^ 31). rw (lt-ltb p (2 ^ 31) l) (omega arith)) (λ (l : 2 ^ 31 ≤ p). rw (le-ltb p (2 ^ 31) l) (omega arith)) (lt_or_le p (2 ^ 31))

pub convert_i32_if : (p : ℕ) → p < 2 ^ 32 → convert_call 5 (widened p) 1 ≡ good p
unfolding converted from_int pattern_bits scalar_of_kind
convert_i32_if p small =
    converts_so 5 (widened p) 1 {s = abstract_int} {t = i32} refl refl
    (ap (λ x. in_i32 (whole_of x)) (mod-eq_of_lt {n = widened p} {m = 2 ^ 64} (widened_small p small)) ∙ i32_had p small)

pub convert_u32_if : (p : ℕ) → p < 2 ^ 32 → convert_call 5 p 2 ≡ good p
unfolding converted from_int pattern_bits scalar_of_kind
convert_u32_if p small =
    converts_so 5 p 2 {s = abstract_int} {t = u32} refl refl
    (ap (λ x. in_u32 (whole_of x)) (mod-eq_of_lt {n = p} {m = 2 ^ 64} (omega arith)) ∙ u32_had p small)

-- ---- how many bits the answer has

i32_bits : (b p : ℕ) → b < 2 ^ 64 → in_i32 (whole_of b) ≡ some p → p < 2 ^ 32
unfolding in_i32 whole_of
i32_bits b p small h = go (ltb b (2 ^ 63)) h
  where
    go : (x : Bool) → (let n : Whole = cond x (record { negative = false; number = b }) (record { negative = true; number = 2 ^ 64 - b }) in cond n.negative (when (leb n.number (2 ^ 31)) (some (2 ^ 32 - n.number))) (when (ltb n.number (2 ^ 31)) (some n.number))) ≡ some p → p < 2 ^ 32
    go true h = let x = when_some _ _ h in omega (arith, ltb-true b (2 ^ 31) x.0, some-injective _ _ x.1)
    go false h = let x = when_some _ _ h in omega (arith, some-injective _ _ x.1, small)

u32_bits : (b p : ℕ) → in_u32 (whole_of b) ≡ some p → p < 2 ^ 32
unfolding in_u32
u32_bits b p h =
    let x = when_some _ _ h in
    let both = (and-eq-true_iff (not (whole_of b).negative) (ltb (whole_of b).number (2 ^ 32))).0 x.0 in
    omega (arith, ltb-true (whole_of b).number (2 ^ 32) both.1, some-injective _ _ x.1)

same_bits : (s t : Scalar) (b : ℕ) {p : ℕ} → b < 2 ^ pattern_bits s → if_same s t b ≡ some p → p < 2 ^ pattern_bits t
unfolding if_same
same_bits s t b {p} small h =
    let x = when_some (eqb (scalar_kind s) (scalar_kind t)) _ h in
    let same : s ≡ t = kind_same (eqb-true (scalar_kind s) (scalar_kind t) x.0) in
    let is : b ≡ p = some-injective b p x.1 in
    rw (← same, ← is) small

float_bits_lem : (s t : Scalar) (b : ℕ) (f : Format) {p : ℕ} → (scalar_kind s ≡ scalar_kind t → ⊥) → format_of t ≡ some f → converted s t b ≡ some p → p < sign_of f + sign_of f
float_bits_lem s t b f other format h = (converted_float s t b f other format h).2.fits

pub converted_bits : (s t : Scalar) (b : ℕ) {p : ℕ} → b < 2 ^ pattern_bits s → converted s t b ≡ some p → p < 2 ^ pattern_bits t
unfolding converted pattern_bits sign_of format_of from_int from_float scalar_kind
converted_bits bool t b small h = same_bits bool t b small h
converted_bits i32 t b small h = same_bits i32 t b small h
converted_bits u32 t b small h = same_bits u32 t b small h
converted_bits f32 t b small h = same_bits f32 t b small h
converted_bits f16 t b small h = same_bits f16 t b small h
converted_bits i64 t b small h = same_bits i64 t b small h
converted_bits u64 t b small h = same_bits u64 t b small h
converted_bits f64 t b small h = same_bits f64 t b small h
converted_bits abstract_int bool b small h = some_not_none h refl
converted_bits abstract_int i32 b {p} small h = i32_bits b p small h
converted_bits abstract_int u32 b {p} small h = u32_bits b p h
converted_bits abstract_int f32 b small h = float_bits_lem abstract_int f32 b single (λ e. omega (arith, e)) refl h
converted_bits abstract_int f16 b small h = float_bits_lem abstract_int f16 b half (λ e. omega (arith, e)) refl h
converted_bits abstract_int abstract_int b small h = rw (← some-injective _ _ h) small
converted_bits abstract_int abstract_float b small h = float_bits_lem abstract_int abstract_float b double (λ e. omega (arith, e)) refl h
converted_bits abstract_int i64 b small h = some_not_none h refl
converted_bits abstract_int u64 b small h = some_not_none h refl
converted_bits abstract_int f64 b small h = some_not_none h refl
converted_bits abstract_float bool b small h = some_not_none h refl
converted_bits abstract_float i32 b small h = some_not_none h refl
converted_bits abstract_float u32 b small h = some_not_none h refl
converted_bits abstract_float f32 b small h = float_bits_lem abstract_float f32 b single (λ e. omega (arith, e)) refl h
converted_bits abstract_float f16 b small h = float_bits_lem abstract_float f16 b half (λ e. omega (arith, e)) refl h
converted_bits abstract_float abstract_int b small h = some_not_none h refl
converted_bits abstract_float abstract_float b small h = rw (← some-injective _ _ h) small
converted_bits abstract_float i64 b small h = some_not_none h refl
converted_bits abstract_float u64 b small h = some_not_none h refl
converted_bits abstract_float f64 b small h = some_not_none h refl

pub convert_bits : (a b c : ℕ) {t : Scalar} {p : ℕ} → scalar_of_kind c ≡ some t → convert_call a b c ≡ good p → p < 2 ^ pattern_bits t
convert_bits a b c {t} {p} f h =
    let x = converting a b c p h in
    converted_bits x.from t (cut x.from b) (mod-lt b (pow_pos _)) (known a b c x.from_is f h)

-- ---- refusals

pub convert_refuses : (a b c : ℕ) {number place : ℕ} → convert_call a b c ≡ refused number place → (number ≡ 25) × (place ≡ 0)
unfolding convert_call
convert_refuses a b c h =
    then_cases (or_refuse 25 0 (scalar_of_kind a)) _ h (λ e. ((or_refuse_refused 25 0 _ e).1, (or_refuse_refused 25 0 _ e).2)) (λ x.
    then_cases (or_refuse 25 0 (scalar_of_kind c)) _ x.after (λ e. ((or_refuse_refused 25 0 _ e).1, (or_refuse_refused 25 0 _ e).2)) (λ y.
    ((or_refuse_refused 25 0 _ y.after).1, (or_refuse_refused 25 0 _ y.after).2)))
