-- The parts of a conversion (crates/wgsl, specs/Literal; specs/Formats).
--
-- In order: kinds by their numbers; a number in a format; an abstract float taken apart; abstract ints; the same kind; the call, by the
-- kind that is converted.
-- Assumes nothing.
use Prim.Native.Nat.{ℕ, ◌+◌, ◌-◌, ◌*◌, ◌/◌, ◌%◌, ◌^◌, ◌<◌, ◌≤◌}
use mathlib.Core.Bool.{Bool, true, false, cond}
use mathlib.Core.Option.{Option, none, some}
use mathlib.Core.Path.{◌≡◌, refl, ap, sym, ◌∙◌}
use mathlib.Core.Logic.{⊎_elim}
use native.Mathlib.Nat.{mul-one, mod-eq_of_lt}
use native.Mathlib.Omega.{arith}
use mir.Syntax.{w64}
use mir.Val.{to_z}
use lib.IntN.{nat_abs}
use borrow.Author.Tests.{ltb-true, lt-ltb, le-ltb, le-leb, lt-leb, eq-eqb, ne_eqb}
use lib.Dec.{leb, ltb}
use Rattle.wgsl.specs.Types.{Scalar, bool, i32, u32, f32, f16, abstract_int, abstract_float, i64, u64, f64, scalar_kind, is_scalar_kind}
use Rattle.wgsl.specs.Said.{good, refused, or_refuse, ◌>>=◌}
use Rattle.wgsl.specs.Rule.{when, scalar_of_kind}
use Rattle.wgsl.specs.Literal.{Format, Literal, rounded, unit_of, infinity, sign_of, in_format, worth, float_of, whole_of, in_i32, in_u32, literal_of, from_int, from_float, if_same, converted, pattern_bits, convert_call}
use Rattle.wgsl.proofs.Absent.{true_not_false}
use Rattle.wgsl.proofs.Bit.{lt_or_le}
use Rattle.wgsl.proofs.ScalarKind.{scalar_kind_is, scalar_of_kind_lem}
use Rattle.wgsl.proofs.ScalarRank.{kind_same}
use Rattle.wgsl.proofs.Fields.{scalar_kind_lem}
use Rattle.literals.specs.Formats.{number_in, power_in, to_kind}

-- ---- kinds by their numbers

pub kind_is : (s : Scalar) → scalar_of_kind (scalar_kind s) ≡ some s
unfolding scalar_of_kind scalar_kind
kind_is bool = refl
kind_is i32 = refl
kind_is u32 = refl
kind_is f32 = refl
kind_is f16 = refl
kind_is abstract_int = refl
kind_is abstract_float = refl
kind_is i64 = refl
kind_is u64 = refl
kind_is f64 = refl

-- a kind that is a scalar's, or none
pub kind_cases : {A : Type 0} (k : ℕ) → ((s : Scalar) → scalar_kind s ≡ k → scalar_of_kind k ≡ some s → A) → (scalar_of_kind k ≡ none → A) → A
kind_cases {A} k is none_is = go (scalar_of_kind k) refl
  where
    go : (o : Option Scalar) → scalar_of_kind k ≡ o → A
    go (some s) e = is s (scalar_kind_lem k s e) e
    go none e = none_is e

pub to_kind_lem : (from : Scalar → ℕ → Option ℕ) (b : ℕ) (t : Scalar) {k : ℕ} → k ≡ scalar_kind t → to_kind from b k ≡ or_refuse 25 0 (from t b)
unfolding to_kind or_refuse ◌>>=◌
to_kind_lem from b t is = rw (is, kind_is t) refl

pub to_none : (from : Scalar → ℕ → Option ℕ) (b k : ℕ) → ((t : Scalar) → scalar_kind t ≡ k → from t b ≡ none) → to_kind from b k ≡ refused 25 0
unfolding to_kind or_refuse ◌>>=◌
to_none from b k h = kind_cases k (λ s is e. rw (e, h s is) refl) (λ e. rw e refl)

-- an abstract int converts to five kinds and to itself, an abstract float to two and to itself
pub int_else : (b k : ℕ) → (k ≡ 1 → ⊥) → (k ≡ 2 → ⊥) → (k ≡ 3 → ⊥) → (k ≡ 4 → ⊥) → (k ≡ 5 → ⊥) → (k ≡ 6 → ⊥) → (t : Scalar) → scalar_kind t ≡ k → from_int t b ≡ none
unfolding from_int scalar_kind
int_else b k p q r s u v bool e = refl
int_else b k p q r s u v i32 e = absurd (p (sym e))
int_else b k p q r s u v u32 e = absurd (q (sym e))
int_else b k p q r s u v f32 e = absurd (r (sym e))
int_else b k p q r s u v f16 e = absurd (s (sym e))
int_else b k p q r s u v abstract_int e = absurd (u (sym e))
int_else b k p q r s u v abstract_float e = absurd (v (sym e))
int_else b k p q r s u v i64 e = refl
int_else b k p q r s u v u64 e = refl
int_else b k p q r s u v f64 e = refl

pub float_else : (b k : ℕ) → (k ≡ 3 → ⊥) → (k ≡ 4 → ⊥) → (k ≡ 6 → ⊥) → (t : Scalar) → scalar_kind t ≡ k → from_float t b ≡ none
unfolding from_float scalar_kind
float_else b k p q r bool e = refl
float_else b k p q r i32 e = refl
float_else b k p q r u32 e = refl
float_else b k p q r f32 e = absurd (p (sym e))
float_else b k p q r f16 e = absurd (q (sym e))
float_else b k p q r abstract_int e = refl
float_else b k p q r abstract_float e = absurd (r (sym e))
float_else b k p q r i64 e = refl
float_else b k p q r u64 e = refl
float_else b k p q r f64 e = refl

-- ---- a number in a format

module _ (g : Format) (l : Literal) {m : ℕ} (is : m ≡ rounded g.digits (unit_of g) l.worth) where
  pub format_refused : infinity g ≤ m → or_refuse 25 0 (in_format g l) ≡ refused 25 0
  unfolding in_format when or_refuse
  format_refused h = rw (← is, le-ltb m (infinity g) h) refl

  pub format_good : m < infinity g → or_refuse 25 0 (in_format g l) ≡ good (cond l.negative (sign_of g + m) m)
  unfolding in_format when or_refuse
  format_good h = rw (← is, lt-ltb m (infinity g) h) refl

-- ---- an abstract float taken apart

pub parts_worth : (m : ℕ) → worth 52 m ≡ number_in m * 2 ^ power_in m
unfolding worth number_in power_in
parts_worth m = go (ltb m (2 ^ 52))
  where
    go : (b : Bool) → cond b m ((2 ^ 52 + m % 2 ^ 52) * 2 ^ (m / 2 ^ 52 - 1)) ≡ cond b m (2 ^ 52 + m % 2 ^ 52) * 2 ^ cond b 0 (m / 2 ^ 52 - 1)
    go true = sym (mul-one m)
    go false = refl

pub number_low : (m : ℕ) → m < 2 ^ 52 → m ≡ number_in m
unfolding number_in
number_low m h = rw (lt-ltb m (2 ^ 52) h) refl

pub number_high : (m : ℕ) → 2 ^ 52 ≤ m → 2 ^ 52 + m % 2 ^ 52 ≡ number_in m
unfolding number_in
number_high m h = rw (le-ltb m (2 ^ 52) h) refl

pub power_is : (m : ℕ) → m / 2 ^ 52 - 1 ≡ power_in m
unfolding power_in
power_is m =
    ⊎_elim (λ (l : m < 2 ^ 52). rw (lt-ltb m (2 ^ 52) l) (omega arith))
    (λ (l : 2 ^ 52 ≤ m). rw (le-ltb m (2 ^ 52) l) refl) (lt_or_le m (2 ^ 52))

-- a finite one has parts that can be rounded
pub number_small : (m : ℕ) → number_in m ≤ 9223372036854775808
unfolding number_in
number_small m = go (ltb m (2 ^ 52)) refl
  where
    go : (b : Bool) → ltb m (2 ^ 52) ≡ b → cond b m (2 ^ 52 + m % 2 ^ 52) ≤ 9223372036854775808
    go true e = omega (arith, ltb-true m (2 ^ 52) e)
    go false e = omega arith

pub power_small : (m : ℕ) → m < 9218868437227405312 → power_in m ≤ 2046
unfolding power_in
power_small m h = go (ltb m (2 ^ 52))
  where
    go : (b : Bool) → cond b 0 (m / 2 ^ 52 - 1) ≤ 2046
    go true = omega arith
    go false = omega arith

pub float_refused : (b : ℕ) → 9218868437227405312 ≤ b % 9223372036854775808 → float_of b ≡ none
unfolding float_of when infinity sign_of
float_refused b h = rw (le-ltb (b % 9223372036854775808) 9218868437227405312 h) refl

pub float_parts : (b : ℕ) → b % 9223372036854775808 < 9218868437227405312 → float_of b ≡ some (record { negative = leb 9223372036854775808 b; worth = number_in (b % 9223372036854775808) * 2 ^ power_in (b % 9223372036854775808) })
unfolding float_of when infinity sign_of
float_parts b h = rw (lt-ltb (b % 9223372036854775808) 9218868437227405312 h, parts_worth (b % 9223372036854775808)) refl

-- ---- abstract ints

whole_low : (b : ℕ) → b < 9223372036854775808 → whole_of b ≡ record { negative = false; number = b }
unfolding whole_of
whole_low b h = rw (lt-ltb b 9223372036854775808 h) refl

whole_high : (b : ℕ) → 9223372036854775808 ≤ b → whole_of b ≡ record { negative = true; number = 18446744073709551616 - b }
unfolding whole_of
whole_high b h = rw (le-ltb b 9223372036854775808 h) refl

pub magnitude_is : (b : ℕ) → b < 18446744073709551616 → nat_abs (to_z w64 b) ≡ (whole_of b).number
magnitude_is b h =
    ⊎_elim (λ (l : b < 9223372036854775808). rw (lt-ltb b 9223372036854775808 l, whole_low b l) refl)
    (λ (l : 9223372036854775808 ≤ b). rw (le-ltb b 9223372036854775808 l, whole_high b l) (omega arith)) (lt_or_le b 9223372036854775808)

pub whole_is : (b : ℕ) → literal_of (whole_of b) ≡ record { negative = leb 9223372036854775808 b; worth = (whole_of b).number * 2 ^ 1074 }
unfolding literal_of
whole_is b =
    ⊎_elim (λ (l : b < 9223372036854775808). rw (whole_low b l, lt-leb 9223372036854775808 b l) refl)
    (λ (l : 9223372036854775808 ≤ b). rw (whole_high b l, le-leb 9223372036854775808 b l) refl) (lt_or_le b 9223372036854775808)

pub whole_small : (b : ℕ) → b < 18446744073709551616 → (whole_of b).number ≤ 9223372036854775808
whole_small b h =
    ⊎_elim (λ (l : b < 9223372036854775808). rw (whole_low b l) (omega arith)) (λ (l : 9223372036854775808 ≤ b). rw (whole_high b l) (omega arith))
    (lt_or_le b 9223372036854775808)

pub i32_low : (b : ℕ) → b < 2147483648 → or_refuse 25 0 (in_i32 (whole_of b)) ≡ good b
unfolding in_i32 when or_refuse
i32_low b h = rw (whole_low b (omega arith), lt-ltb b 2147483648 h) refl

pub i32_between : (b : ℕ) → 2147483648 ≤ b → b < 18446744071562067968 → or_refuse 25 0 (in_i32 (whole_of b)) ≡ refused 25 0
unfolding in_i32 when or_refuse
i32_between b h k =
    ⊎_elim (λ (l : b < 9223372036854775808). rw (whole_low b l, le-ltb b 2147483648 h) refl)
    (λ (l : 9223372036854775808 ≤ b). rw (whole_high b l, lt-leb (18446744073709551616 - b) 2147483648 (omega arith)) refl) (lt_or_le b 9223372036854775808)

pub i32_high : (b : ℕ) → 18446744071562067968 ≤ b → b < 18446744073709551616 → or_refuse 25 0 (in_i32 (whole_of b)) ≡ good (b - 18446744069414584320)
unfolding in_i32 when or_refuse
i32_high b h k =
    let e : 4294967296 - (18446744073709551616 - b) ≡ b - 18446744069414584320 = omega arith in
    rw (whole_high b (omega arith), le-leb (18446744073709551616 - b) 2147483648 (omega arith)) (ap good e)

pub u32_low : (b : ℕ) → b < 4294967296 → or_refuse 25 0 (in_u32 (whole_of b)) ≡ good b
unfolding in_u32 when or_refuse
u32_low b h = rw (whole_low b (omega arith), lt-ltb b 4294967296 h) refl

pub u32_high : (b : ℕ) → 4294967296 ≤ b → or_refuse 25 0 (in_u32 (whole_of b)) ≡ refused 25 0
unfolding in_u32 when or_refuse
u32_high b h =
    ⊎_elim (λ (l : b < 9223372036854775808). rw (whole_low b l, le-ltb b 4294967296 h) refl) (λ (l : 9223372036854775808 ≤ b). rw (whole_high b l) refl)
    (lt_or_le b 9223372036854775808)

-- ---- the same kind

pub bits_1 : (s : Scalar) → scalar_kind s ≡ 0 → pattern_bits s ≡ 1
unfolding pattern_bits scalar_kind
bits_1 s e = let is : s ≡ bool = kind_same e in rw is refl

pub bits_16 : (s : Scalar) → scalar_kind s ≡ 4 → pattern_bits s ≡ 16
unfolding pattern_bits scalar_kind
bits_16 s e = let is : s ≡ f16 = kind_same e in rw is refl

pub bits_32 : (s : Scalar) → 0 < scalar_kind s → scalar_kind s ≤ 3 → pattern_bits s ≡ 32
unfolding pattern_bits scalar_kind
bits_32 bool p l = absurd (omega arith)
bits_32 i32 p l = refl
bits_32 u32 p l = refl
bits_32 f32 p l = refl
bits_32 f16 p l = absurd (omega arith)
bits_32 abstract_int p l = absurd (omega arith)
bits_32 abstract_float p l = absurd (omega arith)
bits_32 i64 p l = absurd (omega arith)
bits_32 u64 p l = absurd (omega arith)
bits_32 f64 p l = absurd (omega arith)

pub bits_64 : (s : Scalar) → 4 < scalar_kind s → pattern_bits s ≡ 64
unfolding pattern_bits scalar_kind
bits_64 bool l = absurd (omega arith)
bits_64 i32 l = absurd (omega arith)
bits_64 u32 l = absurd (omega arith)
bits_64 f32 l = absurd (omega arith)
bits_64 f16 l = absurd (omega arith)
bits_64 abstract_int l = refl
bits_64 abstract_float l = refl
bits_64 i64 l = refl
bits_64 u64 l = refl
bits_64 f64 l = refl

-- ---- the call, by the kind that is converted

pub int_call : (b k : ℕ) → b < 18446744073709551616 → convert_call 5 b k ≡ to_kind from_int b k
unfolding convert_call to_kind converted pattern_bits scalar_of_kind or_refuse ◌>>=◌
int_call b k h = rw (mod-eq_of_lt {n = b} {m = 18446744073709551616} h) refl

pub float_call : (b k : ℕ) → b < 18446744073709551616 → convert_call 6 b k ≡ to_kind from_float b k
unfolding convert_call to_kind converted pattern_bits scalar_of_kind or_refuse ◌>>=◌
float_call b k h = rw (mod-eq_of_lt {n = b} {m = 18446744073709551616} h) refl

-- what is not abstract converts to itself alone
plain : (s t : Scalar) (b : ℕ) → (scalar_kind s ≡ 5 → ⊥) → (scalar_kind s ≡ 6 → ⊥) → converted s t b ≡ if_same s t b
unfolding converted scalar_kind
plain bool t b p q = refl
plain i32 t b p q = refl
plain u32 t b p q = refl
plain f32 t b p q = refl
plain f16 t b p q = refl
plain abstract_int t b p q = absurd (p refl)
plain abstract_float t b p q = absurd (q refl)
plain i64 t b p q = refl
plain u64 t b p q = refl
plain f64 t b p q = refl

pub other_call : (a b k : ℕ) → (a ≡ 5 → ⊥) → (a ≡ 6 → ⊥) → (a ≡ k → ⊥) → convert_call a b k ≡ refused 25 0
unfolding convert_call if_same when or_refuse ◌>>=◌
other_call a b k p q differ =
    kind_cases a
    (λ s is e. kind_cases k
    (λ t is-too f.
    rw (e, f, plain s t (b % 2 ^ pattern_bits s) (λ x. p (sym is ∙ x)) (λ x. q (sym is ∙ x)), ne_eqb (scalar_kind s) (scalar_kind t) (λ x. differ (sym is ∙ x ∙ is-too))) refl)
    (λ f. rw (e, f) refl))
    (λ e. rw e refl)

pub none_call : (a b k : ℕ) → is_scalar_kind a ≡ false → convert_call a b k ≡ refused 25 0
unfolding convert_call or_refuse ◌>>=◌
none_call a b k h =
    kind_cases a (λ s is e. true_not_false (rw is at (scalar_kind_is s)) h) (λ e. rw e refl)

pub same_call : (a b : ℕ) {r : ℕ} → (a ≡ 5 → ⊥) → (a ≡ 6 → ⊥) → is_scalar_kind a ≡ true → ((s : Scalar) → scalar_kind s ≡ a → r ≡ b % 2 ^ pattern_bits s) → convert_call a b a ≡ good r
unfolding convert_call if_same when or_refuse ◌>>=◌
same_call a b p q known h =
    let (s, is, e) = scalar_of_kind_lem a known in
    rw (e, plain s s (b % 2 ^ pattern_bits s) (λ x. p (sym is ∙ x)) (λ x. q (sym is ∙ x)), eq-eqb (scalar_kind s) (scalar_kind s) refl) (ap good (sym (h s is)))
