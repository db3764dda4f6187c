-- Laws of alignments (specs/Size): every alignment of a well-formed type is a power of two.
--
-- In order: scalars; vectors; a member's align; every type.
-- Assumes nothing.
use Prim.Native.Nat.{ℕ, ◌*◌, ◌%◌, ◌≤◌, max}
use mathlib.Core.Bool.{Bool, true, false, ◌&&◌, cond}
use mathlib.Core.Option.{Option, none, some}
use mathlib.Core.Path.{◌≡◌, refl, sym}
use mathlib.Core.Logic.{◌⊎◌, inl, inr, ⊎_elim}
use native.Mathlib.Omega.{arith}
use native.Mathlib.Nat.{mod_self, mul-mod_left, lt_of_not-le, mul-le-mul_right}
use native.Mathlib.Decide.{dec_le}
use borrow.Author.Tests.{eqb-true, eqb-false}
use lib.Arith.{lt_of_le-ne}
use lib.Dec.{eqb}
use Rattle.wgsl.specs.Round.{IsPower, is_power}
use Rattle.wgsl.specs.Types.{Scalar, bool, i32, u32, f32, f16, abstract_int, abstract_float, i64, u64, f64, Ty, scalar, vector, matrix, array, runtime, atomic, struct, Members, no_more, member, everywhere, every_member}
use Rattle.wgsl.specs.Size.{both, given_or, width_of, vec3_align, vector_size, vector_align, align_of, members_align}
use Rattle.wgsl.specs.File.{between}
use Rattle.wgsl.specs.Rule.{is_atomic_scalar, is_allowed, is_well_formed, members_given_fit, given_align_fits, given_size_fits, is_multiple}
use Rattle.wgsl.proofs.Absent.{both_hold, between_true, true_not_false, both_some, some_not_none}
use Rattle.wgsl.proofs.Passed.{passed, matrix_passed, array_passed, runtime_passed, struct_passed}
use Rattle.wgsl.proofs.Power.{power_tested, power, power_double, power_four, power_max}

-- ---- scalars

pub record Width (s : Scalar) (w : ℕ) : Type 0 where
  pub is_power_here : IsPower w
  pub low : 2 ≤ w
  pub high : w ≤ 8

four : {s : Scalar} (w : ℕ) → some 4 ≡ some w → Width s w
four w e = let q : w ≡ 4 = cc in record { is_power_here = rw q (power 2); low = omega arith; high = omega arith }

eight : {s : Scalar} (w : ℕ) → some 8 ≡ some w → Width s w
eight w e = let q : w ≡ 8 = cc in record { is_power_here = rw q (power 3); low = omega arith; high = omega arith }

-- A scalar that has a size has 2, 4 or 8 bytes.
pub width_power : (s : Scalar) (w : ℕ) → width_of s ≡ some w → Width s w
unfolding width_of
width_power bool w e = four w e
width_power i32 w e = four w e
width_power u32 w e = four w e
width_power f32 w e = four w e
width_power f16 w e = let q : w ≡ 2 = cc in record { is_power_here = rw q (power 1); low = omega arith; high = omega arith }
width_power abstract_int w e = some_not_none {A = ℕ} {a = w} e refl
width_power abstract_float w e = some_not_none {A = ℕ} {a = w} e refl
width_power i64 w e = eight w e
width_power u64 w e = eight w e
width_power f64 w e = eight w e

-- A scalar that an atomic may hold has 4 bytes.
pub atomic_width : (s : Scalar) → is_atomic_scalar s ≡ true → width_of s ≡ some 4
unfolding is_atomic_scalar width_of
atomic_width bool e = refl
atomic_width i32 e = refl
atomic_width u32 e = refl
atomic_width f32 e = refl
atomic_width f16 e = true_not_false e refl
atomic_width abstract_int e = true_not_false e refl
atomic_width abstract_float e = true_not_false e refl
atomic_width i64 e = true_not_false e refl
atomic_width u64 e = true_not_false e refl
atomic_width f64 e = true_not_false e refl

-- ---- vectors

-- a vector of k has an alignment: that of its scalar, doubled once or twice, and no less than its size
pub record VectorAligned (k : ℕ) (s : Scalar) (a : ℕ) : Type 0 where
  pub width : ℕ
  pub width_is : width_of s ≡ some width
  pub is_power_here : IsPower a
  pub multiple : a % width ≡ 0
  pub not_below : k * width ≤ a

vec3_align_lem : (s : Scalar) (a : ℕ) → vec3_align s ≡ some a → (w : ℕ) × (width_of s ≡ some w) × (a ≡ 4 * w)
unfolding vec3_align width_of
vec3_align_lem bool a e = (4, refl, cc)
vec3_align_lem i32 a e = (4, refl, cc)
vec3_align_lem u32 a e = (4, refl, cc)
vec3_align_lem f32 a e = (4, refl, cc)
vec3_align_lem f16 a e = (2, refl, cc)
vec3_align_lem abstract_int a e = some_not_none {A = ℕ} {a = a} e refl
vec3_align_lem abstract_float a e = some_not_none {A = ℕ} {a = a} e refl
vec3_align_lem i64 a e = some_not_none {A = ℕ} {a = a} e refl
vec3_align_lem u64 a e = some_not_none {A = ℕ} {a = a} e refl
vec3_align_lem f64 a e = some_not_none {A = ℕ} {a = a} e refl

multiple_of : (k m w a : ℕ) (s : Scalar) → width_of s ≡ some w → a ≡ m * w → IsPower (m * w) → k ≤ m → VectorAligned k s a
multiple_of k m w a s h e p l =
    record {
      width = w;
      width_is = h;
      is_power_here = rw e p;
      multiple = rw e (mul-mod_left m w);
      not_below = rw e (mul-le-mul_right w l);
    }

two_or_four : (k : ℕ) → 2 ≤ k → k ≤ 4 → (k ≡ 3 → ⊥) → (k ≡ 2) ⊎ (k ≡ 4)
two_or_four k l h n =
    ⊎_elim (λ (e : k ≤ 2). inl (omega arith)) (λ (e : 3 ≤ k). inr (omega (arith, lt_of_le-ne e (λ q. n (sym q)))))
    (less_or_more k)
  where
    less_or_more : (k : ℕ) → (k ≤ 2) ⊎ (3 ≤ k)
    less_or_more k = elim (dec_le k 2) [ yes m ↦ inl m | no m ↦ inr (lt_of_not-le m) ]

even_power : (k w : ℕ) → (k ≡ 2) ⊎ (k ≡ 4) → IsPower w → IsPower (k * w)
even_power k w c p = ⊎_elim (λ (e : k ≡ 2). rw e (power_double p)) (λ (e : k ≡ 4). rw e (power_four p)) c

-- The alignment of a vector of two, three or four suits its scalar and covers its size.
pub vector_align_lem : (k : ℕ) (s : Scalar) (a : ℕ) → between 2 4 k ≡ true → vector_align k s ≡ some a → VectorAligned k s a
unfolding vector_align vector_size
vector_align_lem k s a b e = go (eqb k 3) refl e
  where
    low : 2 ≤ k
    low = (between_true 2 4 k b).0

    high : k ≤ 4
    high = (between_true 2 4 k b).1

    go : (c : Bool) → eqb k 3 ≡ c → cond c (vec3_align s) (both ◌*◌ (some k) (width_of s)) ≡ some a → VectorAligned k s a
    go true q h =
        let v = vec3_align_lem s a h in
        multiple_of k 4 v.0 a s v.1 v.2 (power_four (width_power s v.0 v.1).is_power_here) high
    go false q h =
        let v = both_some ◌*◌ (some k) (width_of s) a h in
        let same : v.left ≡ k = cc v.left_is in
        let p = (width_power s v.right v.right_is).is_power_here in
        multiple_of k k v.right a s v.right_is (rw same at v.is)
        (even_power k v.right (two_or_four k low high (eqb-false k 3 q)) p) (omega arith)

-- ---- a member's align

-- a member's align is a power of two and a multiple of its type's own, if that is there
pub record MemberAligned (t : Ty) (a : ℕ) : Type 0 where
  pub is_power_here : IsPower a
  pub multiple : (own : ℕ) → align_of t ≡ some own → a % own ≡ 0

-- The given align of a member is such a one by refusal 6, and its type's own is where that is a power.
pub member_aligned : (t : Ty) (given : Option ℕ) (a : ℕ) → ((own : ℕ) → align_of t ≡ some own → IsPower own) → given_align_fits t given ≡ true → given_or given (align_of t) ≡ some a → MemberAligned t a
unfolding given_align_fits is_multiple given_or
member_aligned t (some g) a p f h =
    let q : g ≡ a = cc in
    let c = both_hold (is_power g) (is_multiple (align_of t) g) f in
    record {
      is_power_here = rw (← q) (power_tested g c.0);
      multiple = λ own e. rw (← q) (eqb-true (g % own) 0 (rw e at c.1));
    }
member_aligned t none a p f h =
    record { is_power_here = p a h; multiple = λ own e. let q : own ≡ a = cc in rw q (mod_self a) }

-- ---- every type

mutual
  unfolding every_member is_allowed members_given_fit members_align

  -- Every alignment of a well-formed type is a power of two.
  pub align_power : (t : Ty) (a : ℕ) → everywhere is_well_formed t ≡ true → align_of t ≡ some a → IsPower a
  align_power (scalar s) a w e = (width_power s a e).is_power_here
  align_power (vector n s) a w e = (vector_align_lem n s a (passed (vector n s) w).allowed e).is_power_here
  align_power (matrix c r s) a w e =
      (vector_align_lem r s a (matrix_passed c r s w).1 e).is_power_here
  align_power (array n t) a w e = align_power t a (array_passed n t w).below e
  align_power (runtime t) a w e = align_power t a (runtime_passed t w).below e
  align_power (atomic s) a w e = let q : 4 ≡ a = cc in rw (← q) (power 2)
  align_power (struct k ms) a w e =
      let p = struct_passed k ms w in
      members_power ms a p.below p.given e

  pub members_power : (ms : Members) (a : ℕ) → every_member is_well_formed ms ≡ true → members_given_fit ms ≡ true → members_align ms ≡ some a → IsPower a
  members_power no_more a w g e = let q : 1 ≡ a = cc in rw (← q) (power 0)
  members_power (member t size align ms) a w g e =
      let both_well = both_hold (everywhere is_well_formed t) (every_member is_well_formed ms) w in
      let fits = both_hold (given_size_fits t size && given_align_fits t align) (members_given_fit ms) g in
      let fit = both_hold (given_size_fits t size) (given_align_fits t align) fits.0 in
      let m = both_some max (given_or align (align_of t)) (members_align ms) a e in
      let here = member_aligned t align m.left (λ own h. align_power t own both_well.0 h) fit.1 m.left_is in
      rw m.is (power_max here.is_power_here (members_power ms m.right both_well.1 fits.1 m.right_is))
