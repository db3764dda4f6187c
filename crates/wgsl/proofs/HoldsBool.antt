-- What holds a bool is not storable (specs/Claim, `HoldsBool`; specs/Size, `is_storable`).
-- Assumes nothing.
use Prim.Native.Nat.{ℕ}
use mathlib.Core.Bool.{Bool, true, false, not}
use mathlib.Core.List.{List}
use mathlib.Core.Path.{◌≡◌, refl}
use Rattle.wgsl.specs.Types.{Scalar, bool, i32, u32, f32, f16, abstract_int, abstract_float, i64, u64, f64, Ty, scalar, vector, matrix, array, runtime, atomic, struct, Members, no_more, member, everywhere, every_member}
use Rattle.wgsl.specs.Size.{has_layout, is_stored, is_plain, is_storable}
use Rattle.wgsl.specs.Said.{refused}
use Rattle.wgsl.specs.Call.{entry_for}
use Rattle.wgsl.specs.Claim.{is_bool, is_no_bool, HoldsBool, LaidOut}
use Rattle.wgsl.proofs.Absent.{both_hold, hold_both, true_not_false, yes_or_no}
use Rattle.wgsl.proofs.EntryFor.{unstored_is}

module _ (p q : Ty → Bool) (implies : (t : Ty) → p t ≡ true → q t ≡ true) where
  mutual
    unfolding everywhere every_member

    -- A test that one implies holds of every type within a type where that one does.
    everywhere_implied : (t : Ty) → everywhere p t ≡ true → everywhere q t ≡ true
    everywhere_implied (scalar s) h = implies (scalar s) h
    everywhere_implied (vector n s) h = implies (vector n s) h
    everywhere_implied (matrix c r s) h = implies (matrix c r s) h
    everywhere_implied (array n t) h =
        let both = both_hold (p (array n t)) (everywhere p t) h in
        hold_both (q (array n t)) (everywhere q t) (implies (array n t) both.0) (everywhere_implied t both.1)
    everywhere_implied (runtime t) h =
        let both = both_hold (p (runtime t)) (everywhere p t) h in
        hold_both (q (runtime t)) (everywhere q t) (implies (runtime t) both.0) (everywhere_implied t both.1)
    everywhere_implied (atomic s) h = implies (atomic s) h
    everywhere_implied (struct k ms) h =
        let both = both_hold (p (struct k ms)) (every_member p ms) h in
        hold_both (q (struct k ms)) (every_member q ms) (implies (struct k ms) both.0) (members_implied ms both.1)

    members_implied : (ms : Members) → every_member p ms ≡ true → every_member q ms ≡ true
    members_implied no_more h = refl
    members_implied (member t size align ms) h =
        let both = both_hold (everywhere p t) (every_member p ms) h in
        hold_both (everywhere q t) (every_member q ms) (everywhere_implied t both.0) (members_implied ms both.1)

stored_no_bool : (s : Scalar) → is_stored s ≡ true → not (is_bool s) ≡ true
unfolding is_stored is_bool
stored_no_bool bool h = h
stored_no_bool i32 h = refl
stored_no_bool u32 h = refl
stored_no_bool f32 h = refl
stored_no_bool f16 h = refl
stored_no_bool abstract_int h = refl
stored_no_bool abstract_float h = refl
stored_no_bool i64 h = refl
stored_no_bool u64 h = refl
stored_no_bool f64 h = refl

plain_no_bool : (t : Ty) → is_plain t ≡ true → is_no_bool t ≡ true
unfolding is_plain is_no_bool
plain_no_bool (scalar s) h = stored_no_bool s h
plain_no_bool (vector n s) h = stored_no_bool s h
plain_no_bool (matrix c r s) h = stored_no_bool s h
plain_no_bool (array n t) h = refl
plain_no_bool (runtime t) h = refl
plain_no_bool (atomic s) h = stored_no_bool s h
plain_no_bool (struct k ms) h = refl

-- A type that holds a bool anywhere is not storable,
pub bool_not_storable : (t : Ty) → HoldsBool t → is_storable t ≡ false
unfolding is_storable
bool_not_storable t h =
    yes_or_no (is_storable t)
    (λ (y : is_storable t ≡ true).
    let plain = (both_hold (has_layout t) (everywhere is_plain t) y).1 in
    true_not_false (everywhere_implied is_plain is_no_bool plain_no_bool t plain) h)
    (λ (n : is_storable t ≡ false). n)

-- so that write, read and set refuse it with 10, whatever it is.
pub bool_refused : {f : List ℕ} {e : ℕ} {b : List ℕ} {t : Ty} → LaidOut f e b t → HoldsBool t → entry_for true f e b ≡ refused 10 0
bool_refused {t = t} x h = unstored_is x (bool_not_storable t h)
