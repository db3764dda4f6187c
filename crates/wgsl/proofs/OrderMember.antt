-- The members of a struct by their positions (specs/OrderClaim, `member_at`): what the rules say of them.
--
-- In order: a member there; members that are the same at every position; a runtime array is last; alignments.
-- Assumes nothing.
use Prim.Native.Nat.{ℕ, zero, suc, ◌^◌, ◌<◌}
use mathlib.Core.Bool.{true, false, ◌&&◌, ◌||◌}
use mathlib.Core.Option.{Option, none, some, some-injective}
use mathlib.Core.Logic.{⊎_elim}
use mathlib.Core.Path.{◌≡◌, refl, ap}
use native.Mathlib.Omega.{arith}
use borrow.Author.Tests.{eqb-true}
use lib.Dec.{eqb}
use Rattle.wgsl.specs.Round.{power_below, is_power}
use Rattle.wgsl.specs.Types.{Ty, struct, Members, no_more, member, is_runtime, everywhere, every_member}
use Rattle.wgsl.specs.Size.{given_or, is_present, present, size_of, align_of}
use Rattle.wgsl.specs.Rule.{count_of, is_last, member_allowed, members_allowed, is_multiple, given_align_fits, members_given_fit, is_well_formed}
use Rattle.wgsl.specs.OrderClaim.{One, member_at, align_of_one, is_runtime_one, align_at, is_runtime_at}
use Rattle.wgsl.proofs.Absent.{both_hold, either_holds, yes_or_no, true_not_false, some_not_none}
use Rattle.wgsl.proofs.Power.{exponent_small}
use Rattle.wgsl.proofs.Align.{align_power}
use Rattle.wgsl.proofs.Passed.{struct_passed}
use Rattle.wgsl.proofs.Tail.{runtime_unsized}
use Rattle.wgsl.proofs.Members.{first_member}
use Rattle.wgsl.proofs.Entry.{align_limit}

-- ---- a member there

-- Where there is a member, the position is below their number.
pub member_low : (ms : Members) (i : ℕ) {m : One} → member_at ms i ≡ some m → i < count_of ms
unfolding member_at count_of
member_low no_more i e = some_not_none e refl
member_low (member t size align ms) zero e = omega arith
member_low (member t size align ms) (suc i) e = omega (arith, member_low ms i e)

-- ---- members that are the same at every position

-- Members that are as many and the same at every position are the same.
pub members_same : (ms ns : Members) → count_of ms ≡ count_of ns → ((i : ℕ) → i < count_of ms → member_at ms i ≡ member_at ns i) → ms ≡ ns
unfolding member_at count_of
members_same no_more no_more e h = refl
members_same no_more (member t size align ns) e h = absurd (omega arith)
members_same (member t size align ms) no_more e h = absurd (omega arith)
members_same (member t size align ms) (member t' size' align' ns) e h =
    let first = some-injective _ _ (h 0 (omega arith)) in
    let types : t ≡ t' = ap (λ (m : One). m.type) first in
    let sizes : size ≡ size' = ap (λ (m : One). m.size) first in
    let aligns : align ≡ align' = ap (λ (m : One). m.align) first in
    let rest = members_same ms ns (omega arith) (λ i l. h (suc i) (omega arith)) in
    cc

-- ---- a runtime array is last

no_room : (ms : Members) → is_last ms ≡ true → count_of ms ≡ 0
unfolding is_last count_of
no_room no_more e = refl
no_room (member t size align ms) e = true_not_false e refl

-- Nothing stands after a runtime array;
pub runtime_end : (t : Ty) (size align : Option ℕ) (ms : Members) → members_allowed (member t size align ms) ≡ true → is_runtime t ≡ true → count_of ms ≡ 0
unfolding member_allowed members_allowed is_present
runtime_end t size align ms ok e =
    let oks = both_hold (is_present (align_of t) && (is_present (size_of t) || (is_last ms && is_runtime t))) (members_allowed ms) ok in
    let here = both_hold (is_present (align_of t)) (is_present (size_of t) || (is_last ms && is_runtime t)) oks.0 in
    ⊎_elim (λ (h : is_present (size_of t) ≡ true). true_not_false h (rw (runtime_unsized t e)))
    (λ (h : (is_last ms && is_runtime t) ≡ true). no_room ms (both_hold (is_last ms) (is_runtime t) h).0)
    (either_holds (is_present (size_of t)) (is_last ms && is_runtime t) here.1)

-- so no member but the last is one.
pub runtime_last : (ms : Members) → members_allowed ms ≡ true → (i : ℕ) → suc i < count_of ms → is_runtime_at ms i ≡ false
unfolding member_at count_of is_runtime_one members_allowed
runtime_last no_more ok i l = refl
runtime_last (member t size align ms) ok zero l =
    yes_or_no (is_runtime t) (λ e. absurd (omega (arith, runtime_end t size align ms ok e))) (λ e. e)
runtime_last (member t size align ms) ok (suc i) l =
    runtime_last ms (both_hold (member_allowed (is_last ms) t) (members_allowed ms) ok).1 i (omega arith)

-- ---- alignments

small_power : (k a : ℕ) → power_below k a ≡ true → (j : ℕ) × (j < k) × (a ≡ 2 ^ j)
unfolding power_below
small_power zero a e = true_not_false e refl
small_power (suc k) a e =
    ⊎_elim (λ (h : eqb a (2 ^ k) ≡ true). (k, omega arith, eqb-true a (2 ^ k) h))
    (λ (h : power_below k a ≡ true). let s = small_power k a h in (s.0, omega (arith, s.1), s.2))
    (either_holds (eqb a (2 ^ k)) (power_below k a) e)

-- of a member of a type that has an alignment, given or its own
pub given_power : (t : Ty) (align : Option ℕ) (own : ℕ) → everywhere is_well_formed t ≡ true → given_align_fits t align ≡ true → align_of t ≡ some own → (j : ℕ) × (j < 32) × (present (given_or align (align_of t)) ≡ 2 ^ j)
unfolding given_or present given_align_fits is_power
given_power t (some g) own w fits is = small_power 32 g (both_hold (is_power g) (is_multiple (align_of t) g) fits).0
given_power t none own w fits is =
    let p = align_power t own w is in
    (p.exponent, exponent_small p (omega (arith, align_limit t own w is)), rw is p.is)

members_power : (ms : Members) → every_member is_well_formed ms ≡ true → members_allowed ms ≡ true → members_given_fit ms ≡ true → (i : ℕ) → i < count_of ms → (j : ℕ) × (j < 32) × (align_at ms i ≡ 2 ^ j)
unfolding member_at count_of align_of_one
members_power no_more w ok g i l = absurd (omega arith)
members_power (member t size align ms) w ok g zero l =
    let m = first_member t size align ms w ok g in
    given_power t align m.own m.well m.align_fits m.own_is
members_power (member t size align ms) w ok g (suc i) l =
    let m = first_member t size align ms w ok g in
    members_power ms m.rest_well m.rest_allowed m.rest_fits i (omega arith)

-- The alignment of a member of a well-formed struct, given or its type's, is a power of two of 32 bits.
pub member_power : (k : ℕ) (ms : Members) → everywhere is_well_formed (struct k ms) ≡ true → (i : ℕ) → i < count_of ms → (j : ℕ) × (j < 32) × (align_at ms i ≡ 2 ^ j)
member_power k ms w = let p = struct_passed k ms w in members_power ms p.below p.allowed p.given
