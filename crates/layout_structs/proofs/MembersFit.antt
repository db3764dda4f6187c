-- The numbers of a struct, from those of its members (crates/wgsl, specs/Size).
--
-- In order: its alignment; where it ends, if it is open and if not; which of its numbers pass the limit.
-- Assumes nothing.
use Prim.Native.Nat.{ℕ, zero, suc, ◌+◌, ◌*◌, ◌^◌, ◌<◌, ◌≤◌, max}
use mathlib.Core.Bool.{Bool, true, false, ◌&&◌, and-false}
use mathlib.Core.List.Memᴰ
use mathlib.Core.List.{List, ◌∷◌}
use mathlib.Core.Logic.{⊎_elim}
use mathlib.Core.Option.{Option, none, some}
use mathlib.Core.Path.{◌≡◌, refl, ap, ◌∙◌}
use native.Mathlib.Omega.{arith}
use native.Mathlib.Nat.{pow-suc}
use borrow.Author.Tests.{eqb-true, leb-false, le-leb, lt-leb}
use lib.Dec.{eqb, leb}
use lib.Pow.{pow_pos}
use Rattle.wgsl.specs.Round.{up, power_below, is_power, limit, within_limit}
use Rattle.wgsl.specs.Types.{Ty, struct, Members, no_more, member, is_runtime, ends_in_runtime, everywhere, every_member}
use Rattle.wgsl.specs.Size.{both, given_or, is_present, start_after, end_after, size_of, align_of, members_align, members_end, offsets_of, numbers_of, within_limits, fits_limit, min_size_of, inner_numbers_of, member_start, member_end}
use Rattle.wgsl.specs.Rule.{is_last, given_size_fits, given_align_fits, is_multiple, members_allowed, members_given_fit, is_well_formed}
use Rattle.wgsl.proofs.Absent.{both_hold, either_holds, true_not_false, some_present, both_none, given_present}
use Rattle.wgsl.proofs.Entry.{number_limit}
use Rattle.wgsl.proofs.Power.{power_positive}
use Rattle.wgsl.proofs.Align.{members_power}
use Rattle.wgsl.proofs.Tail.{runtime_size, runtime_unsized}
use Rattle.wgsl.proofs.Members.{first_member}
use Rattle.wgsl.proofs.Round.{up_not_below}

-- ---- the alignment

power_below_lem : (k a : ℕ) → power_below k a ≡ true → a < 2 ^ k
unfolding power_below
power_below_lem zero a e = true_not_false e refl
power_below_lem (suc k) a e =
    let p : 2 ^ suc k ≡ 2 ^ k * 2 = pow-suc 2 k in
    ⊎_elim (λ (h : eqb a (2 ^ k) ≡ true). omega (arith, eqb-true a (2 ^ k) h, p, pow_pos k))
    (λ (h : power_below k a ≡ true). omega (arith, power_below_lem k a h, p))
    (either_holds (eqb a (2 ^ k)) (power_below k a) e)

power_limit : (a : ℕ) → is_power a ≡ true → a ≤ limit
unfolding is_power
power_limit a e = omega (arith, power_below_lem 32 a e)

-- the align of a member is within the limit
given_limit : (t : Ty) (given : Option ℕ) (a : ℕ) → everywhere is_well_formed t ≡ true → given_align_fits t given ≡ true → given_or given (align_of t) ≡ some a → a ≤ limit
unfolding given_align_fits given_or numbers_of
given_limit t (some g) a w f e =
    let q : g ≡ a = cc in
    rw (← q) (power_limit g (both_hold (is_power g) (is_multiple (align_of t) g) f).0)
given_limit t none a w f e = number_limit t a w (Memᴰ.tail (Memᴰ.head (rw e)))

pub record Aligned (ms : Members) : Type 0 where
  pub align : ℕ
  pub is : members_align ms ≡ some align
  pub within : align ≤ limit

-- Members that passed 5 and 6 have an alignment, within the limit.
pub members_aligned : (ms : Members) → every_member is_well_formed ms ≡ true → members_allowed ms ≡ true → members_given_fit ms ≡ true → Aligned ms
unfolding members_align both
members_aligned no_more w ok g = record { align = 1; is = refl; within = omega arith }
members_aligned (member t size align ms) w ok g =
    let m = first_member t size align ms w ok g in
    let a = given_present align (align_of t) (some_present m.own_is) in
    let l = given_limit t align a.0 m.well m.align_fits a.1 in
    let r = members_aligned ms m.rest_well m.rest_allowed m.rest_fits in
    record { align = max a.0 r.align; is = rw (a.1, r.is); within = omega (arith, l, r.within) }

pub aligned_positive : (ms : Members) (a : ℕ) → every_member is_well_formed ms ≡ true → members_given_fit ms ≡ true → members_align ms ≡ some a → 0 < a
aligned_positive ms a w g e = power_positive (members_power ms a w g e)

-- ---- the end

-- The end of members that end in a runtime array is absent.
pub open_end : (end : Option ℕ) (b : Bool) (ms : Members) → members_given_fit ms ≡ true → (b ≡ true → end ≡ none) → ends_in_runtime b ms ≡ true → members_end end ms ≡ none
unfolding members_end ends_in_runtime members_given_fit member_start member_end end_after given_or
open_end end b no_more g h e = h e
open_end end b (member t size align ms) g h e =
    let fits = both_hold (given_size_fits t size && given_align_fits t align) (members_given_fit ms) g in
    let fit = both_hold (given_size_fits t size) (given_align_fits t align) fits.0 in
    open_end (member_end end align (align_of t) size (size_of t)) (is_runtime t) ms fits.1
    (λ q. rw (runtime_size t size q fit.0, runtime_unsized t q) (both_none ◌+◌ (member_start end align (align_of t)))) e

-- past a runtime array, the last, comes nothing
last_runtime : {A : Type 0} (ms : Members) (b : Bool) → is_last ms ≡ true → b ≡ true → ends_in_runtime b ms ≡ false → A
unfolding is_last ends_in_runtime
last_runtime no_more b l r e = true_not_false r e
last_runtime (member t size align ms) b l r e = true_not_false l refl

-- where a member ends
end_at : (lo a s : ℕ) (align size : Option ℕ) → align ≡ some a → size ≡ some s → end_after (some lo) align size ≡ some (up a lo + s)
unfolding end_after start_after both
end_at lo a s align size e h = rw (e, h)

-- The end of other members is there.
pub closed_end : (lo : ℕ) (b : Bool) (ms : Members) → every_member is_well_formed ms ≡ true → members_allowed ms ≡ true → members_given_fit ms ≡ true → ends_in_runtime b ms ≡ false → (z : ℕ) × (members_end (some lo) ms ≡ some z)
unfolding members_end ends_in_runtime member_end
closed_end lo b no_more w ok g e = (lo, refl)
closed_end lo b (member t size align ms) w ok g e =
    let m = first_member t size align ms w ok g in
    let a = given_present align (align_of t) (some_present m.own_is) in
    ⊎_elim
    (λ (p : is_present (size_of t) ≡ true).
    let s = given_present size (size_of t) p in
    let r = closed_end (up a.0 lo + s.0) (is_runtime t) ms m.rest_well m.rest_allowed m.rest_fits e in
    (r.0, ap (λ (x : Option ℕ). members_end x ms) (end_at lo a.0 s.0 _ _ a.1 s.1) ∙ r.1))
    (λ (p : (is_last ms ≡ true) × (is_runtime t ≡ true)). last_runtime ms (is_runtime t) p.0 p.1 e)
    m.sized_or_last

-- ---- the limit

-- the numbers of a struct whose alignment is a and whose members end at `end`
abbrev struct_numbers : ℕ → Option ℕ → List (Option ℕ) → List (Option ℕ)
struct_numbers a end offsets = both up (some a) end ∷ some a ∷ both up (some a) end ∷ offsets

pub struct_fits : (k : ℕ) (ms : Members) (a : ℕ) (end : Option ℕ) → members_align ms ≡ some a → members_end (some 0) ms ≡ end → fits_limit (struct k ms) ≡ within_limits (struct_numbers a end (offsets_of (some 0) ms))
unfolding fits_limit numbers_of size_of min_size_of inner_numbers_of
struct_fits k ms a end al en = rw (al, en)

-- Where an offset or the end of the members is past the limit, so is a number of the struct.
pub past_members : (a : ℕ) (end : Option ℕ) (offsets : List (Option ℕ)) → 0 < a → within_limits (end ∷ offsets) ≡ false → within_limits (struct_numbers a end offsets) ≡ false
unfolding within_limits within_limit both
past_members a none offsets pos e = rw e (and-false (leb a limit))
past_members a (some z) offsets pos e = go (leb z limit) refl e
  where
    go : (h : Bool) → leb z limit ≡ h → (h && within_limits offsets) ≡ false → (leb (up a z) limit && (leb a limit && (leb (up a z) limit && within_limits offsets))) ≡ false
    go true q x = rw x (rw (and-false (leb (up a z) limit), and-false (leb a limit)) (and-false (leb (up a z) limit)))
    go false q x = rw (lt-leb (up a z) limit (omega (arith, leb-false z limit q, up_not_below a z pos)))

-- An open struct has no more numbers than its members, but for its alignment.
pub open_fits : (a : ℕ) (offsets : List (Option ℕ)) → a ≤ limit → within_limits (none ∷ offsets) ≡ true → within_limits (struct_numbers a none offsets) ≡ true
unfolding within_limits within_limit both
open_fits a offsets l e = rw (le-leb a limit l) e

-- Of the others, the size may be past the limit too.
pub closed_fits : (a z : ℕ) (offsets : List (Option ℕ)) → a ≤ limit → within_limit (up a z) ≡ true → within_limits (some z ∷ offsets) ≡ true → within_limits (struct_numbers a (some z) offsets) ≡ true
unfolding within_limits within_limit both
closed_fits a z offsets l s e = rw (le-leb a limit l, s) (both_hold (leb z limit) (within_limits offsets) e).1

pub closed_past : (a z : ℕ) (offsets : List (Option ℕ)) → within_limit (up a z) ≡ false → within_limits (struct_numbers a (some z) offsets) ≡ false
unfolding within_limits within_limit both
closed_past a z offsets s = rw s
