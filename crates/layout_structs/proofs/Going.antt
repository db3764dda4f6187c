-- Members that more may follow (`Going`, specs/SoFar): each has a size.
--
-- In order: one member; where they end; their alignment; their words.
-- Assumes nothing.
use Prim.Native.Nat.{ℕ, ◌+◌, ◌*◌, ◌≤◌, max}
use mathlib.Core.Bool.{Bool, true, false, cond, ◌&&◌, ◌||◌, or-false}
use mathlib.Core.Option.{Option, some}
use mathlib.Core.Path.{◌≡◌, refl, sym, ap, ◌∙◌}
use native.Mathlib.Omega.{arith}
use Rattle.wgsl.specs.Round.{IsPower, up}
use Rattle.wgsl.specs.Types.{Ty, Members, no_more, member, everywhere, every_member}
use Rattle.wgsl.specs.Size.{both, given_or, is_present, start_after, end_after, size_of, align_of, members_align, members_end, has_layout, member_end}
use Rattle.wgsl.specs.Rule.{member_allowed, given_size_fits, given_align_fits, members_given_fit, is_well_formed}
use Rattle.wgsl.specs.Place.{word_count}
use Rattle.wgsl.proofs.Absent.{both_hold, present_some, given_present, some_present}
use Rattle.wgsl.proofs.Round.{up_not_below}
use Rattle.wgsl.proofs.Power.{power_positive}
use Rattle.wgsl.proofs.Align.{align_power, member_aligned}
use Rattle.wgsl.proofs.Members.{sized, next_member}
use Rattle.wgsl.proofs.Count.{words_bounded}
use Rattle.layout_values.specs.Value.{fixed_words}
use Rattle.layout_structs.specs.SoFar.{words_of_members, all_sized}

-- ---- one member

-- the size and the alignment of a type that a member may have
pub record Whole (t : Ty) : Type 0 where
  pub own : ℕ
  pub own_is : size_of t ≡ some own
  pub aligned : ℕ
  pub aligned_is : align_of t ≡ some aligned

pub whole_member : (t : Ty) → member_allowed false t ≡ true → Whole t
unfolding member_allowed
whole_member t e =
    let c = both_hold (is_present (align_of t)) (is_present (size_of t) || false) e in
    let a = present_some (align_of t) c.0 in
    let z = present_some (size_of t) (sym (or-false (is_present (size_of t))) ∙ c.1) in
    record { own = z.0; own_is = z.1; aligned = a.0; aligned_is = a.1 }

-- The align that a member gets is a power of two.
pub member_power : (t : Ty) (align : Option ℕ) (a : ℕ) → everywhere is_well_formed t ≡ true → given_align_fits t align ≡ true → given_or align (align_of t) ≡ some a → IsPower a
member_power t align a w f e = (member_aligned t align a (λ own q. align_power t own w q) f e).is_power_here

-- Each word takes at least 2 bytes.
pub fixed_bounded : (t : Ty) (z : ℕ) → everywhere is_well_formed t ≡ true → Whole t → size_of t ≡ some z → 2 * fixed_words t ≤ z
unfolding fixed_words
fixed_bounded t z w h e = go (has_layout t)
  where
    go : (b : Bool) → 2 * cond b (word_count 0 t) 0 ≤ z
    go true = words_bounded 0 t h.aligned z w h.aligned_is e
    go false = omega arith

first_sized : (t : Ty) (size align : Option ℕ) (ms : Members) → all_sized (member t size align ms) ≡ true → Whole t × (all_sized ms ≡ true)
unfolding all_sized
first_sized t size align ms e =
    let c = both_hold (member_allowed false t) (all_sized ms) e in
    (whole_member t c.0, c.1)

-- ---- where they end

-- where the next one starts and ends
pub next_start : {end align : Option ℕ} {lo a : ℕ} → end ≡ some lo → align ≡ some a → start_after end align ≡ some (up a lo)
unfolding start_after both
next_start e f = rw (e, f)

pub next_end : {end align size : Option ℕ} {lo a z : ℕ} → end ≡ some lo → align ≡ some a → size ≡ some z → end_after end align size ≡ some (up a lo + z)
unfolding end_after start_after both
next_end e f g = rw (e, f, g)

pub going_end : (lo : ℕ) (ms : Members) → all_sized ms ≡ true → (z : ℕ) × (members_end (some lo) ms ≡ some z)
unfolding members_end member_end
going_end lo no_more e = (lo, refl)
going_end lo (member t size align ms) e =
    let f = first_sized t size align ms e in
    let a = given_present align (align_of t) (some_present f.0.aligned_is) in
    let s = given_present size (size_of t) (some_present f.0.own_is) in
    let rest = going_end (up a.0 lo + s.0) ms f.1 in
    (rest.0, ap (λ (end : Option ℕ). members_end end ms) (next_end refl a.1 s.1) ∙ rest.1)

-- ---- their alignment

pub going_align : (ms : Members) → all_sized ms ≡ true → (a : ℕ) × (members_align ms ≡ some a)
unfolding members_align both
going_align no_more e = (1, refl)
going_align (member t size align ms) e =
    let f = first_sized t size align ms e in
    let a = given_present align (align_of t) (some_present f.0.aligned_is) in
    let rest = going_align ms f.1 in
    (max a.0 rest.0, rw (a.1, rest.1))

-- ---- their words

pub going_words : (lo : ℕ) (ms : Members) (z : ℕ) → all_sized ms ≡ true → every_member is_well_formed ms ≡ true → members_given_fit ms ≡ true → members_end (some lo) ms ≡ some z → lo + 2 * words_of_members ms ≤ z
unfolding words_of_members members_end every_member members_given_fit
going_words lo no_more z e w g h = let q : lo ≡ z = cc in omega arith
going_words lo (member t size align ms) z e w g h =
    let f = first_sized t size align ms e in
    let ws = both_hold (everywhere is_well_formed t) (every_member is_well_formed ms) w in
    let gs = both_hold (given_size_fits t size && given_align_fits t align) (members_given_fit ms) g in
    let fit = both_hold (given_size_fits t size) (given_align_fits t align) gs.0 in
    let x = next_member lo t size align ms z h in
    let s = sized t size f.0.own f.0.own_is fit.0 in
    let same : s.given ≡ x.taken = cc (s.given_is, x.size_is) in
    omega (
      arith,
      s.not_below,
      fixed_bounded t f.0.own ws.0 f.0 f.0.own_is,
      up_not_below x.aligned lo (power_positive (member_power t align x.aligned ws.0 fit.1 x.align_is)),
      going_words (up x.aligned lo + x.taken) ms z f.1 ws.1 gs.1 x.rest,
    )
