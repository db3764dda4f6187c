-- Laws of the positions of members by their keys (specs/Keyed).
--
-- In order: those of an alignment; those of runtime arrays.
-- Assumes nothing.
use Prim.Native.Nat.{ℕ, suc, ◌^◌, ◌<◌}
use mathlib.Core.List.{List}
use mathlib.Core.Option.{Option}
use mathlib.Core.Path.{◌≡◌, refl}
use native.Mathlib.Omega.{arith}
use borrow.Author.Tests.{ne_eqb}
use lib.Pow.{pow_pos}
use Rattle.wgsl.specs.Types.{Ty, Members, no_more, member, is_runtime}
use Rattle.wgsl.specs.Size.{given_or, is_present, present, align_of}
use Rattle.wgsl.specs.Rule.{member_allowed}
use Rattle.wgsl.specs.Order.{aligned_at, runtimes_at}
use Rattle.wgsl.proofs.Absent.{both_hold, yes_or_no, present_some}
use Rattle.wgsl.proofs.OrderMember.{given_power}
use Rattle.orders_members.specs.Entries.{Entered, Entries, none, more, key_of}
use Rattle.orders_plan.specs.Keyed.{keyed_at}
use Rattle.layout_values.specs.declared.value.Value.{Value}

-- A runtime array's key, 0, is no power of two.
pub keyed_aligned : (j i : ℕ) (ms : Members) → keyed_at (2 ^ j) i ms ≡ aligned_at (2 ^ j) i ms
unfolding keyed_at aligned_at key_of
keyed_aligned j i no_more = refl
keyed_aligned j i (member t size align ms) =
    yes_or_no (is_runtime t) (λ h. rw (h, ne_eqb 0 (2 ^ j) (λ e. omega (arith, pow_pos j)), keyed_aligned j (suc i) ms))
    (λ h. rw (h, keyed_aligned j (suc i) ms))

-- The key of any other member is a power of two, and so above 0.
key_power : {bytes : List ℕ} {table : List Value} {m : ℕ} {t : Ty} {size align : Option ℕ} → Entered bytes table m t size align → (j : ℕ) × (j < 32) × (present (given_or align (align_of t)) ≡ 2 ^ j)
unfolding member_allowed
key_power {t = t} {align = align} e =
    let own = present_some (align_of t) (both_hold (is_present (align_of t)) _ e.allowed).0 in
    given_power t align own.0 e.well_formed e.align_fits own.1

pub keyed_runtimes : {bytes : List ℕ} {table : List Value} {long n m : ℕ} {ms : Members} → Entries bytes table long n m ms → (i : ℕ) → keyed_at 0 i ms ≡ runtimes_at i ms
unfolding keyed_at runtimes_at key_of
keyed_runtimes none i = refl
keyed_runtimes (more {t = t} {align = align} e rest) i =
    let p = key_power e in
    yes_or_no (is_runtime t) (λ h. rw (h, keyed_runtimes rest (suc i)))
    (λ h. rw (h, ne_eqb (present (given_or align (align_of t))) 0 (λ z. omega (arith, p.2, pow_pos p.0)), keyed_runtimes rest (suc i)))
