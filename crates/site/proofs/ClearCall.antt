-- A member cleared, step by step (crates/wgsl, specs/Site; specs/Clear).
-- Assumes nothing.
use Rattle.std.specs.Prelude.{Err}
use Prim.Native.Nat.{ℕ, ◌<◌}
use mathlib.Core.List.{List}
use mathlib.Core.Path.{◌≡◌, refl, ap, sym, ◌∙◌}
use native.Mathlib.Omega.{arith}
use borrow.Author.Tests.{leb-true}
use Rattle.wgsl.specs.Types.{Ty}
use Rattle.wgsl.specs.Said.{Said, good, refused, ◌>>=◌}
use Rattle.wgsl.specs.Place.{Shape, shape_of}
use Rattle.wgsl.specs.Path as path
use Rattle.wgsl.specs.Path.{Target, enter}
use Rattle.wgsl.specs.Rule.{count_of}
use Rattle.wgsl.specs.Site.{block_entry, member_of, clear_call, without_bit, zero_of, mask_after}
use Rattle.wgsl.proofs.Said.{then_good, then_is, then_refused}
use Rattle.wgsl.proofs.Site.{block_struct, is_entry, member_low}
use Rattle.said.specs.Answer.{said}
use Rattle.walk_path.specs.declared.enter.NoStep.{NoStep}
use Rattle.walk_path.specs.declared.enter.NoStep.TheVariants.{NoMember, PastEnd, NoIndex}
use Rattle.walk_path.specs.Step.{refusal_at}
use Rattle.walk_path.specs.Way.{Enters}
use Rattle.site.specs.Clear.{there_in, can_clear}

-- ---- a member that is there, or not

module _ (x : Shape) (k : ℕ) where
  pub there_good : {m : Target} → enter 0 x (path.member k) ≡ good m → good tt ≡ there_in x k
  unfolding there_in
  there_good h = sym (then_is _ h)

  pub there_none : (ts : List Ty) (why : NoStep) → Enters ts 0 (Err why) x (path.member k) → said (Err (refusal_at why 0)) ≡ there_in x k
  unfolding Enters there_in
  there_none ts NoMember bad = sym (then_refused _ (bad 0))
  there_none ts PastEnd bad = sym (then_refused _ (bad 0))
  there_none ts NoIndex bad = sym (then_refused _ (bad 0))

-- ---- whether it can be cleared

module _ (f : List ℕ) (e k mask : ℕ) where
  pub can_missing : {number place : ℕ} → block_entry f e mask 0 ≡ refused number place → refused number place ≡ can_clear f e k mask
  unfolding can_clear
  can_missing h = sym (then_refused _ h)

  pub can_there : {t : Ty} → block_entry f e mask 0 ≡ good t → there_in (shape_of 0 t) k ≡ can_clear f e k mask
  unfolding can_clear
  can_there h = sym (then_is _ h)

  -- ---- cleared

  -- what `clear_call` says, by what `can_clear` says
  by_can : clear_call f e k mask ≡ ◌>>=◌ (can_clear f e k mask) (λ u. good (without_bit mask k))
  unfolding clear_call can_clear there_in member_of ◌>>=◌
  by_can = go (block_entry f e mask 0)
    where
      inner : {A : Type 0} (s : Said A) → ◌>>=◌ s (λ m. good (without_bit mask k)) ≡ ◌>>=◌ (◌>>=◌ s (λ m. good (tt {0}))) (λ u. good (without_bit mask k))
      inner (good m) = refl
      inner (refused n p) = refl

      go : (s : Said Ty) → ◌>>=◌ s (λ t. ◌>>=◌ (enter 0 (shape_of 0 t) (path.member k)) (λ m. good (without_bit mask k))) ≡ ◌>>=◌ (◌>>=◌ s (λ t. ◌>>=◌ (enter 0 (shape_of 0 t) (path.member k)) (λ m. good (tt {0})))) (λ u. good (without_bit mask k))
      go (good t) = inner (enter 0 (shape_of 0 t) (path.member k))
      go (refused n p) = refl

  pub clear_refused : {number place : ℕ} → refused number place ≡ can_clear f e k mask → clear_call f e k mask ≡ refused number place
  unfolding ◌>>=◌
  clear_refused h = by_can ∙ rw (← h) refl

  pub clear_good : good tt ≡ can_clear f e k mask → clear_call f e k mask ≡ good (without_bit mask k)
  unfolding ◌>>=◌
  clear_good h = by_can ∙ rw (← h) refl

  -- a member that can be cleared is one of the first 64
  pub clear_low : good tt ≡ can_clear f e k mask → k < 64
  unfolding can_clear there_in member_of
  clear_low h =
      let q = then_good _ _ (sym h) in
      let t = q.value in
      let m = then_good _ _ q.after in
      let s = block_struct mask t (is_entry q.first).block in
      let count = member_low s.kind s.members k m.value (rw (← s.is) m.first) in
      omega (arith, count, leb-true (count_of s.members) 64 s.few)

-- ---- what is answered, and the mask

pub mask_refused : {said : Said ℕ} {number place : ℕ} (before : ℕ) → said ≡ refused number place → (refused number place ≡ zero_of said) × (before ≡ mask_after before said)
unfolding zero_of mask_after
mask_refused before e = (ap zero_of (sym e), ap (mask_after before) (sym e))

pub mask_done : {said : Said ℕ} {mask : ℕ} (before : ℕ) → said ≡ good mask → (good 0 ≡ zero_of said) × (mask ≡ mask_after before said)
unfolding zero_of mask_after
mask_done before e = (ap zero_of (sym e), ap (mask_after before) (sym e))
