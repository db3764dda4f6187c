-- A member that was asked for (crates/wgsl, specs/Site, `member_call`).
--
-- In order: as a path of no steps; where it lies; the part that is handed back.
-- Assumes nothing.
use Prim.Native.Nat.{ℕ, ◌+◌, ◌-◌, ◌<◌, ◌≤◌}
use mathlib.Core.Bool.{Bool, cond}
use mathlib.Core.List.{List, []}
use mathlib.Core.Path.{◌≡◌, refl, ap, sym, ◌∙◌}
use native.Mathlib.Omega.{arith}
use borrow.Author.Tests.{leb-true}
use lib.ListN.{length, take, drop}
use Rattle.wgsl.specs.Round.{limit}
use Rattle.wgsl.specs.Said.{Said, good, refused, ◌>>=◌}
use Rattle.wgsl.specs.Place.{span_of}
use Rattle.wgsl.specs.Path as path
use Rattle.wgsl.specs.Path.{walk}
use Rattle.wgsl.specs.Rule.{count_of}
use Rattle.wgsl.specs.Site.{block_in, member_of, member_call}
use Rattle.wgsl.specs.BitField.{bit_at}
use Rattle.wgsl.proofs.Said.{good_not_refused, then_good}
use Rattle.wgsl.proofs.Site.{block_is, block_struct, member_inside, member_low}
use Rattle.said.specs.declared.target.Target.{Target}
use Rattle.said.specs.Target.{target_is, reached, after}
use Rattle.site.specs.declared.spot.Spot.{Spot}
use Rattle.site.specs.Spot.{spot_of, spot_from, spot_at, spot_call}

-- ---- as a path of no steps

then_assoc : {A B C : Type 0} (x : Said A) (g : A → Said B) (h : B → Said C) → ◌>>=◌ (◌>>=◌ x g) h ≡ ◌>>=◌ x (λ a. ◌>>=◌ (g a) h)
unfolding ◌>>=◌
then_assoc (good a) g h = refl
then_assoc (refused n p) g h = refl

module _ (f : List ℕ) (e k mask : ℕ) (a b : List ℕ) where
  -- the member, and then the path
  pub spot_is : (steps : List ℕ) → spot_call f e k steps mask a b ≡ ◌>>=◌ (member_call f e k mask a b) (λ m. spot_from m.offset m.shape steps)
  unfolding spot_call spot_at member_call member_of
  spot_is steps = sym (then_assoc (block_in f e mask a b) _ _)

  pub member_refused : {number place : ℕ} → refused number place ≡ spot_call f e k [] mask a b → refused number place ≡ reached (member_call f e k mask a b)
  unfolding spot_from walk ◌>>=◌
  member_refused {number} {place} h = go (member_call f e k mask a b) (h ∙ spot_is [])
    where
      go : (s : Said path.Target) → refused number place ≡ ◌>>=◌ s (λ m. good (spot_of m.offset m.shape (target_is m))) → refused number place ≡ reached s
      go (good m) q = cc
      go (refused n p) q = cc

  pub member_led : (s : Spot) → good s ≡ spot_call f e k [] mask a b → good s.target ≡ reached (member_call f e k mask a b)
  unfolding spot_from walk ◌>>=◌
  member_led s h = go (member_call f e k mask a b) (h ∙ spot_is [])
    where
      go : (said : Said path.Target) → good s ≡ ◌>>=◌ said (λ m. good (spot_of m.offset m.shape (target_is m))) → good s.target ≡ reached said
      go (good m) q = let same : s ≡ spot_of m.offset m.shape (target_is m) = cc in ap (λ (x : Spot). good x.target) same
      go (refused n p) q = cc

  -- ---- where it lies

  pub record MemberAt (m : path.Target) : Type 0 where
    pub is : member_call f e k mask a b ≡ good m
    pub low : k < 64
    pub in_factory : m.offset + span_of m.shape ≤ length a
    pub in_site : m.offset + span_of m.shape ≤ length b
    pub within : length a ≤ limit

  pub member_at_lem : (m : path.Target) → member_call f e k mask a b ≡ good m → MemberAt m
  unfolding member_call
  member_at_lem m h =
      let q = then_good _ _ h in
      let t = q.value in
      let block = block_is q.first in
      let s = block_struct mask t block.block in
      let inside = member_inside f e mask a b t k m q.first q.after in
      let count = member_low s.kind s.members k m (rw (← s.is) q.after) in
      record {
        is = h;
        low = omega (arith, count, leb-true (count_of s.members) 64 s.few);
        in_factory = omega (arith, inside.1, block.factory_room);
        in_site = omega (arith, inside.1, block.site_room);
        within = omega (arith, block.within);
      }

  pub reached_at : (t : Target) → good t ≡ reached (member_call f e k mask a b) → (m : path.Target) × (t ≡ target_is m) × MemberAt m
  reached_at t h = go (member_call f e k mask a b) refl h
    where
      go : (s : Said path.Target) → member_call f e k mask a b ≡ s → good t ≡ reached s → (m : path.Target) × (t ≡ target_is m) × MemberAt m
      go (good m) e q = (m, cc, member_at_lem m e)
      go (refused n p) e q = good_not_refused (sym q) refl

  pub reached_none : {number place : ℕ} → refused number place ≡ reached (member_call f e k mask a b) → member_call f e k mask a b ≡ refused number place
  reached_none {number} {place} h = go (member_call f e k mask a b) h
    where
      go : (s : Said path.Target) → refused number place ≡ reached s → s ≡ refused number place
      go (good m) q = cc
      go (refused n p) q = cc

-- ---- the part that is handed back

pub shown_part : (on : Bool) (mask k o z o' z' : ℕ) (a b : List ℕ) → on ≡ bit_at mask k → o ≡ o' → z ≡ z' → take (o + z - o) (drop o (cond on b a)) ≡ take z' (drop o' (cond (bit_at mask k) b a))
shown_part on mask k o z o' z' a b e p q =
    let long : o' + z' - o' ≡ z' = omega arith in
    rw (e, p, q, long) refl

pub shown_place : (on : Bool) (mask k o o' : ℕ) (p q : ℕ × ℕ) → on ≡ bit_at mask k → o ≡ o' → after (cond on q p) o ≡ after (cond (bit_at mask k) q p) o'
shown_place on mask k o o' p q e h = rw (e, h) refl
