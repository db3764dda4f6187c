-- A set in a member, step by step (crates/wgsl, specs/Site, `site_set_call`).
--
-- In order: the member and the target, found or not; the words, stored or not.
-- Assumes nothing.
use Prim.Native.Nat.{ℕ}
use mathlib.Core.Bool.{Bool}
use mathlib.Core.List.{List, map}
use mathlib.Core.Path.{◌≡◌, refl, ap, sym, ◌∙◌}
use native.Mathlib.Omega.{arith}
use lib.ListN.{length}
use Rattle.wgsl.specs.Said.{Said, good, refused, ◌>>=◌}
use Rattle.wgsl.specs.Path as path
use Rattle.wgsl.specs.Path.{walk, step_of}
use Rattle.wgsl.specs.Call.{Done, answer_of, contents_of, set_target}
use Rattle.wgsl.specs.BitField.{bit_at}
use Rattle.wgsl.specs.Site.{member_call, copied_in, SiteDone, site_set_call, with_bit, site_answer, site_after, mask_set}
use Rattle.wgsl.proofs.Said.{then_good, then_is, good_not_refused}
use Rattle.wgsl.proofs.Path.{target_inside}
use Rattle.wgsl.proofs.Site.{block_is, member_inside}
use Rattle.said.specs.Target.{target_is}
use Rattle.paths.specs.Set.{InBuffer}
use Rattle.site.specs.declared.spot.Spot.{Spot}
use Rattle.site.specs.Spot.{spot_of, spot_from, spot_call}
use Rattle.site.specs.Set.{brought_in}
use Rattle.site.proofs.MemberFound.{spot_is, MemberAt, member_at_lem}

module _ (f : List ℕ) (e k : ℕ) (steps ws : List ℕ) (mask : ℕ) (a b : List ℕ) where
  -- what a set that stores leaves
  abbrev done_in : Done → SiteDone
  done_in d = record { value = d.value; site = d.contents; mask = with_bit mask k }

  -- ---- the member and the target

  pub record SpotThere (s : Spot) : Type 0 where
    pub m : path.Target
    pub u : path.Target
    pub at : MemberAt f e k mask a b m
    pub led : walk 0 m.offset m.shape (map step_of steps) ≡ good u
    pub is : s ≡ spot_of m.offset m.shape (target_is u)
    pub in_site : InBuffer s.target u (length b)

  pub spot_there : (s : Spot) → good s ≡ spot_call f e k steps mask a b → SpotThere s
  unfolding spot_from member_call
  spot_there s h =
      let q = then_good _ _ (sym (h ∙ spot_is f e k mask a b steps)) in
      let m = q.value in
      let w = then_good _ _ q.after in
      let u = w.value in
      let is : s ≡ spot_of m.offset m.shape (target_is u) = cc w.after in
      let at = member_at_lem f e k mask a b m q.first in
      let block = then_good _ _ q.first in
      let inside = member_inside f e mask a b block.value k m block.first block.after in
      let t = target_inside 0 m.offset m.shape (map step_of steps) u inside.0 w.first in
      record {
        m = m;
        u = u;
        at = at;
        led = w.first;
        is = is;
        in_site = record {
          is = ap (λ (x : Spot). x.target) is;
          sound = t.0;
          inside = omega (arith, t.2, at.in_site);
          within = omega (arith, (block_is block.first).within);
        };
      }

  pub set_stopped : {number place : ℕ} → refused number place ≡ spot_call f e k steps mask a b → site_set_call f e k steps ws mask a b ≡ refused number place
  unfolding site_set_call spot_from ◌>>=◌
  set_stopped {number} {place} h = go (member_call f e k mask a b) (h ∙ spot_is f e k mask a b steps)
    where
      inner : (m : path.Target) (s : Said path.Target) → refused number place ≡ ◌>>=◌ s (λ u. good (spot_of m.offset m.shape (target_is u))) → ◌>>=◌ s (λ target. ◌>>=◌ (set_target target ws (copied_in m mask k a b)) (λ d. good (done_in d))) ≡ refused number place
      inner m (good u) q = cc
      inner m (refused n p) q = cc

      go : (s : Said path.Target) → refused number place ≡ ◌>>=◌ s (λ m. ◌>>=◌ (walk 0 m.offset m.shape (map step_of steps)) (λ u. good (spot_of m.offset m.shape (target_is u)))) → ◌>>=◌ s (λ m. ◌>>=◌ (walk 0 m.offset m.shape (map step_of steps)) (λ target. ◌>>=◌ (set_target target ws (copied_in m mask k a b)) (λ d. good (done_in d)))) ≡ refused number place
      go (good m) q = inner m (walk 0 m.offset m.shape (map step_of steps)) q
      go (refused n p) q = cc

  -- ---- the words

  module _ {s : Spot} (x : SpotThere s) {on : Bool} (told : on ≡ bit_at mask k) where
    -- the rest of the call
    left : site_set_call f e k steps ws mask a b ≡ ◌>>=◌ (set_target x.u ws (brought_in on s.from s.size a b)) (λ d. good (done_in d))
    unfolding site_set_call copied_in brought_in
    left =
        let bytes : copied_in x.m mask k a b ≡ brought_in on s.from s.size a b = rw (x.is, told) refl in
        then_is _ x.at.is ∙ then_is _ x.led ∙ ap (λ (c : List ℕ). ◌>>=◌ (set_target x.u ws c) (λ d. good (done_in d))) bytes

    -- 14 or 16
    pub words_refused : {number place : ℕ} {after : List ℕ} → let said = set_target x.u ws (brought_in on s.from s.size a b) in (refused number place ≡ answer_of said) × (after ≡ contents_of b said) → (site_set_call f e k steps ws mask a b ≡ refused number place) × (after ≡ b)
    unfolding answer_of contents_of ◌>>=◌
    words_refused {number} {place} {after} h = go (set_target x.u ws (brought_in on s.from s.size a b)) left h.0 h.1
      where
        go : (said : Said Done) → site_set_call f e k steps ws mask a b ≡ ◌>>=◌ said (λ d. good (done_in d)) → refused number place ≡ answer_of said → after ≡ contents_of b said → (site_set_call f e k steps ws mask a b ≡ refused number place) × (after ≡ b)
        go (good d) l p q = good_not_refused refl (sym p)
        go (refused n m) l p q = (l ∙ cc, q)

    -- stored
    pub words_stored : {at : ℕ} {after : List ℕ} → let said = set_target x.u ws (brought_in on s.from s.size a b) in (good at ≡ answer_of said) × (after ≡ contents_of b said) → site_set_call f e k steps ws mask a b ≡ good (record { value = at; site = after; mask = with_bit mask k })
    unfolding answer_of contents_of ◌>>=◌
    words_stored {at} {after} h = go (set_target x.u ws (brought_in on s.from s.size a b)) left h.0 h.1
      where
        go : (said : Said Done) → site_set_call f e k steps ws mask a b ≡ ◌>>=◌ said (λ d. good (done_in d)) → good at ≡ answer_of said → after ≡ contents_of b said → site_set_call f e k steps ws mask a b ≡ good (record { value = at; site = after; mask = with_bit mask k })
        go (good d) l p q = let value : at ≡ d.value = cc in l ∙ rw (value, q) refl
        go (refused n m) l p q = good_not_refused refl p

-- ---- what is answered, and what is lent

pub site_refused : {said : Said SiteDone} {number place : ℕ} (site : List ℕ) (mask : ℕ) → said ≡ refused number place → (refused number place ≡ site_answer said) × (site ≡ site_after site said) × (mask ≡ mask_set mask said)
unfolding site_answer site_after mask_set
site_refused site mask e = (ap site_answer (sym e), ap (site_after site) (sym e), ap (mask_set mask) (sym e))

pub site_done_lem : {said : Said SiteDone} {at new : ℕ} {after : List ℕ} (site : List ℕ) (mask : ℕ) → said ≡ good (record { value = at; site = after; mask = new }) → (good at ≡ site_answer said) × (after ≡ site_after site said) × (new ≡ mask_set mask said)
unfolding site_answer site_after mask_set
site_done_lem site mask e = (ap site_answer (sym e), ap (site_after site) (sym e), ap (mask_set mask) (sym e))
