-- The two starts of a site block, and any sets and clears after them (specs/StartClaim).
--
-- In order: both starts agree; a fresh block and another factory buffer; an inheriting one.
-- Assumes nothing.
use Prim.Native.Nat.{ℕ}
use mathlib.Core.List.{List}
use mathlib.Core.Bool.{Bool, true, cond}
use mathlib.Core.Logic.{inl, inr}
use mathlib.Core.Path.{◌≡◌, refl, ap, sym, ◌∙◌}
use Rattle.wgsl.specs.Types.{Ty}
use Rattle.wgsl.specs.Said.{good}
use Rattle.wgsl.specs.Path.{Target}
use Rattle.wgsl.specs.Site.{block_in, shown_in, SiteDone, inheriting_call, fresh_call}
use Rattle.wgsl.specs.SiteClaim.{bytes_in, shown_bytes}
use Rattle.wgsl.specs.StartClaim.{Kept, made_fresh, made_inheriting, Change, answers_to, left_after, never_sets, ShowAlike, Independent}
use Rattle.wgsl.proofs.Site.{block_is, block_if, block_struct, inheriting_shows}
use Rattle.wgsl.proofs.Start.{every_bit_lem, member_bit, fresh_did}
use Rattle.wgsl.proofs.Changes.{in_type, left_blocks, list_answers, list_alike, stays_set, stays_clear}

-- ---- both starts agree

-- Two blocks of one type that show alike do so after any sets and clears, which are answered alike.
pub changes_alike : {f : List ℕ} {e : ℕ} {factory : List ℕ} {t : Ty} {a b : Kept} → ShowAlike f e factory t a b → (cs : List Change) → (answers_to f e factory cs a ≡ answers_to f e factory cs b) × ShowAlike f e factory t (left_after f e factory cs a) (left_after f e factory cs b)
changes_alike {f} {e} {factory} {t} {a} {b} z cs =
    let p = block_is z.first in
    let q = block_is z.second in
    let here = left_blocks cs a p in
    let there = left_blocks cs b q in (
      list_answers cs a b p q,
      record {
        first = block_if here;
        second = block_if there;
        asks = λ k. in_type here k ∙ sym (in_type there k);
        shows = λ k n found.
            (list_alike found cs a b (inr refl) (record { here = p; there = q; same = z.shows k n found })).same;
      },
    )

module _ (f : List ℕ) (e : ℕ) (factory site : List ℕ) (d : SiteDone) (start : fresh_call f e factory site ≡ good d) where
  -- From either start any sets and clears are answered alike, and every member shows the same bytes.
  pub starts_agree : (mask : ℕ) → inheriting_call f e ≡ good mask → (other : List ℕ) (t : Ty) → block_in f e mask factory other ≡ good t → (cs : List Change) → (answers_to f e factory cs (made_fresh d) ≡ answers_to f e factory cs (made_inheriting other mask)) × ShowAlike f e factory t (left_after f e factory cs (made_fresh d)) (left_after f e factory cs (made_inheriting other mask))
  unfolding shown_in
  starts_agree mask h other t g cs =
      let (u, x) = fresh_did start in
      let zero = inheriting_shows f e mask h in
      let y = block_is g in
      let same : u ≡ t = cc ((block_is x.block).entry, y.entry) in
      let p : block_in f e d.mask factory d.site ≡ good t = x.again factory x.block ∙ ap good same in
      changes_alike (record {
        first = p;
        second = g;
        asks = λ k. in_type (block_is p) k ∙ sym (in_type y k);
        shows = λ k n found.
            x.shows k n (rw same found) factory
            ∙ sym (ap (λ (b : Bool). bytes_in n (cond b other factory)) (zero.1 k));
      }) cs

  -- ---- a fresh block and another factory buffer

  -- It does not depend on the factory buffer until a member is cleared.
  pub fresh_independent : (other : List ℕ) (t : Ty) → block_in f e 0 other site ≡ good t → (cs : List Change) → Independent f e factory other t cs (made_fresh d)
  unfolding shown_in
  fresh_independent other t g cs =
      let (u, x) = fresh_did start in
      let same : u ≡ t = cc ((block_is x.block).entry, (block_is g).entry) in
      let p = block_is (x.again factory x.block ∙ ap good same) in
      let q = block_is (x.again other (g ∙ ap good (sym same)) ∙ ap good same) in
      record {
        answers = list_answers cs (made_fresh d) (made_fresh d) p q;
        shows = λ k n found never y z.
            let there = rw (← same) at found in
            let bit = x.bits k ∙ sym (every_bit_lem u k) ∙ member_bit (block_struct 0 u (block_is x.block).block) k n there in
            let on = stays_set f e factory k cs (made_fresh d) never bit in
            let on' = stays_set f e other k cs (made_fresh d) never bit in
            let alike = (list_alike found cs (made_fresh d) (made_fresh d) (inl never) (record { here = p; there = q; same = x.shows k n there factory ∙ sym (x.shows k n there other) })).same in
            rw (on, on') (rw (on, on') at alike);
      }

-- ---- an inheriting block

-- An inheriting one shows of a member what the factory buffer beside it holds, until a scalar is set in it.
pub inheriting_follows : (f : List ℕ) (e mask : ℕ) → inheriting_call f e ≡ good mask → (factory site : List ℕ) (cs : List Change) (k : ℕ) → never_sets k cs ≡ true → (n : Target) (x : List ℕ) → shown_bytes n (left_after f e factory cs (made_inheriting site mask)).mask k x (left_after f e factory cs (made_inheriting site mask)).site ≡ bytes_in n x
unfolding shown_in
inheriting_follows f e mask h factory site cs k never n x =
    ap (λ (b : Bool). bytes_in n (cond b (left_after f e factory cs (made_inheriting site mask)).site x))
    (stays_clear f e factory k cs (made_inheriting site mask) never ((inheriting_shows f e mask h).1 k))
