-- The entry of a block, step by step (specs/Block).
--
-- In order: 17 to 21; the block, found or not.
-- Assumes nothing.
use Prim.Native.Nat.{ℕ}
use mathlib.Core.Bool.{true, false, not}
use mathlib.Core.List.{List}
use mathlib.Core.Path.{◌≡◌, refl, ap, sym, ◌∙◌}
use Rattle.wgsl.specs.Types.{Ty}
use Rattle.wgsl.specs.Said.{Said, good, refused, refuse, ◌>>◌, ◌>>=◌}
use Rattle.wgsl.specs.Call.{entry_of, allowed}
use Rattle.wgsl.specs.Site.{is_block, block_entry}
use Rattle.wgsl.proofs.Said.{then_is}
use Rattle.layout_table.specs.Table.{ground_in}
use Rattle.site.specs.Block.{block_allowed, block_ground}

-- ---- 17 to 21

module _ (mask : ℕ) (t : Ty) (bytes : ℕ) where
  pub block_stopped : {number place : ℕ} → refused number place ≡ allowed true t bytes → refused number place ≡ block_allowed mask t bytes
  unfolding block_allowed ◌>>◌
  block_stopped e = rw (← e) refl

  pub block_none : good tt ≡ allowed true t bytes → is_block mask t ≡ false → refused 21 0 ≡ block_allowed mask t bytes
  unfolding block_allowed ◌>>◌ refuse
  block_none e none = rw (← e, none) refl

  pub block_good : good tt ≡ allowed true t bytes → is_block mask t ≡ true → good tt ≡ block_allowed mask t bytes
  unfolding block_allowed ◌>>◌ refuse
  block_good e is = rw (← e, is) refl

-- ---- the block, found or not

-- two steps and then the rest
steps_stopped : {A B : Type 0} {number place : ℕ} (a b : Said (Unit {0})) (t : A) (rest : A → Said B) → refused number place ≡ ◌>>◌ a b → refused number place ≡ ◌>>=◌ (◌>>◌ a (◌>>◌ b (good t))) rest
unfolding ◌>>◌ ◌>>=◌
steps_stopped (good u) (good v) t rest e = cc
steps_stopped (good u) (refused n p) t rest e = cc
steps_stopped (refused n p) b t rest e = cc

steps_done : {A B : Type 0} (a b : Said (Unit {0})) (t : A) (rest : A → Said B) → good tt ≡ ◌>>◌ a b → rest t ≡ ◌>>=◌ (◌>>◌ a (◌>>◌ b (good t))) rest
unfolding ◌>>◌ ◌>>=◌
steps_done (good u) (good v) t rest e = refl
steps_done (good u) (refused n p) t rest e = cc
steps_done (refused n p) b t rest e = cc

module _ (f : List ℕ) (e mask bytes : ℕ) where
  pub ground_missing : {number place : ℕ} → entry_of f e ≡ refused number place → refused number place ≡ block_ground f e mask bytes
  unfolding block_ground block_entry ◌>>=◌
  ground_missing h = rw h refl

  module _ {t : Ty} (there : entry_of f e ≡ good t) where
    entered : block_ground f e mask bytes ≡ ◌>>=◌ (◌>>◌ (allowed true t bytes) (◌>>◌ (refuse 21 0 (not (is_block mask t))) (good t))) (λ u. ground_in f e)
    unfolding block_ground block_entry
    entered = ap (λ (x : Said Ty). ◌>>=◌ x (λ u. ground_in f e)) (then_is _ there)

    pub ground_stopped : {number place : ℕ} → refused number place ≡ block_allowed mask t bytes → refused number place ≡ block_ground f e mask bytes
    unfolding block_allowed
    ground_stopped h = steps_stopped (allowed true t bytes) (refuse 21 0 (not (is_block mask t))) t (λ u. ground_in f e) h ∙ sym entered

    pub ground_found : good tt ≡ block_allowed mask t bytes → ground_in f e ≡ block_ground f e mask bytes
    unfolding block_allowed
    ground_found h = steps_done (allowed true t bytes) (refuse 21 0 (not (is_block mask t))) t (λ u. ground_in f e) h ∙ sym entered
