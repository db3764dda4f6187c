-- The two starts of a block, step by step (crates/wgsl, specs/Site).
--
-- In order: an inheriting block; the bytes copied; a fresh block.
-- Assumes nothing.
use Prim.Native.Nat.{ℕ}
use mathlib.Core.List.{List}
use mathlib.Core.Path.{◌≡◌}
use Rattle.wgsl.specs.Types.{Ty}
use Rattle.wgsl.specs.Said.{good, refused}
use Rattle.wgsl.specs.Site.{block_entry, block_in, every_bit, copied_whole, inheriting_call, fresh_call}
use Rattle.wgsl.proofs.Said.{then_is, then_refused}

-- ---- an inheriting block

module _ (f : List ℕ) (e : ℕ) where
  pub inheriting_missing : {number place : ℕ} → block_entry f e 0 0 ≡ refused number place → inheriting_call f e ≡ refused number place
  unfolding inheriting_call
  inheriting_missing h = then_refused _ h

  pub inheriting_there : {t : Ty} → block_entry f e 0 0 ≡ good t → inheriting_call f e ≡ good 0
  unfolding inheriting_call
  inheriting_there h = then_is _ h

  -- ---- a fresh block

  module _ (a b : List ℕ) where
    pub fresh_stopped : {number place : ℕ} → block_in f e 0 a b ≡ refused number place → fresh_call f e a b ≡ refused number place
    unfolding fresh_call
    fresh_stopped h = then_refused _ h

    pub fresh_there : {t : Ty} → block_in f e 0 a b ≡ good t → fresh_call f e a b ≡ good (record { value = 0; site = copied_whole t a b; mask = every_bit t })
    unfolding fresh_call
    fresh_there h = then_is _ h
