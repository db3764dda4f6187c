-- What a call says: a value, or a refusal's number and place (01, "Numbers that say no").
--
-- A call's definition is a list of steps, each of which may refuse: the first that does is the answer, so the order of the steps is the
-- order of the refusals.
-- Definitions only. Assumes nothing.
use Rattle.std.specs.Prelude.{ℕ, Bool, true, false}
use Rattle.std.proofs.Math.Option.{Option, none, some}

-- "A refusal .. returns its number with a place"
pub data Said (A : Type 0) : Type 0 where
  good : A → Said A
  refused : ℕ → ℕ → Said A

-- one step and then, with its value, the rest
unfoldable pub ◌>>=◌ : {A B : Type 0} → Said A → (A → Said B) → Said B
◌>>=◌ (good a) rest = rest a
◌>>=◌ (refused number place) rest = refused number place

unfoldable pub ◌>>◌ : {A B : Type 0} → Said A → Said B → Said B
◌>>◌ (good a) rest = rest
◌>>◌ (refused number place) rest = refused number place

-- refuses where the test holds
unfoldable pub refuse : ℕ → ℕ → Bool → Said (Unit {0})
refuse number place true = refused number place
refuse number place false = good tt

-- the value, or a refusal where there is none
unfoldable pub or_refuse : {A : Type 0} → ℕ → ℕ → Option A → Said A
or_refuse number place (some a) = good a
or_refuse number place none = refused number place
