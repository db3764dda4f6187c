-- The positions of members by their keys, as they stand.
-- Definitions only. Assumes nothing.
use Rattle.std.specs.Prelude.{ℕ, suc, cond, List, [], ◌∷◌, eqb}
use Rattle.wgsl.specs.Types.{Members, no_more, member}
use Rattle.orders_members.specs.Entries.{key_of}

-- the positions, from i on, of the members with this key
unfoldable pub keyed_at : ℕ → ℕ → Members → List ℕ
keyed_at key i no_more = []
keyed_at key i (member t size align ms) =
    cond (eqb (key_of t align) key) (i ∷ keyed_at key (suc i) ms) (keyed_at key (suc i) ms)
