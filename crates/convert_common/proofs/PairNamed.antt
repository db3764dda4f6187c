-- Two entries of an accepted file (crates/convert_rank, specs/Ranked), exchanged and by other names.
-- Assumes nothing.
use Prim.Native.Nat.{ℕ}
use mathlib.Core.List.{List}
use mathlib.Core.Option.{Option, some}
use mathlib.Core.Path.{◌≡◌, sym, ◌∙◌}
use lib.ListN.{get_or, get_elem?}
use Rattle.wgsl.specs.Types.{bool, Ty, scalar}
use Rattle.wgsl.specs.Said.{good}
use Rattle.wgsl.specs.Rule.{types_of}
use Rattle.wgsl.specs.Rank.{rank_of}
use Rattle.convert_rank.specs.Ranked.{Pair}
use Rattle.wgsl.proofs.AtEntry.{get_elem_get_d}

module _ {f : List ℕ} {ts : List Ty} {start a b : ℕ} (p : Pair f ts start a b) where
  pub swapped : Pair f ts start b a
  swapped = record { accepted = p.accepted; start_is = p.start_is; first = p.second; second = p.first }

  module _ {x y : ℕ} (x_is : x ≡ a) (y_is : y ≡ b) where
    -- What is said of the types of entries x and y is said of the types that a and b name.
    pub rank_named : {o r : Option ℕ} → o ≡ r → ((ts : List Ty) (s t : Ty) → types_of f ≡ good ts → get_elem? ts x ≡ some s → get_elem? ts y ≡ some t → o ≡ rank_of s t) → rank_of (get_or ts a (scalar bool)) (get_or ts b (scalar bool)) ≡ r
    rank_named e h =
        let s_is = get_elem_get_d ts a (scalar bool) p.first in
        let t_is = get_elem_get_d ts b (scalar bool) p.second in
        sym (h ts _ _ p.accepted (rw x_is s_is) (rw y_is t_is)) ∙ e
