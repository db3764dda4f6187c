-- The call from the entry that is found (crates/walk_decide, specs/Meant) on: 9 and 10, then 19.
-- Assumes nothing.
use Prim.Native.Nat.{ℕ, ◌<◌}
use mathlib.Core.List.{List}
use mathlib.Core.Path.{◌≡◌, sym, ◌∙◌}
use lib.ListN.{length}
use Rattle.wgsl.specs.Types.{Ty}
use Rattle.wgsl.specs.Said.{good, refused, ◌>>◌}
use Rattle.wgsl.specs.Uniform.{may_live, uniform_call}
use Rattle.wgsl.proofs.AtEntry.{get_elem_low}
use Rattle.wgsl.proofs.Uniform.{Asked, call_is}
use Rattle.layout_table.specs.declared.Ground.{Ground}
use Rattle.walk_decide.specs.Meant.{Meant}
use Rattle.uniform.specs.Lowest.{IsLowest, verdict_of}
use Rattle.uniform.proofs.LowestBy.{few_entries, verdict_is}
use Rattle.layout_values.specs.declared.value.Value.{Value}

module _ {f : List ℕ} {e : ℕ} {g : Ground} {table : List Value} {t : Ty} (x : Meant f e g table t) where
  asked : Asked f x.types e t
  asked = record { good_file = x.basis.good_file; there = x.there }

  -- The entry is one of the file's.
  pub entry_low : e < length x.types
  entry_low = get_elem_low x.types e x.there

  -- Where 9 or 10 stops it, the call is refused so;
  pub live_refused : {number place : ℕ} → refused number place ≡ may_live t → refused number place ≡ uniform_call f e
  unfolding ◌>>◌
  live_refused h = sym (call_is asked ∙ rw (← h))

  -- else the lowest broken entry decides.
  pub live_passed : good tt ≡ may_live t → (n : ℕ) → IsLowest f x.types e n → verdict_of n ≡ uniform_call f e
  unfolding ◌>>◌
  live_passed h n low =
      verdict_is asked (few_entries x.basis e entry_low) n low ∙ sym (call_is asked ∙ rw (← h))
