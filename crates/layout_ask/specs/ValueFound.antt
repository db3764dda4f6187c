-- The value of an entry, found in the table, in the words of crates/wgsl.
-- Definitions only. Assumes nothing.
use Rattle.std.specs.Prelude.{ℕ, cond, List, eqb}
use Rattle.std.proofs.Math.Option.{Option, none, some}
use Rattle.wgsl.specs.Said.{Said, good, ◌>>=◌}
use Rattle.wgsl.specs.File.{type_entry_at}
use Rattle.wgsl.specs.Call.{entry_of}
use Rattle.file.specs.Members.{member_length}
use Rattle.layout_values.specs.declared.value.Value.{Value}
use Rattle.layout_values.specs.Value.{value_of}

unfoldable pub value_found : List ℕ → ℕ → Said Value
value_found f e = do
  t ← entry_of f e
  good (value_of (member_length f) (type_entry_at f e).reference t)

-- a number that is above 0, or an absent one
unfoldable pub marked : ℕ → Option ℕ
marked n = cond (eqb n 0) none (some n)
