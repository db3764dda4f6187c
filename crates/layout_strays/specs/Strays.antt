-- The entries of a file, and its members, marked or not.
-- Definitions only. Assumes nothing.
use Rattle.std.specs.Prelude.{ℕ, ◌+◌, ◌*◌, ◌/◌, ◌%◌, ◌<◌, ◌≤◌, Bool, List, ◌≡◌, length, get_or}
use Rattle.wgsl.specs.BitField.{bit_at}
use Rattle.wgsl.specs.File.{trailer_of, type_entry_length}
use Rattle.wgsl.specs.Rule.{is_named}

-- so many type entries lie in the file, from `start` on
pub record Entries (f : List ℕ) (start types : ℕ) : Type 0 where
  pub start_is : start ≡ (trailer_of f).start
  pub inside : start + type_entry_length * types ≤ length f

-- member m's mark, of words of 64 marks
unfoldable pub mark_at : List ℕ → ℕ → Bool
mark_at named m = bit_at (get_or named (m / 64) 0) (m % 64)

-- of the lowest members, so many, those are marked that a struct below entry n names
abbrev pub Marks : List ℕ → ℕ → ℕ → List ℕ → Type 0
Marks f n members named = (m : ℕ) → m < members → mark_at named m ≡ is_named f n m
