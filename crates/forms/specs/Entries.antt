-- Member entries one after the other, in another form.
-- Definitions only. Assumes nothing.
use Rattle.std.specs.Prelude.{ℕ, zero, suc, ◌+◌, ◌-◌, List, [], ◌++◌, length, take, drop}
use Rattle.wgsl.specs.File.{trailer_length, member_fields_length}

-- the fields of n member entries of so many bytes each, the first at `from`, each with `name` after them
unfoldable pub entries_from : List ℕ → ℕ → List ℕ → ℕ → ℕ → List ℕ
entries_from f long name zero from = []
entries_from f long name (suc n) from = (take member_fields_length (drop from f) ++ name) ++ entries_from f long name n (from + long)

-- the bytes before the member entries, which begin at `from`, these, and the trailer with the bytes of another form
unfoldable pub file_with : List ℕ → ℕ → ℕ → ℕ → List ℕ → List ℕ → List ℕ
file_with f from long members name form =
    take from f ++ (entries_from f long name members from ++ (take 8 (drop (length f - trailer_length) f) ++ form))
