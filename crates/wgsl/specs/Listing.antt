-- The text of the listing program (01, "Values on each side of an edge", from "The program reads").
--
-- In order: characters; numbers in decimal; the lines. A text is a list of bytes in ASCII, and each line ends in a newline.
-- Definitions only. Assumes nothing.
use Rattle.std.specs.Prelude.{ℕ, zero, suc, ◌+◌, ◌/◌, ◌%◌, List, [], ◌∷◌, ◌++◌, Bool, cond, ◌||◌, length, eqb, ltb}
use Rattle.std.proofs.Math.Option.{Option, none, some}
use Rattle.wgsl.specs.Types.{Ty}
use Rattle.wgsl.specs.Size.{size_of, align_of, own_stride_of}
use Rattle.wgsl.specs.Said.{Said, good, refused}
use Rattle.wgsl.specs.File.{between}
use Rattle.wgsl.specs.Rule.{types_of}

-- `entries `
unfoldable pub entries_text : List ℕ
entries_text = 101 ∷ 110 ∷ 116 ∷ 114 ∷ 105 ∷ 101 ∷ 115 ∷ 32 ∷ []

-- `refused `
unfoldable pub refused_text : List ℕ
refused_text = 114 ∷ 101 ∷ 102 ∷ 117 ∷ 115 ∷ 101 ∷ 100 ∷ 32 ∷ []

-- ` at `
unfoldable pub at_text : List ℕ
at_text = 32 ∷ 97 ∷ 116 ∷ 32 ∷ []

unfoldable pub space : List ℕ
space = 32 ∷ []

unfoldable pub newline : List ℕ
newline = 10 ∷ []

-- `-`
unfoldable pub dash : List ℕ
dash = 45 ∷ []

-- a number of at most so many digits
unfoldable pub decimal_in : ℕ → ℕ → List ℕ
decimal_in zero n = []
decimal_in (suc digits) n = cond (ltb n 10) ((48 + n) ∷ []) (decimal_in digits (n / 10) ++ ((48 + n % 10) ∷ []))

-- 4,294,967,295 has ten
unfoldable pub decimal : ℕ → List ℕ
decimal n = decimal_in 10 n

-- "`-` standing for an absent number"
unfoldable pub or_dash : Option ℕ → List ℕ
or_dash (some n) = decimal n
or_dash none = dash

-- a column after the first
unfoldable pub column : Option ℕ → List ℕ
column n = space ++ or_dash n

-- entry k: its number, its size, its alignment and, "a fourth column" (E1), its stride
unfoldable pub entry_line : ℕ → Ty → List ℕ
entry_line k t = decimal k ++ column (size_of t) ++ column (align_of t) ++ column (own_stride_of t) ++ newline

-- the lines of the entries from number k on
unfoldable pub entry_lines : ℕ → List Ty → List ℕ
entry_lines k [] = []
entry_lines k (t ∷ ts) = entry_line k t ++ entry_lines (suc k) ts

-- "for 5 to 7"; E12, of 24: "the program writes it as for 5 to 7"
unfoldable pub has_place : ℕ → Bool
has_place number = between 5 7 number || eqb number 24

-- "a bad file gives `refused 2`, or `refused 5 at 1` for 5 to 7"
unfoldable pub refused_line : ℕ → ℕ → List ℕ
refused_line number place =
    refused_text ++ decimal number ++ cond (has_place number) (at_text ++ decimal place) [] ++ newline

unfoldable pub listed : Said (List Ty) → List ℕ
listed (good ts) = entries_text ++ decimal (length ts) ++ newline ++ entry_lines 0 ts
listed (refused number place) = refused_line number place

-- "The program reads at most 65,536 bytes of standard input (more: `refused 17`)."
unfoldable pub input_limit : ℕ
input_limit = 65_536

unfoldable pub listing_of : List ℕ → List ℕ
listing_of f = cond (ltb input_limit (length f)) (refused_line 17 0) (listed (types_of f))
