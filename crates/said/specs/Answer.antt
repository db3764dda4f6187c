-- What the answers of the questions say.
-- Definitions only. Assumes nothing.
use Rattle.std.specs.Prelude.{ℕ, List, ◌≡◌, Err, None, Ok, Option, Result, Some}
use Rattle.std.proofs.Math.Option as math
use Rattle.wgsl.specs.Said.{Said, good, refused}
use Rattle.wgsl.specs.Call as wgsl
use Rattle.wgsl.specs.Clean.{CleanDone, clean_after}
use Rattle.said.specs.Refusal.{number_of, place_of}
use Rattle.said.specs.declared.answer.Gaps.{Gaps}
use Rattle.said.specs.declared.answer.Sizes.{Sizes}
use Rattle.said.specs.declared.refusal.Refusal.{Refusal}

-- what any answer says: its value, or the number and the place of its refusal
abbrev pub said : {A : Type 0} → Result A Refusal → Said A
said (Ok a) = good a
said (Err r) = refused (number_of r) (place_of r)

-- what a clean changed, of all that it has done
abbrev pub gaps_is : CleanDone → Gaps
gaps_is d = record { changed = d.changed; first = d.first }

abbrev pub gaps_of : Said CleanDone → Said Gaps
gaps_of (good d) = good (gaps_is d)
gaps_of (refused number place) = refused number place

abbrev pub maybe_of : Option ℕ → math.Option ℕ
maybe_of None = math.none
maybe_of (Some n) = math.some n

abbrev pub layout_is : Sizes → wgsl.Layout
layout_is s =
    record {
      size = maybe_of s.size;
      align = maybe_of s.align;
      min_size = maybe_of s.min;
      stride = maybe_of s.stride;
    }

abbrev pub said_answer : Result Sizes Refusal → Said wgsl.Layout
said_answer (Ok s) = good (layout_is s)
said_answer (Err r) = refused (number_of r) (place_of r)

-- the answer r, and `before` and `after` of what was lent to change, are what a call says
abbrev pub Answered : Said wgsl.Done → Result ℕ Refusal → List ℕ → List ℕ → Type 0
Answered call r before after = (said r ≡ wgsl.answer_of call) × (after ≡ wgsl.contents_of before call)

-- the same of a clean
abbrev pub AnsweredClean : Said CleanDone → Result Gaps Refusal → List ℕ → List ℕ → Type 0
AnsweredClean call r before after = (said r ≡ gaps_of call) × (after ≡ clean_after before call)
