-- What the functions under `clean` promise, for every type that the numbers they are handed stand for, up to the call (crates/wgsl,
-- specs/Clean). Each is said of `before` and `after`, the buffer.
-- Definitions only. Assumes nothing.
use Rattle.std.specs.Prelude.{ℕ, ◌≡◌, false, List, Result}
use Rattle.wgsl.specs.Types.{Ty, is_open}
use Rattle.wgsl.specs.Place.{extent_of, places}
use Rattle.wgsl.specs.Claim.{Ordered}
use Rattle.wgsl.specs.Clean.{cleaned, done_from, clean_type, clean_call}
use Rattle.said.specs.declared.answer.Gaps.{Gaps}
use Rattle.said.specs.Answer.{gaps_is, AnsweredClean}
use Rattle.layout_values.specs.declared.value.Value.{Value}
use Rattle.layout_table.specs.declared.Ground.{Ground}
use Rattle.walk_decide.specs.declared.Rest.{Rest}
use Rattle.walk_decide.specs.Whole.{Ready, Tailed, Whole}
use Rattle.walk_decide.specs.Meant.{Meant}
use Rattle.said.specs.declared.refusal.Refusal.{Refusal}

-- the entry with n elements is clean, and what changed is told
abbrev pub WholeCleaned : List ℕ → List Value → ℕ → Rest → ℕ → Gaps → List ℕ → List ℕ → Type 0
WholeCleaned ms table e x extent r before after =
    (t : Ty) (n : ℕ) → Whole ms table e x t n → extent ≡ extent_of n t → Ordered (places n t) 0 (extent_of n t) → (r ≡ gaps_is (done_from (extent_of n t) before (cleaned n t before))) × (after ≡ cleaned n t before)

abbrev pub ClosedCleaned : List ℕ → List Value → ℕ → Value → Result Gaps Refusal → List ℕ → List ℕ → Type 0
ClosedCleaned ms table e l r before after =
    (t : Ty) → Ready ms table e l t → is_open t ≡ false → AnsweredClean (clean_type t before) r before after

abbrev pub OpenCleaned : List ℕ → List Value → ℕ → Value → Result Gaps Refusal → List ℕ → List ℕ → Type 0
OpenCleaned ms table e l r before after =
    (t : Ty) → Tailed ms table e l t → AnsweredClean (clean_type t before) r before after

abbrev pub MeantCleaned : List ℕ → ℕ → Ground → List Value → Result Gaps Refusal → List ℕ → List ℕ → Type 0
MeantCleaned f e g table r before after =
    (t : Ty) → Meant f e g table t → AnsweredClean (clean_call f e before) r before after
