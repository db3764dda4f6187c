-- Calls that answer and leave what they say (`Answered`, `AnsweredClean`, specs/Answer): refused, done, and as another call does.
-- Assumes nothing.
use Prim.Native.Nat.{ℕ}
use mathlib.Core.List.{List}
use mathlib.Core.Path.{◌≡◌, ap, sym, ◌∙◌}
use Rattle.wgsl.specs.Said.{Said, good, refused}
use Rattle.wgsl.specs.Call.{Done, answer_of, contents_of}
use Rattle.wgsl.specs.Clean.{CleanDone, clean_after}
use Rattle.said.specs.declared.answer.Gaps.{Gaps}
use Rattle.said.specs.Answer.{gaps_is, gaps_of}

-- A call that says no is refused, and leaves what was lent as it was.
pub answered_refused : {said : Said Done} {number place : ℕ} (before : List ℕ) → said ≡ refused number place → (refused number place ≡ answer_of said) × (before ≡ contents_of before said)
unfolding answer_of contents_of
answered_refused before e = (ap answer_of (sym e), ap (contents_of before) (sym e))

-- One that is done has its value for an answer, and leaves its contents.
pub answered_done : {said : Said Done} {d : Done} {n : ℕ} {after : List ℕ} (before : List ℕ) → said ≡ good d → n ≡ d.value → after ≡ d.contents → (good n ≡ answer_of said) × (after ≡ contents_of before said)
unfolding answer_of contents_of
answered_done before e v c = (ap good v ∙ ap answer_of (sym e), c ∙ ap (contents_of before) (sym e))

-- What says the same is answered the same.
pub answered_same : {said other : Said Done} {a : Said ℕ} {after : List ℕ} (before : List ℕ) → said ≡ other → (a ≡ answer_of other) × (after ≡ contents_of before other) → (a ≡ answer_of said) × (after ≡ contents_of before said)
answered_same before e x = (x.0 ∙ ap answer_of (sym e), x.1 ∙ ap (contents_of before) (sym e))

-- ---- the same of a clean

pub cleaned_refused : {said : Said CleanDone} {number place : ℕ} (before : List ℕ) → said ≡ refused number place → (refused number place ≡ gaps_of said) × (before ≡ clean_after before said)
unfolding clean_after
cleaned_refused before e = (ap gaps_of (sym e), ap (clean_after before) (sym e))

pub cleaned_done : {said : Said CleanDone} {d : CleanDone} {g : Gaps} {after : List ℕ} (before : List ℕ) → said ≡ good d → g ≡ gaps_is d → after ≡ d.contents → (good g ≡ gaps_of said) × (after ≡ clean_after before said)
unfolding clean_after
cleaned_done before e v c = (ap good v ∙ ap gaps_of (sym e), c ∙ ap (clean_after before) (sym e))

pub cleaned_same : {said other : Said CleanDone} {a : Said Gaps} {after : List ℕ} (before : List ℕ) → said ≡ other → (a ≡ gaps_of other) × (after ≡ clean_after before other) → (a ≡ gaps_of said) × (after ≡ clean_after before said)
cleaned_same before e x = (x.0 ∙ ap gaps_of (sym e), x.1 ∙ ap (clean_after before) (sym e))
