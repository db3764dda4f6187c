-- What the functions under `write` and `read` promise, for every type that the numbers they are handed stand for.
--
-- In order: an entry with n elements, tested, stored and loaded; then step by step up to the calls (crates/wgsl, specs/Call): writing,
-- reading. Each is said of `before` and `after`, what was lent to change.
-- Definitions only. Assumes nothing.
use Rattle.std.specs.Prelude.{ℕ, ◌≤◌, ◌≡◌, false, List, ◌++◌, length, drop, Result}
use Rattle.wgsl.specs.Types.{Ty, is_open}
use Rattle.wgsl.specs.Said.{Said}
use Rattle.wgsl.specs.Place.{extent_of, places, word_count, written, words_read, check_words}
use Rattle.wgsl.specs.Call.{read_elements, read_type, read_call, write_words, write_elements, write_type, write_call}
use Rattle.said.specs.Answer.{Answered}
use Rattle.layout_values.specs.declared.value.Value.{Value}
use Rattle.layout_table.specs.declared.Ground.{Ground}
use Rattle.walk_decide.specs.declared.Rest.{Rest}
use Rattle.walk_decide.specs.Whole.{Ready, Tailed, TailedBy, Whole}
use Rattle.walk_decide.specs.Meant.{Meant}
use Rattle.said.specs.declared.refusal.Refusal.{Refusal}

-- ---- an entry with n elements

abbrev pub Tested : List ℕ → List Value → ℕ → Rest → List ℕ → Said (Unit {0}) → Type 0
Tested ms table e x ws said =
    (t : Ty) (n : ℕ) → Whole ms table e x t n → length ws ≡ word_count n t → said ≡ check_words 0 (places n t) ws

abbrev pub WholeStored : List ℕ → List Value → ℕ → Rest → ℕ → List ℕ → List ℕ → List ℕ → Type 0
WholeStored ms table e x extent ws before after =
    (t : Ty) (n : ℕ) → Whole ms table e x t n → length ws ≡ word_count n t → extent ≡ extent_of n t → extent ≤ length before → after ≡ written n t ws before

abbrev pub WholeLoaded : List ℕ → List Value → ℕ → Rest → List ℕ → List ℕ → List ℕ → Type 0
WholeLoaded ms table e x b before after =
    (t : Ty) (n : ℕ) → Whole ms table e x t n → word_count n t ≤ length before → after ≡ words_read (places n t) b ++ drop (word_count n t) before

-- ---- writing

abbrev pub WholeWritten : List ℕ → List Value → ℕ → Rest → ℕ → List ℕ → Result ℕ Refusal → List ℕ → List ℕ → Type 0
WholeWritten ms table e x extent ws r before after =
    (t : Ty) (n : ℕ) → Whole ms table e x t n → length ws ≡ word_count n t → extent ≡ extent_of n t → extent ≤ length before → Answered (write_words n t ws before) r before after

abbrev pub ClosedWritten : List ℕ → List Value → ℕ → Value → List ℕ → Result ℕ Refusal → List ℕ → List ℕ → Type 0
ClosedWritten ms table e l ws r before after =
    (t : Ty) → Ready ms table e l t → is_open t ≡ false → Answered (write_type t ws before) r before after

abbrev pub ElementsWritten : List ℕ → List Value → ℕ → Rest → ℕ → List ℕ → Result ℕ Refusal → List ℕ → List ℕ → Type 0
ElementsWritten ms table e x n ws r before after =
    (t : Ty) → TailedBy ms table e x t → length ws ≡ word_count n t → Answered (write_elements n t ws before) r before after

abbrev pub OpenWritten : List ℕ → List Value → ℕ → Value → List ℕ → Result ℕ Refusal → List ℕ → List ℕ → Type 0
OpenWritten ms table e l ws r before after =
    (t : Ty) → Tailed ms table e l t → Answered (write_type t ws before) r before after

abbrev pub MeantWritten : List ℕ → ℕ → Ground → List Value → List ℕ → Result ℕ Refusal → List ℕ → List ℕ → Type 0
MeantWritten f e g table ws r before after =
    (t : Ty) → Meant f e g table t → Answered (write_call f e ws before) r before after

-- ---- reading

abbrev pub ClosedRead : List ℕ → List Value → ℕ → Value → List ℕ → Result ℕ Refusal → List ℕ → List ℕ → Type 0
ClosedRead ms table e l b r before after =
    (t : Ty) → Ready ms table e l t → is_open t ≡ false → Answered (read_type t b before) r before after

abbrev pub ElementsRead : List ℕ → List Value → ℕ → Rest → ℕ → List ℕ → Result ℕ Refusal → List ℕ → List ℕ → Type 0
ElementsRead ms table e x n b r before after =
    (t : Ty) → TailedBy ms table e x t → Answered (read_elements n t b before) r before after

abbrev pub OpenRead : List ℕ → List Value → ℕ → Value → List ℕ → Result ℕ Refusal → List ℕ → List ℕ → Type 0
OpenRead ms table e l b r before after =
    (t : Ty) → Tailed ms table e l t → Answered (read_type t b before) r before after

abbrev pub MeantRead : List ℕ → ℕ → Ground → List Value → List ℕ → Result ℕ Refusal → List ℕ → List ℕ → Type 0
MeantRead f e g table b r before after =
    (t : Ty) → Meant f e g table t → Answered (read_call f e b before) r before after
