-- No slack: what an answer says, number and place included, tells which answer it is. So two answers that a claim allows are the same.
--
-- In order: anything that tells itself; refusals; a value or a refusal; a number or a length beside what was lent; what cleaning changed; the mask of a site block, and
-- its buffer; the four numbers of an entry; a part of the buffer.
-- Assumes nothing.
use Rattle.std.specs.Prelude.{Err, None, Ok, Option, Result, Some}
use Prim.Native.Nat.{ℕ}
use mathlib.Core.List.{List, [], ◌∷◌}
use mathlib.Core.Option as math
use mathlib.Core.Option.{none, some}
use mathlib.Core.Path.{◌≡◌, refl, sym, ap, ◌∙◌}
use lib.ListN.{get_or}
use Rattle.wgsl.specs.Said.{Said, good, refused}
use Rattle.wgsl.specs.Path as path
use Rattle.wgsl.specs.Call as call
use Rattle.wgsl.specs.Call.{part_of, part_start}
use Rattle.wgsl.specs.Clean.{CleanDone, clean_after}
use Rattle.wgsl.specs.Site.{SiteDone, site_answer, site_after, mask_set, zero_of, mask_after}
use Rattle.said.specs.Refusal.{number_of, place_of}
use Rattle.said.specs.declared.refusal.Refusal.{Refusal}
use Rattle.said.specs.declared.refusal.Refusal.TheVariants.{Short, Form, Counts, Length, Rule, Given, Large, Missing, Absent, Unstorable, NoMember, PastEnd, NoIndex, Count, Buffer, Word, Long, NoRank, NotUniform, Named, NoSite, NoOrder, Stray, NoConversion}
use Rattle.said.specs.Answer.{said, gaps_of, maybe_of, said_answer}
use Rattle.said.specs.declared.answer.Gaps.{Gaps}
use Rattle.said.specs.declared.target.Target.{Target}
use Rattle.said.specs.Target.{after}
use Rattle.said.specs.declared.answer.Sizes.{Sizes}

-- ---- anything that tells itself

pub single : {A B : Type 0} (says : A → B) (from : B → A) → ((a : A) → from (says a) ≡ a) → {spoken : B} (a b : A) → says a ≡ spoken → says b ≡ spoken → a ≡ b
single says from told a b p q = sym (told a) ∙ ap from (p ∙ sym q) ∙ told b

-- ---- refusals

unfoldable pub refusal_from : ℕ → ℕ → Refusal
refusal_from place number =
    get_or
    (Short ∷ Short ∷ Form ∷ Counts ∷ Length ∷ Rule place ∷ Given place ∷ Large place ∷ Missing ∷ Absent ∷ Unstorable
    ∷ NoMember place ∷ PastEnd place ∷ NoIndex place ∷ Count ∷ Buffer ∷ Word place ∷ Long ∷ NoRank ∷ NotUniform place ∷ Named ∷ NoSite ∷ NoSite ∷ NoOrder ∷ Stray place ∷ [])
    number
    NoConversion

pub refusal_told : (r : Refusal) → refusal_from (place_of r) (number_of r) ≡ r
unfolding refusal_from
refusal_told Short = refl
refusal_told Form = refl
refusal_told Counts = refl
refusal_told Length = refl
refusal_told (Rule entry) = refl
refusal_told (Given entry) = refl
refusal_told (Large entry) = refl
refusal_told Missing = refl
refusal_told Absent = refl
refusal_told Unstorable = refl
refusal_told (NoMember step) = refl
refusal_told (PastEnd step) = refl
refusal_told (NoIndex step) = refl
refusal_told Count = refl
refusal_told Buffer = refl
refusal_told (Word position) = refl
refusal_told Long = refl
refusal_told NoRank = refl
refusal_told (NotUniform entry) = refl
refusal_told Named = refl
refusal_told NoSite = refl
refusal_told NoOrder = refl
refusal_told (Stray member) = refl
refusal_told NoConversion = refl

-- ---- a value or a refusal

abbrev said_from : {A : Type 0} → Said A → Result A Refusal
said_from (good a) = Ok a
said_from (refused number place) = Err (refusal_from place number)

said_told : {A : Type 0} (r : Result A Refusal) → said_from (said r) ≡ r
said_told (Ok a) = refl
said_told (Err r) = ap Err (refusal_told r)

-- Two answers that say the same are the same.
pub single_said : {A : Type 0} {call : Said A} (a b : Result A Refusal) → said a ≡ call → said b ≡ call → a ≡ b
single_said = single said said_from said_told

-- Two numbers that a claim of check, size, align, min_size, rank, common, uniform or check_order allows are the same.
pub single_number : {call : Said ℕ} (a b : Result ℕ Refusal) → said a ≡ call → said b ≡ call → a ≡ b
single_number = single_said

-- Two patterns that the claim of convert allows are the same.
pub single_pattern : {call : Said ℕ} (a b : Result ℕ Refusal) → said a ≡ call → said b ≡ call → a ≡ b
single_pattern = single_said

-- Two answers that the claim of view_at allows are the same.
pub single_walked : {call : Said Target} (a b : Result Target Refusal) → said a ≡ call → said b ≡ call → a ≡ b
single_walked = single_said

-- ---- a number beside what was lent

-- Two results that a claim of write, read, set or plan_order allows are the same, the answer and the contents of what was lent. `spoken` is
-- what `write_call`, `read_call`, `set_call` or `plan_call` says, and `before` what was lent.
pub single_done : (before : List ℕ) (spoken : Said call.Done) (a b : Result ℕ Refusal) (x y : List ℕ) → said a ≡ call.answer_of spoken → said b ≡ call.answer_of spoken → x ≡ call.contents_of before spoken → y ≡ call.contents_of before spoken → (a ≡ b) × (x ≡ y)
single_done before spoken a b x y p q r s = (single_number a b p q, r ∙ sym s)

-- ---- a length beside what was lent

-- Two results that a claim of a move allows are the same, the answer and the contents of what was lent.
pub single_moved : (before : List ℕ) (spoken : Said call.Done) (a b : Result ℕ Refusal) (x y : List ℕ) → said a ≡ call.answer_of spoken → said b ≡ call.answer_of spoken → x ≡ call.contents_of before spoken → y ≡ call.contents_of before spoken → (a ≡ b) × (x ≡ y)
single_moved before spoken a b x y p q r s = (single_said a b p q, r ∙ sym s)

-- ---- what cleaning changed, beside what was lent

-- Two results that the claim of clean allows are the same, the answer and the contents of the buffer.
pub single_cleaned : (before : List ℕ) (spoken : Said CleanDone) (a b : Result Gaps Refusal) (x y : List ℕ) → said a ≡ gaps_of spoken → said b ≡ gaps_of spoken → x ≡ clean_after before spoken → y ≡ clean_after before spoken → (a ≡ b) × (x ≡ y)
single_cleaned before spoken a b x y p q r s = (single_said a b p q, r ∙ sym s)

-- ---- the mask of a site block, and its buffer

-- Two results that a claim of an inheriting block or of clearing allows are the same, the answer and the mask. `spoken` is what
-- `inheriting_call` or `clear_call` says, and `before` what the mask was.
pub single_mask : (before : ℕ) (spoken : Said ℕ) (a b : Result ℕ Refusal) (x y : ℕ) → said a ≡ zero_of spoken → said b ≡ zero_of spoken → x ≡ mask_after before spoken → y ≡ mask_after before spoken → (a ≡ b) × (x ≡ y)
single_mask before spoken a b x y p q r s = (single_number a b p q, r ∙ sym s)

-- The same of a fresh block and of a set on site: the answer, the site buffer and the mask.
pub single_site : (before : List ℕ) (mask : ℕ) (spoken : Said SiteDone) (a b : Result ℕ Refusal) (x y : List ℕ) (m n : ℕ) → said a ≡ site_answer spoken → said b ≡ site_answer spoken → x ≡ site_after before spoken → y ≡ site_after before spoken → m ≡ mask_set mask spoken → n ≡ mask_set mask spoken → (a ≡ b) × (x ≡ y) × (m ≡ n)
single_site before mask spoken a b x y m n p q r s u v = (single_number a b p q, r ∙ sym s, u ∙ sym v)

-- ---- the four numbers of an entry

abbrev maybe_from : math.Option ℕ → Option ℕ
maybe_from none = None
maybe_from (some n) = Some n

maybe_told : (m : Option ℕ) → maybe_from (maybe_of m) ≡ m
maybe_told None = refl
maybe_told (Some n) = refl

abbrev answer_from : Said call.Layout → Result Sizes Refusal
answer_from (good l) =
    Ok (record {
      size = maybe_from l.size;
      align = maybe_from l.align;
      min = maybe_from l.min_size;
      stride = maybe_from l.stride;
    })
answer_from (refused number place) = Err (refusal_from place number)

answer_told : (a : Result Sizes Refusal) → answer_from (said_answer a) ≡ a
answer_told (Ok s) =
    rw (maybe_told s.size, maybe_told s.align, maybe_told s.min, maybe_told s.stride)
answer_told (Err r) = ap Err (refusal_told r)

-- Two answers that the claim of layout allows are the same.
pub single_answer : {spoken : Said call.Layout} (a b : Result Sizes Refusal) → said_answer a ≡ spoken → said_answer b ≡ spoken → a ≡ b
single_answer = single said_answer answer_from answer_told

-- ---- a part of the buffer

-- Two parts that the claim of view, of view_mut or of a site's member allows have the same bytes, x and y, and lie at the same place, p and q.
-- `spoken` is what `view_call` or `member_call` says, b what the buffer holds, and `start` where it lies; of a member these are `handed_from` the
-- contents and the places of both buffers.
pub single_part : (spoken : Said path.Target) (b : List ℕ) (start : ℕ × ℕ) (x y : List ℕ) (p q : ℕ × ℕ) → x ≡ part_of spoken b → y ≡ part_of spoken b → p ≡ after start (part_start spoken) → q ≡ after start (part_start spoken) → (x ≡ y) × (p ≡ q)
single_part spoken b start x y p q k l m n = (k ∙ sym l, m ∙ sym n)
