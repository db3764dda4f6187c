-- What all members of a struct come to (specs/SoFar): the struct's layout, or its refusal.
--
-- In order: 5 and 6; the words; its layout, if it is open and if not; 7; what `so_far` tells.
-- Assumes nothing.
use Rattle.std.specs.Prelude.{Err, None, Ok, Result, Some}
use Prim.Native.Nat.{ℕ, ◌≤◌}
use mathlib.Core.Bool.{Bool, true, false, cond, or-true}
use mathlib.Core.List.{◌∷◌}
use mathlib.Core.Option.{none, some}
use mathlib.Core.Path.{◌≡◌, refl, sym, ap, ◌∙◌}
use native.Mathlib.Omega.{arith}
use borrow.Author.Tests.{le-leb}
use Rattle.wgsl.specs.Round.{IsPower, up, limit}
use Rattle.wgsl.specs.Types.{struct, Members, no_more, member, is_open, ends_in_runtime, every_member, kind_of}
use Rattle.wgsl.specs.Size.{both, is_present, present, size_of, align_of, members_align, members_end, offsets_of, within_limits, fits_limit, has_layout}
use Rattle.wgsl.specs.File.{between, TypeEntry}
use Rattle.wgsl.specs.Rule.{count_of, members_allowed, is_allowed, members_given_fit, given_fits, is_well_formed}
use Rattle.wgsl.specs.Place.{word_count}
use Rattle.wgsl.proofs.Absent.{some_present, present_is, both_none, true_not_false}
use Rattle.wgsl.proofs.Align.{members_power}
use Rattle.wgsl.proofs.Members.{first_member, member_has}
use Rattle.wgsl.proofs.Count.{members_words, word_count_struct}
use Rattle.numbers.specs.Limit.{limited}
use Rattle.layout_values.specs.Value.{narrow_of, parts_of, fixed_words, value_of, verdict_on, stride_in}
use Rattle.layout_values.proofs.VerdictOn.{value_is, verdict_laid}
use Rattle.layout_structs.specs.declared.Ends.{Ends}
use Rattle.layout_structs.specs.SoFar.{words_of_members, ends_of, struct_of, members_fit, so_far, Complete, Ended, Closes}
use Rattle.layout_structs.proofs.SoFarOf.{limited_is, limited_large}
use Rattle.layout_structs.proofs.MembersFit.{members_aligned, aligned_positive, open_end, closed_end, struct_fits, past_members, open_fits, closed_fits, closed_past}
use Rattle.layout_values.specs.declared.value.Broken.{Broken}
use Rattle.layout_values.specs.declared.value.Broken.TheVariants.{Given, Large}

-- ---- 5 and 6

complete_allowed : (k : ℕ) (ms : Members) → Complete ms → is_allowed (struct k ms) ≡ true
unfolding is_allowed between
complete_allowed k ms c =
    rw (le-leb 1 (count_of ms) c.some_there, le-leb (count_of ms) 1024 c.few) c.allowed

-- past 5, the rest decides
judged : (n r k : ℕ) (ms : Members) → Complete ms → verdict_on n r (struct k ms) ≡ cond (members_given_fit ms) (cond (fits_limit (struct k ms)) (Ok (value_of n r (struct k ms))) (Err Large)) (Err Given)
unfolding verdict_on given_fits
judged n r k ms c = rw (complete_allowed k ms c)

-- past 6, the limit does
large : (n r k : ℕ) (ms : Members) → Complete ms → members_given_fit ms ≡ true → fits_limit (struct k ms) ≡ false → verdict_on n r (struct k ms) ≡ Err Large
large n r k ms c g f = judged n r k ms c ∙ rw (g, f)

-- ---- the words

-- Each member has a layout, so its words count.
words_counted : (ms : Members) → every_member is_well_formed ms ≡ true → members_allowed ms ≡ true → members_given_fit ms ≡ true → words_of_members ms ≡ members_words 0 ms
unfolding words_of_members members_words fixed_words has_layout
words_counted no_more w ok g = refl
words_counted (member t size align ms) w ok g =
    let m = first_member t size align ms w ok g in
    rw (some_present m.own_is, member_has t size align ms m, words_counted ms m.rest_well m.rest_allowed m.rest_fits)

struct_words : (k : ℕ) (p : Ends) (ms : Members) → Ended p ms → p.words ≡ word_count 0 (struct k ms)
unfolding ends_of
struct_words k p ms d =
    ap (λ (x : Ends). x.words) d.ends ∙ words_counted ms d.complete.well_formed d.complete.allowed d.given
    ∙ sym (word_count_struct 0 k ms)

-- ---- its layout

-- A struct that is within the limit is laid out.
laid : (long k : ℕ) (e : TypeEntry) (p : Ends) (ms : Members) (size : ℕ) → Ended p ms → count_of ms ≡ e.count → has_layout (struct k ms) ≡ true → size ≡ present (size_of (struct k ms)) → fits_limit (struct k ms) ≡ true → verdict_on long e.reference (struct k ms) ≡ Ok (struct_of long e p size)
unfolding struct_of ends_of kind_of narrow_of parts_of stride_in present align_of given_fits
laid long k e p ms size d count has z fits =
    verdict_laid long (struct k ms) (struct_of long e p size) (complete_allowed k ms d.complete) d.given fits
    (value_is long (struct k ms) (struct_of long e p size) refl (ap (λ (x : Ends). x.narrow) d.ends) (sym count)
    (rw has (struct_words k p ms d)) refl z (ap (λ (x : Ends). x.align) d.ends))

-- ---- an open struct

-- the end of an open struct's members is absent, and so is its size
ended_open : (p : Ends) (ms : Members) → Ended p ms → ends_in_runtime false ms ≡ true → members_end (some 0) ms ≡ none
ended_open p ms e o = open_end (some 0) false ms e.given (λ q. true_not_false q refl) o

open_has : (k : ℕ) (ms : Members) (a : ℕ) → members_align ms ≡ some a → ends_in_runtime false ms ≡ true → has_layout (struct k ms) ≡ true
unfolding has_layout align_of is_open is_present
open_has k ms a e o = rw (e, o)

pub ended_opens : (long k : ℕ) (e : TypeEntry) (p : Ends) (ms : Members) → Ended p ms → count_of ms ≡ e.count → p.opens ≡ true → verdict_on long e.reference (struct k ms) ≡ Ok (struct_of long e p 0)
unfolding ends_of members_fit size_of present
ended_opens long k e p ms d count q =
    let o : ends_in_runtime false ms ≡ true = ap (λ (x : Ends). x.opens) (sym d.ends) ∙ q in
    let a = members_aligned ms d.complete.well_formed d.complete.allowed d.given in
    let n = ended_open p ms d o in
    let fits : fits_limit (struct k ms) ≡ true =
    struct_fits k ms a.align none a.is n ∙ open_fits a.align (offsets_of (some 0) ms) a.within (rw n at d.fits) in
    laid long k e p ms 0 d count (open_has k ms a.align a.is o) (rw (n, both_none up (members_align ms))) fits

-- ---- a struct that is not open

-- where a struct that is not open ends, and its alignment
record Closed (p : Ends) (ms : Members) : Type 0 where
  not_open : ends_in_runtime false ms ≡ false
  align_is : members_align ms ≡ some p.align
  align_within : p.align ≤ limit
  end_is : members_end (some 0) ms ≡ some p.end

ended_closed : (p : Ends) (ms : Members) → Ended p ms → p.opens ≡ false → Closed p ms
unfolding ends_of present
ended_closed p ms e q =
    let o : ends_in_runtime false ms ≡ false = ap (λ (x : Ends). x.opens) (sym e.ends) ∙ q in
    let a = members_aligned ms e.complete.well_formed e.complete.allowed e.given in
    let z = closed_end 0 false ms e.complete.well_formed e.complete.allowed e.given o in
    let al : p.align ≡ a.align = ap (λ (x : Ends). x.align) e.ends ∙ ap present a.is ∙ present_is a.align in
    let en : p.end ≡ z.0 = ap (λ (x : Ends). x.end) e.ends ∙ ap present z.1 ∙ present_is z.0 in
    record { not_open = o; align_is = a.is ∙ ap some (sym al); align_within = omega (arith, al, a.within); end_is = z.1 ∙ ap some (sym en) }

closed_has : (k : ℕ) (ms : Members) (a z : ℕ) → members_align ms ≡ some a → members_end (some 0) ms ≡ some z → has_layout (struct k ms) ≡ true
unfolding has_layout align_of size_of is_present both
closed_has k ms a z e h = rw (e, h) (or-true (is_open (struct k ms)))

closed_limit : (k : ℕ) (p : Ends) (ms : Members) → Closed p ms → fits_limit (struct k ms) ≡ within_limits (both up (some p.align) (some p.end) ∷ some p.align ∷ both up (some p.align) (some p.end) ∷ offsets_of (some 0) ms)
closed_limit k p ms c = struct_fits k ms p.align (some p.end) c.align_is c.end_is

-- A struct that is not open has the size that its members' end rounds up to, if that is within the limit.
pub ended_closes : (long k : ℕ) (e : TypeEntry) (p : Ends) (ms : Members) (size : ℕ) → Ended p ms → count_of ms ≡ e.count → p.opens ≡ false → Some size ≡ limited (up p.align p.end) → verdict_on long e.reference (struct k ms) ≡ Ok (struct_of long e p size)
unfolding members_fit size_of both present
ended_closes long k e p ms size d count q h =
    let c = ended_closed p ms d q in
    let l = limited_is (up p.align p.end) size (sym h) in
    let fits : fits_limit (struct k ms) ≡ true =
    closed_limit k p ms c
    ∙ closed_fits p.align p.end (offsets_of (some 0) ms) c.align_within l.0 (rw c.end_is at d.fits) in
    laid long k e p ms size d count (closed_has k ms p.align p.end c.align_is c.end_is)
    (rw (c.align_is, c.end_is) (sym l.1)) fits

pub ended_past : (n r k : ℕ) (p : Ends) (ms : Members) → Ended p ms → p.opens ≡ false → None ≡ limited (up p.align p.end) → verdict_on n r (struct k ms) ≡ Err Large
ended_past n r k p ms e q h =
    let c = ended_closed p ms e q in
    large n r k ms e.complete e.given
    (closed_limit k p ms c
    ∙ closed_past p.align p.end (offsets_of (some 0) ms) (limited_large (up p.align p.end) (sym h)))

-- The alignment that it rounds up to is a power of two.
pub ended_power : (p : Ends) (ms : Members) → Ended p ms → p.opens ≡ false → IsPower p.align
ended_power p ms e q =
    members_power ms p.align e.complete.well_formed e.given (ended_closed p ms e q).align_is

-- ---- what `so_far` tells

-- the cases of `so_far`
verdicts : {A : Type 0} (r : Result Ends Broken) (ms : Members) → r ≡ so_far ms → (r ≡ Ok (ends_of ms) → members_given_fit ms ≡ true → members_fit ms ≡ true → A) → (r ≡ Err Large → members_given_fit ms ≡ true → members_fit ms ≡ false → A) → (r ≡ Err Given → members_given_fit ms ≡ false → A) → A
unfolding so_far
verdicts {A} r ms e placed past unfit = go (members_given_fit ms) (members_fit ms) refl refl e
  where
    go : (g f : Bool) → members_given_fit ms ≡ g → members_fit ms ≡ f → r ≡ cond g (cond f (Ok (ends_of ms)) (Err Large)) (Err Given) → A
    go true true p q h = placed h p q
    go true false p q h = past h p q
    go false f p q h = unfit h p

no_verdict : {A : Type 0} → ◌≡◌ {A = ℕ} 0 1 → A
no_verdict e = absurd (omega arith)

pub closes_placed : (run : Result Ends Broken) (p : Ends) (ms : Members) → Closes run ms → run ≡ Ok p → Ended p ms
closes_placed run p ms c e =
    verdicts run ms c.verdict (λ h g f. record { ends = cc; complete = c.complete; given = g; fits = f })
    (λ h g f. no_verdict cc) (λ h g. no_verdict cc)

-- Where a given size or align does not fit, that is refusal 6; where an offset or the end of the members is past the limit, 7.
pub closes_past : (n r k : ℕ) (run : Result Ends Broken) (b : Broken) (ms : Members) → Closes run ms → run ≡ Err b → verdict_on n r (struct k ms) ≡ Err b
unfolding members_fit
closes_past n r k run b ms c e =
    verdicts run ms c.verdict (λ h g f. no_verdict cc)
    (λ h g f.
    let w = c.complete.well_formed in
    let a = members_aligned ms w c.complete.allowed g in
    large n r k ms c.complete g
    (struct_fits k ms a.align (members_end (some 0) ms) a.is refl
    ∙ past_members a.align (members_end (some 0) ms) (offsets_of (some 0) ms) (aligned_positive ms a.align w g a.is) f)
    ∙ cc)
    (λ h g. judged n r k ms c.complete ∙ rw g (cc))
