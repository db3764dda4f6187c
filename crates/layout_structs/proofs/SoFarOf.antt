-- The verdict on members and one more after them (`so_far`, specs/SoFar).
--
-- In order: the limit; the members before; given sizes and aligns that do not fit; what the limit says of one more; members that are too
-- large already; one more that fits, or is too large.
-- Assumes nothing.
use Rattle.std.specs.Prelude.{Err, None, Ok, Some}
use Prim.Native.Nat.{ℕ, ◌+◌, ◌<◌, ◌≤◌}
use mathlib.Core.Bool.{Bool, true, false, cond, ◌&&◌, and-true, and-false}
use mathlib.Core.List.{List, [], ◌∷◌}
use mathlib.Core.Option.{Option, none, some}
use mathlib.Core.Path.{◌≡◌, refl, sym, ap, ◌∙◌}
use native.Mathlib.Omega.{arith}
use borrow.Author.Tests.{leb-false, lt-leb}
use Rattle.wgsl.specs.Round.{up, limit, within_limit}
use Rattle.wgsl.specs.Types.{Ty, Members}
use Rattle.wgsl.specs.Size.{given_or, end_after, size_of, align_of, members_end, offsets_of, within_limits, member_start, member_end}
use Rattle.wgsl.specs.Rule.{given_size_fits, given_align_fits, members_given_fit}
use Rattle.wgsl.proofs.Absent.{both_hold, both_none}
use Rattle.wgsl.proofs.Round.{up_not_below}
use Rattle.numbers.specs.Limit.{limited}
use Rattle.layout_structs.specs.declared.Ends.{Ends}
use Rattle.layout_structs.specs.SoFar.{appended, ends_of, members_fit, so_far}
use Rattle.layout_structs.proofs.Appended.{after_end, after_offsets, after_given, limits_append}
use Rattle.layout_structs.proofs.Going.{next_start, next_end}
use Rattle.layout_values.specs.declared.value.Broken.TheVariants.{Given, Large, Rule}

-- ---- the limit

-- A number that is told is itself, and within the limit.
pub limited_is : (n x : ℕ) → limited n ≡ Some x → (within_limit n ≡ true) × (n ≡ x)
unfolding limited
limited_is n x e = go (within_limit n) refl e
  where
    go : (b : Bool) → within_limit n ≡ b → cond b (Some n) None ≡ Some x → (within_limit n ≡ true) × (n ≡ x)
    go true q h = (q, cc)
    go false q h = let z : ◌≡◌ {A = ℕ} 0 1 = cc in absurd (omega arith)

pub limited_large : (n : ℕ) → limited n ≡ None → within_limit n ≡ false
unfolding limited
limited_large n e = go (within_limit n) refl e
  where
    go : (b : Bool) → within_limit n ≡ b → cond b (Some n) None ≡ None → within_limit n ≡ false
    go true q h = let z : ◌≡◌ {A = ℕ} 0 1 = cc in absurd (omega arith)
    go false q h = q

-- What is not below a number past the limit is past it too.
past_limit : (n m : ℕ) → n ≤ m → within_limit n ≡ false → within_limit m ≡ false
unfolding within_limit
past_limit n m h e = lt-leb m limit (omega (arith, leb-false n limit e))

limits_cons : (n : Option ℕ) (ns : List (Option ℕ)) → within_limits (n ∷ ns) ≡ (within_limits (n ∷ []) && within_limits ns)
limits_cons n ns = limits_append (n ∷ []) ns

limit_one : (n : ℕ) → within_limits (some n ∷ []) ≡ within_limit n
unfolding within_limits
limit_one n = and-true (within_limit n)

-- ---- the members before

-- members that are placed
pub placed_before : (ms : Members) (p : Ends) → so_far ms ≡ Ok p → (members_given_fit ms ≡ true) × (members_fit ms ≡ true) × (p ≡ ends_of ms)
unfolding so_far
placed_before ms p e = go (members_given_fit ms) (members_fit ms) refl refl e
  where
    go : (b c : Bool) → members_given_fit ms ≡ b → members_fit ms ≡ c → cond b (cond c (Ok (ends_of ms)) (Err Large)) (Err Given) ≡ Ok p → (members_given_fit ms ≡ true) × (members_fit ms ≡ true) × (p ≡ ends_of ms)
    go true true q r h = (q, r, cc)
    go true false q r h = let z : ◌≡◌ {A = ℕ} 0 1 = cc in absurd (omega arith)
    go false c q r h = let z : ◌≡◌ {A = ℕ} 0 1 = cc in absurd (omega arith)

-- It is no rule but 6 and 7 that they may break.
pub not_rule : {A : Type 0} (ms : Members) → so_far ms ≡ Err Rule → A
unfolding so_far
not_rule {A} ms e = go (members_given_fit ms) (members_fit ms) e
  where
    go : (b c : Bool) → cond b (cond c (Ok (ends_of ms)) (Err Large)) (Err Given) ≡ Err Rule → A
    go true true h = let z : ◌≡◌ {A = ℕ} 0 1 = cc in absurd (omega arith)
    go true false h = let z : ◌≡◌ {A = ℕ} 0 1 = cc in absurd (omega arith)
    go false c h = let z : ◌≡◌ {A = ℕ} 0 1 = cc in absurd (omega arith)

unfit_members : (ms : Members) → so_far ms ≡ Err Given → members_given_fit ms ≡ false
unfolding so_far
unfit_members ms e = go (members_given_fit ms) (members_fit ms) refl e
  where
    go : (b c : Bool) → members_given_fit ms ≡ b → cond b (cond c (Ok (ends_of ms)) (Err Large)) (Err Given) ≡ Err Given → members_given_fit ms ≡ false
    go true true q h = let z : ◌≡◌ {A = ℕ} 0 1 = cc in absurd (omega arith)
    go true false q h = let z : ◌≡◌ {A = ℕ} 0 1 = cc in absurd (omega arith)
    go false c q h = q

large_members : (ms : Members) → so_far ms ≡ Err Large → (members_given_fit ms ≡ true) × (members_fit ms ≡ false)
unfolding so_far
large_members ms e = go (members_given_fit ms) (members_fit ms) refl refl e
  where
    go : (b c : Bool) → members_given_fit ms ≡ b → members_fit ms ≡ c → cond b (cond c (Ok (ends_of ms)) (Err Large)) (Err Given) ≡ Err Large → (members_given_fit ms ≡ true) × (members_fit ms ≡ false)
    go true true q r h = let z : ◌≡◌ {A = ℕ} 0 1 = cc in absurd (omega arith)
    go true false q r h = (q, r)
    go false c q r h = let z : ◌≡◌ {A = ℕ} 0 1 = cc in absurd (omega arith)

fit_members : (ms : Members) (end : ℕ) → members_end (some 0) ms ≡ some end → members_fit ms ≡ (within_limit end && within_limits (offsets_of (some 0) ms))
unfolding members_fit
fit_members ms end e = limits_cons (members_end (some 0) ms) (offsets_of (some 0) ms) ∙ rw (e, limit_one)

offsets_fit : (ms : Members) (end : ℕ) → members_end (some 0) ms ≡ some end → members_fit ms ≡ true → within_limits (offsets_of (some 0) ms) ≡ true
offsets_fit ms end e h =
    (both_hold (within_limit end) (within_limits (offsets_of (some 0) ms)) (sym (fit_members ms end e) ∙ h)).1

module _ (ms : Members) (t : Ty) (size align : Option ℕ) where
  -- ---- given sizes and aligns that do not fit

  pub unfit_size : given_size_fits t size ≡ false → so_far (appended ms t size align) ≡ Err Given
  unfolding so_far
  unfit_size h = rw (after_given t size align ms, h, and-false (members_given_fit ms))

  pub unfit_align : given_align_fits t align ≡ false → so_far (appended ms t size align) ≡ Err Given
  unfolding so_far
  unfit_align h = rw (after_given t size align ms, h, and-false (given_size_fits t size), and-false (members_given_fit ms))

  pub unfit_before : so_far ms ≡ Err Given → so_far (appended ms t size align) ≡ Err Given
  unfolding so_far
  unfit_before h = rw (after_given t size align ms, unfit_members ms h)

  -- ---- what the limit says of one more

  pub fit_given : members_given_fit ms ≡ true → given_size_fits t size ≡ true → given_align_fits t align ≡ true → so_far (appended ms t size align) ≡ cond (members_fit (appended ms t size align)) (Ok (ends_of (appended ms t size align))) (Err Large)
  unfolding so_far
  fit_given g s a = rw (after_given t size align ms, g, s, a)

  pub fit_after : (end aligned : ℕ) → members_end (some 0) ms ≡ some end → given_or align (align_of t) ≡ some aligned → members_fit (appended ms t size align) ≡ (within_limits (end_after (some end) (some aligned) (given_or size (size_of t)) ∷ []) && (within_limits (offsets_of (some 0) ms) && within_limit (up aligned end)))
  unfolding members_fit member_start member_end
  fit_after end aligned e f =
      limits_cons (members_end (some 0) (appended ms t size align)) (offsets_of (some 0) (appended ms t size align))
      ∙ rw (
        after_end t size align (some 0) ms,
        after_offsets t size align (some 0) ms,
        limits_append,
        next_start e f,
        limit_one,
        e,
        f,
      )

  -- the start of one more is past the limit
  start_past : (end aligned : ℕ) → members_end (some 0) ms ≡ some end → given_or align (align_of t) ≡ some aligned → within_limit (up aligned end) ≡ false → members_fit (appended ms t size align) ≡ false
  start_past end aligned e f h =
      fit_after end aligned e f
      ∙ rw (
        h,
        and-false (within_limits (offsets_of (some 0) ms)),
        and-false (within_limits (end_after (some end) (some aligned) (given_or size (size_of t)) ∷ [])),
      )

  -- ---- members that are too large already

  past_before : (end aligned : ℕ) → members_end (some 0) ms ≡ some end → given_or align (align_of t) ≡ some aligned → 0 < aligned → members_fit ms ≡ false → members_fit (appended ms t size align) ≡ false
  past_before end aligned e f pos h = go (within_limits (offsets_of (some 0) ms)) refl
    where
      go : (b : Bool) → within_limits (offsets_of (some 0) ms) ≡ b → members_fit (appended ms t size align) ≡ false
      go true q =
          start_past end aligned e f
          (past_limit end (up aligned end) (up_not_below aligned end pos)
          (sym (and-true (within_limit end)) ∙ ap (λ (b : Bool). within_limit end && b) (sym q)
          ∙ sym (fit_members ms end e) ∙ h))
      go false q =
          fit_after end aligned e f
          ∙ rw (q, and-false (within_limits (end_after (some end) (some aligned) (given_or size (size_of t)) ∷ [])))

  pub large_before : so_far ms ≡ Err Large → given_size_fits t size ≡ true → given_align_fits t align ≡ true → (end aligned : ℕ) → members_end (some 0) ms ≡ some end → given_or align (align_of t) ≡ some aligned → 0 < aligned → so_far (appended ms t size align) ≡ Err Large
  large_before h s a end aligned e f pos =
      let before = large_members ms h in
      fit_given before.0 s a ∙ rw (past_before end aligned e f pos before.1)

  -- ---- one more that fits, or is too large

  module _ (given : members_given_fit ms ≡ true) (size_fits : given_size_fits t size ≡ true) (align_fits : given_align_fits t align ≡ true) (end aligned : ℕ) (end_is : members_end (some 0) ms ≡ some end) (align_is : given_or align (align_of t) ≡ some aligned) where
    pub start_large : within_limit (up aligned end) ≡ false → so_far (appended ms t size align) ≡ Err Large
    start_large h = fit_given given size_fits align_fits ∙ rw (start_past end aligned end_is align_is h)

    end_one : (z : ℕ) → given_or size (size_of t) ≡ some z → within_limits (end_after (some end) (some aligned) (given_or size (size_of t)) ∷ []) ≡ within_limit (up aligned end + z)
    end_one z e =
        ap (λ (n : Option ℕ). within_limits (n ∷ [])) (next_end refl refl e) ∙ limit_one (up aligned end + z)

    pub end_large : (z : ℕ) → given_or size (size_of t) ≡ some z → within_limit (up aligned end + z) ≡ false → so_far (appended ms t size align) ≡ Err Large
    end_large z e h =
        fit_given given size_fits align_fits
        ∙ rw (fit_after end aligned end_is align_is, end_one z e, h)

    pub placed_closed : members_fit ms ≡ true → within_limit (up aligned end) ≡ true → (z : ℕ) → given_or size (size_of t) ≡ some z → within_limit (up aligned end + z) ≡ true → so_far (appended ms t size align) ≡ Ok (ends_of (appended ms t size align))
    placed_closed fits h z e l =
        fit_given given size_fits align_fits
        ∙ rw (fit_after end aligned end_is align_is, end_one z e, l, offsets_fit ms end end_is fits, h)

    pub placed_open : members_fit ms ≡ true → within_limit (up aligned end) ≡ true → given_or size (size_of t) ≡ none → so_far (appended ms t size align) ≡ Ok (ends_of (appended ms t size align))
    unfolding end_after within_limits
    placed_open fits h e =
        fit_given given size_fits align_fits
        ∙ rw (fit_after end aligned end_is align_is, e, both_none, offsets_fit ms end end_is fits, h)
