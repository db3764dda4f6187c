-- What becomes of one more member, whose size and align fit, after members that passed 6 and 7 (`Joins`, specs/SoFar).
--
-- In order: numbers that are present; the words of a runtime array; the numbers that the code has; a type with and without a size; the
-- new ends; the four verdicts.
-- Assumes nothing.
use Rattle.std.specs.Prelude.{Err, None, Ok, Some}
use Prim.Native.Nat.{ℕ, ◌+◌, ◌<◌, max, min}
use mathlib.Core.Bool.{Bool, true, false, cond, ◌||◌}
use mathlib.Core.Logic.{◌⊎◌, ⊎_elim}
use mathlib.Core.Option.{Option, none, some}
use mathlib.Core.Path.{◌≡◌, refl, sym, ap, ◌∙◌}
use native.Mathlib.Omega.{arith}
use borrow.Author.Tests.{leb-true}
use Rattle.layout_members.specs.Given.{or_own}
use Rattle.wgsl.specs.Round.{IsPower, up, within_limit}
use Rattle.wgsl.specs.Types.{Ty, scalar, vector, matrix, array, runtime, atomic, struct, Members, is_runtime, ends_in_runtime, is_open}
use Rattle.wgsl.specs.Size.{both, given_or, is_present, present, end_after, size_of, align_of, members_align, members_end, has_layout, member_start, member_end}
use Rattle.wgsl.specs.File.{MemberEntry, given_size, given_align}
use Rattle.wgsl.specs.Rule.{member_allowed}
use Rattle.wgsl.specs.Place.{word_count}
use Rattle.wgsl.proofs.Absent.{both_hold, either_holds, true_not_false, present_some, both_none}
use Rattle.wgsl.proofs.Round.{up_not_below}
use Rattle.wgsl.proofs.Power.{power_positive}
use Rattle.wgsl.proofs.Tail.{runtime_open, runtime_unsized, sized_not_runtime, runtime_size, sized_closed}
use Rattle.wgsl.proofs.Members.{sized}
use Rattle.wgsl.proofs.Count.{word_count_runtime}
use Rattle.numbers.specs.Limit.{limited}
use Rattle.layout_values.specs.declared.value.Value.{Value}
use Rattle.layout_values.specs.Value.{fixed_words, narrowest, value_of, words_in}
use Rattle.layout_values.proofs.WordsIn.{value_words}
use Rattle.layout_structs.specs.declared.Ends.{Ends}
use Rattle.layout_structs.specs.SoFar.{followed, words_of_members, ends_of, so_far, Joins}
use Rattle.layout_structs.proofs.Appended.{after_end, after_align, after_runtime, after_words, after_narrow}
use Rattle.layout_structs.proofs.Going.{Whole, member_power, fixed_bounded, next_end, going_end, going_align, going_words}
use Rattle.layout_structs.proofs.SoFarOf.{limited_is, limited_large, start_large, end_large, placed_closed, placed_open}
use Rattle.layout_values.specs.declared.value.Broken.TheVariants.{Large}

-- ---- numbers that are present

some_as : {o : Option ℕ} {n x : ℕ} → o ≡ some n → x ≡ present o → o ≡ some x
unfolding present
some_as {o} {n} {x} e f = let q : x ≡ n = f ∙ ap present e in e ∙ ap some (sym q)

-- the number given, or the type's own
chosen_is_lem : (given own : Option ℕ) (x z : ℕ) → own ≡ some x → z ≡ or_own given x → given_or given own ≡ some z
unfolding or_own given_or present
chosen_is_lem (some n) own x z e f = ap some (sym f)
chosen_is_lem none own x z e f = e ∙ ap some (sym f)

-- ---- the words of a runtime array

-- A runtime array has no words, with no element.
runtime_words : (t : Ty) → is_runtime t ≡ true → fixed_words t ≡ 0
unfolding is_runtime fixed_words has_layout
runtime_words (scalar s) e = true_not_false e refl
runtime_words (vector n s) e = true_not_false e refl
runtime_words (matrix c r s) e = true_not_false e refl
runtime_words (array n t) e = true_not_false e refl
runtime_words (runtime t) e = go (has_layout (runtime t))
  where
    go : (b : Bool) → cond b (word_count 0 (runtime t)) 0 ≡ 0
    go true = omega (arith, word_count_runtime 0 t)
    go false = refl
runtime_words (atomic s) e = true_not_false e refl
runtime_words (struct k ms) e = true_not_false e refl

module _ (p : Ends) (l : Value) (m : MemberEntry) (ms : Members) (t : Ty) (j : Joins p l m ms t) where
  -- ---- the numbers that the code has

  end_known : members_end (some 0) ms ≡ some p.end
  unfolding ends_of
  end_known = some_as (going_end 0 ms j.going.sized).1 (ap (λ (x : Ends). x.end) j.ends)

  most_known : members_align ms ≡ some p.align
  unfolding ends_of
  most_known = some_as (going_align ms j.going.sized).1 (ap (λ (x : Ends). x.align) j.ends)

  aligned_there : is_present (align_of t) ≡ true
  unfolding member_allowed
  aligned_there = (both_hold (is_present (align_of t)) (is_present (size_of t) || is_runtime t) j.allowed).0

  own_align : align_of t ≡ some l.align
  unfolding value_of
  own_align = some_as (present_some (align_of t) aligned_there).1 (ap (λ (x : Value). x.align) j.layout)

  align_known : (al : ℕ) → al ≡ or_own (given_align m) l.align → given_or (given_align m) (align_of t) ≡ some al
  align_known al e = chosen_is_lem (given_align m) (align_of t) l.align al own_align e

  -- The alignment that a member gets is a power of two.
  pub joins_power : (al : ℕ) → al ≡ or_own (given_align m) l.align → IsPower al
  joins_power al e =
      member_power t (given_align m) al j.well_formed j.align_fits (align_known al e)

  -- ---- a type with and without a size

  sized_or_runtime : (is_present (size_of t) ≡ true) ⊎ (is_runtime t ≡ true)
  unfolding member_allowed
  sized_or_runtime =
      either_holds (is_present (size_of t)) (is_runtime t)
      (both_hold (is_present (align_of t)) (is_present (size_of t) || is_runtime t) j.allowed).1

  open_runtime : is_open t ≡ true → is_runtime t ≡ true
  open_runtime o =
      ⊎_elim
      (λ (q : is_present (size_of t) ≡ true).
      let z = present_some (size_of t) q in
      true_not_false o (sized_closed t z.0 j.well_formed z.1))
      (λ (q : is_runtime t ≡ true). q) sized_or_runtime

  open_unsized : is_open t ≡ true → given_or (given_size m) (size_of t) ≡ none
  unfolding given_or
  open_unsized o =
      rw (runtime_size t (given_size m) (open_runtime o) j.size_fits) (runtime_unsized t (open_runtime o))

  own_size : is_open t ≡ false → size_of t ≡ some l.size
  unfolding value_of
  own_size o =
      ⊎_elim
      (λ (q : is_present (size_of t) ≡ true).
      some_as (present_some (size_of t) q).1 (ap (λ (x : Value). x.size) j.layout))
      (λ (q : is_runtime t ≡ true). true_not_false (runtime_open t q) o) sized_or_runtime

  size_known : is_open t ≡ false → (z : ℕ) → z ≡ or_own (given_size m) l.size → given_or (given_size m) (size_of t) ≡ some z
  size_known o z e = chosen_is_lem (given_size m) (size_of t) l.size z (own_size o) e

  -- ---- the new ends

  new_narrow : narrowest (followed ms t m) ≡ min p.narrow l.narrow
  unfolding ends_of value_of
  new_narrow = after_narrow t (given_size m) (given_align m) ms ∙ rw (j.ends, j.layout)

  own_words : words_in l ≡ fixed_words t
  own_words = ap words_in j.layout ∙ value_words l.stride l.reference t

  new_words : words_of_members (followed ms t m) ≡ p.words + words_in l
  unfolding ends_of
  new_words = after_words t (given_size m) (given_align m) ms ∙ rw (j.ends, own_words)

  module _ (al : ℕ) (al_is : al ≡ or_own (given_align m) l.align) where
    new_align : present (members_align (followed ms t m)) ≡ max p.align al
    unfolding present both
    new_align =
        ap present (after_align t (given_size m) (given_align m) ms) ∙ rw (most_known, align_known al al_is)

    open_ends : is_open t ≡ true → ends_of (followed ms t m) ≡ record { end = 0; align = max p.align al; words = p.words; opens = true; narrow = min p.narrow l.narrow }
    unfolding ends_of present member_start member_end end_after
    open_ends o =
        let end : members_end (some 0) (followed ms t m) ≡ none =
        after_end t (given_size m) (given_align m) (some 0) ms
        ∙ rw (open_unsized o) (both_none ◌+◌ (member_start (members_end (some 0) ms) (given_align m) (align_of t))) in
        let runs : ends_in_runtime false (followed ms t m) ≡ true = after_runtime t (given_size m) (given_align m) false ms ∙ open_runtime o in
        let words : words_of_members (followed ms t m) ≡ p.words = omega (arith, new_words, own_words, runtime_words t (open_runtime o)) in
        rw (end, new_align, runs, words, new_narrow)

    closed_ends : is_open t ≡ false → (z : ℕ) → z ≡ or_own (given_size m) l.size → ends_of (followed ms t m) ≡ record { end = up al p.end + z; align = max p.align al; words = p.words + words_in l; opens = false; narrow = min p.narrow l.narrow }
    unfolding ends_of present member_end
    closed_ends o z z_is =
        let end : members_end (some 0) (followed ms t m) ≡ some (up al p.end + z) =
        after_end t (given_size m) (given_align m) (some 0) ms
        ∙ next_end end_known (align_known al al_is) (size_known o z z_is) in
        let runs : ends_in_runtime false (followed ms t m) ≡ false =
        after_runtime t (given_size m) (given_align m) false ms ∙ sized_not_runtime t l.size (own_size o) in
        rw (end, new_align, runs, new_words, new_narrow)

    -- ---- the four verdicts

    -- It starts past the limit.
    pub joins_past : limited (up al p.end) ≡ None → so_far (followed ms t m) ≡ Err Large
    joins_past h =
        start_large ms t (given_size m) (given_align m) j.given j.size_fits j.align_fits p.end al end_known
        (align_known al al_is) (limited_large (up al p.end) h)

    module _ (start : ℕ) (start_is : limited (up al p.end) ≡ Some start) (most : ℕ) (most_is : most ≡ max p.align al) (narrow : ℕ) (narrow_is : narrow ≡ min p.narrow l.narrow) where
      -- It is a runtime array.
      pub joins_open : is_open t ≡ true → so_far (followed ms t m) ≡ Ok (record { end = 0; align = most; words = p.words; opens = true; narrow = narrow })
      joins_open o =
          let s = limited_is (up al p.end) start start_is in
          placed_open ms t (given_size m) (given_align m) j.given j.size_fits j.align_fits p.end al end_known
          (align_known al al_is) j.fits s.0 (open_unsized o)
          ∙ ap Ok (open_ends o) ∙ rw (most_is, narrow_is)

      module _ (o : is_open t ≡ false) (z : ℕ) (z_is : z ≡ or_own (given_size m) l.size) where
        -- It ends past the limit.
        pub joins_end_past : limited (start + z) ≡ None → so_far (followed ms t m) ≡ Err Large
        joins_end_past h =
            let s = limited_is (up al p.end) start start_is in
            end_large ms t (given_size m) (given_align m) j.given j.size_fits j.align_fits p.end al end_known
            (align_known al al_is) z (size_known o z z_is) (rw s.1 (limited_large (start + z) h))

        module _ (end : ℕ) (end_is : limited (start + z) ≡ Some end) where
          -- It ends within the limit.
          pub joins_closed : (n : ℕ) → n ≡ words_in l → so_far (followed ms t m) ≡ Ok (record { end = end; align = most; words = p.words + n; opens = false; narrow = narrow })
          joins_closed n n_is =
              let s = limited_is (up al p.end) start start_is in
              let x = limited_is (start + z) end end_is in
              placed_closed ms t (given_size m) (given_align m) j.given j.size_fits j.align_fits p.end al end_known
              (align_known al al_is) j.fits s.0 z (size_known o z z_is) (rw s.1 x.0)
              ∙ ap Ok (closed_ends o z z_is) ∙ rw (s.1, x.1, most_is, narrow_is, n_is)

          -- Each word takes at least 2 bytes, so that their number is within the limit too.
          pub joins_words : p.words + words_in l < 4294967296
          unfolding ends_of within_limit
          joins_words =
              let s = limited_is (up al p.end) start start_is in
              let x = limited_is (start + z) end end_is in
              let whole : Whole t = record { own = l.size; own_is = own_size o; aligned = l.align; aligned_is = own_align } in
              let given = sized t (given_size m) l.size (own_size o) j.size_fits in
              let same : given.given ≡ z = cc (given.given_is, size_known o z z_is) in
              omega (
                arith,
                given.not_below,
                same,
                s.1,
                leb-true (start + z) 4294967295 x.0,
                up_not_below al p.end (power_positive (joins_power al al_is)),
                ap (λ (y : Ends). y.words) j.ends,
                own_words,
                going_words 0 ms p.end j.going.sized j.going.well_formed j.given end_known,
                fixed_bounded t l.size j.well_formed whole (own_size o),
              )
