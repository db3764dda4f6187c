-- Members, and one more after them (`after`, specs/SoFar).
--
-- In order: the largest of several numbers; where they end and start; their alignment; whether they end in a runtime array; what holds
-- of every member; their words, how many they are, and the narrowest; what the limit applies to.
-- Assumes nothing.
use Prim.Native.Nat.{ℕ, suc, ◌+◌, max, min}
use mathlib.Core.Bool.{Bool, ◌&&◌, and-true, and_assoc}
use mathlib.Core.List.{List, [], ◌∷◌, ◌++◌}
use mathlib.Core.Option.{Option, none, some}
use mathlib.Core.Path.{◌≡◌, refl, sym, ap}
use native.Mathlib.Omega.{arith}
use Rattle.wgsl.specs.Round.{within_limit}
use Rattle.wgsl.specs.Types.{Ty, Members, no_more, member, is_runtime, ends_in_runtime, everywhere, every_member}
use Rattle.wgsl.specs.Size.{both, given_or, size_of, align_of, members_align, members_end, offsets_of, within_limits, member_start, member_end}
use Rattle.wgsl.specs.Rule.{count_of, given_size_fits, given_align_fits, members_given_fit}
use Rattle.layout_values.specs.Value.{fixed_words, narrow_of, narrowest}
use Rattle.layout_structs.specs.SoFar.{appended, words_of_members}

-- ---- the largest of several numbers

max_comm : (a b : Option ℕ) → both max a b ≡ both max b a
unfolding both
max_comm (some a) (some b) = let e : max a b ≡ max b a = omega arith in rw e
max_comm (some a) none = refl
max_comm none (some b) = refl
max_comm none none = refl

max_assoc : (a b c : Option ℕ) → both max a (both max b c) ≡ both max (both max a b) c
unfolding both
max_assoc (some a) (some b) (some c) = let e : max a (max b c) ≡ max (max a b) c = omega arith in rw e
max_assoc (some a) (some b) none = refl
max_assoc (some a) none c = refl
max_assoc none b c = refl

module _ (t : Ty) (size align : Option ℕ) where
  -- ---- where they end and start

  pub after_end : (end : Option ℕ) (ms : Members) → members_end end (appended ms t size align) ≡ member_end (members_end end ms) align (align_of t) size (size_of t)
  unfolding appended members_end
  after_end end no_more = refl
  after_end end (member u z a ms) = after_end (member_end end a (align_of u) z (size_of u)) ms

  pub after_offsets : (end : Option ℕ) (ms : Members) → offsets_of end (appended ms t size align) ≡ offsets_of end ms ++ (member_start (members_end end ms) align (align_of t) ∷ [])
  unfolding appended offsets_of members_end
  after_offsets end no_more = refl
  after_offsets end (member u z a ms) =
      ap (λ (os : List (Option ℕ)). member_start end a (align_of u) ∷ os)
      (after_offsets (member_end end a (align_of u) z (size_of u)) ms)

  -- ---- their alignment

  pub after_align : (ms : Members) → members_align (appended ms t size align) ≡ both max (members_align ms) (given_or align (align_of t))
  unfolding appended members_align
  after_align no_more = max_comm (given_or align (align_of t)) (some 1)
  after_align (member u z a ms) =
      rw (after_align ms) (max_assoc (given_or a (align_of u)) (members_align ms) (given_or align (align_of t)))

  -- ---- whether they end in a runtime array

  pub after_runtime : (before : Bool) (ms : Members) → ends_in_runtime before (appended ms t size align) ≡ is_runtime t
  unfolding appended ends_in_runtime
  after_runtime before no_more = refl
  after_runtime before (member u z a ms) = after_runtime (is_runtime u) ms

  -- ---- what holds of every member

  pub after_every : (p : Ty → Bool) (ms : Members) → every_member p (appended ms t size align) ≡ (every_member p ms && everywhere p t)
  unfolding appended every_member
  after_every p no_more = and-true (everywhere p t)
  after_every p (member u z a ms) =
      rw (after_every p ms) (sym (and_assoc (everywhere p u) (every_member p ms) (everywhere p t)))

  pub after_given : (ms : Members) → members_given_fit (appended ms t size align) ≡ (members_given_fit ms && (given_size_fits t size && given_align_fits t align))
  unfolding appended members_given_fit
  after_given no_more = and-true (given_size_fits t size && given_align_fits t align)
  after_given (member u z a ms) =
      rw (after_given ms)
      (sym (and_assoc (given_size_fits u z && given_align_fits u a) (members_given_fit ms)
      (given_size_fits t size && given_align_fits t align)))

  -- ---- their words, how many they are, and the narrowest

  pub after_words : (ms : Members) → words_of_members (appended ms t size align) ≡ words_of_members ms + fixed_words t
  unfolding appended words_of_members
  after_words no_more = omega arith
  after_words (member u z a ms) = omega (arith, after_words ms)

  pub after_count : (ms : Members) → count_of (appended ms t size align) ≡ suc (count_of ms)
  unfolding appended count_of
  after_count no_more = refl
  after_count (member u z a ms) = ap suc (after_count ms)

  pub after_narrow : (ms : Members) → narrowest (appended ms t size align) ≡ min (narrowest ms) (narrow_of t)
  unfolding appended narrowest
  after_narrow no_more = omega arith
  after_narrow (member u z a ms) = omega (arith, after_narrow ms)

-- ---- what the limit applies to

pub limits_append : (ns os : List (Option ℕ)) → within_limits (ns ++ os) ≡ (within_limits ns && within_limits os)
unfolding within_limits
limits_append [] os = refl
limits_append (none ∷ ns) os = limits_append ns os
limits_append (some n ∷ ns) os =
    rw (limits_append ns os) (sym (and_assoc (within_limit n) (within_limits ns) (within_limits os)))
