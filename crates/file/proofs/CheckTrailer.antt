-- What `check_trailer` (crates/wgsl, specs/File) says of a file, by its tests.
--
-- In order: the test of the form; that of the counts; a short file; then, of the trailer r of a file that is not short, its form, its
-- counts, the length that it says; a file that passes.
-- Not here: that the numbers that are read are the trailer's (`FieldsAt`).
-- Assumes nothing.
use Prim.Native.Nat.{ℕ, ◌<◌, ◌≤◌}
use mathlib.Core.List.{List}
use mathlib.Core.Bool.{Bool, true, false, not, ◌&&◌}
use mathlib.Core.Path.{◌≡◌, refl, ap, ◌∙◌}
use native.Mathlib.Omega.{arith}
use borrow.Author.Tests.{leb-true, leb-false, lt-ltb, le-ltb, le-leb, lt-leb, eq-eqb, ne_eqb, not-false}
use lib.Dec.{leb, ltb}
use lib.ListN.{length}
use Rattle.wgsl.specs.Said.{good, refused}
use Rattle.wgsl.specs.File.{Trailer, trailer_of, length_by, between, check_trailer}
use Rattle.wgsl.proofs.Absent.{both_hold, between_true}
use Rattle.wgsl.proofs.Said.{refuse_yes, refuse_no}

-- Not at most is above.
not_above : (n m : ℕ) → not (leb n m) ≡ ltb m n
not_above n m = go (leb n m) refl
  where
    go : (b : Bool) → leb n m ≡ b → not b ≡ ltb m n
    go true e = rw (le-ltb m n (leb-true n m e))
    go false e = rw (lt-ltb m n (leb-false n m e))

-- ---- the test of the form

pub form_none : (form : ℕ) → form < 1 → not (between 1 2 form) ≡ true
unfolding between
form_none form h = rw (lt-leb 1 form h)

pub form_above : (form : ℕ) → 1 ≤ form → not (between 1 2 form) ≡ ltb 2 form
unfolding between
form_above form h = rw (le-leb 1 form h) (not_above form 2)

-- ---- the test of T and M

module _ (t m : ℕ) where
  pub counts_none : t < 1 → not (between 1 256 t && between 0 1024 m) ≡ true
  unfolding between
  counts_none h = rw (lt-leb 1 t h)

  pub counts_types : 256 < t → not (between 1 256 t && between 0 1024 m) ≡ true
  unfolding between
  counts_types h = rw (le-leb 1 t (omega arith), lt-leb t 256 h)

  pub counts_members : 1 ≤ t → t ≤ 256 → not (between 1 256 t && between 0 1024 m) ≡ ltb 1024 m
  unfolding between
  counts_members low high = rw (le-leb 1 t low, le-leb t 256 high, le-leb 0 m (omega arith)) (not_above m 1024)

  -- counts that pass are few
  pub counts_few : not (between 1 256 t && between 0 1024 m) ≡ false → (t ≤ 256) × (m ≤ 1024)
  counts_few h =
      let both = both_hold (between 1 256 t) (between 0 1024 m) (not-false (between 1 256 t && between 0 1024 m) h) in
      ((between_true 1 256 t both.0).1, (between_true 0 1024 m both.1).1)

-- ---- the file

pub checked_short : (f : List ℕ) → length f < 10 → check_trailer f ≡ refused 1 0
unfolding check_trailer
checked_short f h = refuse_yes _ (lt-ltb (length f) 10 h)

module _ (f : List ℕ) (r : Trailer) (is : r ≡ trailer_of f) (long : 10 ≤ length f) where
  pub checked_form : not (between 1 2 r.form) ≡ true → check_trailer f ≡ refused 2 0
  unfolding check_trailer
  checked_form h = rw (← is) (refuse_no 1 0 (le-ltb (length f) 10 long) ∙ refuse_yes _ h)

  module _ (known : not (between 1 2 r.form) ≡ false) where
    pub checked_counts : not (between 1 256 r.types && between 0 1024 r.members) ≡ true → check_trailer f ≡ refused 3 0
    unfolding check_trailer
    checked_counts h = rw (← is) (refuse_no 1 0 (le-ltb (length f) 10 long) ∙ refuse_no 2 0 known ∙ refuse_yes _ h)

    module _ (counts : not (between 1 256 r.types && between 0 1024 r.members) ≡ false) where
      pub checked_length : (length f ≡ length_by r → ⊥) → check_trailer f ≡ refused 4 0
      unfolding check_trailer
      checked_length h =
          rw (← is)
          (refuse_no 1 0 (le-ltb (length f) 10 long) ∙ refuse_no 2 0 known ∙ refuse_no 3 0 counts ∙ refuse_yes _ (ap not (ne_eqb _ _ h)))

      pub checked_good : length f ≡ length_by r → check_trailer f ≡ good r
      unfolding check_trailer
      checked_good h =
          rw (← is)
          (refuse_no 1 0 (le-ltb (length f) 10 long) ∙ refuse_no 2 0 known ∙ refuse_no 3 0 counts ∙ refuse_no 4 0 (ap not (eq-eqb _ _ h)))
