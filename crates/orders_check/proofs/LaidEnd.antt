-- Where a struct ends, if it is well formed (`laid_end`, specs/Checked).
--
-- In order: a result by its value; what the verdict on a type says; where a struct ends; members that are not placed; the tail of members and one more.
-- Assumes nothing.
use Rattle.std.specs.Prelude.{Err, None, Ok, Result, Some}
use Rattle.std.specs.Result.{result_ok}
use Prim.Native.Nat.{ℕ}
use mathlib.Core.Bool.{Bool, true, false, cond, ◌&&◌}
use mathlib.Core.Option.{Option, none, some}
use mathlib.Core.Path.{◌≡◌, refl}
use native.Mathlib.Omega.{arith}
use Rattle.wgsl.specs.Types.{Ty, scalar, vector, matrix, array, runtime, atomic, struct, Members, no_more, member, is_runtime}
use Rattle.wgsl.specs.Size.{present, size_of, align_of, members_end, fits_limit, member_start, member_end}
use Rattle.wgsl.specs.Rule.{when, is_allowed, given_fits, members_given_fit, is_well_formed}
use Rattle.wgsl.specs.Place.{Tail, tail_at, members_tail, extent_by}
use Rattle.wgsl.specs.Order.{end_of}
use Rattle.wgsl.proofs.Absent.{true_not_false}
use Rattle.layout_values.specs.declared.value.Value.{Value}
use Rattle.layout_values.specs.Value.{value_of, verdict_on}
use Rattle.layout_structs.specs.declared.Ends.{Ends}
use Rattle.layout_structs.specs.SoFar.{appended, ends_of, members_fit, so_far}
use Rattle.orders_check.specs.Checked.{laid_end}
use Rattle.layout_values.specs.declared.value.Broken.{Broken}
use Rattle.layout_values.specs.declared.value.Broken.TheVariants.{Given, Large, Rule}

pub never : {A : Type 0} → ◌≡◌ {A = ℕ} 0 1 → A
never e = absurd (omega arith)

-- ---- a result by its value

module _ {A E : Type 0} where
  pub ok_is : {x : A} (r : Result A E) → result_ok r ≡ Some x → r ≡ Ok x
  ok_is (Ok y) e = cc
  ok_is (Err b) e = never cc

  pub err_is : (r : Result A E) → result_ok r ≡ None → (b : E) × (r ≡ Err b)
  err_is (Ok y) e = never cc
  err_is (Err b) e = (b, refl)

  pub not_ok : (r : Result A E) → ((x : A) → r ≡ Ok x → ⊥) → result_ok r ≡ None
  not_ok (Ok y) h = absurd (h y refl)
  not_ok (Err b) h = refl

-- ---- what the verdict on a type says

-- A type that is laid out is well formed, and its value is the one told.
pub verdict_laid : (long r : ℕ) (t : Ty) (l : Value) → verdict_on long r t ≡ Ok l → (is_well_formed t ≡ true) × (value_of long r t ≡ l)
unfolding verdict_on is_well_formed
verdict_laid long r t l e = go (is_allowed t) (given_fits t) (fits_limit t) e
  where
    go : (a g f : Bool) → cond a (cond g (cond f (Ok (value_of long r t)) (Err Large)) (Err Given)) (Err Rule) ≡ Ok l → ((a && g && f) ≡ true) × (value_of long r t ≡ l)
    go true true true h = (refl, cc)
    go true true false h = never cc
    go true false f h = never cc
    go false g f h = never cc

-- One that has no value is not well formed.
pub verdict_broken : (long r : ℕ) (t : Ty) (b : Broken) → verdict_on long r t ≡ Err b → is_well_formed t ≡ false
unfolding verdict_on is_well_formed
verdict_broken long r t b e = go (is_allowed t) (given_fits t) (fits_limit t) e
  where
    go : (a g f : Bool) → cond a (cond g (cond f (Ok (value_of long r t)) (Err Large)) (Err Given)) (Err Rule) ≡ Err b → (a && g && f) ≡ false
    go true true true h = never cc
    go true true false h = refl
    go true false f h = refl
    go false g f h = refl

-- ---- where a struct ends

pub end_none : (k : ℕ) (ms : Members) → is_well_formed (struct k ms) ≡ false → none ≡ laid_end k ms
unfolding laid_end when
end_none k ms e = rw e

pub end_some : (k : ℕ) (ms : Members) (n : ℕ) → is_well_formed (struct k ms) ≡ true → end_of k ms ≡ n → some n ≡ laid_end k ms
unfolding laid_end when
end_some k ms n e f = rw (e, f)

-- ---- members whose sizes and alignments fit, and that are not placed

pub not_placed : (ms : Members) (r : Result Ends Broken) → members_given_fit ms ≡ true → r ≡ so_far ms → ((x : Ends) → r ≡ Ok x → ⊥) → r ≡ Err Large
unfolding so_far
not_placed ms (Ok p) g e h = absurd (h p refl)
not_placed ms (Err b) g e h = go (members_fit ms) (rw g at e)
  where
    go : (c : Bool) → ◌≡◌ {A = Result Ends Broken} (Err b) (cond c (Ok (ends_of ms)) (Err Large)) → ◌≡◌ {A = Result Ends Broken} (Err b) (Err Large)
    go true q = never cc
    go false q = q

-- ---- the tail of members and one more

pub tail_after : (t : Ty) (size align : Option ℕ) (before : Option Tail) (end : Option ℕ) (ms : Members) → members_tail before end (appended ms t size align) ≡ tail_at (member_start (members_end end ms) align (align_of t)) t
unfolding members_tail members_end appended
tail_after t size align before end no_more = refl
tail_after t size align before end (member u z a ms) =
    tail_after t size align (tail_at (member_start end a (align_of u)) u) (member_end end a (align_of u) z (size_of u)) ms

-- With no element, a runtime array ends where it starts.
pub tail_start : (t : Ty) (size : Option ℕ) (o : ℕ) → is_runtime t ≡ true → extent_by 0 size (tail_at (some o) t) ≡ o
unfolding is_runtime tail_at extent_by present
tail_start (scalar s) size o e = true_not_false e refl
tail_start (vector n s) size o e = true_not_false e refl
tail_start (matrix c r s) size o e = true_not_false e refl
tail_start (array n t) size o e = true_not_false e refl
tail_start (runtime t) size o e = omega arith
tail_start (atomic s) size o e = true_not_false e refl
tail_start (struct k ms) size o e = true_not_false e refl
