-- The trailer of a file (specs/File, `check_trailer`).
--
-- In order: one that 1 to 4 do not refuse (`Trailed`); a refusal has no place.
-- Assumes nothing.
use Prim.Native.Nat.{ℕ, ◌≤◌}
use mathlib.Core.Bool.{◌&&◌}
use mathlib.Core.List.{List}
use mathlib.Core.Path.{◌≡◌, refl}
use native.Mathlib.Omega.{arith}
use borrow.Author.Tests.{ltb-false, eqb-true, not-false, le-ltb, le-leb, eq-eqb}
use lib.Dec.{eqb}
use lib.ListN.{length}
use Rattle.wgsl.specs.Said.{good, refused, refuse, ◌>>◌, ◌>>=◌}
use Rattle.wgsl.specs.File.{Trailer, trailer_length, trailer_of, length_by, between, check_trailer}
use Rattle.wgsl.proofs.Absent.{both_hold, between_true}
use Rattle.wgsl.proofs.Said.{good_not_refused, refuse_good, refuse_cases}

-- A trailer that 1 to 4 do not refuse.
pub record Trailed (f : List ℕ) (r : Trailer) : Type 0 where
  pub is : r ≡ trailer_of f
  pub bytes : trailer_length ≤ length f
  pub form_low : 1 ≤ r.form
  pub form_high : r.form ≤ 2
  pub low : 1 ≤ r.types
  pub high : r.types ≤ 256
  pub few : r.members ≤ 1024
  pub long : length f ≡ length_by r

-- A trailer that is answered is such a one.
pub trailed : (f : List ℕ) (r : Trailer) → check_trailer f ≡ good r → Trailed f r
unfolding check_trailer
trailed f r e =
    let s = trailer_of f in
    let one = refuse_good 1 0 _ _ e in
    let two = refuse_good 2 0 _ _ one.1 in
    let three = refuse_good 3 0 _ _ two.1 in
    let four = refuse_good 4 0 _ _ three.1 in
    let is : r ≡ s = cc four.1 in
    let types = between 1 256 s.types in
    let members = between 0 1024 s.members in
    let ranges = both_hold types members (not-false (types && members) three.0) in
    let range = between_true 1 256 s.types ranges.0 in
    let form = between_true 1 2 s.form (not-false (between 1 2 s.form) two.0) in
    rw is (record {
      is = refl;
      bytes = ltb-false (length f) trailer_length one.0;
      form_low = form.0;
      form_high = form.1;
      low = range.0;
      high = range.1;
      few = (between_true 0 1024 s.members ranges.1).1;
      long = eqb-true (length f) (length_by s) (not-false (eqb (length f) (length_by s)) four.0);
    })

-- Such a one is answered.
pub trailed_good : {f : List ℕ} {r : Trailer} → Trailed f r → check_trailer f ≡ good r
unfolding check_trailer between ◌>>◌ ◌>>=◌ refuse
trailed_good {f} {r} t =
    rw (← t.is, le-ltb (length f) trailer_length t.bytes, le-leb 1 r.form t.form_low, le-leb r.form 2 t.form_high, le-leb 1 r.types t.low, le-leb r.types 256 t.high, le-leb 0 r.members (omega arith), le-leb r.members 1024 t.few, eq-eqb (length f) (length_by r) t.long) refl

-- A refusal of the trailer has no place.
pub trailer_place : {number place : ℕ} (f : List ℕ) → check_trailer f ≡ refused number place → place ≡ 0
unfolding check_trailer
trailer_place f e =
    refuse_cases _ _ _ _ e (λ bad q. cc) (λ ok h₁.
    refuse_cases _ _ _ _ h₁ (λ bad q. cc) (λ ok h₂.
    refuse_cases _ _ _ _ h₂ (λ bad q. cc) (λ ok h₃.
    refuse_cases _ _ _ _ h₃ (λ bad q. cc) (λ ok h₄. good_not_refused refl h₄))))
