-- What the fields of a struct's entry make (crates/wgsl, specs/Rule).
--
-- In order: fields that are not used; a struct of no members; members past M; the others; where the first member lies.
-- Assumes nothing.
use Rattle.std.specs.Prelude.{Err, Result}
use Prim.Native.Nat.{ℕ, ◌+◌, ◌*◌, ◌<◌, ◌≤◌}
use mathlib.Core.Bool.{Bool, true, false, ◌&&◌, and-false}
use mathlib.Core.List.{List, [], ◌∷◌}
use mathlib.Core.Option.{some}
use mathlib.Core.Path.{◌≡◌, refl, sym}
use native.Mathlib.Omega.{arith}
use borrow.Author.Tests.{le-leb, lt-leb}
use lib.Dec.{leb}
use Rattle.wgsl.specs.Types.{Ty, struct, no_more}
use Rattle.wgsl.specs.File.{TypeEntry, trailer_of, between}
use Rattle.wgsl.specs.Rule.{when, and_then, unused, members_from, struct_made, count_of, is_allowed}
use Rattle.file.specs.Members.{members_start, member_length}
use Rattle.layout_values.specs.Value.{verdict_on, made_of}
use Rattle.layout_structs.specs.SoFar.{member_place}
use Rattle.layout_values.specs.declared.value.Broken.{Broken}
use Rattle.layout_values.specs.declared.value.Broken.TheVariants.{Rule}
use Rattle.layout_values.specs.declared.value.Value.{Value}

-- two fields, and two that are zero
two_unused : (a b : ℕ) → unused (a ∷ b ∷ []) ≡ unused (a ∷ b ∷ 0 ∷ 0 ∷ [])
unfolding unused
two_unused a b = refl

no_members : (n r k : ℕ) → verdict_on n r (struct k no_more) ≡ Err Rule
unfolding verdict_on is_allowed count_of between
no_members n r k = refl

module _ (long : ℕ) (f : List ℕ) (ts : List Ty) (k : ℕ) (e : TypeEntry) where
  -- A field that is used but should not be refuses the struct.
  pub struct_used : unused (e.columns ∷ e.rows ∷ 0 ∷ 0 ∷ []) ≡ false → (Err Rule) ≡ made_of long e.reference (struct_made f ts k e)
  unfolding struct_made when made_of
  struct_used h = rw (two_unused e.columns e.rows, h)

  -- So does a member past M.
  pub struct_past : (trailer_of f).members < e.reference + e.count → (Err Rule) ≡ made_of long e.reference (struct_made f ts k e)
  unfolding struct_made when made_of
  struct_past h =
      rw (lt-leb (e.reference + e.count) (trailer_of f).members h, and-false (unused (e.columns ∷ e.rows ∷ [])))

  -- So do no members.
  pub struct_empty : e.count < 1 → (Err Rule) ≡ made_of long e.reference (struct_made f ts k e)
  unfolding struct_made when made_of members_from and_then
  struct_empty h = let z : e.count ≡ 0 = omega arith in rw z (go (unused (e.columns ∷ e.rows ∷ []) && leb (e.reference + 0) (trailer_of f).members))
    where
      go : (b : Bool) → (Err Rule) ≡ made_of long e.reference (when b (some (struct k no_more)))
      go true = sym (no_members long e.reference k)
      go false = refl

  -- Otherwise the members decide.
  pub struct_members_lem : (r first count : ℕ) (x : Result Value Broken) → first ≡ e.reference → count ≡ e.count → unused (e.columns ∷ e.rows ∷ 0 ∷ 0 ∷ []) ≡ true → first + count ≤ (trailer_of f).members → x ≡ made_of long r (and_then (members_from f ts count first) (λ ms. some (struct k ms))) → x ≡ made_of long r (struct_made f ts k e)
  unfolding struct_made when
  struct_members_lem r first count x p q u h m =
      rw (two_unused e.columns e.rows, u, ← p, ← q, le-leb (first + count) (trailer_of f).members h) m

-- Where member `first` lies.
pub place_first : (f : List ℕ) (base first : ℕ) → base ≡ members_start f → base + member_length f * first ≡ member_place f first
unfolding members_start member_place
place_first f base first e = omega arith
