-- What checking an order finds, in the words of crates/wgsl (specs/Order).
--
-- In order: positions; an end; the last member.
-- Definitions only. Assumes nothing.
use Rattle.std.specs.Prelude.{ℕ, ◌<◌, Bool, true, ◌&&◌, List, [], ◌∷◌, ◌≡◌, ltb, Result}
use Rattle.std.proofs.Math.Option.{Option, some}
use Rattle.wgsl.specs.Types.{Ty, Members, struct}
use Rattle.wgsl.specs.File.{MemberEntry, given_size, given_align, rest_is_zero, most_members}
use Rattle.wgsl.specs.Rule.{count_of, member_allowed, given_size_fits, given_align_fits, members_given_fit, is_well_formed, when}
use Rattle.wgsl.specs.Order.{end_of}
use Rattle.layout_values.specs.declared.value.Value.{Value}
use Rattle.layout_structs.specs.SoFar.{Meets}
use Rattle.layout_values.specs.declared.value.Broken.{Broken}
use Rattle.layout_structs.specs.declared.Ends.{Ends}

-- every number of the list is below n
unfoldable pub all_below : ℕ → List ℕ → Bool
all_below n [] = true
all_below n (i ∷ is) = ltb i n && all_below n is

-- the end of a struct of these members, if it is well formed
unfoldable pub laid_end : ℕ → Members → Option ℕ
laid_end k ms = when (is_well_formed (struct k ms)) (some (end_of k ms))

-- the last member of a struct, of the entry m and of the type t, whose value is l, has passed 5 to 7, and comes after ms
pub record Last (run : Result Ends Broken) (l : Value) (m : MemberEntry) (ms : Members) (t : Ty) : Type 0 where
  pub meets : Meets run l ms t
  pub rest_zero : rest_is_zero m ≡ true
  pub allowed : member_allowed true t ≡ true
  pub size_fits : given_size_fits t (given_size m) ≡ true
  pub align_fits : given_align_fits t (given_align m) ≡ true
  pub given : members_given_fit ms ≡ true
  pub few : count_of ms < most_members
