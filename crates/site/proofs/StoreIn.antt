-- A member's bytes brought, and words stored in its scalar (specs/Set).
-- Assumes nothing.
use Prim.Native.Nat.{ℕ}
use mathlib.Core.Bool.{Bool, true, false}
use mathlib.Core.List.{List}
use mathlib.Core.Path.{◌≡◌, refl}
use lib.ListN.{length, take, drop}
use lib.Seq.{length-sets}
use Rattle.wgsl.specs.Said.{Said, good, refused}
use Rattle.wgsl.specs.Call.{Done, contents_of}
use Rattle.paths.specs.Set.{fit_of}
use Rattle.site.specs.Set.{brought_in}

pub length_brought : (on : Bool) (from size : ℕ) (factory site : List ℕ) → length (brought_in on from size factory site) ≡ length site
unfolding brought_in
length_brought true from size factory site = refl
length_brought false from size factory site = length-sets site from (take size (drop from factory))

-- ---- words that fit

-- what a good call leaves does not go by what was there
pub fit_left : (said : Said Done) (a b : List ℕ) → good tt ≡ fit_of said → contents_of a said ≡ contents_of b said
unfolding fit_of contents_of
fit_left (good d) a b h = refl
fit_left (refused n p) a b h = cc
