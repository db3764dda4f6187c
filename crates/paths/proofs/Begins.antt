-- Where a walk begins: an entry of the table (specs/Locate), as crates/walk_path asks for it.
-- Assumes nothing.
use Prim.Native.Nat.{ℕ, ◌+◌, ◌≤◌}
use mathlib.Core.List.{List}
use mathlib.Core.Path.{◌≡◌, refl, sym, ◌∙◌}
use native.Mathlib.Omega.{arith}
use lib.ListN.{length}
use Rattle.wgsl.specs.Round.{limit}
use Rattle.wgsl.specs.Types.{Ty}
use Rattle.wgsl.specs.Said.{good, ◌>>=◌, or_refuse}
use Rattle.wgsl.specs.Place.{shape_of, span_of}
use Rattle.wgsl.specs.Call.{entry_of}
use Rattle.wgsl.proofs.EntryFor.{entry_sound}
use Rattle.layout_values.specs.declared.value.Value.{Value}
use Rattle.walk_path.specs.declared.enter.Stand.TheVariants.{Entry}
use Rattle.walk_path.specs.Way.{at_entry, Standing}
use Rattle.paths.specs.Locate.{Viewable}
use Rattle.paths.proofs.HeldOf.{There}

module _ {f ms : List ℕ} {table : List Value} {e : ℕ} {l : Value} {t : Ty} (x : Viewable f ms table e l t) where
  is_entry : entry_of f e ≡ good t
  unfolding entry_of ◌>>=◌ or_refuse
  is_entry = rw (x.basis.good_file, x.there) refl

  -- where it begins in a buffer that holds n elements of it
  pub record Begins (n size : ℕ) : Type 0 where
    pub standing : Standing f x.types ms table n (Entry e) (shape_of n t)
    pub size_is : size ≡ span_of (shape_of n t)
    pub within : 0 + span_of (shape_of n t) ≤ limit

  pub begins : {path b : List ℕ} {n size : ℕ} → There t path b n size → length b ≤ limit → Begins n size
  begins {n = n} y h =
      -- its shape takes its extent
      let span = (entry_sound f e t is_entry x.is_laid_out n).1 in
      record {
        standing = record {
          basis = x.basis;
          stands = at_entry {e = e} x.there x.is_laid_out;
          within = omega (arith, span, y.inside);
        };
        size_is = y.size_is ∙ sym span;
        within = omega (arith, span, y.inside);
      }
