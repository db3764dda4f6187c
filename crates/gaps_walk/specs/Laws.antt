-- A sweeper keeps the laws of the walk (crates/walk, specs/Visitor): what passing places makes of it is what `SweptOver` says.
-- A proof, which the language wants beside what the trait's clauses cite. Assumes nothing.
use Rattle.std.specs.Prelude.{◌+◌, length}
use Rattle.std.proofs.Common.{refl, ◌∙◌}
use Rattle.runs.specs.Fold.{over_places}
use Rattle.runs.proofs.OverPlaces.{over_append}
use Rattle.gaps_sweep.specs.Sweep.{swept_of, sweeping}
use Rattle.gaps_sweep.proofs.Sweep.{any_number}
use Rattle.walk.specs.Visitor.{VisitorLaws, most_words}
use Rattle.gaps_walk.specs.SweptOver.{swept_over}

pub sweeper_laws : VisitorLaws swept_over (λ s. length s.buf.now) (λ s. most_words)
unfolding over_places
sweeper_laws = record {
  nil = λ k s. record { place_is = refl; name_is = refl; long = refl; sweeps = refl };
  join = λ ps qs k s t u a b. record {
    place_is = b.place_is ∙ a.place_is;
    name_is = b.name_is ∙ a.name_is;
    long = b.long ∙ a.long;
    sweeps = rw (over_append sweeping ps qs 0 (swept_of s.buf.now s.sweep), ← a.sweeps) (b.sweeps ∙ any_number qs 0 (0 + length ps) (swept_of t.buf.now t.sweep));
  };
  bytes_stay = λ ps k s t a. a.long;
  words_stay = λ ps k s t a. refl;
}
