-- A visitor keeps the laws of the walk (crates/walk, specs/Visitor): what passing places makes of it is what `ReadOff` says.
-- A proof, which the language wants beside what the trait's clauses cite. Assumes nothing.
use Rattle.std.specs.Prelude.{ℕ, ◌≡◌, List, length}
use Rattle.std.proofs.Common.{refl, ap, ◌∙◌}
use Rattle.wgsl.specs.Place.{Place}
use Rattle.runs.specs.Fold.{over_places, loading, Loads}
use Rattle.runs.proofs.OverPlaces.{over_append}
use Rattle.walk.specs.Visitor.{VisitorLaws}
use Rattle.words_read.specs.declared.Read.{Read}
use Rattle.words_read.specs.ReadOff.{ReadOff, read_off}

pub read_laws : VisitorLaws read_off (λ s. length s.buf.now) (λ s. length s.words.now)
unfolding over_places
read_laws = record {
  nil = λ k s. record { bytes_are = refl; place_is = refl; name_is = refl; long = refl; loads = refl };
  join = λ ps qs k s t u a b. record {
    bytes_are = b.bytes_are ∙ a.bytes_are;
    place_is = b.place_is ∙ a.place_is;
    name_is = b.name_is ∙ a.name_is;
    long = b.long ∙ a.long;
    loads = rw (over_append (loading s.buf.now) ps qs k s.words.now, ← a.loads, ← a.bytes_are) b.loads;
  };
  bytes_stay = λ ps k s t a. ap (λ z. length z.now) a.bytes_are;
  words_stay = λ ps k s t a. a.long;
}
