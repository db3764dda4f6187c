-- A visitor keeps the laws of the walk (crates/walk, specs/Visitor): what passing places makes of it is what `Written` says.
-- A proof, which the language wants beside what the trait's clauses cite. Assumes nothing.
use Rattle.std.specs.Prelude.{ℕ, ◌≡◌, List, length}
use Rattle.std.proofs.Common.{refl, ap, ◌∙◌}
use Rattle.wgsl.specs.Place.{Place}
use Rattle.runs.specs.Fold.{over_places, storing, Stores}
use Rattle.runs.proofs.OverPlaces.{over_append}
use Rattle.walk.specs.Visitor.{VisitorLaws}
use Rattle.words_write.specs.declared.Write.{Write}
use Rattle.words_write.specs.Written.{Written, written}

pub write_laws : VisitorLaws written (λ s. length s.buf.now) (λ s. length s.words.now)
unfolding over_places
write_laws = record {
  nil = λ k s. record { words_are = refl; place_is = refl; name_is = refl; long = refl; stores = refl };
  join = λ ps qs k s t u a b. record {
    words_are = b.words_are ∙ a.words_are;
    place_is = b.place_is ∙ a.place_is;
    name_is = b.name_is ∙ a.name_is;
    long = b.long ∙ a.long;
    stores = rw (over_append (storing s.words.now) ps qs k s.buf.now, ← a.stores, ← a.words_are) b.stores;
  };
  bytes_stay = λ ps k s t a. a.long;
  words_stay = λ ps k s t a. ap (λ z. length z.now) a.words_are;
}
