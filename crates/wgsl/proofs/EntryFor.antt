-- The entry that a call with a buffer is about (specs/Call, `entry_for`).
--
-- In order: an entry that is laid out, one that is stored, one that cannot be; its type is well formed; its shape.
-- Assumes nothing.
use Prim.Native.Nat.{ℕ}
use mathlib.Core.Bool.{Bool, true, false, ◌||◌}
use mathlib.Core.List.{List}
use mathlib.Core.Path.{◌≡◌, refl, ◌∙◌}
use native.Mathlib.Nat.{zero-mod}
use borrow.Author.Tests.{leb-true, le-leb, not-false}
use lib.ListN.{length}
use Rattle.wgsl.specs.Round.{limit, within_limit}
use Rattle.wgsl.specs.Types.{Ty, is_open, everywhere}
use Rattle.wgsl.specs.Size.{is_present, size_of, align_of, has_layout, is_storable}
use Rattle.wgsl.specs.Said.{good, refused, ◌>>◌, refuse}
use Rattle.wgsl.specs.Rule.{is_well_formed}
use Rattle.wgsl.specs.Place.{extent_of, shape_of, span_of}
use Rattle.wgsl.specs.Call.{entry_of, allowed, entry_for}
use Rattle.wgsl.specs.Claim.{LaidOut, Stored}
use Rattle.wgsl.specs.Shapes.{Divides, Sound}
use Rattle.wgsl.proofs.Absent.{both_hold, present_some}
use Rattle.wgsl.proofs.Said.{next_good, then_good, then_is, refuse_good, refuse_not, or_refuse_good}
use Rattle.wgsl.proofs.Accepted.{accepted_well_formed}
use Rattle.wgsl.proofs.Shape.{divides_multiple}
use Rattle.wgsl.proofs.Laid.{laid}

-- A call that gets past 9 is about an entry that is laid out.
pub laid_good : (stored : Bool) {f : List ℕ} {e : ℕ} {b : List ℕ} {t : Ty} → entry_for stored f e b ≡ good t → LaidOut f e b t
unfolding entry_for allowed within_limit
laid_good stored {b = b} {t = t} h =
    let s = then_good _ _ h in
    let pass = next_good _ _ s.after in
    let past = refuse_good 17 0 _ _ pass.0 in
    let layout = refuse_good 9 0 _ _ past.1 in
    let same : s.value ≡ t = cc pass.1 in
    record {
      entry = cc s.first;
      within = leb-true (length b) limit (not-false (within_limit (length b)) past.0);
      layout = cc (not-false (has_layout s.value) layout.0);
    }

-- An entry that is laid out gets past 9.
pub laid_is : {f : List ℕ} {e : ℕ} {b : List ℕ} {t : Ty} → LaidOut f e b t → entry_for false f e b ≡ good t
unfolding entry_for allowed within_limit refuse ◌>>◌
laid_is {b = b} s = then_is _ s.entry ∙ rw (le-leb (length b) limit s.within, s.layout) refl

-- A read, write or set that gets past 10 is about an entry that is stored.
pub stored_good : {f : List ℕ} {e : ℕ} {b : List ℕ} {t : Ty} → entry_for true f e b ≡ good t → Stored f e b t
unfolding entry_for allowed
stored_good {b = b} {t = t} h =
    let l = laid_good true {b = b} h in
    let s = then_good _ _ h in
    let pass = next_good _ _ s.after in
    let past = refuse_good 17 0 _ _ pass.0 in
    let layout = refuse_good 9 0 _ _ past.1 in
    let same : s.value ≡ t = cc pass.1 in
    record {
      entry = l.entry;
      within = l.within;
      layout = l.layout;
      storable = cc (refuse_not 10 0 (is_storable s.value) layout.1);
    }

-- An entry that is stored gets past 10.
pub stored_is : {f : List ℕ} {e : ℕ} {b : List ℕ} {t : Ty} → Stored f e b t → entry_for true f e b ≡ good t
unfolding entry_for allowed within_limit refuse ◌>>◌
stored_is {b = b} s = then_is _ s.entry ∙ rw (le-leb (length b) limit s.within, s.layout, s.storable) refl

-- An entry that is laid out and cannot be stored is refused with 10 where it is to be.
pub unstored_is : {f : List ℕ} {e : ℕ} {b : List ℕ} {t : Ty} → LaidOut f e b t → is_storable t ≡ false → entry_for true f e b ≡ refused 10 0
unfolding entry_for allowed within_limit refuse ◌>>◌
unstored_is {b = b} s q = then_is _ s.entry ∙ rw (le-leb (length b) limit s.within, s.layout, q) refl

-- The type of an accepted entry is well formed, and so is every type within it.
pub entry_well_formed : (f : List ℕ) (e : ℕ) (t : Ty) → entry_of f e ≡ good t → everywhere is_well_formed t ≡ true
unfolding entry_of
entry_well_formed f e t h =
    let s = then_good _ _ h in
    accepted_well_formed f s.value s.first e t (or_refuse_good 8 0 _ s.after)

-- The shape of an accepted entry with a layout is sound, takes the type's extent and suits its scalars at 0.
pub entry_sound : (f : List ℕ) (e : ℕ) (t : Ty) → entry_of f e ≡ good t → has_layout t ≡ true → (n : ℕ) → Sound (shape_of n t) × (span_of (shape_of n t) ≡ extent_of n t) × Divides (shape_of n t) 0
unfolding has_layout
entry_sound f e t h y n =
    let both = both_hold (is_present (align_of t)) (is_open t || is_present (size_of t)) y in
    let a = present_some (align_of t) both.0 in
    let l = laid n t a.0 (entry_well_formed f e t h) a.1 both.1 in
    (l.sound, l.span, divides_multiple (shape_of n t) a.0 0 l.divides (zero-mod a.0))
