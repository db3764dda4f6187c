-- The entry that a call is about (crates/wgsl, `entry_for`) once 8 is decided, by what 17, 9 and 10 say of its type.
-- Assumes nothing.
use Prim.Native.Nat.{ℕ, ◌≤◌}
use mathlib.Core.Bool.{Bool, true}
use mathlib.Core.List.{List}
use mathlib.Core.Path.{◌≡◌, ap, sym, ◌∙◌}
use borrow.Author.Tests.{leb-true, not-false}
use lib.ListN.{length}
use Rattle.wgsl.specs.Round.{limit, within_limit}
use Rattle.wgsl.specs.Types.{Ty}
use Rattle.wgsl.specs.Size.{has_layout, is_storable}
use Rattle.wgsl.specs.Said.{Said, good, refused, ◌>>◌}
use Rattle.wgsl.specs.Call.{entry_of, allowed, entry_for}
use Rattle.wgsl.proofs.Said.{next_is, then_is, then_refused, refuse_good}
use Rattle.wgsl.proofs.EntryFor.{stored_good}

module _ (stored : Bool) (f : List ℕ) (e : ℕ) (b : List ℕ) where
  -- an entry that is not there
  pub for_missing : {number place : ℕ} → entry_of f e ≡ refused number place → entry_for stored f e b ≡ refused number place
  unfolding entry_for
  for_missing h = then_refused _ h

  module _ (t : Ty) (there : entry_of f e ≡ good t) where
    pub for_refused : {number place : ℕ} → refused number place ≡ allowed stored t (length b) → entry_for stored f e b ≡ refused number place
    unfolding entry_for ◌>>◌
    for_refused a = then_is _ there ∙ ap (λ (s : Said (Unit {0})). ◌>>◌ s (good t)) (sym a)

    pub for_allowed : good tt ≡ allowed stored t (length b) → entry_for stored f e b ≡ good t
    unfolding entry_for
    for_allowed a = then_is _ there ∙ next_is (good t) (sym a)

-- What is to be stored, and may be, is storable; and the buffer is within the limit.
pub for_stored : (f : List ℕ) (e : ℕ) (b : List ℕ) (t : Ty) → entry_of f e ≡ good t → good tt ≡ allowed true t (length b) → (entry_for true f e b ≡ good t) × (is_storable t ≡ true) × (length b ≤ limit)
for_stored f e b t there a =
    let is : entry_for true f e b ≡ good t = for_allowed true f e b t there a in
    let s = stored_good is in
    (is, s.storable, s.within)

-- What may pass has a layout, and the buffer is within the limit.
pub allowed_laid : (stored : Bool) (t : Ty) (bytes : ℕ) → good tt ≡ allowed stored t bytes → (has_layout t ≡ true) × (bytes ≤ limit)
unfolding allowed within_limit
allowed_laid stored t bytes a =
    let long = refuse_good 17 0 _ _ (sym a) in
    let laid = refuse_good 9 0 _ _ long.1 in
    (not-false (has_layout t) laid.0, leb-true bytes limit (not-false _ long.0))
