-- 15 for either buffer (crates/wgsl, specs/Site, `block_in`), by the lengths that the code has.
-- Assumes nothing.
use Prim.Native.Nat.{ℕ, max}
use mathlib.Core.Bool.{Bool, true, false, ◌&&◌, ◌||◌}
use mathlib.Core.List.{List}
use mathlib.Core.Path.{◌≡◌, refl, ap, ◌∙◌}
use borrow.Author.Tests.{lt-ltb, leb-true, leb-false}
use lib.Dec.{leb, ltb}
use lib.ListN.{length}
use Rattle.wgsl.specs.Types.{Ty}
use Rattle.wgsl.specs.Size.{present, size_of}
use Rattle.wgsl.specs.Said.{good, refused}
use Rattle.wgsl.specs.Call.{is_short}
use Rattle.wgsl.specs.Site.{block_entry, block_in}
use Rattle.wgsl.proofs.Absent.{both_hold}
use Rattle.wgsl.proofs.Said.{then_is, then_refused, refuse_yes}
use Rattle.wgsl.proofs.Site.{block_struct, is_entry, block_if}

or-true : (a b : Bool) → b ≡ true → (a || b) ≡ true
or-true true b e = refl
or-true false b e = e

module _ (f : List ℕ) (e mask : ℕ) (a b : List ℕ) where
  pub in_missing : {number place : ℕ} → block_entry f e mask (max (length a) (length b)) ≡ refused number place → block_in f e mask a b ≡ refused number place
  unfolding block_in
  in_missing h = then_refused _ h

  module _ {t : Ty} (block : block_entry f e mask (max (length a) (length b)) ≡ good t) where
    abbrev size : ℕ
    size = present (size_of t)

    short_is : (c : List ℕ) → is_short t c ≡ ltb (length c) size
    unfolding is_short
    short_is c = rw (block_struct mask t (is_entry block).block).closed refl

    pub in_short : (leb size (length a) && leb size (length b)) ≡ false → block_in f e mask a b ≡ refused 15 0
    unfolding block_in
    in_short h = then_is _ block ∙ refuse_yes _ (go (leb size (length a)) refl h)
      where
        is_short_here : (c : List ℕ) → leb size (length c) ≡ false → is_short t c ≡ true
        is_short_here c l = short_is c ∙ lt-ltb (length c) size (leb-false size (length c) l)

        go : (first : Bool) → leb size (length a) ≡ first → (first && leb size (length b)) ≡ false → (is_short t a || is_short t b) ≡ true
        go true p q = or-true (is_short t a) (is_short t b) (is_short_here b q)
        go false p q = ap (λ c. c || is_short t b) (is_short_here a p)

    pub in_both : (leb size (length a) && leb size (length b)) ≡ true → block_in f e mask a b ≡ good t
    in_both h =
        let x = is_entry block in
        let room = both_hold _ _ h in
        block_if (record {
          entry = x.entry;
          storable = x.storable;
          block = x.block;
          factory_room = leb-true size (length a) room.0;
          site_room = leb-true size (length b) room.1;
          within = x.within;
        })
