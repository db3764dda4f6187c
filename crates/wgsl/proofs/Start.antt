-- A fresh site block (specs/Site): what it is (specs/StartClaim, `Fresh`).
--
-- In order: its mask; the bytes copied; the block.
-- Not here: what sets and clears make of it (`Changes`).
-- Assumes nothing.
use Prim.Native.Nat.{ℕ, ◌+◌, ◌-◌, ◌^◌, ◌<◌, ◌≤◌}
use mathlib.Core.List.{List, ◌++◌}
use mathlib.Core.Bool.{Bool, true, cond}
use mathlib.Core.Path.{◌≡◌, refl, ap, sym, ◌∙◌}
use mathlib.Core.Logic.{⊎_elim}
use native.Mathlib.Omega.{arith}
use borrow.Author.Tests.{lt-ltb, le-ltb}
use lib.Dec.{ltb}
use lib.ListN.{length, get_or, take, drop, length-append, length-take, length-drop, get_or-append}
use lib.Seq.{get_or-take, get_or-drop, get_or-append-add}
use lib.Pow.{pow_pos}
use Rattle.wgsl.specs.Types.{Ty}
use Rattle.wgsl.specs.Size.{present, size_of}
use Rattle.wgsl.specs.Said.{good}
use Rattle.wgsl.specs.Rule.{count_of}
use Rattle.wgsl.specs.Place.{span_of}
use Rattle.wgsl.specs.Path.{Target}
use Rattle.wgsl.specs.BitField.{bit_at}
use Rattle.wgsl.specs.Site.{block_in, member_of, shown_in, SiteDone, settings_of, every_bit, copied_whole, fresh_call}
use Rattle.wgsl.specs.Claim.{GoodIf}
use Rattle.wgsl.specs.SiteClaim.{bytes_in, shown_bytes, IsBlock}
use Rattle.wgsl.specs.StartClaim.{Fresh}
use Rattle.wgsl.proofs.Said.{then_good, then_is}
use Rattle.wgsl.proofs.Bit.{lt_or_le, bit_ones, bit_above}
use Rattle.wgsl.proofs.Site.{Block, block_struct, struct_block, block_is, block_if, member_inside, member_low, part_same, site_done}

-- ---- its mask

settings_is : {mask : ℕ} {t : Ty} (x : Block mask t) → settings_of t ≡ count_of x.members
unfolding settings_of
settings_is x = rw x.is refl

ones_short : (n : ℕ) → 2 ^ n - 1 < 2 ^ n
ones_short n = omega (arith, pow_pos n)

-- Every member has its bit, and nothing else has one.
pub every_bit_lem : (t : Ty) (k : ℕ) → bit_at (every_bit t) k ≡ ltb k (settings_of t)
unfolding every_bit
every_bit_lem t k =
    let n = settings_of t in
    ⊎_elim (λ (l : k < n). bit_ones n k l ∙ sym (lt-ltb k n l))
    (λ (l : n ≤ k). bit_above (2 ^ n - 1) n k (ones_short n) l ∙ sym (le-ltb k n l)) (lt_or_le k n)

-- A member of a block is one that has its bit.
pub member_bit : {mask : ℕ} {t : Ty} (b : Block mask t) (k : ℕ) (n : Target) → member_of t k ≡ good n → bit_at (every_bit t) k ≡ true
member_bit {t = t} b k n g =
    let low = member_low b.kind b.members k n (rw b.is at g) in
    every_bit_lem t k ∙ lt-ltb k (settings_of t) (omega (arith, low, settings_is b))

-- ---- the bytes copied

module _ (z : ℕ) (factory site : List ℕ) (from : z ≤ length factory) (to : z ≤ length site) where
  abbrev whole : List ℕ
  whole = take z factory ++ drop z site

  taken_long : length (take z factory) ≡ z
  taken_long = simp (length-take) (omega arith)

  whole_long : length whole ≡ length site
  whole_long = length-append (take z factory) (drop z site) ∙ simp (length-take, length-drop) (omega arith)

  whole_below : (i : ℕ) → i < z → get_or whole i 0 ≡ get_or factory i 0
  whole_below i l =
      get_or-append (take z factory) (drop z site) 0 i (omega (arith, taken_long)) ∙ get_or-take z factory i 0 l

  whole_above : (i : ℕ) → z ≤ i → get_or whole i 0 ≡ get_or site i 0
  whole_above i l =
      let at : length (take z factory) + (i - z) ≡ i = omega (arith, taken_long) in
      let back : z + (i - z) ≡ i = omega arith in
      ap (λ (j : ℕ). get_or whole j 0) (sym at)
      ∙ get_or-append-add (take z factory) (drop z site) (i - z) 0
      ∙ get_or-drop z site (i - z) 0
      ∙ ap (λ (j : ℕ). get_or site j 0) back

-- ---- the block

module _ {f : List ℕ} {e : ℕ} {factory site : List ℕ} {t : Ty} (x : IsBlock f e 0 factory site t) where
  -- the site buffer once the factory's bytes are copied
  abbrev copy : List ℕ
  copy = copied_whole t factory site

  long : length copy ≡ length site
  unfolding copied_whole
  long = whole_long (present (size_of t)) factory site x.factory_room x.site_room

  -- a block beside every factory buffer that might have been copied
  still : (other : List ℕ) → block_in f e 0 other site ≡ good t → block_in f e (every_bit t) other copy ≡ good t
  unfolding every_bit
  still other g =
      let y = block_is g in
      let b = block_struct 0 t y.block in
      block_if (record {
        entry = y.entry;
        storable = y.storable;
        block = struct_block b (every_bit t) (rw (settings_is b) (ones_short (count_of b.members)));
        factory_room = y.factory_room;
        site_room = omega (arith, y.site_room, long);
        within = rw long y.within;
      })

  every_shows : (k : ℕ) (n : Target) → member_of t k ≡ good n → (other : List ℕ) → shown_bytes n (every_bit t) k other copy ≡ bytes_in n factory
  unfolding shown_in copied_whole
  every_shows k n g other =
      let inside = (member_inside f e 0 factory site t k n (block_if x) g).1 in
      ap (λ (b : Bool). bytes_in n (cond b copy other)) (member_bit (block_struct 0 t x.block) k n g)
      ∙ part_same (span_of n.shape) n.offset copy factory (omega (arith, inside, x.site_room, long))
      (omega (arith, inside, x.factory_room)) (λ i lo hi.
      whole_below (present (size_of t)) factory site x.factory_room x.site_room i (omega (arith, inside)))

  fresh_is : Fresh f e factory site (site_done 0 copy (every_bit t)) t
  unfolding copied_whole
  fresh_is = record {
    block = block_if x;
    value_is = refl;
    bits = every_bit_lem t;
    copied = whole_below (present (size_of t)) factory site x.factory_room x.site_room;
    later = whole_above (present (size_of t)) factory site x.factory_room x.site_room;
    length_same = long;
    again = still;
    shows = every_shows;
  }

-- A fresh block that is good is a copy of the factory's bytes with every member's bit.
pub fresh_did : {f : List ℕ} {e : ℕ} {factory site : List ℕ} {d : SiteDone} → fresh_call f e factory site ≡ good d → (t : Ty) × Fresh f e factory site d t
unfolding fresh_call
fresh_did {f} {e} {factory} {site} {d} h =
    let s = then_good _ _ h in
    let t = s.value in
    let is : site_done 0 (copied_whole t factory site) (every_bit t) ≡ d = cc s.after in
    (t, rw is at (fresh_is (block_is s.first)))

-- It is good exactly if an ask for a member, of an empty mask, gets past 15.
pub fresh_good_if : (f : List ℕ) (e : ℕ) (factory site : List ℕ) → GoodIf (fresh_call f e factory site) ((t : Ty) × IsBlock f e 0 factory site t)
unfolding fresh_call
fresh_good_if f e factory site = record {
  if_so = λ (t, x). (_, then_is _ (block_if x));
  only_if = λ d h. let (t, x) = fresh_did h in (t, block_is x.block);
}
