-- The block that was found, and a member of it (specs/Block, specs/Spot).
--
-- In order: what was found; what a walk in it asks; its numbers in the table; the spot in it.
-- Assumes nothing.
use Prim.Native.Nat.{ℕ, ◌≤◌, max}
use mathlib.Core.Bool.{true, false}
use mathlib.Core.List.{List}
use mathlib.Core.Option.{Option, none, some}
use mathlib.Core.Path.{◌≡◌, refl, ap, sym, ◌∙◌}
use native.Mathlib.Omega.{arith}
use borrow.Author.Tests.{leb-true}
use lib.ListN.{length}
use Rattle.wgsl.specs.Round.{limit}
use Rattle.wgsl.specs.Types.{Ty, is_open, everywhere}
use Rattle.wgsl.specs.Size.{present, size_of, has_layout, is_storable, is_plain}
use Rattle.wgsl.specs.Said.{good, refused}
use Rattle.wgsl.specs.Place.{shape_of}
use Rattle.wgsl.specs.Site.{block_entry, block_in, settings_of}
use Rattle.wgsl.specs.Rule.{is_well_formed, count_of}
use Rattle.wgsl.proofs.Entry.{size_limit}
use Rattle.wgsl.proofs.Absent.{both_hold}
use Rattle.wgsl.proofs.Said.{good_not_refused, then_good, then_cases, then_is, then_refused}
use Rattle.wgsl.proofs.EntryFor.{entry_sound}
use Rattle.wgsl.proofs.Tail.{closed_extent}
use Rattle.wgsl.proofs.Site.{Block, block_struct, is_entry}
use Rattle.layout_table.specs.declared.Ground.{Ground}
use Rattle.layout_values.specs.declared.value.Value.{Value}
use Rattle.layout_values.specs.Value.{value_of, parts_of}
use Rattle.walk_decide.specs.Meant.{members_part}
use Rattle.walk_decide.proofs.Meant.{entry_found, entry_missing, entry_site, entry_value, entry_well_formed}
use Rattle.walk_path.specs.declared.enter.Stand.TheVariants.{Entry}
use Rattle.walk_path.specs.Way.{at_entry, Standing}
use Rattle.site.specs.Block.{block_ground, BlockAt}
use Rattle.site.specs.Spot.{spot_at, spot_call}

-- ---- what was found

pub ground_refused : (f : List ℕ) (e mask bytes : ℕ) {number place : ℕ} → refused number place ≡ block_ground f e mask bytes → block_entry f e mask bytes ≡ refused number place
unfolding block_ground
ground_refused f e mask bytes h =
    then_cases _ _ (sym h) (λ q. q) (λ q. good_not_refused (is_entry q.first).entry (entry_missing f e (sym q.after)))

pub ground_at : (f : List ℕ) (e mask bytes : ℕ) (g : Ground) (table : List Value) → good (record { ground = g; table = table }) ≡ block_ground f e mask bytes → (t : Ty) × BlockAt f e g table mask bytes t
unfolding block_ground
ground_at f e mask bytes g table h =
    let q = then_good _ _ (sym h) in
    let x = entry_found f e table g (sym q.after) in
    let same : x.0 ≡ q.value = cc (x.1.is_entry, (is_entry q.first).entry) in
    (x.0, record { meant = x.1; block = q.first ∙ ap good (sym same) })

-- ---- what a walk in it asks

size_low : (t : Ty) → everywhere is_well_formed t ≡ true → present (size_of t) ≤ limit
unfolding present
size_low t well = go (size_of t) refl
  where
    go : (o : Option ℕ) → size_of t ≡ o → present o ≤ limit
    go (some z) e = size_limit t z well e
    go none e = omega arith

members_are : {mask : ℕ} {t : Ty} (b : Block mask t) → settings_of t ≡ count_of b.members
unfolding settings_of
members_are b = rw b.is refl

module _ {f : List ℕ} {e : ℕ} {g : Ground} {table : List Value} {mask bytes : ℕ} {t : Ty} (x : BlockAt f e g table mask bytes t) where
  pub closed : is_open t ≡ false
  closed = (block_struct mask t (is_entry x.block).block).closed

  pub standing : Standing f x.meant.types (members_part f g) table 0 (Entry e) (shape_of 0 t)
  unfolding is_storable
  standing =
      let layout = (both_hold (has_layout t) (everywhere is_plain t) (is_entry x.block).storable).0 in
      let span = (entry_sound f e t x.meant.is_entry layout 0).1 in
      record {
        basis = entry_site x.meant;
        stands = at_entry x.meant.there layout;
        within = omega (arith, span, closed_extent 0 t closed, size_low t (entry_well_formed x.meant));
      }

  -- ---- its numbers in the table

  pub size_is : g.value.size ≡ present (size_of t)
  unfolding value_of
  size_is = ap (λ (l : Value). l.size) (entry_value x.meant)

  pub count_is : g.value.count ≡ settings_of t
  unfolding value_of parts_of settings_of
  count_is =
      let b = block_struct mask t (is_entry x.block).block in
      ap (λ (l : Value). l.count) (entry_value x.meant) ∙ rw b.is refl

  -- "at most 64 members"
  pub count_low : g.value.count ≤ 64
  count_low =
      let b = block_struct mask t (is_entry x.block).block in
      omega (arith, count_is, members_are b, leb-true (count_of b.members) 64 b.few)

-- the block, in buffers of these lengths
pub in_these : {f : List ℕ} {e : ℕ} {g : Ground} {table : List Value} {mask m n : ℕ} {t : Ty} (a b : List ℕ) → BlockAt f e g table mask (max m n) t → length a ≡ m → length b ≡ n → block_entry f e mask (max (length a) (length b)) ≡ good t
in_these a b x la lb = rw (la, lb) x.block

-- ---- the spot in it

module _ (f : List ℕ) (e k : ℕ) (steps : List ℕ) (mask : ℕ) (a b : List ℕ) where
  pub spot_stopped : {number place : ℕ} → block_in f e mask a b ≡ refused number place → refused number place ≡ spot_call f e k steps mask a b
  unfolding spot_call
  spot_stopped h = sym (then_refused _ h)

  pub spot_goes : {t : Ty} → block_in f e mask a b ≡ good t → spot_at (shape_of 0 t) k steps ≡ spot_call f e k steps mask a b
  unfolding spot_call
  spot_goes h = sym (then_is _ h)
