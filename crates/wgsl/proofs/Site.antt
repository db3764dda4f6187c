-- A site block (specs/Site): when its calls are good, and what they leave (specs/SiteClaim).
--
-- In order: what a block is; where its members lie; clearing; a path through a member; an inheriting block; bytes; setting a scalar.
-- Not here: the mask bit by bit (`SiteMask`).
-- Assumes nothing.
use Prim.Native.Nat.{ℕ, zero, suc, ◌+◌, ◌-◌, ◌^◌, ◌<◌, ◌≤◌}
use mathlib.Core.List.{List, [], ◌∷◌, map}
use mathlib.Core.Bool.{Bool, true, false, cond, ◌||◌, or-true, or-false}
use mathlib.Core.Option.{Option, some}
use mathlib.Core.Logic.{⊎_elim, ⊎_map}
use mathlib.Core.Path.{◌≡◌, refl, ap, sym, ◌∙◌}
use native.Mathlib.Omega.{arith}
use native.Mathlib.Nat.{zero-add, add_comm, zero-div}
use borrow.Author.Tests.{eqb-true, eqb-false, eq-eqb, ne_eqb, ltb-true, ltb-false, leb-true, not-true, not-false, lt-ltb, le-ltb, le-leb}
use lib.Dec.{eqb, leb}
use lib.ListN.{length, get_or, take, drop, set, length-take, length-drop, length-set}
use lib.Seq.{sets, length-sets, get_or-set_same, get_or-set_other, get_or-take, get_or-drop, ext_get_or}
use Rattle.wgsl.specs.Round.{limit, within_limit}
use Rattle.wgsl.specs.Number.{bytes_of, store}
use Rattle.wgsl.specs.Types.{Scalar, Ty, scalar, vector, matrix, array, runtime, atomic, struct, Members, no_more, member, is_open, everywhere}
use Rattle.wgsl.specs.Size.{present, width_of, size_of, align_of, member_end, has_layout, is_plain, is_storable}
use Rattle.wgsl.specs.Said.{good, ◌>>=◌, ◌>>◌, refuse}
use Rattle.wgsl.specs.Rule.{count_of}
use Rattle.wgsl.specs.Place.{Shape, shape_of, fields_of, extent_of, one, span_of, Place, word_places, store_words}
use Rattle.wgsl.specs.Path as path
use Rattle.wgsl.specs.Path.{Target, enter, walk, step_of}
use Rattle.wgsl.specs.Call.{Done, entry_of, allowed, is_short, set_scalar, set_target}
use Rattle.wgsl.specs.Site.{most_settings, is_block, block_entry, block_in, member_of, without_bit, with_bit, inheriting_call, member_call, shown_in, SiteDone, copied_in, site_set_call, clear_call}
use Rattle.wgsl.specs.SiteClaim.{bytes_in, shown_bytes, IsBlock, SetOnSite, Cleared}
use Rattle.wgsl.specs.BitField.{bit_at}
use Rattle.wgsl.specs.Claim.{Outside, Apart, member_step}
use Rattle.wgsl.specs.Shapes.{Sound}
use Rattle.wgsl.proofs.Absent.{both_hold, true_not_false}
use Rattle.wgsl.proofs.Said.{good_not_refused, next_good, next_is, then_good, then_is, refuse_good, refuse_no, refuse_not, or_refuse_good}
use Rattle.wgsl.proofs.Number.{sets_below, sets_past}
use Rattle.wgsl.proofs.Word.{length_store_words, scalar_uncovered, store_words_uncovered}
use Rattle.wgsl.proofs.Path.{target, walk_leads, target_inside, members_apart}
use Rattle.wgsl.proofs.Step.{number_of, step_code, step_of_code}
use Rattle.wgsl.proofs.Tail.{closed_extent}
use Rattle.wgsl.proofs.EntryFor.{entry_sound}
use Rattle.wgsl.proofs.Call.{done}
use Rattle.wgsl.proofs.Good.{one_scalar}
use Rattle.wgsl.proofs.SiteMask.{bit_with, bit_without, with_short, without_short}

-- ---- what a block is

-- a struct, not open, whose mask is short enough
pub record Block (mask : ℕ) (t : Ty) : Type 0 where
  pub kind : ℕ
  pub members : Members
  pub is : t ≡ struct kind members
  pub closed : is_open t ≡ false
  pub few : leb (count_of members) most_settings ≡ true
  pub short : mask < 2 ^ count_of members

-- A block is such a struct.
pub block_struct : (mask : ℕ) (t : Ty) → is_block mask t ≡ true → Block mask t
unfolding is_block
block_struct mask (scalar s) e = true_not_false e refl
block_struct mask (vector n s) e = true_not_false e refl
block_struct mask (matrix c r s) e = true_not_false e refl
block_struct mask (array n t) e = true_not_false e refl
block_struct mask (runtime t) e = true_not_false e refl
block_struct mask (atomic s) e = true_not_false e refl
block_struct mask (struct k ms) e =
    let x = both_hold _ _ e in
    let y = both_hold _ _ x.0 in
    record {
      kind = k;
      members = ms;
      is = refl;
      closed = not-true _ y.0;
      few = y.1;
      short = ltb-true mask (2 ^ count_of ms) x.1;
    }

-- The mask may change, as long as it stays short enough.
pub struct_block : {mask : ℕ} {t : Ty} (x : Block mask t) (other : ℕ) → other < 2 ^ count_of x.members → is_block other t ≡ true
unfolding is_block
struct_block x other l =
    let closed = rw x.is at x.closed in
    rw (x.is, closed, x.few, lt-ltb other (2 ^ count_of x.members) l) refl

-- none of 1 to 10 and 21 is due, and 17 not to a buffer of so many bytes
pub record IsEntry (f : List ℕ) (e mask bytes : ℕ) (t : Ty) : Type 0 where
  pub entry : entry_of f e ≡ good t
  pub storable : is_storable t ≡ true
  pub block : is_block mask t ≡ true
  pub within : bytes ≤ limit

-- A call that gets past 21 is about such an entry,
pub is_entry : {f : List ℕ} {e mask bytes : ℕ} {t : Ty} → block_entry f e mask bytes ≡ good t → IsEntry f e mask bytes t
unfolding block_entry allowed within_limit
is_entry {mask = mask} {bytes = bytes} {t = t} h =
    let s = then_good _ _ h in
    let u = s.value in
    let pass = next_good _ _ s.after in
    let past = refuse_good 17 0 _ _ pass.0 in
    let layout = refuse_good 9 0 _ _ past.1 in
    let last = refuse_good 21 0 _ _ pass.1 in
    let same : u ≡ t = cc last.1 in
    record {
      entry = cc s.first;
      storable = cc (refuse_not 10 0 (is_storable u) layout.1);
      block = cc (not-false (is_block mask u) last.0);
      within = leb-true bytes limit (not-false (leb bytes limit) past.0);
    }

-- what is storable has a layout
storable_layout : (t : Ty) → is_storable t ≡ true → has_layout t ≡ true
unfolding is_storable
storable_layout t e = (both_hold (has_layout t) (everywhere is_plain t) e).0

-- and with such an entry gets past it.
pub entry_if : {f : List ℕ} {e mask bytes : ℕ} {t : Ty} → IsEntry f e mask bytes t → block_entry f e mask bytes ≡ good t
unfolding block_entry allowed within_limit refuse ◌>>◌
entry_if {bytes = bytes} {t = t} x =
    then_is _ x.entry ∙ rw (le-leb bytes limit x.within, storable_layout t x.storable, x.storable, x.block) refl

-- a closed type is short of room exactly if its size is larger
room_of : (t : Ty) (b : List ℕ) → is_open t ≡ false → is_short t b ≡ false → present (size_of t) ≤ length b
unfolding is_short
room_of t b closed h = ltb-false (length b) (present (size_of t)) (rw closed at h)

of_room : (t : Ty) (b : List ℕ) → is_open t ≡ false → present (size_of t) ≤ length b → is_short t b ≡ false
unfolding is_short
of_room t b closed h = rw closed (le-ltb (length b) (present (size_of t)) h)

neither : (a b : Bool) → (a || b) ≡ false → (a ≡ false) × (b ≡ false)
neither true b e = true_not_false refl e
neither false b e = (refl, e)

-- A call that gets past 15 is about a block with room in both buffers,
pub block_is : {f : List ℕ} {e mask : ℕ} {factory site : List ℕ} {t : Ty} → block_in f e mask factory site ≡ good t → IsBlock f e mask factory site t
unfolding block_in
block_is {mask = mask} {factory = factory} {site = site} {t = t} h =
    let s = then_good _ _ h in
    let last = refuse_good 15 0 _ _ s.after in
    let same : s.value ≡ t = cc last.1 in
    let x = rw same at (is_entry s.first) in
    let long = rw same at (neither (is_short s.value factory) (is_short s.value site) last.0) in
    let closed = (block_struct mask t x.block).closed in
    record {
      entry = x.entry;
      storable = x.storable;
      block = x.block;
      factory_room = room_of t factory closed long.0;
      site_room = room_of t site closed long.1;
      within = x.within;
    }

-- and with such a block gets past it.
pub block_if : {f : List ℕ} {e mask : ℕ} {factory site : List ℕ} {t : Ty} → IsBlock f e mask factory site t → block_in f e mask factory site ≡ good t
unfolding block_in
block_if {mask = mask} {factory = factory} {site = site} {t = t} x =
    let closed = (block_struct mask t x.block).closed in
    then_is _ (entry_if (record { entry = x.entry; storable = x.storable; block = x.block; within = x.within }))
    ∙ refuse_no 15 0 (rw (of_room t factory closed x.factory_room, of_room t site closed x.site_room) refl)

-- Of the mask it matters only whether it is short enough, and of the site buffer how long it is.
pub block_same : (f : List ℕ) (e m n : ℕ) {t : Ty} (factory a b : List ℕ) → entry_of f e ≡ good t → is_block m t ≡ is_block n t → length a ≡ length b → block_in f e m factory a ≡ block_in f e n factory b
unfolding block_in block_entry is_short ◌>>=◌
block_same f e m n factory a b entry same long = rw (entry, same, long) refl

-- ---- where its members lie

-- a member is what the path of that one step leads to
member_walk : (t : Ty) (k : ℕ) (m : Target) → member_of t k ≡ good m → walk 0 0 (shape_of 0 t) (path.member k ∷ []) ≡ good m
unfolding member_of walk
member_walk t k m h = then_is _ h ∙ ap (λ (a : ℕ). good (target a m.shape)) (zero-add m.offset)

-- a block is laid out from 0 to its size
block_sound : {f : List ℕ} {e mask : ℕ} {factory site : List ℕ} {t : Ty} → IsBlock f e mask factory site t → Sound (shape_of 0 t) × (span_of (shape_of 0 t) ≡ present (size_of t))
block_sound {f} {e} {mask} {t = t} x =
    let s = entry_sound f e t x.entry (storable_layout t x.storable) 0 in
    (s.0, s.1 ∙ closed_extent 0 t (block_struct mask t x.block).closed)

-- A member lies inside its block.
pub member_inside : (f : List ℕ) (e mask : ℕ) (factory site : List ℕ) (t : Ty) (k : ℕ) (m : Target) → block_in f e mask factory site ≡ good t → member_of t k ≡ good m → Sound m.shape × (m.offset + span_of m.shape ≤ present (size_of t))
member_inside f e mask factory site t k m h g =
    let s = block_sound (block_is h) in
    let i = target_inside 0 0 (shape_of 0 t) (path.member k ∷ []) m s.0 (member_walk t k m g) in
    (i.0, omega (arith, i.2, s.1))

enter_low : (z : ℕ) (end : Option ℕ) (ms : Members) (k : ℕ) (m : Target) → enter 0 (fields_of 0 z end ms) (path.member k) ≡ good m → k < count_of ms
unfolding fields_of enter count_of
enter_low z end no_more k m h = good_not_refused h refl
enter_low z end (member t size align ms) zero m h = omega arith
enter_low z end (member t size align ms) (suc k) m h =
    omega (arith, enter_low z (member_end end align (align_of t) size (size_of t)) ms k m h)

-- Its number is below the count of the members.
pub member_low : (kind : ℕ) (ms : Members) (k : ℕ) (m : Target) → member_of (struct kind ms) k ≡ good m → k < count_of ms
unfolding member_of shape_of
member_low kind ms k m h = enter_low (extent_of 0 (struct kind ms)) (some 0) ms k m h

-- ---- clearing

-- Clearing drops the bit and leaves a block.
pub cleared : {f : List ℕ} {e k mask after : ℕ} → clear_call f e k mask ≡ good after → Cleared f e k mask after
unfolding clear_call
cleared {f} {e} {k} {mask} {after} h =
    let s = then_good _ _ h in
    let t = s.value in
    let x = is_entry s.first in
    let m = then_good _ _ s.after in
    let is : without_bit mask k ≡ after = cc m.after in
    let b = block_struct mask t x.block in
    rw (← is) (record {
      bits = bit_without mask k;
      again = λ factory site.
          block_same f e (without_bit mask k) mask factory site site x.entry
          (struct_block b (without_bit mask k) (without_short mask k (count_of b.members) b.short) ∙ sym x.block) refl;
    })

-- ---- a path through a member

-- A path that begins with the step to a member goes on as one that begins at the member.
pub site_path : (t : Ty) (k : ℕ) (m : Target) (steps : List ℕ) → k < 2 ^ 31 → member_of t k ≡ good m → walk 0 0 (shape_of 0 t) (map step_of (member_step k ∷ steps)) ≡ walk 1 m.offset m.shape (map step_of steps)
unfolding walk member_of member_step number_of step_code
site_path t k m steps small h =
    let step : step_of (2 ^ 31 + k) ≡ path.member k = ap step_of (add_comm (2 ^ 31) k) ∙ step_of_code (path.member k) small in
    rw step (then_is _ h ∙ rw zero-add refl)

-- ---- an inheriting block

pub zero_bits : (k : ℕ) → bit_at 0 k ≡ false
unfolding bit_at
zero_bits k = rw zero-div refl

-- An inheriting block has no member set on site.
pub inheriting_shows : (f : List ℕ) (e mask : ℕ) → inheriting_call f e ≡ good mask → (mask ≡ 0) × ((k : ℕ) → bit_at mask k ≡ false)
unfolding inheriting_call
inheriting_shows f e mask h =
    let is : mask ≡ 0 = cc (then_good _ _ h).after in
    rw is (refl, zero_bits)

-- ---- bytes

-- What is set from p on lies there.
pub sets_inside : (vs b : List ℕ) (p j : ℕ) → j < length vs → p + length vs ≤ length b → get_or (sets b p vs) (p + j) 0 ≡ get_or vs j 0
sets_inside [] b p j h room = absurd (omega arith)
sets_inside (v ∷ vs) b p zero h room =
    let at : p + 0 ≡ p = omega arith in
    rw at (sets_below vs (set b p v) (suc p) p (omega arith) ∙ get_or-set_same b p v 0 (omega arith))
sets_inside (v ∷ vs) b p (suc j) h room =
    let at : p + suc j ≡ suc p + j = omega arith in
    rw at (sets_inside vs (set b p v) (suc p) j (omega arith) (omega (arith, length-set b p v)))

-- two lists that have the same byte at i still have it after the same stores
module _ (i : ℕ) where
  set_same : (a b : List ℕ) (p v : ℕ) → i < length a → i < length b → get_or a i 0 ≡ get_or b i 0 → get_or (set a p v) i 0 ≡ get_or (set b p v) i 0
  set_same a b p v g h same = go (eqb i p) refl
    where
      go : (t : Bool) → eqb i p ≡ t → get_or (set a p v) i 0 ≡ get_or (set b p v) i 0
      go true e = rw (← eqb-true i p e) (get_or-set_same a i v 0 g ∙ sym (get_or-set_same b i v 0 h))
      go false e =
          get_or-set_other a p i v 0 (eqb-false i p e) ∙ same ∙ sym (get_or-set_other b p i v 0 (eqb-false i p e))

  sets_same : (vs a b : List ℕ) (p : ℕ) → i < length a → i < length b → get_or a i 0 ≡ get_or b i 0 → get_or (sets a p vs) i 0 ≡ get_or (sets b p vs) i 0
  sets_same [] a b p g h same = same
  sets_same (v ∷ vs) a b p g h same =
      sets_same vs (set a p v) (set b p v) (suc p) (rw length-set g) (rw length-set h) (set_same a b p v g h same)

  pub words_same : (ps : List Place) (ws a b : List ℕ) → i < length a → i < length b → get_or a i 0 ≡ get_or b i 0 → get_or (store_words ps ws a) i 0 ≡ get_or (store_words ps ws b) i 0
  unfolding store_words store
  words_same [] ws a b g h same = same
  words_same (p ∷ ps) [] a b g h same = same
  words_same (p ∷ ps) (w ∷ ws) a b g h same =
      let vs = bytes_of p.width w in
      words_same ps ws (sets a p.at vs) (sets b p.at vs) (rw length-sets g) (rw length-sets h)
      (sets_same vs a b p.at g h same)

-- two lists with the same bytes in a part have the same part
pub part_same : (n o : ℕ) (a b : List ℕ) → o + n ≤ length a → o + n ≤ length b → ((i : ℕ) → o ≤ i → i < o + n → get_or a i 0 ≡ get_or b i 0) → take n (drop o a) ≡ take n (drop o b)
part_same n o a b g h same =
    let long = part_length_here a g in
    ext_get_or 0 (take n (drop o a)) (take n (drop o b)) (long ∙ sym (part_length_here b h)) (λ i l.
    part_at a i (omega arith) ∙ same (o + i) (omega arith) (omega arith) ∙ sym (part_at b i (omega arith)))
  where
    part_length_here : (c : List ℕ) → o + n ≤ length c → length (take n (drop o c)) ≡ n
    part_length_here c room = simp (length-take, length-drop) (omega arith)

    part_at : (c : List ℕ) (i : ℕ) → i < n → get_or (take n (drop o c)) i 0 ≡ get_or c (o + i) 0
    part_at c i l = get_or-take n (drop o c) i 0 l ∙ get_or-drop o c i 0

-- ---- setting a scalar

-- a target whose one scalar can hold the words: whatever the buffer holds, they are stored there
pub record CanStore (target : Target) (ws : List ℕ) : Type 0 where
  pub scalar_there : Scalar
  pub is : target.shape ≡ one scalar_there
  pub stores : (b : List ℕ) → set_target target ws b ≡ good (done target.offset (store_words (word_places scalar_there target.offset) ws b))

pub can_store : (target : Target) (ws b : List ℕ) (d : Done) → set_target target ws b ≡ good d → CanStore target ws
unfolding set_target set_scalar
can_store target ws b d h =
    let s = then_good _ _ h in
    let count = refuse_good 14 0 _ _ s.after in
    let words = next_good _ _ count.1 in
    record {
      scalar_there = s.value;
      is = one_scalar target.shape s.value (or_refuse_good 14 0 _ s.first);
      stores = λ c. then_is _ s.first ∙ refuse_no 14 0 count.0 ∙ next_is _ words.0;
    }

-- the site buffer with the member's bytes in it
module _ (m : Target) (mask k : ℕ) (factory site : List ℕ) (from : m.offset + span_of m.shape ≤ length factory) (to : m.offset + span_of m.shape ≤ length site) where
  abbrev copied : List ℕ
  copied = copied_in m mask k factory site

  -- the copied bytes are as many as the member has
  bytes_long : length (bytes_in m factory) ≡ span_of m.shape
  bytes_long = simp (length-take, length-drop) (omega arith)

  copied_length : length copied ≡ length site
  unfolding copied_in
  copied_length = go (bit_at mask k)
    where
      go : (b : Bool) → length (cond b site (sets site m.offset (bytes_in m factory))) ≡ length site
      go true = refl
      go false = length-sets site m.offset (bytes_in m factory)

  -- outside the member it is the site buffer
  copied_outside : (i : ℕ) → Outside m.offset (span_of m.shape) i → get_or copied i 0 ≡ get_or site i 0
  unfolding copied_in
  copied_outside i o = go (bit_at mask k)
    where
      go : (b : Bool) → get_or (cond b site (sets site m.offset (bytes_in m factory))) i 0 ≡ get_or site i 0
      go true = refl
      go false =
          ⊎_elim (λ (l : i < m.offset). sets_below (bytes_in m factory) site m.offset i l)
          (λ (l : m.offset + span_of m.shape ≤ i). sets_past (bytes_in m factory) site m.offset i (omega (arith, bytes_long))) o

  -- in the member it holds what was shown
  copied_inside : (i : ℕ) → m.offset ≤ i → i < m.offset + span_of m.shape → get_or copied i 0 ≡ get_or (shown_in mask k factory site) i 0
  unfolding copied_in shown_in
  copied_inside i lo hi = go (bit_at mask k)
    where
      go : (b : Bool) → get_or (cond b site (sets site m.offset (bytes_in m factory))) i 0 ≡ get_or (cond b site factory) i 0
      go true = refl
      go false =
          let o = m.offset in
          let n = span_of m.shape in
          let is : o + (i - o) ≡ i = omega arith in
          rw is at
          (sets_inside (bytes_in m factory) site o (i - o) (omega (arith, bytes_long)) (omega (arith, bytes_long))
          ∙ get_or-take n (drop o factory) (i - o) 0 (omega arith)
          ∙ get_or-drop o factory (i - o) 0)

  -- what was shown lies in its buffer
  pub shown_room : m.offset + span_of m.shape ≤ length (shown_in mask k factory site)
  unfolding shown_in
  shown_room = go (bit_at mask k)
    where
      go : (b : Bool) → m.offset + span_of m.shape ≤ length (cond b site factory)
      go true = to
      go false = from

-- the bits after a set, at the member itself and at another
bit_set : (mask k : ℕ) → bit_at (with_bit mask k) k ≡ true
bit_set mask k = bit_with mask k k ∙ rw (eq-eqb k k refl) (or-true (bit_at mask k))

bit_other : (mask k j : ℕ) → (j ≡ k → ⊥) → bit_at (with_bit mask k) j ≡ bit_at mask j
bit_other mask k j differ = bit_with mask k j ∙ rw (ne_eqb j k differ) (or-false (bit_at mask j))

-- A member that an ask finds lies in the block's type, inside both buffers.
pub record Asked (f : List ℕ) (e k mask : ℕ) (factory site : List ℕ) (m : Target) : Type 0 where
  pub type : Ty
  pub block : IsBlock f e mask factory site type
  pub found : member_of type k ≡ good m
  pub sound : Sound m.shape
  pub from : m.offset + span_of m.shape ≤ length factory
  pub to : m.offset + span_of m.shape ≤ length site

pub asked : {f : List ℕ} {e k mask : ℕ} {factory site : List ℕ} {m : Target} → member_call f e k mask factory site ≡ good m → Asked f e k mask factory site m
unfolding member_call
asked {f} {e} {k} {mask} {factory} {site} {m} h =
    let s = then_good _ _ h in
    let x = block_is s.first in
    let i = member_inside f e mask factory site s.value k m s.first s.after in
    record {
      type = s.value;
      block = x;
      found = s.after;
      sound = i.0;
      from = omega (arith, i.1, x.factory_room);
      to = omega (arith, i.1, x.site_room);
    }

-- this value, and this site buffer and mask at the end
abbrev pub site_done : ℕ → List ℕ → ℕ → SiteDone
site_done value site mask = record { value = value; site = site; mask = mask }

-- words set at a path into a member
module _ {f : List ℕ} {e k : ℕ} (steps : List ℕ) {ws : List ℕ} {mask : ℕ} {factory site : List ℕ} {m u : Target} (a : Asked f e k mask factory site m) (led : walk 0 m.offset m.shape (map step_of steps) ≡ good u) (c : CanStore u ws) where
  abbrev base : List ℕ
  base = copied_in m mask k factory site

  -- what is stored over a buffer
  abbrev over : List ℕ → List ℕ
  over b = store_words (word_places c.scalar_there u.offset) ws b

  -- the scalar lies in the member
  scalar_in_lem : (m.offset ≤ u.offset) × (u.offset + present (width_of c.scalar_there) ≤ m.offset + span_of m.shape)
  unfolding span_of
  scalar_in_lem =
      let i = target_inside 0 m.offset m.shape (map step_of steps) u a.sound led in
      (i.1, rw c.is at i.2)

  long : length (over base) ≡ length site
  long = length_store_words _ ws base ∙ copied_length m mask k factory site a.from a.to

  stay : (i : ℕ) → Outside m.offset (span_of m.shape) i → get_or (over base) i 0 ≡ get_or site i 0
  stay i o =
      store_words_uncovered _ ws base i
      (scalar_uncovered c.scalar_there u.offset i
      (⊎_map (λ (l : i < m.offset). omega (arith, scalar_in_lem.0))
      (λ (l : m.offset + span_of m.shape ≤ i). omega (arith, scalar_in_lem.1)) o))
      ∙ copied_outside m mask k factory site a.from a.to i o

  -- the member then shows its old bytes with that scalar replaced
  shows_new : shown_bytes m (with_bit mask k) k factory (over base) ≡ bytes_in m (over (shown_in mask k factory site))
  unfolding shown_in
  shows_new =
      let o = m.offset in
      let n = span_of m.shape in
      let shown = shown_in mask k factory site in
      let ps = word_places c.scalar_there u.offset in
      let base_room : o + n ≤ length base = omega (arith, copied_length m mask k factory site a.from a.to, a.to) in
      let room = shown_room m mask k factory site a.from a.to in
      ap (λ (b : Bool). bytes_in m (cond b (over base) factory)) (bit_set mask k)
      ∙ part_same n o (over base) (over shown) (rw length_store_words base_room) (rw length_store_words room) (λ i lo hi.
      words_same i ps ws base shown (omega arith) (omega arith)
      (copied_inside m mask k factory site a.from a.to i lo hi))

  -- another member shows what it showed
  other_stays : (j : ℕ) (n : Target) → (j ≡ k → ⊥) → member_call f e j mask factory site ≡ good n → shown_bytes n (with_bit mask k) j factory (over base) ≡ shown_bytes n mask j factory site
  unfolding shown_in
  other_stays j n differ h =
      ap (λ (b : Bool). bytes_in n (cond b (over base) factory)) (bit_other mask k j differ) ∙ go (bit_at mask j)
    where
      there : Asked f e j mask factory site n
      there = asked h

      x : Shape
      x = shape_of 0 a.type

      apart : Apart n.offset (span_of n.shape) m.offset (span_of m.shape)
      apart =
          let same : there.type ≡ a.type = cc (there.block.entry, a.block.entry) in
          members_apart
          (walk_leads 0 0 x (path.member j ∷ []) n (member_walk a.type j n (rw same at there.found)))
          (walk_leads 0 0 x (path.member k ∷ []) m (member_walk a.type k m a.found))
          (block_sound a.block).0 differ

      go : (b : Bool) → bytes_in n (cond b (over base) factory) ≡ bytes_in n (cond b site factory)
      go true =
          part_same (span_of n.shape) n.offset (over base) site (omega (arith, long, there.to)) there.to (λ i lo hi.
          stay i (⊎_map (λ (l : n.offset + span_of n.shape ≤ m.offset). omega arith)
          (λ (l : m.offset + span_of m.shape ≤ n.offset). omega arith) apart))
      go false = refl

  block_again : block_in f e (with_bit mask k) factory (over base) ≡ block_in f e mask factory site
  block_again =
      let t = a.type in
      let b = block_struct mask t a.block.block in
      let low : k < count_of b.members = member_low b.kind b.members k m (rw b.is at a.found) in
      let short = with_short mask k (count_of b.members) low b.short in
      block_same f e (with_bit mask k) mask factory (over base) site a.block.entry
      (struct_block b (with_bit mask k) short ∙ sym a.block.block) long

  set_did : member_call f e k mask factory site ≡ good m → SetOnSite f e k steps ws mask factory site (site_done u.offset (over base) (with_bit mask k))
  set_did h = record {
    member = m;
    asked = h;
    target = u;
    led = led;
    replaced = done u.offset (over (shown_in mask k factory site));
    would = c.stores (shown_in mask k factory site);
    value_is = refl;
    shows = shows_new;
    bits = bit_with mask k;
    outside = stay;
    length_same = long;
    others = other_stays;
    again = block_again;
  }

-- A set changes one scalar of what member k showed, and the member is on site from then on.
pub site_set : {f : List ℕ} {e k : ℕ} {steps ws : List ℕ} {mask : ℕ} {factory site : List ℕ} {d : SiteDone} → site_set_call f e k steps ws mask factory site ≡ good d → SetOnSite f e k steps ws mask factory site d
unfolding site_set_call
site_set {f} {e} {k} {steps} {ws} {mask} {factory} {site} {d} h =
    let first = then_good _ _ h in
    let m = first.value in
    let b = copied_in m mask k factory site in
    let second = then_good _ _ first.after in
    let u = second.value in
    let third = then_good _ _ second.after in
    let c = can_store u ws b third.value third.first in
    let new = store_words (word_places c.scalar_there u.offset) ws b in
    let stored : done u.offset new ≡ third.value = cc (third.first, c.stores b) in
    let given : site_done third.value.value third.value.contents (with_bit mask k) ≡ d = cc third.after in
    let is = ap (λ (x : Done). site_done x.value x.contents (with_bit mask k)) stored ∙ given in
    rw is at (set_did steps (asked first.first) second.first c first.first)
