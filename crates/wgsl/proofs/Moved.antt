-- A file in another form (specs/Form): its trailer and its entries are those that it had.
--
-- In order: numbers in lists that are put together; lengths; member entries; the trailer; all entries.
-- Assumes nothing.
use Prim.Native.Nat.{ℕ, zero, suc, ◌+◌, ◌-◌, ◌*◌, ◌<◌, ◌≤◌}
use mathlib.Core.List.{List, ◌++◌}
use mathlib.Core.Path.{◌≡◌, refl, ap, sym, ◌∙◌}
use native.Mathlib.Omega.{arith}
use native.Mathlib.Nat.{suc-mul, mul_comm, mul-zero, zero-mul, zero-add, add-zero, mul-le-mul_left}
use lib.ListN.{length, take, drop, length-append, length-drop, get_or-append}
use lib.Seq.{length-take-le, get_or-append-add, get_or-take, get_or-drop, ext_get_or, take-append_seam}
use Rattle.wgsl.specs.Number.{load, bytes_of}
use Rattle.wgsl.specs.File.{Trailer, trailer_of, trailer_length, member_entry_length, member_fields_length, length_by, type_entry_from, type_entry_at, member_entry_from, member_entry_at}
use Rattle.wgsl.specs.Rule.{types_of}
use Rattle.wgsl.specs.Form.{member_place, entries_with, trailer_as, moved_to}
use Rattle.wgsl.proofs.Number.{length_bytes_of}
use Rattle.wgsl.proofs.MemberLength.{length_least}
use Rattle.wgsl.proofs.Trailed.{Trailed, trailed_good}
use Rattle.wgsl.proofs.SameEntries.{SameEntries, same_back, same_types}

-- ---- numbers in lists that are put together

load_after : (k : ℕ) (a b : List ℕ) (i : ℕ) → load k (a ++ b) (length a + i) ≡ load k b i
unfolding load
load_after zero a b i = refl
load_after (suc k) a b i =
    let e : length a + i + 1 ≡ length a + (i + 1) = omega arith in
    rw (get_or-append-add a b i 0, e, load_after k a b (i + 1))

load_before : (k : ℕ) (a b : List ℕ) (at : ℕ) → at + k ≤ length a → load k (a ++ b) at ≡ load k a at
unfolding load
load_before zero a b at h = refl
load_before (suc k) a b at h = rw (get_or-append a b 0 at (omega arith), load_before k a b (at + 1) (omega arith))

-- What is read from the bytes after s is read s bytes later.
load_part : (k n s : ℕ) (f : List ℕ) (at : ℕ) → at + k ≤ n → load k (take n (drop s f)) at ≡ load k f (s + at)
unfolding load
load_part zero n s f at h = refl
load_part (suc k) n s f at h =
    let e : s + (at + 1) ≡ s + at + 1 = omega arith in
    rw (get_or-take n (drop s f) at 0 (omega arith), get_or-drop s f at 0, load_part k n s f (at + 1) (omega arith), e)

load_take : (k n : ℕ) (f : List ℕ) (at : ℕ) → at + k ≤ n → load k (take n f) at ≡ load k f at
unfolding load
load_take zero n f at h = refl
load_take (suc k) n f at h = rw (get_or-take n f at 0 (omega arith), load_take k n f (at + 1) (omega arith))

-- ---- a file that 1 to 4 do not refuse

module _ {f : List ℕ} {r : Trailer} (t : Trailed f r) where
  -- member entry m lies within it
  pub entry_inside : (m : ℕ) → m < r.members → member_place f m + member_entry_length r.form + trailer_length ≤ length f
  unfolding member_place length_by
  entry_inside m h =
      let l = member_entry_length r.form in
      let all : l * suc m ≤ l * r.members = mul-le-mul_left l h in
      rw (← t.is) (omega (arith, t.long, all, mul_comm l (suc m), suc-mul m l, mul_comm l m))

  -- so do the bytes before the first
  pub start_inside : member_place f 0 + trailer_length ≤ length f
  unfolding member_place length_by
  start_inside = rw (← t.is, mul-zero) (omega (arith, t.long))

  -- ---- its member entries, with other names

  module _ (name : List ℕ) where
    -- the fields of one
    fields : ℕ → List ℕ
    fields m = take member_fields_length (drop (member_place f m) f)

    fields_long : (m : ℕ) → m < r.members → length (fields m) ≡ 12
    unfolding fields
    fields_long m h =
        length-take-le 12 (drop (member_place f m) f)
        (rw length-drop (omega (arith, entry_inside m h, length_least r.form)))

    pub entries_long : (n m : ℕ) → m + n ≤ r.members → length (entries_with f name n m) ≡ n * (12 + length name)
    unfolding entries_with fields
    entries_long zero m h = omega arith
    entries_long (suc n) m h =
        rw (length-append, length-append, fields_long m (omega arith), entries_long n (suc m) (omega arith))
        (omega (arith, suc-mul n (12 + length name)))

    -- what is read of them is what was read before
    pub entries_load : (n m i : ℕ) → m + n ≤ r.members → i < n → (k at : ℕ) → at + k ≤ 12 → load k (entries_with f name n m) (i * (12 + length name) + at) ≡ load k f (member_place f (m + i) + at)
    unfolding entries_with fields
    entries_load zero m i h l k at w = absurd (omega arith)
    entries_load (suc n) m zero h l k at w =
        let long = fields_long m (omega arith) in
        let z : m + 0 ≡ m = omega arith in
        rw (zero-mul (12 + length name), zero-add at, z)
        (load_before k (fields m) _ at (omega (arith, long)) ∙ load_part k 12 (member_place f m) f at w)
    entries_load (suc n) m (suc i) h l k at w =
        let long = fields_long m (omega arith) in
        let rest = entries_with f name n (suc m) in
        let at' : suc i * (12 + length name) + at ≡ length (fields m) + (length name + (i * (12 + length name) + at)) = omega (arith, long, suc-mul i (12 + length name)) in
        let next : m + suc i ≡ suc m + i = omega arith in
        rw (at', next)
        (load_after k (fields m) (name ++ rest) _
        ∙ load_after k name rest _
        ∙ entries_load n (suc m) i (omega arith) (omega arith) k at w)

    -- and after them stands the name
    pub entries_name : (n m i : ℕ) → m + n ≤ r.members → i < n → (k at : ℕ) → at + k ≤ length name → load k (entries_with f name n m) (i * (12 + length name) + (12 + at)) ≡ load k name at
    unfolding entries_with fields
    entries_name zero m i h l k at w = absurd (omega arith)
    entries_name (suc n) m zero h l k at w =
        let long = fields_long m (omega arith) in
        let at' : 0 * (12 + length name) + (12 + at) ≡ length (fields m) + at = rw (zero-mul (12 + length name)) (omega (arith, long)) in
        rw at' (load_after k (fields m) _ at ∙ load_before k name _ at w)
    entries_name (suc n) m (suc i) h l k at w =
        let long = fields_long m (omega arith) in
        let rest = entries_with f name n (suc m) in
        let at' : suc i * (12 + length name) + (12 + at) ≡ length (fields m) + (length name + (i * (12 + length name) + (12 + at))) = omega (arith, long, suc-mul i (12 + length name)) in
        rw at'
        (load_after k (fields m) (name ++ rest) _
        ∙ load_after k name rest _
        ∙ entries_name n (suc m) i (omega arith) (omega arith) k at w)

-- ---- entries by what is read of them

fields_same : (f g : List ℕ) (a b : ℕ) → ((k at : ℕ) → at + k ≤ 12 → load k f (a + at) ≡ load k g (b + at)) → member_entry_from f a ≡ member_entry_from g b
unfolding member_entry_from
fields_same f g a b h =
    let first : load 2 f a ≡ load 2 g b = rw (← add-zero a, ← add-zero b) (h 2 0 (omega arith)) in
    rw (first, h 2 2 (omega arith), h 4 4 (omega arith), h 4 8 (omega arith))

type_same : (f g : List ℕ) (at : ℕ) → ((k i : ℕ) → i + k ≤ 12 → load k f (at + i) ≡ load k g (at + i)) → type_entry_from f at ≡ type_entry_from g at
unfolding type_entry_from
type_same f g at h =
    let first : load 1 f at ≡ load 1 g at = rw (← add-zero at) (h 1 0 (omega arith)) in
    rw (first, h 1 1 (omega arith), h 1 2 (omega arith), h 1 3 (omega arith), h 2 4 (omega arith), h 2 6 (omega arith), h 4 8 (omega arith))

-- Parts from which the same is read are the same.
part_same : (f g : List ℕ) (n a b : ℕ) → a + n ≤ length f → b + n ≤ length g → ((k at : ℕ) → at + k ≤ n → load k f (a + at) ≡ load k g (b + at)) → take n (drop a f) ≡ take n (drop b g)
unfolding load
part_same f g n a b p q h =
    let long = length-take-le n (drop a f) (rw length-drop (omega arith)) in
    let long' = length-take-le n (drop b g) (rw length-drop (omega arith)) in
    ext_get_or 0 _ _ (long ∙ sym long') (λ i l.
    let inside : i < n = omega (arith, long) in
    rw (get_or-take n (drop a f) i 0 inside, get_or-take n (drop b g) i 0 inside, get_or-drop, get_or-drop) (omega (arith, h 1 i (omega arith))))

-- ---- the file in another form

form_loads : (form : ℕ) → 1 ≤ form → form ≤ 2 → load 2 (bytes_of 2 form) 0 ≡ form
unfolding load bytes_of
form_loads zero low high = absurd (omega (arith, low))
form_loads (suc zero) low high = refl
form_loads (suc (suc zero)) low high = refl
form_loads (suc (suc (suc n))) low high = absurd (omega (arith, high))

module _ {f : List ℕ} {r : Trailer} (t : Trailed f r) (form : ℕ) (name : List ℕ) (low : 1 ≤ form) (high : form ≤ 2) (wide : 12 + length name ≡ member_entry_length form) where
  head : List ℕ
  head = take (member_place f 0) f

  entries : List ℕ
  entries = entries_with f name r.members 0

  tail : List ℕ
  tail = trailer_as form f

  abbrev moved : List ℕ
  moved = moved_to form name f

  moved_is : moved ≡ head ++ (entries ++ tail)
  unfolding moved head entries tail moved_to
  moved_is = rw t.is refl

  head_long : length head ≡ member_place f 0
  unfolding head
  head_long = length-take-le (member_place f 0) f (omega (arith, start_inside t))

  entries_are_long : length entries ≡ r.members * member_entry_length form
  unfolding entries
  entries_are_long = rw (← wide) (entries_long t name r.members 0 (omega arith))

  tail_first : length (take 8 (drop (length f - trailer_length) f)) ≡ 8
  tail_first = length-take-le 8 (drop (length f - trailer_length) f) (rw length-drop (omega (arith, t.bytes)))

  tail_long : length tail ≡ 10
  unfolding tail trailer_as
  tail_long = rw (length-append, tail_first, length_bytes_of) refl

  -- its length but for the trailer
  place : ℕ
  place = member_place f 0 + r.members * member_entry_length form

  moved_long : length moved ≡ place + 10
  unfolding place
  moved_long = rw (moved_is, length-append, length-append, head_long, entries_are_long, tail_long) (omega arith)

  tail_load : (k at : ℕ) → load k moved (place + at) ≡ load k tail at
  unfolding place
  tail_load k at =
      let e : member_place f 0 + r.members * member_entry_length form + at ≡ length head + (length entries + at) = omega (arith, head_long, entries_are_long) in
      rw (moved_is, e) (load_after k head (entries ++ tail) (length entries + at) ∙ load_after k entries tail at)

  tail_kept : (k at : ℕ) → at + k ≤ 8 → load k tail at ≡ load k f (length f - trailer_length + at)
  unfolding tail trailer_as
  tail_kept k at h = load_before k _ _ at (omega (arith, tail_first)) ∙ load_part k 8 (length f - trailer_length) f at h

  tail_form : load 2 tail 8 ≡ form
  unfolding tail trailer_as
  tail_form =
      let first = take 8 (drop (length f - trailer_length) f) in
      let at : 8 ≡ length first + 0 = omega (arith, tail_first) in
      ap (load 2 tail) at ∙ load_after 2 first (bytes_of 2 form) 0 ∙ form_loads form low high

  pub trailer_moved : trailer_of moved ≡ record { types = r.types; members = r.members; start = r.start; form = form }
  unfolding trailer_of
  trailer_moved =
      let at : length moved - 10 ≡ place = omega (arith, moved_long) in
      let was : ℕ = length f - 10 in
      let types : load 2 moved place ≡ r.types = ap (load 2 moved) (sym (add-zero place)) ∙ tail_load 2 0 ∙ tail_kept 2 0 (omega arith) ∙ ap (load 2 f) (add-zero was) ∙ ap (λ (x : Trailer). x.types) (sym t.is) in
      let members : load 2 moved (place + 2) ≡ r.members = tail_load 2 2 ∙ tail_kept 2 2 (omega arith) ∙ ap (λ (x : Trailer). x.members) (sym t.is) in
      let start : load 4 moved (place + 4) ≡ r.start = tail_load 4 4 ∙ tail_kept 4 4 (omega arith) ∙ ap (λ (x : Trailer). x.start) (sym t.is) in
      rw (at, types, members, start, tail_load, tail_form) refl

  abbrev trailer : Trailer
  trailer = record { types = r.types; members = r.members; start = r.start; form = form }

  -- 1 to 4 do not refuse it
  pub moved_trailed : Trailed moved trailer
  unfolding length_by place member_place
  moved_trailed = record {
    is = sym trailer_moved;
    bytes = omega (arith, moved_long);
    form_low = low;
    form_high = high;
    low = t.low;
    high = t.high;
    few = t.few;
    long = moved_long ∙ rw (← t.is) (omega (arith, mul_comm r.members (member_entry_length form), mul-zero (member_entry_length r.form)));
  }

  -- its type entries lie where they lay, as they were
  head_load : (k at : ℕ) → at + k ≤ member_place f 0 → load k moved at ≡ load k f at
  unfolding head
  head_load k at h = rw moved_is (load_before k head _ at (omega (arith, head_long)) ∙ load_take k (member_place f 0) f at h)

  -- the fields of its member entries are those that they were
  member_load : (m k at : ℕ) → m < r.members → at + k ≤ 12 → load k moved (member_place f 0 + member_entry_length form * m + at) ≡ load k f (member_place f m + at)
  unfolding entries
  member_load m k at h w =
      let l = member_entry_length form in
      let all : l * suc m ≤ l * r.members = mul-le-mul_left l h in
      let e : member_place f 0 + l * m + at ≡ length head + (m * (12 + length name) + at) = rw wide (omega (arith, head_long, mul_comm l m)) in
      let inside : m * (12 + length name) + at + k ≤ length entries = rw (wide, entries_are_long) (omega (arith, all, length_least form, mul_comm l (suc m), suc-mul m l, mul_comm l r.members)) in
      rw (moved_is, e) (load_after k head (entries ++ tail) _ ∙ load_before k entries tail _ inside ∙ entries_load t name r.members 0 m (omega arith) h k at w ∙ ap (λ n. load k f (member_place f n + at)) (zero-add m))

  type_inside : (k i j : ℕ) → k < r.types → i + j ≤ 12 → r.start + 12 * k + i + j ≤ member_place f 0
  unfolding member_place
  type_inside k i j h w = rw (← t.is, mul-zero) (omega (arith, h, w))

  entry_same : (k : ℕ) → k < r.types → type_entry_at f k ≡ type_entry_at moved k
  unfolding type_entry_at
  entry_same k h =
      rw (trailer_moved, ← t.is)
      (sym (type_same moved f (r.start + 12 * k) (λ j i w. head_load j (r.start + 12 * k + i) (type_inside k i j h w))))

  member_same : (m : ℕ) → m < r.members → member_entry_at f m ≡ member_entry_at moved m
  unfolding member_entry_at member_place
  member_same m h =
      let l = member_entry_length form in
      let first : member_place f 0 ≡ r.start + 12 * r.types = rw (← t.is, mul-zero) (omega arith) in
      rw (trailer_moved, ← first)
      (sym (fields_same moved f (member_place f 0 + l * m) (member_place f m) (λ k at w. member_load m k at h w)))

  pub moved_same : SameEntries f moved
  moved_same = record {
    types = rw (trailer_moved, ← t.is) refl;
    members = rw (trailer_moved, ← t.is) refl;
    entry = rw (← t.is) entry_same;
    member = rw (← t.is) member_same;
  }

  -- so its types are those that it had, or the refusal of the lowest bad entry
  pub moved_types : types_of moved ≡ types_of f
  moved_types = same_types (trailed_good moved_trailed) (trailed_good t) (same_back moved_same)

  -- ---- what it is made of

  pub moved_place : (m : ℕ) → member_place moved m ≡ member_place f 0 + member_entry_length form * m
  unfolding member_place
  moved_place m = rw (trailer_moved, ← t.is, mul-zero) (omega arith)

  pub moved_head : take (member_place moved 0) moved ≡ take (member_place f 0) f
  unfolding head
  moved_head =
      let at : member_place moved 0 ≡ length head = rw (moved_place, mul-zero, head_long) (omega arith) in
      rw (at, moved_is, take-append_seam head (entries ++ tail)) refl

  pub moved_fields : (m : ℕ) → m < r.members → take 12 (drop (member_place moved m) moved) ≡ take 12 (drop (member_place f m) f)
  moved_fields m h = part_same moved f 12 (member_place moved m) (member_place f m) (omega (arith, entry_inside moved_trailed m h, length_least form)) (omega (arith, entry_inside t m h, length_least r.form)) (rw moved_place (λ k at w. member_load m k at h w))

  pub moved_trailer : take 8 (drop (length moved - trailer_length) moved) ≡ take 8 (drop (length f - trailer_length) f)
  moved_trailer =
      let at : length moved - 10 ≡ place = omega (arith, moved_long) in
      part_same moved f 8 (length moved - 10) (length f - 10) (omega (arith, moved_long)) (omega (arith, t.bytes)) (rw at (λ k i w. tail_load k i ∙ tail_kept k i w))

  pub moved_name : (m : ℕ) → m < r.members → load (length name) moved (member_place moved m + 12) ≡ load (length name) name 0
  unfolding entries
  moved_name m h =
      let l = member_entry_length form in
      let n = length name in
      let all : l * suc m ≤ l * r.members = mul-le-mul_left l h in
      let e : member_place f 0 + l * m + 12 ≡ length head + (m * (12 + n) + (12 + 0)) = rw wide (omega (arith, head_long, mul_comm l m)) in
      let inside : m * (12 + n) + (12 + 0) + n ≤ length entries = rw entries_are_long (omega (arith, all, wide, ap (λ x. m * x) wide, mul_comm l (suc m), suc-mul m l, mul_comm l r.members)) in
      rw (moved_place, moved_is, e) (load_after n head (entries ++ tail) _ ∙ load_before n entries tail _ inside ∙ entries_name t name r.members 0 m (omega arith) h n 0 (omega arith))
