-- Files that are accepted, and the types of their entries (specs/Rule, `types_below` and `types_of`).
--
-- In order: lists read by number; the types of the lowest entries; the lowest bad entry; every type within is well formed; what is
-- refused of a file; an accepted file.
-- Not here: one entry (`Judged`), what it makes (`Made`), the trailer (`Trailed`).
-- Assumes nothing.
use Prim.Native.Nat.{ℕ, zero, suc, ◌<◌, ◌≤◌}
use mathlib.Core.Bool.{true}
use mathlib.Core.List.{List, [], ◌∷◌, ◌++◌}
use mathlib.Core.Option.{some}
use mathlib.Core.Logic.{◌⊎◌, inl, inr, ⊎_elim}
use mathlib.Core.Path.{◌≡◌, refl, ap, sym, ◌∙◌}
use native.Mathlib.Omega.{arith}
use native.Mathlib.Nat.{eq-or-lt_of_le}
use lib.ListN.{length, take, get_elem?, length-append}
use lib.Seq.{take_all, take-append-le}
use Rattle.wgsl.specs.Types.{Ty, everywhere}
use Rattle.wgsl.specs.Said.{Said, good, refused, ◌>>=◌, ◌>>◌}
use Rattle.wgsl.specs.File.{Trailer, trailer_of, check_trailer}
use Rattle.wgsl.specs.Rule.{is_well_formed, judged, types_below, all_named, types_of}
use Rattle.wgsl.specs.Claim.{Broken, no_type, not_allowed, not_given, too_large, Lowest}
use Rattle.wgsl.proofs.Absent.{some_not_none}
use Rattle.wgsl.proofs.Said.{good_not_refused, then_good, then_cases, next_good, refuse_cases}
use Rattle.wgsl.proofs.Judged.{judged_broken, judged_good, judged_well_formed}
use Rattle.wgsl.proofs.Made.{made_everywhere}
use Rattle.wgsl.proofs.Trailed.{Trailed, trailed, trailer_place}
use Rattle.wgsl.proofs.Stray.{Unnamed, unnamed}

module _ {A : Type 0} where
  -- The first elements are those of the list.
  pub get_elem_take : (n : ℕ) (l : List A) (i : ℕ) → i < n → get_elem? (take n l) i ≡ get_elem? l i
  get_elem_take zero l i h = absurd (omega arith)
  get_elem_take (suc n) [] i h = refl
  get_elem_take (suc n) (a ∷ l) zero h = refl
  get_elem_take (suc n) (a ∷ l) (suc i) h = get_elem_take n l i (omega arith)

  -- What is put at the end is there.
  pub get_elem_last : (l : List A) (a : A) (n : ℕ) → length l ≡ n → get_elem? (l ++ (a ∷ [])) n ≡ some a
  get_elem_last [] a n e = rw (← e)
  get_elem_last (b ∷ l) a n e = rw (← e) (get_elem_last l a (length l) refl)

  -- An element of a list with one more is one of the list or that one.
  pub get_elem_cases : (l : List A) (a : A) (n : ℕ) (b : A) → get_elem? (l ++ (a ∷ [])) n ≡ some b → (get_elem? l n ≡ some b) ⊎ (a ≡ b)
  get_elem_cases [] a zero b e = inr cc
  get_elem_cases [] a (suc n) b e = some_not_none e refl
  get_elem_cases (c ∷ l) a zero b e = inl e
  get_elem_cases (c ∷ l) a (suc n) b e = get_elem_cases l a n b e

-- the types of n + 1 entries: those of n entries, and one that is judged over them
pub record Split (f : List ℕ) (n : ℕ) (ts : List Ty) : Type 0 where
  pub before : List Ty
  pub last : Ty
  pub below : types_below f n ≡ good before
  pub good_last : judged f before n ≡ good last
  pub whole : ts ≡ before ++ (last ∷ [])

pub split : (f : List ℕ) (n : ℕ) (ts : List Ty) → types_below f (suc n) ≡ good ts → Split f n ts
unfolding types_below
split f n ts e =
    let h = then_good _ _ e in
    let g = then_good _ _ h.after in
    record { before = h.value; last = g.value; below = h.first; good_last = g.first; whole = cc g.after }

-- The n lowest entries have n types.
pub below_length : (f : List ℕ) (n : ℕ) (ts : List Ty) → types_below f n ≡ good ts → length ts ≡ n
unfolding types_below
below_length f zero ts e = let z : ts ≡ [] = cc in rw z
below_length f (suc n) ts e =
    let s = split f n ts e in
    rw (s.whole, length-append) (omega (arith, below_length f n s.before s.below))

whole_prefix : (f : List ℕ) (n : ℕ) (ts : List Ty) → types_below f n ≡ good ts → (k : ℕ) → k ≡ n → types_below f k ≡ good (take k ts)
whole_prefix f n ts e k q =
    let l : length ts ≤ n = omega (arith, below_length f n ts e) in
    rw (q, take_all n ts l) e

-- The types of the lowest entries are the first of the types.
pub below_prefix : (f : List ℕ) (n : ℕ) (ts : List Ty) → types_below f n ≡ good ts → (k : ℕ) → k ≤ n → types_below f k ≡ good (take k ts)
below_prefix f zero ts e k l = whole_prefix f zero ts e k (omega arith)
below_prefix f (suc n) ts e k l =
    let s = split f n ts e in
    let fits : k < suc n → k ≤ length s.before = λ h. omega (arith, below_length f n s.before s.below) in
    ⊎_elim (λ (h : k ≡ suc n). whole_prefix f (suc n) ts e k h)
    (λ (h : k < suc n).
    rw (s.whole, take-append-le k s.before (s.last ∷ []) (fits h))
    (below_prefix f n s.before s.below k (omega arith)))
    (eq-or-lt_of_le l)

-- An entry of an accepted file is judged over the types of lower entries alone.
pub below_entry : (f : List ℕ) (n : ℕ) (ts : List Ty) → types_below f n ≡ good ts → (k : ℕ) → k < n → (t : Ty) × (get_elem? ts k ≡ some t) × (judged f (take k ts) k ≡ good t)
below_entry f n ts e k l =
    let s = split f k (take (suc k) ts) (below_prefix f n ts e (suc k) l) in
    let m : k ≤ n = omega arith in
    let same : s.before ≡ take k ts = cc (below_prefix f n ts e k m) in
    let first : get_elem? ts k ≡ get_elem? (take (suc k) ts) k = sym (get_elem_take (suc k) ts k (omega arith)) in
    let end = get_elem_last s.before s.last k (below_length f k s.before s.below) in
    (s.last, first ∙ ap (λ (l : List Ty). get_elem? l k) s.whole ∙ end, rw (← same) s.good_last)

lowest_more : {f : List ℕ} {n number place : ℕ} → Lowest f n number place → Lowest f (suc n) number place
lowest_more h = record { low = omega arith; types = h.types; good_below = h.good_below; broken = h.broken }

-- The refusal of a file names its lowest bad entry.
pub below_lowest : {number place : ℕ} (f : List ℕ) (n : ℕ) → types_below f n ≡ refused number place → Lowest f n number place
unfolding types_below
below_lowest f zero e = good_not_refused refl e
below_lowest {number} {place} f (suc n) e =
    then_cases _ _ e (λ h. lowest_more (below_lowest f n h)) (λ h.
    then_cases _ _ h.after
    (λ b.
    let (at, broken) = judged_broken f h.value n b in
    record { low = omega arith; types = h.value; good_below = rw at h.first; broken = rw at broken })
    (λ g. good_not_refused refl g.after))

-- The types of accepted entries are well formed, and so is every type within them.
pub below_well_formed : (f : List ℕ) (n : ℕ) (ts : List Ty) → types_below f n ≡ good ts → (k : ℕ) (t : Ty) → get_elem? ts k ≡ some t → everywhere is_well_formed t ≡ true
unfolding types_below
below_well_formed f zero ts e k t h =
    let z : ts ≡ [] = cc in
    some_not_none (rw z at h) refl
below_well_formed f (suc n) ts e k t h =
    let s = split f n ts e in
    let all = below_well_formed f n s.before s.below in
    let j = judged_good s.good_last in
    ⊎_elim (all k t)
    (λ (same : s.last ≡ t).
    rw (← same) (made_everywhere is_well_formed f s.before n s.last j.made all (judged_well_formed j)))
    (get_elem_cases s.before s.last k t (rw s.whole at h))

-- A trailer is refused with a number up to 4,
pub trailer_number : (f : List ℕ) {number place : ℕ} → check_trailer f ≡ refused number place → number ≤ 4
unfolding check_trailer
trailer_number f {number} {place} h =
    refuse_cases {s = refused number place} 1 0 _ _ h (λ t q. let n : number ≡ 1 = cc in omega arith) (λ t h2.
    refuse_cases {s = refused number place} 2 0 _ _ h2 (λ t q. let n : number ≡ 2 = cc in omega arith) (λ t h3.
    refuse_cases {s = refused number place} 3 0 _ _ h3 (λ t q. let n : number ≡ 3 = cc in omega arith) (λ t h4.
    refuse_cases {s = refused number place} 4 0 _ _ h4 (λ t q. let n : number ≡ 4 = cc in omega arith) (λ t h5. good_not_refused refl h5))))

-- and an entry with one up to 7.
pub broken_number : {f : List ℕ} {ts : List Ty} {k number : ℕ} → Broken f ts k number → number ≤ 7
broken_number (no_type a) = omega arith
broken_number (not_allowed t a b) = omega arith
broken_number (not_given t a b c) = omega arith
broken_number (too_large t a b c d) = omega arith

-- What is refused of a file whose trailer is good is its lowest bad entry, or else the lowest member that nobody names.
pub refused_by : {number place : ℕ} {C : Type 0} (f : List ℕ) (r : Trailer) → ◌>>=◌ (types_below f r.types) (λ ts. ◌>>◌ (all_named f r.types r.members) (good ts)) ≡ refused number place → (Lowest f r.types number place → C) → ((ts : List Ty) → types_below f r.types ≡ good ts → Unnamed f r.types r.members number place → C) → C
unfolding ◌>>◌
refused_by {number} {place} {C} f r e entry member =
    then_cases _ _ e (λ h. entry (below_lowest f r.types h)) (λ h.
    go h.value (all_named f r.types r.members) h.first refl h.after)
  where
    go : (ts : List Ty) (s : Said (Unit {0})) → types_below f r.types ≡ good ts → all_named f r.types r.members ≡ s → ◌>>◌ s (good ts) ≡ refused number place → C
    go ts (good u) below p h = good_not_refused refl h
    go ts (refused n m) below p h = member ts below (unnamed f r.types r.members (p ∙ cc))

-- The place of a file's refusal is an entry or a member, and there are at most 256 and 1,024.
pub refused_place : {number place : ℕ} (f : List ℕ) → types_of f ≡ refused number place → place < 1024
unfolding types_of
refused_place f e =
    then_cases _ _ e (λ h. omega (arith, trailer_place f h)) (λ h.
    let t = trailed f h.value h.first in
    refused_by f h.value h.after (λ x. omega (arith, t.high, x.low)) (λ ts below x. omega (arith, t.few, x.there)))

-- The file f is accepted, and ts are the types of its entries.
pub record Accepted (f : List ℕ) (ts : List Ty) : Type 0 where
  pub types_below_lem : types_below f (trailer_of f).types ≡ good ts
  pub count : length ts ≡ (trailer_of f).types
  pub named : all_named f (trailer_of f).types (trailer_of f).members ≡ good tt
  pub trailer_good : Trailed f (trailer_of f)

-- Where the verdict on a file is its types, the trailer is as it should be and every entry is good.
pub accepted : (f : List ℕ) (ts : List Ty) → types_of f ≡ good ts → Accepted f ts
unfolding types_of
accepted f ts e =
    let h = then_good _ _ e in
    let t = trailed f h.value h.first in
    let x = rw t.is at (then_good _ _ h.after) in
    let last = next_good _ _ x.after in
    let same : x.value ≡ ts = cc last.1 in
    let below : types_below f (trailer_of f).types ≡ good ts = x.first ∙ ap good same in
    record {
      types_below_lem = below;
      count = below_length f (trailer_of f).types ts below;
      named = last.0;
      trailer_good = rw t.is at t;
    }

-- The types of an accepted file are well formed, and so is every type within them.
pub accepted_well_formed : (f : List ℕ) (ts : List Ty) → types_of f ≡ good ts → (k : ℕ) (t : Ty) → get_elem? ts k ≡ some t → everywhere is_well_formed t ≡ true
accepted_well_formed f ts e = below_well_formed f (trailer_of f).types ts (accepted f ts e).types_below_lem
