-- The calls `common` and `rank`, in any order and grouping (02, E13; specs/CommonClaim).
--
-- In order: the entries of a list; `common` of entries that are there; answers alike; groupings; a rank, and the types that it is of; the
-- laws of the calls; what a common type is; ranks.
-- Assumes nothing.
use Prim.Native.Nat.{ℕ, ◌+◌, ◌<◌, ◌≤◌}
use mathlib.Core.List.{List, [], ◌∷◌, map, map-append, Memᴰ}
use mathlib.Core.Option.{Option, none, some}
use mathlib.Core.Logic.{◌⊎◌, inl, inr, ⊎_elim}
use mathlib.Core.Path.{◌≡◌, refl, ap, sym, ◌∙◌}
use native.Mathlib.Omega.{arith}
use lib.ListN.{length, get_or}
use Rattle.wgsl.specs.Types.{bool, Ty, scalar}
use Rattle.wgsl.specs.Said.{Said, good, refused, ◌>>=◌, or_refuse}
use Rattle.wgsl.specs.Rule.{and_then, types_of}
use Rattle.wgsl.specs.Rank.{rank_of, Candidate, common_of_all, common_with}
use Rattle.wgsl.specs.Call.{entry_of, rank_call, entries_of, common_call}
use Rattle.wgsl.specs.Claim.{GoodIf}
use Rattle.wgsl.specs.CommonClaim.{SameMembers, PartOf, Grouping, alone, together, Parts, part, part_and, members_in, members_of_parts, common_of_grouping, common_of_each, grouping_call, parts_call, Converts, Greatest, IsCommon, AllEntries, SameCommon, both, neither, Alike, same_type, same_refusal}
use Rattle.wgsl.proofs.Said.{good_not_refused, then_good, then_is, then_refused, or_refuse_good}
use Rattle.wgsl.proofs.Bit.{lt_or_le}
use Rattle.wgsl.proofs.AtEntry.{get_elem_low, get_elem_past, get_elem_get_d}
use Rattle.wgsl.proofs.Rank.{rank_add, same_refl, same_rank, rank_same}
use Rattle.wgsl.proofs.Common.{IsGreatest, found, EachAnswered, answered, unanswered, list_greatest, part_none, common_greatest, part_common, grouping_greatest, each_answered, greatest_same, one_in}
use Rattle.wgsl.proofs.SameType.{entry_there, there_entry, same_is_equal}

-- what the call says of a common type, or of none
told : Option Candidate → Said ℕ
told none = refused 18 0
told (some c) = good c.number

told_each : Option (List Candidate) → Said (List ℕ)
told_each none = refused 18 0
told_each (some cs) = good (map (λ (c : Candidate). c.number) cs)

module _ (f : List ℕ) (ts : List Ty) (good_file : types_of f ≡ good ts) where
  -- ---- the entries of a list

  abbrev candidate : ℕ → Candidate
  candidate e = record { number = e; type = get_or ts e (scalar bool) }

  abbrev AllLow : List ℕ → Type 0
  AllLow es = (e : ℕ) → Memᴰ e es → e < length ts

  low_or : (es : List ℕ) → AllLow es ⊎ ((e : ℕ) × Memᴰ e es × (length ts ≤ e))
  low_or [] = inl (λ e m. absurd (mathlib.Core.List.Memᴰ.not-nil m))
  low_or (a ∷ es) =
      ⊎_elim
      (λ (l : a < length ts).
      ⊎_elim
      (λ (all : (e : ℕ) → Memᴰ e es → e < length ts).
      inl (λ e m. ⊎_elim (λ (h : e ≡ a). rw h l) (λ (h : Memᴰ e es). all e h) (mathlib.Core.List.Memᴰ.cases_cons m)))
      (λ (x : (e : ℕ) × Memᴰ e es × (length ts ≤ e)). inr (x.0, mathlib.Core.List.Memᴰ.tail x.1, x.2)) (low_or es))
      (λ (l : length ts ≤ a). inr (a, mathlib.Core.List.Memᴰ.head refl, l)) (lt_or_le a (length ts))

  entries_all : (es : List ℕ) → AllLow es → entries_of ts es ≡ good (map candidate es)
  unfolding entries_of or_refuse ◌>>=◌
  entries_all [] all = refl
  entries_all (e ∷ es) all =
      rw (get_elem_get_d ts e (scalar bool) (all e (mathlib.Core.List.Memᴰ.head refl)), entries_all es (λ x m. all x (mathlib.Core.List.Memᴰ.tail m))) refl

  entries_missing : (es : List ℕ) {e : ℕ} → Memᴰ e es → length ts ≤ e → entries_of ts es ≡ refused 8 0
  unfolding entries_of or_refuse ◌>>=◌
  entries_missing [] m past = absurd (mathlib.Core.List.Memᴰ.not-nil m)
  entries_missing (a ∷ es) {e} m past =
      ⊎_elim
      (λ (l : a < length ts).
      ⊎_elim (λ (h : e ≡ a). absurd (omega arith)) (λ (h : Memᴰ e es). rw (get_elem_get_d ts a (scalar bool) l, entries_missing es h past) refl)
      (mathlib.Core.List.Memᴰ.cases_cons m))
      (λ (l : length ts ≤ a). rw (get_elem_past ts a l) refl) (lt_or_le a (length ts))

  -- ---- `common` of entries that are there

  told_is : (x : Option Candidate) → ◌>>=◌ (or_refuse 18 0 x) (λ (c : Candidate). good c.number) ≡ told x
  unfolding told or_refuse ◌>>=◌
  told_is none = refl
  told_is (some c) = refl

  call_is : (es : List ℕ) → AllLow es → common_call f es ≡ told (common_of_all (map candidate es))
  unfolding common_call
  call_is es all = then_is _ good_file ∙ then_is _ (entries_all es all) ∙ told_is (common_of_all (map candidate es))

  call_missing : (es : List ℕ) {e : ℕ} → Memᴰ e es → length ts ≤ e → common_call f es ≡ refused 8 0
  unfolding common_call
  call_missing es m past = then_is _ good_file ∙ then_refused _ (entries_missing es m past)

  -- a candidate of such a list is the entry of its number
  named : {es : List ℕ} → AllLow es → {c : Candidate} → Memᴰ c (map candidate es) → (c ≡ candidate c.number) × Memᴰ c.number es
  named {es} all {c} m =
      let (e, i, is) = mathlib.Core.List.Memᴰ.of_map candidate es m in
      rw (← is) (refl, i)

  is_entry : {e : ℕ} → e < length ts → entry_of f e ≡ good (candidate e).type
  is_entry {e} low = there_entry f e good_file (get_elem_get_d ts e (scalar bool) low)

  -- ---- answers alike

  same_mapped : {es fs : List ℕ} → SameMembers es fs → SameMembers (map candidate es) (map candidate fs)
  same_mapped {es} {fs} h =
      record {
        there = λ c m. let (e, i, is) = mathlib.Core.List.Memᴰ.of_map candidate es m in rw (← is) (mathlib.Core.List.Memᴰ.map candidate (h.there e i));
        back = λ c m. let (e, i, is) = mathlib.Core.List.Memᴰ.of_map candidate fs m in rw (← is) (mathlib.Core.List.Memᴰ.map candidate (h.back e i));
      }

  alike : {cs ds : List Candidate} {x y : Option Candidate} → ((c : Candidate) → Memᴰ c cs → entry_of f c.number ≡ good c.type) → SameMembers cs ds → IsGreatest cs x → IsGreatest ds y → Alike f (told x) (told y)
  unfolding told
  alike {cs} {ds} are h g k = go (greatest_same h g k) g k
    where
      go : {x y : Option Candidate} → SameCommon x y → IsGreatest cs x → IsGreatest ds y → Alike f (told x) (told y)
      go neither g k = same_refusal 18 0
      go (both {a = a} {b = b} s) (found g) (found k) =
          let p = are a g.among in
          let q = are b (h.back b k.among) in
          same_type a.type p (q ∙ ap good (sym (same_is_equal f a.number b.number p q s)))

  mapped_are : (es : List ℕ) → AllLow es → (c : Candidate) → Memᴰ c (map candidate es) → entry_of f c.number ≡ good c.type
  mapped_are es all c m =
      let (e, i, is) = mathlib.Core.List.Memᴰ.of_map candidate es m in
      rw (← is) (is_entry (all e i))

  order_alike : (es fs : List ℕ) → SameMembers es fs → Alike f (common_call f es) (common_call f fs)
  order_alike es fs h =
      ⊎_elim
      (λ (all : AllLow es).
      let all_too : AllLow fs = λ e m. all e (h.back e m) in
      rw (call_is es all, call_is fs all_too)
      (alike (mapped_are es all) (same_mapped h) (list_greatest (map candidate es)) (list_greatest (map candidate fs))))
      (λ (x : (e : ℕ) × Memᴰ e es × (length ts ≤ e)).
      rw (call_missing es x.1 x.2, call_missing fs (h.there x.0 x.1) x.2) (same_refusal 8 0))
      (low_or es)
  -- ---- groupings

mutual
  map_in : {A B : Type 0} → (A → B) → Grouping A → Grouping B
  map_in h (alone x) = alone (h x)
  map_in h (together ps) = together (map_parts h ps)

  map_parts : {A B : Type 0} → (A → B) → Parts A → Parts B
  map_parts h (part g) = part (map_in h g)
  map_parts h (part_and g ps) = part_and (map_in h g) (map_parts h ps)

mutual
  unfolding map_in members_in

  map_members : {A B : Type 0} (h : A → B) (g : Grouping A) → members_in (map_in h g) ≡ map h (members_in g)
  map_members h (alone x) = refl
  map_members h (together ps) = map_parts_lem h ps

  map_parts_lem : {A B : Type 0} (h : A → B) (ps : Parts A) → members_of_parts (map_parts h ps) ≡ map h (members_of_parts ps)
  map_parts_lem h (part g) = map_members h g
  map_parts_lem h (part_and g ps) =
      rw (map_members h g, map_parts_lem h ps) (sym (map-append h (members_in g) (members_of_parts ps)))

module _ (f : List ℕ) (ts : List Ty) (good_file : types_of f ≡ good ts) where
  abbrev one : ℕ → Candidate
  one = candidate f ts good_file

  -- candidates that are the entries of their numbers
  numbers_again : (cs : List Candidate) → ((c : Candidate) → Memᴰ c cs → c ≡ one c.number) → map one (map (λ (c : Candidate). c.number) cs) ≡ cs
  numbers_again [] are = refl
  numbers_again (c ∷ cs) are =
      rw (← are c (mathlib.Core.List.Memᴰ.head refl), numbers_again cs (λ d m. are d (mathlib.Core.List.Memᴰ.tail m))) refl

  told_one : (x : Option Candidate) → ◌>>=◌ (told x) (λ n. good (n ∷ [])) ≡ told_each (and_then x (λ c. some (c ∷ [])))
  unfolding told told_each and_then ◌>>=◌
  told_one none = refl
  told_one (some c) = refl

  told_next : (x : Option Candidate) (y : Option (List Candidate)) → ◌>>=◌ (told x) (λ n. ◌>>=◌ (told_each y) (λ ns. good (n ∷ ns))) ≡ told_each (and_then x (λ c. and_then y (λ cs. some (c ∷ cs))))
  unfolding told told_each and_then ◌>>=◌
  told_next none y = refl
  told_next (some c) none = refl
  told_next (some c) (some cs) = refl

  -- the answers of the parts, and then of these
  told_together : (es : List ℕ) {ds : List Candidate} {x : Option (List Candidate)} → AllLow f ts good_file es → ds ≡ map one es → EachAnswered ds x → ◌>>=◌ (told_each x) (common_call f) ≡ told (and_then x common_of_all)
  unfolding told told_each and_then ◌>>=◌
  told_together es all is (unanswered n) = refl
  told_together es {ds} all is (answered {cs = cs} a) =
      let inside : (c : Candidate) → Memᴰ c cs → (c ≡ one c.number) × Memᴰ c.number es =
      λ c m. named f ts good_file all (rw is at (a.inside c m)) in
      call_is f ts good_file (map (λ (c : Candidate). c.number) cs)
      (λ e m. let (c, i, q) = mathlib.Core.List.Memᴰ.of_map (λ (c : Candidate). c.number) cs m in rw (← q) (all c.number (inside c i).1))
      ∙ ap (λ (l : List Candidate). told (common_of_all l)) (numbers_again cs (λ c m. (inside c m).0))

  mutual
    unfolding grouping_call common_of_grouping common_of_all common_with map_in members_in

    grouping_told : (g : Grouping ℕ) → AllLow f ts good_file (members_in g) → grouping_call f g ≡ told (common_of_grouping (map_in one g))
    grouping_told (alone e) all = call_is f ts good_file (e ∷ []) all
    grouping_told (together ps) all =
        ap (λ (s : Said (List ℕ)). ◌>>=◌ s (common_call f)) (parts_told ps all)
        ∙ told_together (members_of_parts ps) all (map_parts_lem one ps) (each_answered (map_parts one ps))

    parts_told : (ps : Parts ℕ) → AllLow f ts good_file (members_of_parts ps) → parts_call f ps ≡ told_each (common_of_each (map_parts one ps))
    parts_told (part g) all = rw (grouping_told g all) (told_one (common_of_grouping (map_in one g)))
    parts_told (part_and g ps) all =
        rw (grouping_told g (λ e m. all e (mathlib.Core.List.Memᴰ.append_left (members_of_parts ps) m)), parts_told ps (λ e m. all e (mathlib.Core.List.Memᴰ.append_right (members_in g) m)))
        (told_next (common_of_grouping (map_in one g)) (common_of_each (map_parts one ps)))

  mutual
    unfolding grouping_call members_in

    -- a grouping with a number that is no entry is not answered
    grouping_missing : (g : Grouping ℕ) {e n : ℕ} → Memᴰ e (members_in g) → length ts ≤ e → grouping_call f g ≡ good n → ⊥
    grouping_missing (alone a) m past h = good_not_refused h (call_missing f ts good_file (a ∷ []) m past)
    grouping_missing (together ps) m past h = parts_missing ps m past (then_good (parts_call f ps) (common_call f) h).first

    parts_missing : (ps : Parts ℕ) {e : ℕ} {ns : List ℕ} → Memᴰ e (members_of_parts ps) → length ts ≤ e → parts_call f ps ≡ good ns → ⊥
    parts_missing (part g) m past h = grouping_missing g m past (then_good (grouping_call f g) _ h).first
    parts_missing (part_and g ps) m past h =
        let x = then_good (grouping_call f g) _ h in
        let y = then_good (parts_call f ps) _ x.after in
        ⊎_elim (λ i. grouping_missing g i past x.first) (λ i. parts_missing ps i past y.first) (mathlib.Core.List.Memᴰ.append_cases (members_in g) m)

-- ---- a rank, and the types that it is of

rank_is_lem : (f : List ℕ) (a b : ℕ) {s t : Ty} {r : ℕ} → entry_of f a ≡ good s → entry_of f b ≡ good t → rank_of s t ≡ some r → rank_call f a b ≡ good r
unfolding rank_call or_refuse ◌>>=◌
rank_is_lem f a b p q h = rw (p, q, h) refl

-- the two entries of a rank
record Ranked (f : List ℕ) (a b r : ℕ) : Type 0 where
  from : Ty
  to : Ty
  from_is : entry_of f a ≡ good from
  to_is : entry_of f b ≡ good to
  has : rank_of from to ≡ some r

ranked : (f : List ℕ) (a b r : ℕ) → rank_call f a b ≡ good r → Ranked f a b r
unfolding rank_call
ranked f a b r h =
    let x = then_good (entry_of f a) _ h in
    let y = then_good (entry_of f b) _ x.after in
    record { from = x.value; to = y.value; from_is = x.first; to_is = y.first; has = or_refuse_good 18 0 _ y.after }

-- ---- the laws of the calls

call_refused : (f es : List ℕ) {number place : ℕ} → types_of f ≡ refused number place → common_call f es ≡ refused number place
unfolding common_call
call_refused f es e = then_refused _ e

pub any_order : (f es fs : List ℕ) → SameMembers es fs → Alike f (common_call f es) (common_call f fs)
any_order f es fs h = go (types_of f) refl
  where
    go : (s : Said (List Ty)) → types_of f ≡ s → Alike f (common_call f es) (common_call f fs)
    go (good ts) e = order_alike f ts e es fs h
    go (refused n p) e = rw (call_refused f es e, call_refused f fs e) (same_refusal n p)

-- entries of a list that has one are below the types' number
entries_low : (f es : List ℕ) {ts : List Ty} → types_of f ≡ good ts → AllEntries f es → (e : ℕ) → Memᴰ e es → e < length ts
entries_low f es {ts} good_file all e m =
    let x = entry_there f e (all e m).1 in
    let same : x.types ≡ ts = cc (x.good_file, good_file) in
    get_elem_low ts e (rw same at x.is)

pub any_grouping : (f : List ℕ) (g : Grouping ℕ) (es : List ℕ) → SameMembers (members_in g) es → AllEntries f es → Alike f (grouping_call f g) (common_call f es)
any_grouping f g es h all =
    let i = one_in g in
    let x = entry_there f i.0 (all i.0 (h.there i.0 i.1)).1 in
    let low = entries_low f es x.good_file all in
    let low_too : (e : ℕ) → Memᴰ e (members_in g) → e < length x.types = λ e m. low e (h.there e m) in
    let each = one f x.types x.good_file in
    rw (grouping_told f x.types x.good_file g low_too, call_is f x.types x.good_file es low)
    (alike f x.types x.good_file (mapped_are f x.types x.good_file (members_in g) low_too) (same_mapped f x.types x.good_file h)
    (rw (map_members each g) at (grouping_greatest (map_in each g)))
    (list_greatest (map each es)))

pub no_entry_lem : (f es : List ℕ) (e : ℕ) {ts : List Ty} → types_of f ≡ good ts → length ts ≤ e → Memᴰ e es → common_call f es ≡ refused 8 0
no_entry_lem f es e {ts} good_file past m = call_missing f ts good_file es m past

pub no_entry_grouped : (f : List ℕ) (g : Grouping ℕ) (e n : ℕ) {ts : List Ty} → types_of f ≡ good ts → length ts ≤ e → Memᴰ e (members_in g) → grouping_call f g ≡ good n → ⊥
no_entry_grouped f g e n {ts} good_file past m h = grouping_missing f ts good_file g m past h

told_none : (x : Option Candidate) {number place : ℕ} → told x ≡ refused number place → x ≡ none
unfolding told
told_none none e = refl
told_none (some c) e = good_not_refused {s = good c.number} refl e

told_some : (x : Option Candidate) {n : ℕ} → told x ≡ good n → (c : Candidate) × (x ≡ some c) × (c.number ≡ n)
unfolding told
told_some none e = good_not_refused e refl
told_some (some c) e = (c, refl, cc)

pub part_refused : (f es fs : List ℕ) → PartOf es fs → AllEntries f fs → common_call f es ≡ refused 18 0 → common_call f fs ≡ refused 18 0
unfolding told
part_refused f es fs p all h =
    let x = entry_there f p.first (all p.first (p.there p.first p.has)).1 in
    let low = entries_low f fs x.good_file all in
    let each = one f x.types x.good_file in
    let part_low : (e : ℕ) → Memᴰ e es → e < length x.types = λ e m. low e (p.there e m) in
    let none_there = told_none (common_of_all (map each es)) (sym (call_is f x.types x.good_file es part_low) ∙ h) in
    let whole : PartOf (map each es) (map each fs) = record {
      first = each p.first;
      has = mathlib.Core.List.Memᴰ.map each p.has;
      there = λ c m. let (e, i, is) = mathlib.Core.List.Memᴰ.of_map each es m in rw (← is) (mathlib.Core.List.Memᴰ.map each (p.there e i));
    } in
    call_is f x.types x.good_file fs low ∙ ap told (part_none (map each es) (map each fs) whole none_there)

pub empty_list : (f : List ℕ) {ts : List Ty} → types_of f ≡ good ts → common_call f [] ≡ refused 18 0
unfolding told common_of_all
empty_list f {ts} good_file = call_is f ts good_file [] (λ e m. absurd (mathlib.Core.List.Memᴰ.not-nil m))

-- ---- what a common type is

common_told : (f es : List ℕ) (c : ℕ) → common_call f es ≡ good c → (ts : List Ty) × (types_of f ≡ good ts) × ((e : ℕ) → Memᴰ e es → e < length ts)
unfolding common_call
common_told f es c h =
    let x = then_good (types_of f) _ h in (
      x.value,
      x.first,
      ⊎_elim (λ (all : (e : ℕ) → Memᴰ e es → e < length x.value). all)
          (λ (y : (e : ℕ) × Memᴰ e es × (length x.value ≤ e)). good_not_refused h (call_missing f x.value x.first es y.1 y.2))
          (low_or f x.value x.first es),
    )

pub common_is : (f es : List ℕ) (c : ℕ) → common_call f es ≡ good c → IsCommon f c es
common_is f es c h =
    let (ts, good_file, low) = common_told f es c h in
    let each = one f ts good_file in
    let (d, is, number) = told_some (common_of_all (map each es)) (sym (call_is f ts good_file es low) ∙ h) in
    let g = common_greatest is in
    let n = named f ts good_file low g.among in
    let type : d.type ≡ (each c).type = ap (λ (x : Candidate). x.type) n.0 ∙ ap (λ (k : ℕ). (each k).type) number in
    let among : Memᴰ c es = rw number at n.1 in
    record {
      among = among;
      above = λ e m.
          let v = g.above (each e) (mathlib.Core.List.Memᴰ.map each m) in
          (v.rank, rank_is_lem f e c (is_entry f ts good_file (low e m)) (is_entry f ts good_file (low c among)) (ap (rank_of (each e).type) (sym type) ∙ v.has));
    }

pub common_good_if : (f es : List ℕ) → GoodIf (common_call f es) ((c : ℕ) × IsCommon f c es)
unfolding told
common_good_if f es = record { if_so = λ x. answered_so x.0 x.1; only_if = λ c h. (c, common_is f es c h) }
  where
    answered_so : (c : ℕ) → IsCommon f c es → (a : ℕ) × (common_call f es ≡ good a)
    answered_so c k =
        let x = entry_there f c (ranked f c c _ (k.above c k.among).1).from_is in
        let all : AllEntries f es = λ e m. let r = ranked f e c _ (k.above e m).1 in (r.from, r.from_is) in
        let ts = x.types in
        let good_file = x.good_file in
        let low = entries_low f es good_file all in
        let each = one f ts good_file in
        let above : (b : Candidate) → Memᴰ b (map each es) → Converts b.type (each c).type = λ b m.
        let (e, i, is) = mathlib.Core.List.Memᴰ.of_map each es m in
        let r = ranked f e c _ (k.above e i).1 in
        let from : r.from ≡ (each e).type = cc (r.from_is, is_entry f ts good_file (low e i)) in
        let to : r.to ≡ (each c).type = cc (r.to_is, is_entry f ts good_file (low c k.among)) in
        rw (← is) (record { rank = (k.above e i).0; has = rw (from, to) at r.has }) in
        let g : Greatest (each c) (map each es) = record { among = mathlib.Core.List.Memᴰ.map each k.among; above = above } in
        let (d, found_it) = part_common (map each es) (record { first = each c; has = mathlib.Core.List.Memᴰ.map each k.among; there = λ b m. m }) g in
        (d.number, call_is f ts good_file es low ∙ ap told found_it)

-- ---- ranks

pub ranks_add_up : (f : List ℕ) (a b c r s : ℕ) → rank_call f a b ≡ good r → rank_call f b c ≡ good s → rank_call f a c ≡ good (r + s)
ranks_add_up f a b c r s p q =
    let x = ranked f a b r p in
    let y = ranked f b c s q in
    let same : y.from ≡ x.to = cc (x.to_is, y.from_is) in
    rank_is_lem f a c x.from_is y.to_is (rank_add x.from x.to y.to x.has (rw same at y.has))

pub rank_zero : (f : List ℕ) (a b : ℕ) (t : Ty) → entry_of f a ≡ good t → entry_of f b ≡ good t → rank_call f a b ≡ good 0
rank_zero f a b t p q = rank_is_lem f a b p q (same_rank same_refl)

pub zero_rank : (f : List ℕ) (a b : ℕ) → rank_call f a b ≡ good 0 → (t : Ty) × (entry_of f a ≡ good t) × (entry_of f b ≡ good t)
zero_rank f a b h =
    let x = ranked f a b 0 h in
    (x.from, x.from_is, x.to_is ∙ ap good (sym (same_is_equal f a b x.from_is x.to_is (rank_same x.from x.to x.has))))
