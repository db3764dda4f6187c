-- The common type of a list, in any order and grouping (02, E13; specs/Rank, specs/CommonClaim).
--
-- In order: two that convert to a third; a list has the greatest of its members, if there is one (`IsGreatest`); a grouping has it too; the
-- members alone decide.
-- Not here: the calls (`CommonCall`).
-- Assumes nothing.
use Prim.Native.Nat.{ℕ}
use mathlib.Core.List.Memᴰ
use mathlib.Core.List.{List, [], ◌∷◌, ◌++◌, Memᴰ}
use mathlib.Core.Option.{Option, none, some, none-ne-some, some-injective}
use mathlib.Core.Logic.{◌⊎◌, inl, inr, ⊎_elim}
use mathlib.Core.Path.{◌≡◌, refl, ap, sym, ◌∙◌}
use Rattle.wgsl.specs.Types.{Ty}
use Rattle.wgsl.specs.Rule.{and_then}
use Rattle.wgsl.specs.Rank.{rank_of, Candidate, first_of, common_of, common_with, common_of_all}
use Rattle.wgsl.specs.CommonClaim.{SameMembers, PartOf, Grouping, alone, together, Parts, part, part_and, members_in, members_of_parts, common_of_grouping, common_of_each, Converts, Greatest, SameCommon, both, neither}
use Rattle.wgsl.proofs.Rank.{converts_refl, converts_trans, converts_chain, rank_both, with_among, with_converts}

-- the greatest of the list, or none if it has none
pub data IsGreatest (cs : List Candidate) : Option Candidate → Type 0 where
  found : {c : Candidate} → Greatest c cs → IsGreatest cs (some c)
  missing : ((c : Candidate) → Greatest c cs → ⊥) → IsGreatest cs none

-- ---- two that convert to a third

first_of_lem : {A : Type 0} (x : Option ℕ) {r : ℕ} (a : A) (other : Option A) → x ≡ some r → first_of x a other ≡ some a
unfolding first_of
first_of_lem none a other e = absurd (none-ne-some _ e)
first_of_lem (some r) a other e = refl

later_of : {A : Type 0} (x : Option ℕ) (a b : A) → (d : A) × (first_of x a (some b) ≡ some d) × ((d ≡ a) ⊎ (d ≡ b))
unfolding first_of
later_of none a b = (b, refl, inr refl)
later_of (some r) a b = (a, refl, inl refl)

-- they have a common type, which converts to it too
two_common : (a b : Candidate) {m : Ty} → Converts a.type m → Converts b.type m → (d : Candidate) × (common_of a b ≡ some d) × Converts d.type m
unfolding common_of
two_common a b {m} h k =
    ⊎_elim
    (λ (x : Converts a.type b.type). (b, first_of_lem (rank_of a.type b.type) b _ x.has, k))
    (λ (x : Converts b.type a.type).
    let inner = first_of_lem (rank_of b.type a.type) a none x.has in
    let r = later_of (rank_of a.type b.type) b a in (
      r.0,
      ap (λ (o : Option Candidate). first_of (rank_of a.type b.type) b o) inner ∙ r.1,
      ⊎_elim (λ (e : r.0 ≡ b). rw e k) (λ (e : r.0 ≡ a). rw e h) r.2,
    ))
    (converts_chain h k)

-- ---- a list

with_complete : (a : Candidate) (bs : List Candidate) {m : Ty} → Converts a.type m → ((b : Candidate) → Memᴰ b bs → Converts b.type m) → (c : Candidate) × (common_with (some a) bs ≡ some c)
unfolding common_with
with_complete a [] h k = (a, refl)
with_complete a (b ∷ bs) h k =
    let (d, is, on) = two_common a b h (k b (Memᴰ.head refl)) in
    rw is (with_complete d bs on (λ x i. k x (Memᴰ.tail i)))

-- The common type of a list is its greatest, and there is none where it has none.
pub list_greatest : (cs : List Candidate) → IsGreatest cs (common_of_all cs)
unfolding common_of_all
list_greatest [] = missing (λ c g. absurd (Memᴰ.not-nil g.among))
list_greatest (a ∷ bs) = go (common_with (some a) bs) refl
  where
    go : (x : Option Candidate) → common_with (some a) bs ≡ x → IsGreatest (a ∷ bs) x
    go (some c) e = found (record { among = with_among a bs e; above = λ b m. with_converts a bs e m })
    go none e =
        missing (λ c g.
        let r = with_complete a bs (g.above a (Memᴰ.head refl)) (λ b m. g.above b (Memᴰ.tail m)) in
        absurd (none-ne-some _ (sym e ∙ r.1)))

-- A part of a list that has a greatest has a common type.
pub part_common : (cs : List Candidate) {ds : List Candidate} → PartOf cs ds → {d : Candidate} → Greatest d ds → (c : Candidate) × (common_of_all cs ≡ some c)
unfolding common_of_all
part_common [] p g = absurd (Memᴰ.not-nil p.has)
part_common (a ∷ bs) p g =
    with_complete a bs (g.above a (p.there a (Memᴰ.head refl))) (λ b i. g.above b (p.there b (Memᴰ.tail i)))

-- Where a part has none, the list has none.
pub part_none : (cs ds : List Candidate) → PartOf cs ds → common_of_all cs ≡ none → common_of_all ds ≡ none
part_none cs ds p none_there = go (common_of_all ds) refl (list_greatest ds)
  where
    go : (x : Option Candidate) → common_of_all ds ≡ x → IsGreatest ds x → x ≡ none
    go none e h = refl
    go (some d) e (found g) = let r = part_common cs p g in absurd (none-ne-some _ (sym none_there ∙ r.1))

-- ---- a grouping

-- The common type of a list is the greatest.
pub common_greatest : {cs : List Candidate} {c : Candidate} → common_of_all cs ≡ some c → Greatest c cs
common_greatest {cs} {c} e = go (common_of_all cs) e (list_greatest cs)
  where
    go : (x : Option Candidate) → x ≡ some c → IsGreatest cs x → Greatest c cs
    go none f h = absurd (none-ne-some _ f)
    go (some d) f (found g) = rw (some-injective _ _ f) at g

-- what has no greatest is no part of what has one
part_missing : (cs : List Candidate) {ds : List Candidate} → PartOf cs ds → ((c : Candidate) → Greatest c cs → ⊥) → (d : Candidate) → Greatest d ds → ⊥
part_missing cs p n d g = let r = part_common cs p g in n r.0 (common_greatest r.1)

-- a member of a grouping, and of its parts
mutual
  unfolding members_in

  pub one_in : {A : Type 0} (g : Grouping A) → (x : A) × Memᴰ x (members_in g)
  one_in (alone x) = (x, Memᴰ.head refl)
  one_in (together ps) = one_of ps

  one_of : {A : Type 0} (ps : Parts A) → (x : A) × Memᴰ x (members_of_parts ps)
  one_of (part g) = one_in g
  one_of (part_and g ps) = let r = one_in g in (r.0, Memᴰ.append_left (members_of_parts ps) r.1)

-- the common types of parts: each is a member, and each member converts to one of them
pub record Answered (cs ds : List Candidate) : Type 0 where
  pub inside : (c : Candidate) → Memᴰ c cs → Memᴰ c ds
  pub above : (b : Candidate) → Memᴰ b ds → (c : Candidate) × Memᴰ c cs × Converts b.type c.type

pub data EachAnswered (ds : List Candidate) : Option (List Candidate) → Type 0 where
  answered : {cs : List Candidate} → Answered cs ds → EachAnswered ds (some cs)
  unanswered : ((c : Candidate) → Greatest c ds → ⊥) → EachAnswered ds none

-- the greatest of them is the greatest of all
together_greatest : {ds : List Candidate} {x : Option (List Candidate)} → EachAnswered ds x → IsGreatest ds (and_then x common_of_all)
unfolding and_then
together_greatest (unanswered n) = missing n
together_greatest {ds} (answered {cs = cs} a) = go (common_of_all cs) (list_greatest cs)
  where
    go : (x : Option Candidate) → IsGreatest cs x → IsGreatest ds x
    go (some c) (found g) =
        found (record {
          among = a.inside c g.among;
          above = λ b i. let (d, j, on) = a.above b i in converts_trans on (g.above d j);
        })
    go none (missing n) =
        missing (λ c g.
        let (d, j, on) = a.above c g.among in
        n d (record { among = j; above = λ b i. converts_trans (g.above b (a.inside b i)) on }))

one_answered : {ds : List Candidate} {x : Option Candidate} → IsGreatest ds x → EachAnswered ds (and_then x (λ c. some (c ∷ [])))
unfolding and_then
one_answered (missing n) = unanswered n
one_answered (found {c = c} g) =
    answered (record {
      inside = λ b i. let h : b ≡ c = Memᴰ.eq_of_singleton i in rw h g.among;
      above = λ b i. (c, Memᴰ.head refl, g.above b i);
    })

next_answered : (ds es : List Candidate) → (c : Candidate) × Memᴰ c ds → (c : Candidate) × Memᴰ c es → {x : Option Candidate} {y : Option (List Candidate)} → IsGreatest ds x → EachAnswered es y → EachAnswered (ds ++ es) (and_then x (λ c. and_then y (λ cs. some (c ∷ cs))))
unfolding and_then
next_answered ds es i j (missing n) y =
    unanswered (part_missing ds (record { first = i.0; has = i.1; there = λ b k. Memᴰ.append_left es k }) n)
next_answered ds es i j (found g) (unanswered n) =
    unanswered (part_missing es (record { first = j.0; has = j.1; there = λ b k. Memᴰ.append_right ds k }) n)
next_answered ds es i j (found {c = c} g) (answered {cs = cs} a) =
    answered (record {
      inside = λ b k.
          ⊎_elim (λ (h : b ≡ c). rw h (Memᴰ.append_left es g.among)) (λ (h : Memᴰ b cs). Memᴰ.append_right ds (a.inside b h))
          (Memᴰ.cases_cons k);
      above = λ b k.
          ⊎_elim (λ (h : Memᴰ b ds). (c, Memᴰ.head refl, g.above b h))
          (λ (h : Memᴰ b es). let (d, m, on) = a.above b h in (d, Memᴰ.tail m, on)) (Memᴰ.append_cases ds k);
    })

mutual
  unfolding members_in common_of_grouping

  -- A grouping has the greatest of its members, and none where they have none.
  pub grouping_greatest : (g : Grouping Candidate) → IsGreatest (members_in g) (common_of_grouping g)
  grouping_greatest (alone c) =
      found {c = c} (record { among = Memᴰ.head refl; above = λ b i. rw (Memᴰ.eq_of_singleton i) converts_refl })
  grouping_greatest (together ps) = together_greatest (each_answered ps)

  pub each_answered : (ps : Parts Candidate) → EachAnswered (members_of_parts ps) (common_of_each ps)
  each_answered (part g) = one_answered (grouping_greatest g)
  each_answered (part_and g ps) = next_answered (members_in g) (members_of_parts ps) (one_in g) (one_of ps) (grouping_greatest g) (each_answered ps)

-- ---- the members alone decide

moved : {cs ds : List Candidate} {c : Candidate} → SameMembers cs ds → Greatest c cs → Greatest c ds
moved {c = c} h g = record { among = h.there c g.among; above = λ b i. g.above b (h.back b i) }

pub same_back : {A : Type 0} {xs ys : List A} → SameMembers xs ys → SameMembers ys xs
same_back h = record { there = h.back; back = h.there }

-- What is the greatest of the same members is the same type.
pub greatest_same : {cs ds : List Candidate} {x y : Option Candidate} → SameMembers cs ds → IsGreatest cs x → IsGreatest ds y → SameCommon x y
greatest_same h (missing n) (missing k) = neither
greatest_same h (missing n) (found {c = c} g) = absurd (n c (moved (same_back h) g))
greatest_same h (found {c = c} g) (missing k) = absurd (k c (moved h g))
greatest_same h (found {c = a} g) (found {c = b} k) =
    let up = k.above a (h.there a g.among) in
    let down = g.above b (h.back b k.among) in
    both (rank_both a.type b.type up.has down.has)

pub any_order : (cs ds : List Candidate) → SameMembers cs ds → SameCommon (common_of_all cs) (common_of_all ds)
any_order cs ds h = greatest_same h (list_greatest cs) (list_greatest ds)

pub any_grouping : (g : Grouping Candidate) (cs : List Candidate) → SameMembers (members_in g) cs → SameCommon (common_of_grouping g) (common_of_all cs)
any_grouping g cs h = greatest_same h (grouping_greatest g) (list_greatest cs)
