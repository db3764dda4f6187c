-- Laws of conversion ranks and common types (specs/Rank).
--
-- In order: lists of numbers; the same type, and when that is equality; ranks of types; the common type of two entries; of a list.
-- Not here: ranks of scalars (`ScalarRank`); lists in any order and grouping (`Common`).
-- Assumes nothing.
use Prim.Native.Nat.{ℕ, ◌+◌}
use mathlib.Core.List.Memᴰ
use mathlib.Core.List.{List, [], ◌∷◌, Memᴰ}
use mathlib.Core.Bool.{Bool, true, false, cond, and-eq-true_iff}
use mathlib.Core.Option
use mathlib.Core.Option.{Option, none, some, none-ne-some}
use mathlib.Core.Logic.{◌⊎◌, inl, inr, ⊎_elim}
use mathlib.Core.Path.{◌≡◌, refl, ap, sym, ◌∙◌}
use native.Mathlib.Omega.{arith}
use borrow.Author.Tests.{eqb-true, eq-eqb}
use lib.Dec.{eqb}
use lib.ListN.{get_or}
use Rattle.wgsl.specs.Types.{Scalar, bool, Ty, scalar, vector, matrix, array, runtime, atomic, struct, Members}
use Rattle.wgsl.specs.Rank.{outline_of, leaf_of, same_numbers, leaf_rank, rank_of, Candidate, first_of, common_of, common_with}
use Rattle.wgsl.specs.CommonClaim.{Same, Converts}
use Rattle.wgsl.proofs.ScalarRank.{scalars, scalar_found, leaf_refl, leaf_zero, leaf_add, leaf_chain}

-- Lists of numbers that the test calls the same are equal.
pub same_numbers_lem : (ms ns : List ℕ) → same_numbers ms ns ≡ true → ms ≡ ns
unfolding same_numbers
same_numbers_lem [] [] e = refl
same_numbers_lem [] (n ∷ ns) e = cc
same_numbers_lem (m ∷ ms) [] e = cc
same_numbers_lem (m ∷ ms) (n ∷ ns) e =
    let both = (and-eq-true_iff (eqb m n) (same_numbers ms ns)).0 e in
    cc (eqb-true m n both.0, same_numbers_lem ms ns both.1)

numbers_refl : (ms : List ℕ) → same_numbers ms ms ≡ true
unfolding same_numbers
numbers_refl [] = refl
numbers_refl (m ∷ ms) = rw (eq-eqb m m refl) (numbers_refl ms)

-- Equal lists of numbers pass the test.
pub numbers_same : {ms ns : List ℕ} → ms ≡ ns → same_numbers ms ns ≡ true
numbers_same {ms} e = rw (← e) (numbers_refl ms)

-- A type is the same as itself.
pub same_refl : {a : Ty} → Same a a
same_refl = record { outline = refl; leaf = refl }

-- Sameness holds both ways round.
pub same_sym : {a b : Ty} → Same a b → Same b a
same_sym h = record { outline = cc; leaf = cc }

-- Sameness passes through a type in between.
pub same_trans : {a b c : Ty} → Same a b → Same b c → Same a c
same_trans h k = record { outline = cc; leaf = cc }

-- the struct that the type is, or is an array of, has the members that f says of its entry number
unfoldable pub Numbered : (ℕ → Members) → Ty → Type 0
Numbered f (scalar s) = Unit {0}
Numbered f (vector n s) = Unit {0}
Numbered f (matrix c r s) = Unit {0}
Numbered f (array n t) = Numbered f t
Numbered f (runtime t) = Numbered f t
Numbered f (atomic s) = Unit {0}
Numbered f (struct k ms) = f k ≡ ms

-- the type with this outline and this scalar inside
rebuilt : (ℕ → Members) → Scalar → List ℕ → Ty
rebuilt f s [] = scalar s
rebuilt f s (k ∷ []) = runtime (scalar s)
rebuilt f s (k ∷ n ∷ ns) =
    cond (eqb k 7) (vector n s) (cond (eqb k 8) (matrix n (get_or ns 0 0) s) (cond (eqb k 9) (array n (rebuilt f s ns))
    (cond (eqb k 10) (runtime (rebuilt f s (n ∷ ns))) (cond (eqb k 11) (atomic (get_or scalars n bool)) (struct n (f n))))))

rebuilt_runtime : (f : ℕ → Members) (s : Scalar) (ns : List ℕ) → rebuilt f s (10 ∷ ns) ≡ runtime (rebuilt f s ns)
unfolding rebuilt
rebuilt_runtime f s [] = refl
rebuilt_runtime f s (n ∷ ns) = refl

rebuilt_same : (f : ℕ → Members) (a : Ty) → Numbered f a → rebuilt f (Option.get_or (leaf_of a) bool) (outline_of a) ≡ a
unfolding Numbered rebuilt leaf_of outline_of
rebuilt_same f (scalar s) h = refl
rebuilt_same f (vector n s) h = refl
rebuilt_same f (matrix c r s) h = refl
rebuilt_same f (array n t) h = ap (array n) (rebuilt_same f t h)
rebuilt_same f (runtime t) h = rebuilt_runtime f _ (outline_of t) ∙ ap runtime (rebuilt_same f t h)
rebuilt_same f (atomic s) h = ap atomic (scalar_found s)
rebuilt_same f (struct k ms) h = ap (struct k) h

-- Where the entry number of a struct says its members, the same types are equal.
pub same_equal : (f : ℕ → Members) {a b : Ty} → Numbered f a → Numbered f b → Same a b → a ≡ b
same_equal f {a} {b} p q h = sym (rebuilt_same f a p) ∙ rw (h.outline, h.leaf) (rebuilt_same f b q)

cond_some : (t : Bool) {x : Option ℕ} {r : ℕ} → cond t x none ≡ some r → (t ≡ true) × (x ≡ some r)
cond_some true e = (refl, e)
cond_some false e = (cc, cc)

-- A type that converts to another has its outline, and the scalar inside converts with the same rank.
pub rank_parts : (a b : Ty) {r : ℕ} → rank_of a b ≡ some r → (outline_of a ≡ outline_of b) × (leaf_rank (leaf_of a) (leaf_of b) ≡ some r)
unfolding rank_of
rank_parts a b e =
    let both = cond_some (same_numbers (outline_of a) (outline_of b)) e in
    (same_numbers_lem (outline_of a) (outline_of b) both.0, both.1)

-- A type has the rank of the scalar inside to a type of the same outline.
pub rank_made : (a b : Ty) → outline_of a ≡ outline_of b → rank_of a b ≡ leaf_rank (leaf_of a) (leaf_of b)
unfolding rank_of
rank_made a b e = rw (numbers_same e)

-- The same type has the rank 0.
pub same_rank : {a b : Ty} → Same a b → rank_of a b ≡ some 0
same_rank {a} {b} h = rank_made a b h.outline ∙ rw h.leaf (leaf_refl (leaf_of b))

-- Only the same type has the rank 0.
pub rank_same : (a b : Ty) → rank_of a b ≡ some 0 → Same a b
rank_same a b e =
    let both = rank_parts a b e in
    record { outline = both.0; leaf = leaf_zero (leaf_of a) (leaf_of b) both.1 }

-- Where a type converts to a second one and that to a third, the first converts to the third, and the ranks add up.
pub rank_add : (a b c : Ty) {r s : ℕ} → rank_of a b ≡ some r → rank_of b c ≡ some s → rank_of a c ≡ some (r + s)
rank_add a b c p q =
    let ab = rank_parts a b p in
    let bc = rank_parts b c q in
    rank_made a c (ab.0 ∙ bc.0) ∙ leaf_add (leaf_of a) (leaf_of b) (leaf_of c) ab.1 bc.1

-- Two types that convert to each other are the same.
pub rank_both : (a b : Ty) {r s : ℕ} → rank_of a b ≡ some r → rank_of b a ≡ some s → Same a b
rank_both a b {r} {s} p q =
    let none_left : r + s ≡ 0 = cc (rank_add a b a p q, same_rank {a = a} same_refl) in
    let r_zero : r ≡ 0 = omega arith in
    rank_same a b (rw (← r_zero) p)

-- A type converts to itself.
pub converts_refl : {a : Ty} → Converts a a
converts_refl = record { rank = 0; has = same_rank same_refl }

-- Conversion passes through a type in between.
pub converts_trans : {a b c : Ty} → Converts a b → Converts b c → Converts a c
converts_trans {a} {b} {c} h k = record { rank = h.rank + k.rank; has = rank_add a b c h.has k.has }

-- Of two types that convert to a third, one converts to the other.
pub converts_chain : {a b c : Ty} → Converts a c → Converts b c → Converts a b ⊎ Converts b a
converts_chain {a} {b} {c} h k =
    let x = rank_parts a c h.has in
    let y = rank_parts b c k.has in
    ⊎_elim
    (λ (t : (n : ℕ) × (leaf_rank (leaf_of a) (leaf_of b) ≡ some n)). inl (record { rank = t.0; has = rank_made a b (x.0 ∙ sym y.0) ∙ t.1 }))
    (λ (t : (n : ℕ) × (leaf_rank (leaf_of b) (leaf_of a) ≡ some n)). inr (record { rank = t.0; has = rank_made b a (y.0 ∙ sym x.0) ∙ t.1 }))
    (leaf_chain (leaf_of a) (leaf_of b) (leaf_of c) x.1 y.1)

first_some : {A B : Type 0} (x : Option ℕ) (a : A) (other : Option A) {c : A} → first_of x a other ≡ some c → (c ≡ a → (r : ℕ) → x ≡ some r → B) → (other ≡ some c → B) → B
unfolding first_of
first_some none a other e f g = g e
first_some (some r) a other e f g = f (cc) r refl

common_cases_lem : {B : Type 0} (a b : Candidate) {c : Candidate} → common_of a b ≡ some c → (c ≡ a → Converts b.type a.type → B) → (c ≡ b → Converts a.type b.type → B) → B
unfolding common_of
common_cases_lem a b e f g =
    first_some (rank_of a.type b.type) b (first_of (rank_of b.type a.type) a none) e
    (λ h r p. g h (record { rank = r; has = p }))
    (λ e'. first_some (rank_of b.type a.type) a none e' (λ h r p. f h (record { rank = r; has = p }))
    (λ e''. absurd (none-ne-some _ e'')))

-- The common type of two entries is one of them.
pub common_one : (a b : Candidate) {c : Candidate} → common_of a b ≡ some c → (c ≡ a) ⊎ (c ≡ b)
common_one a b e = common_cases_lem a b e (λ h k. inl h) (λ h k. inr h)

-- Two entries convert to their common type.
pub common_converts : (a b : Candidate) {c : Candidate} → common_of a b ≡ some c → Converts a.type c.type × Converts b.type c.type
common_converts a b e = common_cases_lem a b e (λ h k. rw h (converts_refl, k)) (λ h k. rw h (k, converts_refl))

with_some : (x : Option Candidate) (bs : List Candidate) {c : Candidate} → common_with x bs ≡ some c → (d : Candidate) × (x ≡ some d) × (common_with (some d) bs ≡ some c)
unfolding common_with
with_some (some d) bs e = (d, refl, e)
with_some none [] e = absurd (none-ne-some _ e)
with_some none (b ∷ bs) e = absurd (none-ne-some _ e)

-- The common type of a list of entries is one of them.
pub with_among : (a : Candidate) (bs : List Candidate) {c : Candidate} → common_with (some a) bs ≡ some c → Memᴰ c (a ∷ bs)
unfolding common_with
with_among a [] e = Memᴰ.head {x = a} (cc)
with_among a (b ∷ bs) {c} e =
    let (d, e', f) = with_some (common_of a b) bs e in
    ⊎_elim
    (λ (h : c ≡ d). rw h (⊎_elim
    (λ k. Memᴰ.head k) (λ k. Memᴰ.tail (Memᴰ.head k)) (common_one a b e')))
    (λ (h : Memᴰ c bs). Memᴰ.tail (Memᴰ.tail h)) (Memᴰ.cases_cons (with_among d bs f))

-- Each entry of a list converts to their common type.
pub with_converts : (a : Candidate) (bs : List Candidate) {b c : Candidate} → common_with (some a) bs ≡ some c → Memᴰ b (a ∷ bs) → Converts b.type c.type
unfolding common_with
with_converts a [] {b} {c} e m = let h : b ≡ c = cc (Memᴰ.eq_of_singleton m) in rw h converts_refl
with_converts a (next ∷ bs) {b} e m =
    let (d, e', f) = with_some (common_of a next) bs e in
    let both = common_converts a next e' in
    let on = with_converts d bs {b = d} f (Memᴰ.head refl) in
    ⊎_elim
    (λ (h : b ≡ a). rw h (converts_trans both.0 on))
    (λ m'. ⊎_elim
    (λ (h : b ≡ next). rw h (converts_trans both.1 on))
    (λ m''. with_converts d bs f (Memᴰ.tail m'')) (Memᴰ.cases_cons m')) (Memᴰ.cases_cons m)
