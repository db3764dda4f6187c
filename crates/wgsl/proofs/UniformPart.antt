-- The uniform profile of parts (specs/Uniform): what a good entry reaches is never named, and what is not reached never matters.
-- Assumes nothing.
use Prim.Native.Nat.{ℕ, zero, suc}
use mathlib.Core.Bool.{Bool, true, false, ◌&&◌, ◌||◌}
use mathlib.Core.List.{List, [], ◌∷◌, Memᴰ}
use mathlib.Core.Path.{◌≡◌, refl, ap, ◌∙◌}
use lib.Dec.{eqb}
use Rattle.wgsl.specs.Said.{good, refused, ◌>>=◌}
use Rattle.wgsl.specs.Uniform.{refers_to, any_of, reaches_by, reaches, is_broken, lowest_from, lowest_broken, uniform_call}
use Rattle.wgsl.specs.Claim.{Reaches, itself, onward, SameReached}
use Rattle.wgsl.proofs.Absent.{true_not_false, yes_or_no}
use Rattle.wgsl.proofs.Reach.{reach_sound}
use Rattle.wgsl.proofs.Uniform.{broken_none, call_good, uniform_names}

-- ---- a good entry as a part

-- What a good entry reaches is named by no refusal, of whatever entry.
pub good_never_named : (f : List ℕ) (e k p v : ℕ) → uniform_call f k ≡ good v → Reaches f k p → uniform_call f e ≡ refused 19 p → ⊥
good_never_named f e k p v h r n =
    let x = call_good f k v h in
    let y = uniform_names f e p n in
    let same : x.types ≡ y.0 = cc (x.at.good_file, y.1) in
    true_not_false y.2.broken (rw same at (broken_none x.at x.none_broken r))

-- ---- what is not reached

any_same : (p q : ℕ → Bool) (l : List ℕ) → ((r : ℕ) → Memᴰ r l → p r ≡ q r) → any_of p l ≡ any_of q l
unfolding any_of
any_same p q [] h = refl
any_same p q (n ∷ l) h = rw (h n (Memᴰ.head refl), any_same p q l (λ r m. h r (Memᴰ.tail m)))

reach_same : (f g : List ℕ) (n k e : ℕ) → ((j : ℕ) → Reaches f e j → refers_to f j ≡ refers_to g j) → reaches_by f n k e ≡ reaches_by g n k e
unfolding reaches_by
reach_same f g zero k e h = refl
reach_same f g (suc n) k e h =
    let same = any_same (λ r. reaches_by f n k r) (λ r. reaches_by g n k r) (refers_to f e)
    (λ r m. reach_same f g n k r (λ j reach. h j (onward m reach))) in
    ap (λ (b : Bool). eqb e k || b) (same ∙ ap (any_of (λ r. reaches_by g n k r)) (h e itself))

lowest_same : (n k : ℕ) (p q : ℕ → Bool) → ((i : ℕ) → p i ≡ q i) → lowest_from n k p ≡ lowest_from n k q
unfolding lowest_from
lowest_same zero k p q h = refl
lowest_same (suc n) k p q h = rw (h k, lowest_same n (suc k) p q h)

-- Two files that say the same of every entry that e reaches give the same answer, whatever they say of the others.
pub same_reached : (f g : List ℕ) (e : ℕ) → SameReached f g e → uniform_call f e ≡ uniform_call g e
unfolding uniform_call lowest_broken reaches is_broken ◌>>=◌
same_reached f g e s =
    let ts = s.types in
    let us = s.types' in
    let broken : lowest_broken f ts e ≡ lowest_broken g us e =
    lowest_same (suc e) 0 (λ k. reaches f e k && is_broken ts k) (λ k. reaches g e k && is_broken us k) (λ k.
    let reach = reach_same f g e k e s.same_references in
    yes_or_no (reaches_by f e k e)
    (λ (y : reaches_by f e k e ≡ true).
    rw (← reach, y, s.same_type k (reach_sound f e k e y)))
    (λ (n : reaches_by f e k e ≡ false). rw (← reach, n))) in
    rw (s.accepted, s.accepted', s.same_type e itself, broken)
