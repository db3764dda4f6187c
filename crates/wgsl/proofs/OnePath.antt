-- Each place of an entry has one path, and each path to a scalar leads to a place (specs/Place, specs/Path, specs/Call).
--
-- In order: bytes that begin at one place; steps as numbers; the one path to a place of an entry; a path's place.
-- Assumes nothing.
use Prim.Native.Nat.{ℕ, ◌+◌, ◌^◌, ◌<◌, ◌≤◌}
use mathlib.Core.List.Memᴰ
use mathlib.Core.List.{List, [], ◌∷◌, map, Memᴰ}
use mathlib.Core.Logic.{◌⊎◌, inl, inr}
use mathlib.Core.Path.{◌≡◌, refl, ap, ◌∙◌}
use native.Mathlib.Omega.{arith}
use Rattle.wgsl.specs.Types.{Scalar}
use Rattle.wgsl.specs.Size.{present, width_of}
use Rattle.wgsl.specs.Said.{good}
use Rattle.wgsl.specs.Place.{one, shape_of, Place, word_places, places}
use Rattle.wgsl.specs.Path.{Step, index, member, step_of, walk}
use Rattle.wgsl.specs.Call.{target_in, target_call, view_call}
use Rattle.wgsl.specs.Claim.{Apart}
use Rattle.wgsl.specs.Demand.{Given, Leading, Words, OnePath}
use Rattle.wgsl.proofs.Said.{then_is, refuse_no}
use Rattle.wgsl.proofs.Path.{target}
use Rattle.wgsl.proofs.PathPlace.{path_place, place_path}
use Rattle.wgsl.proofs.Step.{number_of, step_code, step_of_code, Below, steps_below}
use Rattle.wgsl.proofs.Tail.{sized_has}
use Rattle.wgsl.proofs.Index.{entry_small}
use Rattle.wgsl.proofs.EntryFor.{laid_is, entry_well_formed}
use Rattle.wgsl.proofs.ScalarWords.{word_inside}
use Rattle.wgsl.proofs.Demand.{fixed, walks, scalars_apart}

-- ---- the one path to a place of a shape

-- two stretches of bytes that share byte i are not apart
not_apart : {A : Type 0} {p q : A} (a m b n i : ℕ) → (a ≤ i) × (i < a + m) → (b ≤ i) × (i < b + n) → (p ≡ q) ⊎ Apart a m b n → p ≡ q
not_apart a m b n i g h (inl e) = e
not_apart a m b n i g h (inr (inl l)) = absurd (omega (arith, g.1, h.0))
not_apart a m b n i g h (inr (inr l)) = absurd (omega (arith, g.0, h.1))

-- ---- steps as numbers

code_word : (s : Step) → number_of s < 2 ^ 31 → step_code s < 2 ^ 32
unfolding number_of step_code
code_word (index i) h = omega arith
code_word (member i) h = omega arith

-- Steps whose numbers have 31 bits have codes of 32 bits,
pub codes_words : (steps : List Step) → Below (2 ^ 31) steps → Words (map step_code steps)
unfolding Below Words
codes_words [] h = tt
codes_words (s ∷ steps) h = (code_word s h.0, codes_words steps h.1)

-- and are read back from them.
pub codes_read : (steps : List Step) → Below (2 ^ 31) steps → map step_of (map step_code steps) ≡ steps
unfolding Below
codes_read [] h = refl
codes_read (s ∷ steps) h = cc (step_of_code s h.0, codes_read steps h.1)

-- ---- the one path to a place of an entry

-- a view whose walk finds a scalar leads there
walk_leading : {f : List ℕ} {e : ℕ} {b path : List ℕ} {a : ℕ} {s : Scalar} (g : Given f e b) → walk 0 0 (shape_of 0 g.type) (map step_of path) ≡ good (target a (one s)) → Leading f e b path a s
unfolding view_call target_call target_in
walk_leading {b = b} {path = path} g h =
    let x = fixed b g refl in
    let stored = x.stored in
    let laid = laid_is (record { entry = stored.entry; within = stored.within; layout = stored.layout }) in
    let there = ap (λ (n : ℕ). walk 0 0 (shape_of n g.type) (map step_of path)) x.no_elements ∙ h in
    record { leads = then_is _ laid ∙ refuse_no 15 0 x.not_short ∙ there }

-- Every place of the entry has a path that leads to it, and no other path does.
pub place_has_one_path : {f : List ℕ} {e : ℕ} {b : List ℕ} (g : Given f e b) (p : Place) → Memᴰ p (places 0 g.type) → OnePath g p
unfolding places
place_has_one_path {f} {e} {b} g p m =
    let t = g.type in
    let x = shape_of 0 t in
    let found = place_path 0 x p (fixed b g refl).sound m in
    let s = found.scalar_is in
    let steps = found.steps in
    let path = map step_code steps in
    let well = entry_well_formed f e t g.entry in
    let small = entry_small 0 t well (sized_has t g.size g.sized) (λ o. omega arith) in
    let a = found.scalar_lies_at in
    let below = steps_below 0 0 x steps (target a (one s)) (2 ^ 31) small (found.leads 0) in
    let numbers = codes_words steps below in
    let there : Leading f e b path a s =
    walk_leading g (ap (λ (l : List Step). walk 0 0 x l) (codes_read steps below) ∙ found.leads 0) in
    record {
      path = path;
      scalar_is = s;
      numbers = numbers;
      scalar_lies_at = a;
      leads = there;
      one_of_its = found.one_of_its;
      only = λ q c u v l m.
          not_apart c (present (width_of u)) a (present (width_of s)) p.at (word_inside u c p m) (word_inside s a p found.one_of_its)
          (scalars_apart g l there v numbers);
    }

-- ---- a path's place

-- Every path to a scalar leads to places of the entry: those of its words.
pub path_has_place : {f : List ℕ} {e : ℕ} {b path : List ℕ} {a : ℕ} {s : Scalar} (g : Given f e b) → Leading f e b path a s → (p : Place) → Memᴰ p (word_places s a) → Memᴰ p (places 0 g.type)
unfolding places
path_has_place {path = path} {a = a} {s = s} g l p m =
    let r = path_place 0 0 (shape_of 0 g.type) (map step_of path) a s (walks g l) in
    rw r.split (Memᴰ.append_right r.before (Memᴰ.append_left r.after m))
