-- The customer's demand 3: scalars lie inside, at multiples of their size, and apart; and a set is read back alone.
--
-- In order: what the demand assumes; what follows for the entry and for a path; inside and at a multiple; apart; set, then read; the
-- demand.
-- Assumes nothing.
use Prim.Native.Nat.{ℕ, ◌+◌, ◌%◌, ◌<◌, ◌≤◌}
use mathlib.Core.Bool.{false, not}
use mathlib.Core.List.{List, [], ◌∷◌, ◌++◌, map, append_assoc}
use mathlib.Core.Logic.{◌⊎◌, ⊎_map}
use mathlib.Core.Path.{◌≡◌, refl, ap, sym, ◌∙◌}
use native.Mathlib.Omega.{arith}
use borrow.Author.Tests.{le-ltb, eq-eqb}
use lib.ListN.{length, take, drop, length-append}
use lib.Seq.{sets, sets-eq, take_at, drop_at, drop-drop}
use Rattle.wgsl.specs.Round.{within_limit}
use Rattle.wgsl.specs.Types.{Scalar, Ty, everywhere}
use Rattle.wgsl.specs.Size.{present, width_of, size_of, has_layout, is_plain, is_storable}
use Rattle.wgsl.specs.Said.{good, or_refuse}
use Rattle.wgsl.specs.Place.{elements_by, elements_in, one, shape_of, span_of, Place, word_places, places, word_count, store_words, words_read}
use Rattle.wgsl.specs.Path.{walk, step_of}
use Rattle.wgsl.specs.Call.{contents_of, is_short, target_in, target_call, view_call, scalar_at, set_scalar, set_target, set_call}
use Rattle.wgsl.specs.Claim.{Apart, Ordered, Fit, Holds, Stored}
use Rattle.wgsl.specs.Demand.{Given, Leading, Words, SetThenRead, DemandThree}
use Rattle.wgsl.specs.Shapes.{Divides, Sound}
use Rattle.wgsl.proofs.Absent.{both_hold, present_is}
use Rattle.wgsl.proofs.Said.{next_is, then_good, then_is, refuse_good, refuse_no}
use Rattle.wgsl.proofs.Path.{target, target_inside, target_multiple, paths_apart}
use Rattle.wgsl.proofs.PathPlace.{path_place}
use Rattle.wgsl.proofs.Step.{step_of_injective}
use Rattle.wgsl.proofs.ScalarWords.{scalar_length}
use Rattle.wgsl.proofs.Word.{scalar_uncovered, length_store_words, store_words_uncovered, fit_check_words, length_words_read, words_read_append, words_read_middle}
use Rattle.wgsl.proofs.Tail.{closed_tail, closed_extent, sized_closed}
use Rattle.wgsl.proofs.EntryFor.{laid_good, stored_is, entry_well_formed, entry_sound}
use Rattle.wgsl.proofs.Call.{entry_places, done, read_is}

-- ---- what the demand assumes

-- numbers of 32 bits that say the same steps are the same
steps_injective : (p q : List ℕ) → Words p → Words q → map step_of p ≡ map step_of q → p ≡ q
unfolding Words
steps_injective [] [] g h e = refl
steps_injective [] (n ∷ q) g h e = let z : ◌≡◌ {A = ℕ} 0 1 = cc in absurd (omega arith)
steps_injective (m ∷ p) [] g h e = let z : ◌≡◌ {A = ℕ} 0 1 = cc in absurd (omega arith)
steps_injective (m ∷ p) (n ∷ q) g h e =
    let first : m ≡ n = step_of_injective m n g.0 h.0 (cc) in
    let rest : p ≡ q = steps_injective p q g.1 h.1 (cc) in
    cc

-- ---- what follows for the entry and for a path

-- The entry is laid out from 0 to its size, and no call about it is refused by 8, 17, 9, 10 or 15.
pub record Fixed (f : List ℕ) (e : ℕ) (b : List ℕ) (t : Ty) (size : ℕ) : Type 0 where
  pub stored : Stored f e b t
  pub not_short : is_short t b ≡ false
  pub no_elements : elements_in (length b) t ≡ 0
  pub sound : Sound (shape_of 0 t)
  pub span : span_of (shape_of 0 t) ≡ size
  pub divides : Divides (shape_of 0 t) 0
  pub ordered : Ordered (places 0 t) 0 size

-- An entry with a buffer as given is so laid out, in any buffer of that length.
pub fixed : {f : List ℕ} {e : ℕ} {b : List ℕ} (c : List ℕ) (g : Given f e b) → length c ≡ length b → Fixed f e c g.type g.size
unfolding is_storable within_limit is_short elements_in elements_by
fixed {f} {e} {b} c g q =
    let t = g.type in
    let layout = (both_hold (has_layout t) (everywhere is_plain t) g.storable).0 in
    let closed = sized_closed t g.size (entry_well_formed f e t g.entry) g.sized in
    let size : present (size_of t) ≡ g.size = ap present g.sized ∙ present_is g.size in
    let x = entry_sound f e t g.entry layout 0 in
    let takes = closed_extent 0 t closed ∙ size in
    record {
      stored =
          record {
            entry = g.entry;
            within = omega (arith, g.within);
            layout = layout;
            storable = g.storable;
          };
      not_short = rw closed (le-ltb (length c) (present (size_of t)) (omega (arith, g.room)));
      no_elements = rw (closed_tail t closed);
      sound = x.0;
      span = x.1 ∙ takes;
      divides = x.2;
      ordered = rw takes at (entry_places f e t g.entry layout 0);
    }

module _ {f : List ℕ} {e : ℕ} {b : List ℕ} (g : Given f e b) where
  -- A view that leads to a scalar walks there.
  pub walks : {path : List ℕ} {a : ℕ} {s : Scalar} → Leading f e b path a s → walk 0 0 (shape_of 0 g.type) (map step_of path) ≡ good (target a (one s))
  unfolding view_call target_call target_in
  walks {path} {a} {s} l =
      let x = fixed b g refl in
      let h = then_good _ _ l.leads in
      let same : h.value ≡ g.type = cc ((laid_good false h.first).entry, g.entry) in
      let w = (refuse_good 15 0 _ _ h.after).1 in
      ap (λ (n : ℕ). walk 0 0 (shape_of n g.type) (map step_of path)) (sym x.no_elements)
      ∙ ap (λ (t : Ty). walk 0 0 (shape_of (elements_in (length b) t) t) (map step_of path)) (sym same)
      ∙ w

  -- ---- inside and at a multiple

  -- A scalar that a path leads to lies inside the entry's size, at a multiple of its own size.
  pub scalar_inside : {path : List ℕ} {a : ℕ} {s : Scalar} → Leading f e b path a s → (a + present (width_of s) ≤ g.size) × (a % present (width_of s) ≡ 0)
  unfolding span_of
  scalar_inside {path} {a} {s} l =
      let x = fixed b g refl in
      let shape = shape_of 0 g.type in
      let i = target_inside 0 0 shape (map step_of path) (target a (one s)) x.sound (walks l) in
      (omega (arith, i.2, x.span), target_multiple 0 0 shape (map step_of path) a s x.sound x.divides (walks l))

  -- A scalar that a path leads to has a size.
  pub scalar_sized : {path : List ℕ} {a : ℕ} {s : Scalar} → Leading f e b path a s → 0 < present (width_of s)
  unfolding Sound
  scalar_sized {path} {a} {s} l =
      (target_inside 0 0 (shape_of 0 g.type) (map step_of path) (target a (one s)) (fixed b g refl).sound (walks l)).0

  -- ---- apart

  -- Two paths to scalars are the same, or the scalars share no byte.
  pub scalars_apart : {p q : List ℕ} {a c : ℕ} {s u : Scalar} → Leading f e b p a s → Leading f e b q c u → Words p → Words q → (p ≡ q) ⊎ Apart a (present (width_of s)) c (present (width_of u))
  scalars_apart {p} {q} {a} {c} {s} {u} l m v w =
      let x = shape_of 0 g.type in
      ⊎_map (λ (h : map step_of p ≡ map step_of q). steps_injective p q v w h) (λ h. h)
      (paths_apart 0 0 x (map step_of p) (map step_of q) a c s u (fixed b g refl).sound (walks l) (walks m))

-- ---- set, then read

-- a list of as many elements in the place of the middle one of three
sets_middle : (front old back new : List ℕ) (n : ℕ) → length front ≡ n → length old ≡ length new → sets (front ++ (old ++ back)) n new ≡ front ++ (new ++ back)
sets_middle front old back new n e same =
    let l = front ++ (old ++ back) in
    let long : length l ≡ length front + (length old + length back) = rw (length-append, length-append) refl in
    sets-eq new l n (omega arith)
    ∙ append_assoc (take n l) new (drop (n + length new) l)
    ∙ ap (λ (r : List ℕ). take n l ++ (new ++ r)) (sym (drop-drop (length new) n l))
    ∙ ap (λ (r : List ℕ). take n l ++ (new ++ drop (length new) r)) (drop_at front (old ++ back) n e)
    ∙ ap (λ (r : List ℕ). take n l ++ (new ++ r)) (drop_at old back (length new) same)
    ∙ ap (λ (r : List ℕ). r ++ (new ++ back)) (take_at front (old ++ back) n e)

-- what is stored at the places of some words is all that a read of the places around them finds changed
words_changed : (before here after : List Place) (new b rest : List ℕ) (hi : ℕ) → Ordered (before ++ (here ++ after)) 0 hi → hi ≤ length b → length new ≡ length here → Fit here new → words_read (before ++ (here ++ after)) (store_words here new b) ++ rest ≡ sets (words_read (before ++ (here ++ after)) b ++ rest) (length before) new
words_changed before here after new b rest hi o room many fit =
    let front = words_read before b in
    let old = words_read here b in
    let back = words_read after b in
    let was : words_read (before ++ (here ++ after)) b ≡ front ++ (old ++ back) =
    words_read_append before (here ++ after) b ∙ ap (λ (l : List ℕ). front ++ l) (words_read_append here after b) in
    ap (λ (l : List ℕ). l ++ rest) (words_read_middle before here after new b 0 hi o room many fit)
    ∙ append_assoc front (new ++ back) rest
    ∙ ap (λ (l : List ℕ). front ++ l) (append_assoc new back rest)
    ∙ sym (sets_middle front old (back ++ rest) new (length before) (length_words_read before b) (length_words_read here b ∙ sym many))
    ∙ ap (λ (l : List ℕ). sets (front ++ l) (length before) new) (sym (append_assoc old back rest))
    ∙ ap (λ (l : List ℕ). sets l (length before) new) (sym (append_assoc front (old ++ back) rest))
    ∙ ap (λ (l : List ℕ). sets (l ++ rest) (length before) new) (sym was)

-- a set at a path to a scalar that can hold the words is not refused
set_done : {f : List ℕ} {e : ℕ} {b path : List ℕ} {a : ℕ} {s : Scalar} (g : Given f e b) → Leading f e b path a s → (new : List ℕ) → Holds (present (width_of s)) a new → set_call f e path new b ≡ good (done a (store_words (word_places s a) new b))
unfolding set_call set_target set_scalar target_call target_in scalar_at or_refuse word_places
set_done {f} {e} {b} {path} {a} {s} g l new holds =
    let x = fixed b g refl in
    let there = ap (λ (n : ℕ). walk 0 0 (shape_of n g.type) (map step_of path)) x.no_elements ∙ walks g l in
    then_is _ (then_is _ (stored_is x.stored) ∙ refuse_no 15 0 x.not_short ∙ there)
    ∙ then_is _ refl
    ∙ refuse_no 14 0 (ap not (eq-eqb _ _ holds.count))
    ∙ next_is _ (fit_check_words 0 (word_places s a) new holds.words_fit)

-- and stores them
pub set_stores : {f : List ℕ} {e : ℕ} {b path b' : List ℕ} {a : ℕ} {s : Scalar} (g : Given f e b) → Leading f e b path a s → (new : List ℕ) → Holds (present (width_of s)) a new → set_call f e path new b ≡ good (done a b') → b' ≡ store_words (word_places s a) new b
unfolding contents_of
set_stores g l new holds is = ap (contents_of []) (sym is ∙ set_done g l new holds)

-- Words that the scalar can hold, set at a path, are read back from the scalar's position on, and nothing else changes.
pub set_then_read : {f : List ℕ} {e : ℕ} {b path : List ℕ} {a : ℕ} {s : Scalar} (g : Given f e b) → Leading f e b path a s → (new : List ℕ) → Holds (present (width_of s)) a new → (ws : List ℕ) → word_count 0 g.type ≤ length ws → SetThenRead g path a s new ws
unfolding places word_count word_places
set_then_read {f} {e} {b} {path} {a} {s} g l new holds ws room =
    let t = g.type in
    let here = word_places s a in
    let b' = store_words here new b in
    let same = length_store_words here new b in
    let many : length new ≡ length here = holds.count ∙ sym (scalar_length s a) in
    let x = fixed b g refl in
    let x' = fixed b' g same in
    let k = word_count 0 t in
    let p = path_place 0 0 (shape_of 0 t) (map step_of path) a s (walks g l) in
    let o : Ordered (p.before ++ (here ++ p.after)) 0 g.size = rw p.split at x.ordered in
    let rest = drop k ws in
    let changed = words_changed p.before here p.after new b rest g.size o g.room many holds.words_fit in
    let long : length (places 0 t) ≡ length p.before + (length here + length p.after) =
    ap length p.split ∙ rw (length-append, length-append) refl in
    record {
      b' = b';
      set_is = set_done g l new holds;
      length_same = same;
      others_stay = λ i u. store_words_uncovered here new b i (scalar_uncovered s a i u);
      count = k;
      old = words_read (places 0 t) b ++ rest;
      read_before = read_is f e b ws t 0 x.stored x.not_short x.no_elements room;
      position = length p.before;
      position_inside = omega arith;
      position_is =
          ap (λ (ps : List Place). take (length new) (drop (length p.before) ps)) p.split
          ∙ ap (λ (ps : List Place). take (length new) ps) (drop_at p.before (here ++ p.after) _ refl)
          ∙ take_at here p.after (length new) (sym many);
      read_after =
          read_is f e b' ws t 0 x'.stored x'.not_short x'.no_elements room
          ∙ ap (λ (l : List ℕ). good (done k l))
          (ap (λ (ps : List Place). words_read ps b' ++ rest) p.split
          ∙ changed
          ∙ ap (λ (ps : List Place). sets (words_read ps b ++ rest) (length p.before) new) (sym p.split));
    }

-- ---- the demand

-- Demand 3 is met: of every storable entry of fixed size in an accepted table, and every buffer that is long enough.
pub demand_three : {f : List ℕ} {e : ℕ} {b : List ℕ} (g : Given f e b) → DemandThree g
demand_three g = record {
  inside = λ path a s l. scalar_inside g l;
  apart = λ p q a c s u l m v w. scalars_apart g l m v w;
  set_read = λ path a s l new holds ws room. set_then_read g l new holds ws room;
}
