-- Laws of words written and read (specs/Place): over any list of places in order, then for whole types.
--
-- In order: lengths; bytes that no place covers; words that fit; what is read back; one scalar changed; `written`.
-- Assumes nothing.
use Prim.Native.Nat.{ℕ, suc, ◌+◌, ◌-◌, ◌^◌, ◌<◌, ◌≤◌}
use mathlib.Core.List.{List, [], ◌∷◌, ◌++◌}
use mathlib.Core.Bool.{not}
use mathlib.Core.Path.{◌≡◌, refl, ap, ◌∙◌}
use mathlib.Core.Logic.{inl, inr}
use native.Mathlib.Omega.{arith}
use borrow.Author.Tests.{ltb-true, not-false, lt-ltb}
use lib.Dec.{ltb}
use lib.ListN.{length, get_or, drop, replicate, length-append, length-drop, length-replicate, get_or-replicate, get_or-append}
use lib.Seq.{get_or-drop, get_or-append-add}
use Rattle.wgsl.specs.Number.{load, store}
use Rattle.wgsl.specs.Types.{Scalar, Ty}
use Rattle.wgsl.specs.Size.{present, width_of}
use Rattle.wgsl.specs.Said.{good, ◌>>◌, refuse}
use Rattle.wgsl.specs.Place.{Place, word_places, extent_of, places, store_words, written, words_read, can_hold, check_words}
use Rattle.wgsl.specs.Claim.{Outside, Ordered, Uncovered, Fit}
use Rattle.wgsl.proofs.Said.{refuse_good}
use Rattle.wgsl.proofs.Number.{length_store, store_other, load_same, load_store}
use Rattle.wgsl.proofs.Shape.{ordered_span, scalar_ordered}

-- ---- lengths

-- Storing words keeps the length.
pub length_store_words : (ps : List Place) (ws b : List ℕ) → length (store_words ps ws b) ≡ length b
unfolding store_words
length_store_words [] ws b = refl
length_store_words (p ∷ ps) [] b = refl
length_store_words (p ∷ ps) (w ∷ ws) b =
    length_store_words ps ws (store p.width b p.at w) ∙ length_store p.width b p.at w

-- Reading gives a word for each place.
pub length_words_read : (ps : List Place) (b : List ℕ) → length (words_read ps b) ≡ length ps
unfolding words_read
length_words_read [] b = refl
length_words_read (p ∷ ps) b = ap suc (length_words_read ps b)

-- ---- bytes that no place covers

-- A byte that no place covers stays.
pub store_words_uncovered : (ps : List Place) (ws b : List ℕ) (i : ℕ) → Uncovered ps i → get_or (store_words ps ws b) i 0 ≡ get_or b i 0
unfolding store_words Uncovered
store_words_uncovered [] ws b i u = refl
store_words_uncovered (p ∷ ps) [] b i u = refl
store_words_uncovered (p ∷ ps) (w ∷ ws) b i u =
    store_words_uncovered ps ws (store p.width b p.at w) i u.1 ∙ store_other p.width b p.at w i u.0

-- Places in order cover nothing before the first, and nothing past the end.
pub uncovered_below : (ps : List Place) (lo hi i : ℕ) → Ordered ps lo hi → i < lo → Uncovered ps i
unfolding Ordered Uncovered
uncovered_below [] lo hi i o h = tt
uncovered_below (p ∷ ps) lo hi i o h =
    (inl (omega (arith, o.0)), uncovered_below ps (p.at + p.width) hi i o.1 (omega (arith, o.0)))

pub uncovered_past : (ps : List Place) (lo hi i : ℕ) → Ordered ps lo hi → hi ≤ i → Uncovered ps i
unfolding Ordered Uncovered
uncovered_past [] lo hi i o h = tt
uncovered_past (p ∷ ps) lo hi i o h =
    (inr (omega (arith, ordered_span ps (p.at + p.width) hi o.1)), uncovered_past ps (p.at + p.width) hi i o.1 h)

-- The words of a scalar cover nothing outside it.
pub scalar_uncovered : (s : Scalar) (at i : ℕ) → Outside at (present (width_of s)) i → Uncovered (word_places s at) i
scalar_uncovered s at i (inl below) = uncovered_below (word_places s at) at _ i (scalar_ordered s at) below
scalar_uncovered s at i (inr past) = uncovered_past (word_places s at) at _ i (scalar_ordered s at) past

-- ---- words that fit

-- Words that are not refused fit.
pub check_words_fit : (k : ℕ) (ps : List Place) (ws : List ℕ) → check_words k ps ws ≡ good tt → Fit ps ws
unfolding check_words Fit can_hold
check_words_fit k [] ws e = tt
check_words_fit k (p ∷ ps) [] e = tt
check_words_fit k (p ∷ ps) (w ∷ ws) e =
    let c = refuse_good 16 k (not (ltb w (256 ^ p.width))) (check_words (suc k) ps ws) e in
    (ltb-true w (256 ^ p.width) (not-false _ c.0), check_words_fit (suc k) ps ws c.1)

-- Words that fit are not refused.
pub fit_check_words : (k : ℕ) (ps : List Place) (ws : List ℕ) → Fit ps ws → check_words k ps ws ≡ good tt
unfolding check_words Fit can_hold ◌>>◌ refuse
fit_check_words k [] ws f = refl
fit_check_words k (p ∷ ps) [] f = refl
fit_check_words k (p ∷ ps) (w ∷ ws) f = rw (lt-ltb w (256 ^ p.width) f.0) (fit_check_words (suc k) ps ws f.1)

-- ---- what is read back

-- What is read depends on the bytes of the places alone.
pub words_read_same : (ps : List Place) (a b : List ℕ) (lo hi : ℕ) → Ordered ps lo hi → ((i : ℕ) → lo ≤ i → i < hi → get_or a i 0 ≡ get_or b i 0) → words_read ps a ≡ words_read ps b
unfolding words_read Ordered
words_read_same [] a b lo hi o h = refl
words_read_same (p ∷ ps) a b lo hi o h =
    let span = ordered_span ps (p.at + p.width) hi o.1 in
    let first : load p.width a p.at ≡ load p.width b p.at =
    load_same p.width a b p.at (λ i from to. h i (omega (arith, o.0)) (omega arith)) in
    let rest : words_read ps a ≡ words_read ps b =
    words_read_same ps a b (p.at + p.width) hi o.1 (λ i from to. h i (omega (arith, o.0)) to) in
    rw (first, rest)

-- Reading the places that were written gives the words.
pub words_read_store_words : (ps : List Place) (ws b : List ℕ) (lo hi : ℕ) → Ordered ps lo hi → hi ≤ length b → length ws ≡ length ps → Fit ps ws → words_read ps (store_words ps ws b) ≡ ws
unfolding words_read store_words Ordered Fit
words_read_store_words [] [] b lo hi o room n f = refl
words_read_store_words [] (w ∷ ws) b lo hi o room n f = absurd (omega arith)
words_read_store_words (p ∷ ps) [] b lo hi o room n f = absurd (omega arith)
words_read_store_words (p ∷ ps) (w ∷ ws) b lo hi o room n f =
    let b' : List ℕ = store p.width b p.at w in
    let span = ordered_span ps (p.at + p.width) hi o.1 in
    let first : load p.width (store_words ps ws b') p.at ≡ w =
    load_same p.width (store_words ps ws b') b' p.at
    (λ i from to. store_words_uncovered ps ws b' i (uncovered_below ps (p.at + p.width) hi i o.1 to))
    ∙ load_store p.width b p.at w (omega arith) f.0 in
    let rest : words_read ps (store_words ps ws b') ≡ ws =
    words_read_store_words ps ws b' (p.at + p.width) hi o.1 (rw length_store room) (omega arith) f.1 in
    rw (first, rest)

-- ---- one scalar changed

pub words_read_append : (ps qs : List Place) (b : List ℕ) → words_read (ps ++ qs) b ≡ words_read ps b ++ words_read qs b
unfolding words_read
words_read_append [] qs b = refl
words_read_append (p ∷ ps) qs b = rw (words_read_append ps qs b)

-- lists of places in order, taken apart
pub ordered_split : (ps qs : List Place) (lo hi : ℕ) → Ordered (ps ++ qs) lo hi → (mid : ℕ) × Ordered ps lo mid × Ordered qs mid hi
unfolding Ordered
ordered_split [] qs lo hi o = (lo, omega arith, o)
ordered_split (p ∷ ps) qs lo hi o =
    let r = ordered_split ps qs (p.at + p.width) hi o.1 in
    (r.0, (o.0, r.1), r.2)

-- Storing at some places in the middle changes the words of those places and no others.
pub words_read_middle : (before mid after : List Place) (ws b : List ℕ) (lo hi : ℕ) → Ordered (before ++ (mid ++ after)) lo hi → hi ≤ length b → length ws ≡ length mid → Fit mid ws → words_read (before ++ (mid ++ after)) (store_words mid ws b) ≡ words_read before b ++ (ws ++ words_read after b)
words_read_middle before mid after ws b lo hi o room n f =
    let first = ordered_split before (mid ++ after) lo hi o in
    let second = ordered_split mid after first.0 hi first.2 in
    let m = first.0 in
    let m' = second.0 in
    let end = ordered_span after m' hi second.2 in
    let left : words_read before (store_words mid ws b) ≡ words_read before b =
    words_read_same before (store_words mid ws b) b lo m first.1
    (λ i from to. store_words_uncovered mid ws b i (uncovered_below mid m m' i second.1 to)) in
    let middle : words_read mid (store_words mid ws b) ≡ ws =
    words_read_store_words mid ws b m m' second.1 (omega arith) n f in
    let right : words_read after (store_words mid ws b) ≡ words_read after b =
    words_read_same after (store_words mid ws b) b m' hi second.2
    (λ i from to. store_words_uncovered mid ws b i (uncovered_past mid m m' i second.1 from)) in
    rw (words_read_append before (mid ++ after), words_read_append mid after, left, middle, right)

-- ---- written

blank_length : (z : ℕ) (b : List ℕ) → z ≤ length b → length (replicate z 0 ++ drop z b) ≡ length b
blank_length z b h = simp (length-append, length-replicate, length-drop) (omega arith)

-- Writing keeps the buffer's length.
pub length_written : (n : ℕ) (t : Ty) (ws b : List ℕ) → extent_of n t ≤ length b → length (written n t ws b) ≡ length b
unfolding written
length_written n t ws b h =
    length_store_words (places n t) ws (replicate (extent_of n t) 0 ++ drop (extent_of n t) b) ∙ blank_length (extent_of n t) b h

-- Within the extent a byte that no place covers is zero.
pub written_zero : (n : ℕ) (t : Ty) (ws b : List ℕ) (i : ℕ) → i < extent_of n t → Uncovered (places n t) i → get_or (written n t ws b) i 0 ≡ 0
unfolding written
written_zero n t ws b i h u =
    let z : ℕ = extent_of n t in
    store_words_uncovered (places n t) ws (replicate z 0 ++ drop z b) i u
    ∙ get_or-append (replicate z 0) (drop z b) 0 i (omega (arith, length-replicate {A = ℕ} z 0))
    ∙ get_or-replicate z i 0 0 h

-- Past the extent a byte stays.
pub written_later : (n : ℕ) (t : Ty) (ws b : List ℕ) (i : ℕ) → Ordered (places n t) 0 (extent_of n t) → extent_of n t ≤ i → get_or (written n t ws b) i 0 ≡ get_or b i 0
unfolding written
written_later n t ws b i o h =
    let z : ℕ = extent_of n t in
    let e : i ≡ length (replicate {A = ℕ} z 0) + (i - z) = omega (arith, length-replicate {A = ℕ} z 0) in
    let e' : z + (i - z) ≡ i = omega arith in
    store_words_uncovered (places n t) ws (replicate z 0 ++ drop z b) i (uncovered_past (places n t) 0 z i o h)
    ∙ ap (λ (j : ℕ). get_or (replicate z 0 ++ drop z b) j 0) e
    ∙ get_or-append-add (replicate z 0) (drop z b) (i - z) 0
    ∙ get_or-drop z b (i - z) 0
    ∙ ap (λ (j : ℕ). get_or b j 0) e'

-- Reading what was written gives the words.
pub read_written : (n : ℕ) (t : Ty) (ws b : List ℕ) → Ordered (places n t) 0 (extent_of n t) → extent_of n t ≤ length b → length ws ≡ length (places n t) → Fit (places n t) ws → words_read (places n t) (written n t ws b) ≡ ws
unfolding written
read_written n t ws b o h c f =
    words_read_store_words (places n t) ws (replicate (extent_of n t) 0 ++ drop (extent_of n t) b) 0 (extent_of n t) o
    (rw (blank_length (extent_of n t) b h) h) c f
