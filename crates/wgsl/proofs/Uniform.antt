-- The uniform profile (specs/Uniform): which entry is refused, and when none is.
--
-- In order: the lowest number that passes a test; the lowest broken entry; no broken entry; the call is good exactly if its entry's type
-- may live in a uniform buffer; what 19 names.
-- Assumes nothing.
use Prim.Native.Nat.{ℕ, zero, suc, ◌+◌, ◌<◌, ◌≤◌}
use mathlib.Core.Bool.{Bool, true, false, not, ◌&&◌, ◌||◌}
use mathlib.Core.List.{List}
use mathlib.Core.Logic.{⊎_elim}
use mathlib.Core.Option.{Option, none, some, some-injective}
use mathlib.Core.Path.{◌≡◌, refl, sym, ◌∙◌}
use native.Mathlib.Omega.{arith}
use native.Mathlib.Nat.{eq-or-lt_of_le, lt_of_not-le}
use native.Mathlib.Decide.{dec_le}
use borrow.Author.Tests.{not-true, not-false}
use lib.ListN.{get_elem?}
use Rattle.wgsl.specs.Types.{Scalar, Ty, scalar, is_open, everywhere}
use Rattle.wgsl.specs.Size.{is_present, size_of, align_of, has_layout, is_plain, is_storable}
use Rattle.wgsl.specs.Said.{Said, good, refused, ◌>>=◌, ◌>>◌, refuse, or_refuse}
use Rattle.wgsl.specs.Rule.{is_well_formed, types_of}
use Rattle.wgsl.specs.Call.{entry_of}
use Rattle.wgsl.specs.Uniform.{keeps_uniform, is_uniform, reaches, is_broken_type, is_broken, lowest_from, lowest_broken, refuse_broken, may_live, uniform_call}
use Rattle.wgsl.specs.File.{check_trailer}
use Rattle.wgsl.specs.Claim.{GoodIf, Reaches, CanUniform, LowestBroken}
use Rattle.wgsl.proofs.Absent.{both_hold, hold_both, true_not_false, yes_or_no, some_not_none, present_some}
use Rattle.wgsl.proofs.Said.{good_not_refused, then_good, then_is, then_refused, next_good, then_cases, refuse_good, refuse_not, or_refuse_good, or_refuse_refused}
use Rattle.wgsl.proofs.Passed.{everywhere_here}
use Rattle.wgsl.proofs.Accepted.{trailer_number, broken_number, refused_by, accepted, accepted_well_formed}
use Rattle.wgsl.proofs.AtEntry.{get_elem_low}
use Rattle.wgsl.proofs.Tail.{sized_closed}
use Rattle.wgsl.proofs.Reach.{reach_sound, reach_complete, reached_there}
use Rattle.wgsl.proofs.ReachedTypes.{reached_everywhere, everywhere_reached}

-- ---- the lowest number that passes a test

-- j is the first of the numbers from k on that passes
record First (p : ℕ → Bool) (k j : ℕ) : Type 0 where
  pub passes : p j ≡ true
  pub none_lower : (i : ℕ) → k ≤ i → i < j → p i ≡ false

lowest_some : (n k : ℕ) (p : ℕ → Bool) (j : ℕ) → lowest_from n k p ≡ some j → First p k j
unfolding lowest_from
lowest_some zero k p j e = some_not_none {A = ℕ} {a = j} e refl
lowest_some (suc n) k p j e =
    yes_or_no (p k)
    (λ (q : p k ≡ true).
    rw (← some-injective k j (rw q at e)) (record { passes = q; none_lower = λ i low high. absurd (omega arith) }))
    (λ (q : p k ≡ false).
    let x = lowest_some n (suc k) p j (rw q at e) in
    record {
      passes = x.passes;
      none_lower = λ i low high.
          ⊎_elim (λ (same : k ≡ i). rw (← same) q) (λ (past : k < i). x.none_lower i past high) (eq-or-lt_of_le low);
    })

lowest_none : (n k : ℕ) (p : ℕ → Bool) → lowest_from n k p ≡ none → (i : ℕ) → k ≤ i → i < k + n → p i ≡ false
unfolding lowest_from
lowest_none zero k p e i low high = absurd (omega arith)
lowest_none (suc n) k p e i low high =
    yes_or_no (p k) (λ (q : p k ≡ true). some_not_none {A = ℕ} {a = k} refl (rw q at e))
    (λ (q : p k ≡ false).
    ⊎_elim (λ (same : k ≡ i). rw (← same) q)
    (λ (past : k < i). lowest_none n (suc k) p (rw q at e) i past (omega arith)) (eq-or-lt_of_le low))

-- ---- the lowest broken entry

-- neither of two tests holds
neither_holds : (a b : Bool) → (a || b) ≡ false → (a ≡ false) × (b ≡ false)
neither_holds true b e = true_not_false refl e
neither_holds false b e = (refl, e)

-- a test that fails beside one that holds
fails_beside : (a b : Bool) → a ≡ true → (a && b) ≡ false → b ≡ false
fails_beside a b e h = rw e at h

scalars_keep : (s : Scalar) → keeps_uniform (scalar s) ≡ true
unfolding keeps_uniform
scalars_keep s = refl

pub broken_is : (ts : List Ty) (k : ℕ) {t : Ty} → get_elem? ts k ≡ some t → is_broken ts k ≡ not (keeps_uniform t)
unfolding is_broken is_broken_type
broken_is ts k there = rw there

-- entry e of an accepted file, of the type t
pub record Asked (f : List ℕ) (ts : List Ty) (e : ℕ) (t : Ty) : Type 0 where
  pub good_file : types_of f ≡ good ts
  pub there : get_elem? ts e ≡ some t

module _ {f : List ℕ} {ts : List Ty} {e : ℕ} {t : Ty} (a : Asked f ts e t) where
  reaches_is : {k : ℕ} → Reaches f e k → reaches f e k ≡ true
  unfolding reaches
  reaches_is r = reach_complete f ts a.good_file a.there r e (omega arith)

  -- It is reached and broken, and none lower is,
  pub broken_some : {k : ℕ} → lowest_broken f ts e ≡ some k → LowestBroken f ts e k
  unfolding lowest_broken reaches
  broken_some {k} h =
      let x = lowest_some _ _ _ k h in
      let both = both_hold (reaches f e k) (is_broken ts k) x.passes in
      record {
        reached = reach_sound f e k e both.0;
        broken = both.1;
        lowest = λ j r b.
            elim (dec_le k j) [
              | yes le ↦ le
              | no gt ↦ true_not_false b (fails_beside (reaches f e j) (is_broken ts j) (reaches_is r) (x.none_lower j (omega arith) (lt_of_not-le gt)))
            ];
      }

  -- or no entry that is reached is broken.
  pub broken_none : lowest_broken f ts e ≡ none → {k : ℕ} → Reaches f e k → is_broken ts k ≡ false
  unfolding lowest_broken
  broken_none h {k} r =
      let low = (reached_there f ts a.good_file a.there r).0 in
      fails_beside (reaches f e k) (is_broken ts k) (reaches_is r) (lowest_none _ _ _ h k (omega arith) (omega arith))

  -- ---- no broken entry

  -- Where every type within an entry's keeps the rules, there is none,
  pub keeps_none : everywhere keeps_uniform t ≡ true → lowest_broken f ts e ≡ none
  keeps_none h = go (lowest_broken f ts e) refl
    where
      go : (o : Option ℕ) → lowest_broken f ts e ≡ o → o ≡ none
      go none q = refl
      go (some k) q =
          let x = broken_some q in
          let y = (reached_there f ts a.good_file a.there x.reached).1 in
          let keeps = everywhere_here keeps_uniform y.0 (reached_everywhere f ts a.good_file keeps_uniform scalars_keep a.there h x.reached y.1) in
          true_not_false keeps (not-true (keeps_uniform y.0) (sym (broken_is ts k y.1) ∙ x.broken))

  -- and the other way round.
  pub none_keeps : lowest_broken f ts e ≡ none → everywhere keeps_uniform t ≡ true
  none_keeps h =
      everywhere_reached f ts a.good_file keeps_uniform scalars_keep a.there
      (λ k u r is. not-false (keeps_uniform u) (sym (broken_is ts k is) ∙ broken_none h r))

-- What is found step by step is what is reached.
pub reached_by_steps : (f : List ℕ) (ts : List Ty) → types_of f ≡ good ts → {e : ℕ} {t : Ty} → get_elem? ts e ≡ some t → (k : ℕ) → (Reaches f e k → reaches f e k ≡ true) × (reaches f e k ≡ true → Reaches f e k)
unfolding reaches
reached_by_steps f ts good_file {e} there k =
    (reaches_is (record { good_file = good_file; there = there }), reach_sound f e k e)

-- ---- 9 and 10

module _ (t : Ty) where
  live_good : everywhere is_well_formed t ≡ true → is_present (size_of t) ≡ true → is_storable t ≡ true → may_live t ≡ good tt
  unfolding may_live is_storable refuse ◌>>◌
  live_good w sized h =
      let z = present_some (size_of t) sized in
      let layout = (both_hold (has_layout t) (everywhere is_plain t) h).0 in
      rw (layout, sized_closed t z.0 w z.1, (both_hold (has_layout t) (everywhere is_plain t) h).1)

  live_only : may_live t ≡ good tt → (is_present (size_of t) ≡ true) × (is_storable t ≡ true)
  unfolding may_live has_layout
  live_only h =
      let x = refuse_good 9 0 (not (has_layout t) || is_open t) _ h in
      let closed = neither_holds (not (has_layout t)) (is_open t) x.0 in
      let open_or_sized = (both_hold (is_present (align_of t)) (is_open t || is_present (size_of t)) (not-false (has_layout t) closed.0)).1 in
      (rw closed.1 at open_or_sized, refuse_not 10 0 (is_storable t) x.1)

-- ---- the call

pub call_is : {f : List ℕ} {ts : List Ty} {e : ℕ} {t : Ty} → Asked f ts e t → uniform_call f e ≡ ◌>>◌ (may_live t) (◌>>◌ (refuse_broken (lowest_broken f ts e)) (good 0))
unfolding uniform_call ◌>>=◌ or_refuse
call_is a = rw (a.good_file, a.there)

asked : (f : List ℕ) (e : ℕ) (t : Ty) → entry_of f e ≡ good t → (ts : List Ty) × Asked f ts e t
unfolding entry_of
asked f e t h =
    let x = then_good (types_of f) _ h in
    (x.value, record { good_file = x.first; there = or_refuse_good 8 0 _ x.after })

-- Where the entry is refused, the call is.
pub call_missing : (f : List ℕ) (e : ℕ) {number place : ℕ} → entry_of f e ≡ refused number place → uniform_call f e ≡ refused number place
unfolding entry_of uniform_call
call_missing f e h =
    then_cases (types_of f) _ h (λ q. then_refused _ q) (λ x. then_is _ x.first ∙ then_refused _ x.after)

-- what a good call has found
pub record Found (f : List ℕ) (e : ℕ) : Type 0 where
  pub types : List Ty
  pub type : Ty
  pub at : Asked f types e type
  pub lives : may_live type ≡ good tt
  pub none_broken : lowest_broken f types e ≡ none

unbroken : (o : Option ℕ) → refuse_broken o ≡ good tt → o ≡ none
unfolding refuse_broken
unbroken none h = refl
unbroken (some k) h = good_not_refused h refl

pub call_good : (f : List ℕ) (e v : ℕ) → uniform_call f e ≡ good v → Found f e
unfolding uniform_call
call_good f e v h =
    let x = then_good (types_of f) _ h in
    let y = then_good (or_refuse 8 0 (get_elem? x.value e)) _ x.after in
    let lives = next_good (may_live y.value) _ y.after in
    record {
      types = x.value;
      type = y.value;
      at = record { good_file = x.first; there = or_refuse_good 8 0 _ y.first };
      lives = lives.0;
      none_broken = unbroken _ (next_good (refuse_broken (lowest_broken f x.value e)) _ lives.1).0;
    }

-- It is good exactly if its entry's type may live in a uniform buffer.
pub uniform_good_if : (f : List ℕ) (e : ℕ) → GoodIf (uniform_call f e) (CanUniform f e)
unfolding is_uniform entry_of or_refuse refuse_broken ◌>>=◌ ◌>>◌
uniform_good_if f e =
    record {
      if_so = λ c.
          let x = asked f e c.type c.entry in
          let w = accepted_well_formed f x.0 x.1.good_file e c.type x.1.there in
          let both = both_hold (is_present (size_of c.type) && is_storable c.type) (everywhere keeps_uniform c.type) c.uniform in
          let fixed = both_hold (is_present (size_of c.type)) (is_storable c.type) both.0 in
          (0, call_is x.1 ∙ rw (live_good c.type w fixed.0 fixed.1, keeps_none x.1 both.1));
      only_if = λ v h.
          let x = call_good f e v h in
          let fixed = live_only x.type x.lives in
          record {
            type = x.type;
            entry = rw (x.at.good_file, x.at.there);
            uniform =
                hold_both (is_present (size_of x.type) && is_storable x.type) (everywhere keeps_uniform x.type)
                (hold_both (is_present (size_of x.type)) (is_storable x.type) fixed.0 fixed.1) (none_keeps x.at x.none_broken);
          };
    }

-- ---- what 19 names

-- A file is refused with a number up to 7, or with 24.
types_number : (f : List ℕ) {number place : ℕ} → types_of f ≡ refused number place → number ≡ 19 → ⊥
unfolding types_of
types_number f h is =
    then_cases (check_trailer f) _ h (λ q. absurd (omega (arith, is, trailer_number f q))) (λ x.
    refused_by f x.value x.after (λ y. absurd (omega (arith, is, broken_number y.broken)))
    (λ ts below y. absurd (omega (arith, is, y.number_is))))

-- Neither 9 nor 10 is 19.
live_on : (a b : Bool) (rest : Said ℕ) {k : ℕ} → ◌>>◌ (◌>>◌ (refuse 9 0 a) (refuse 10 0 b)) rest ≡ refused 19 k → rest ≡ refused 19 k
unfolding refuse ◌>>◌
live_on true b rest h = let z : ◌≡◌ {A = ℕ} 9 19 = cc in absurd (omega arith)
live_on false true rest h = let z : ◌≡◌ {A = ℕ} 10 19 = cc in absurd (omega arith)
live_on false false rest h = h

named : (o : Option ℕ) {k : ℕ} → ◌>>◌ {B = ℕ} (refuse_broken o) (good 0) ≡ refused 19 k → o ≡ some k
unfolding refuse_broken ◌>>◌
named none h = good_not_refused refl h
named (some j) h = cc

-- The entry that 19 names is the lowest broken one among the entry asked and those that it reaches,
pub uniform_names : (f : List ℕ) (e k : ℕ) → uniform_call f e ≡ refused 19 k → (ts : List Ty) × (types_of f ≡ good ts) × LowestBroken f ts e k
unfolding uniform_call may_live
uniform_names f e k h =
    then_cases (types_of f) _ h (λ q. absurd (types_number f q refl)) (λ x.
    then_cases (or_refuse 8 0 (get_elem? x.value e)) _ x.after
    (λ q. let n : 19 ≡ 8 = (or_refuse_refused 8 0 (get_elem? x.value e) q).1 in absurd (omega arith)) (λ y.
    let a : Asked f x.value e y.value = record { good_file = x.first; there = or_refuse_good 8 0 _ y.first } in
    (x.value, x.first, broken_some a (named _ (live_on _ _ _ y.after)))))

-- and no other entry is that.
pub names_one : {f : List ℕ} {ts : List Ty} {e j k : ℕ} → LowestBroken f ts e j → LowestBroken f ts e k → j ≡ k
names_one {j = j} {k = k} x y = omega (arith, x.lowest k y.reached y.broken, y.lowest j x.reached x.broken)

-- It has a number below 256.
pub named_low : {f : List ℕ} {ts : List Ty} {e : ℕ} {t : Ty} → Asked f ts e t → (number place : ℕ) → refuse_broken (lowest_broken f ts e) ≡ refused number place → place < 256
unfolding refuse_broken
named_low {f} {ts} {e} a number place h = go (lowest_broken f ts e) refl h
  where
    go : (o : Option ℕ) → lowest_broken f ts e ≡ o → refuse_broken o ≡ refused number place → place < 256
    go none q h = good_not_refused refl h
    go (some k) q h =
        let same : k ≡ place = cc in
        let x = accepted f ts a.good_file in
        omega (arith, (reached_there f ts a.good_file a.there (broken_some a q).reached).0, get_elem_low ts e a.there, x.count, x.trailer_good.high)
