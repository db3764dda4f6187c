-- What is told of each entry is the lowest broken one among it and those that it reaches (specs/Lowest, `lowest_by` and `IsLowest`).
--
-- In order: the lowest number told of some entries; one more entry; upward from entry 0; the answer.
-- Assumes nothing.
use Prim.Native.Nat.{ℕ, ◌+◌, ◌<◌, ◌≤◌}
use mathlib.Core.Bool.{true, false, not}
use mathlib.Core.List.Memᴰ
use mathlib.Core.List.{List, [], ◌∷◌, Memᴰ}
use mathlib.Core.Logic.{⊎_elim}
use mathlib.Core.Option.{Option, none, some}
use mathlib.Core.Path.{◌≡◌, refl, ap, ◌∙◌}
use native.Mathlib.Omega.{arith}
use native.Mathlib.Decide.{dec_le}
use native.Mathlib.Nat.{lt_of_not-le}
use borrow.Author.Tests.{ltb-true, ltb-false, eq-eqb, ne_eqb}
use lib.Dec.{ltb}
use lib.ListN.{length, get_or, set, get_elem?}
use lib.Seq.{get_or-set_same, get_or-set_other}
use Rattle.wgsl.specs.Types.{bool, Ty, scalar}
use Rattle.wgsl.specs.Said.{good, ◌>>◌}
use Rattle.wgsl.specs.Uniform.{refers_to, keeps_uniform, is_broken, lowest_broken, refuse_broken}
use Rattle.wgsl.specs.Claim.{Reaches, itself, onward}
use Rattle.wgsl.proofs.Absent.{true_not_false, yes_or_no}
use Rattle.wgsl.proofs.Accepted.{accepted}
use Rattle.wgsl.proofs.AtEntry.{get_elem_get_d}
use Rattle.wgsl.proofs.Reach.{refers_lower, reached_there, reach_cases}
use Rattle.wgsl.proofs.Uniform.{broken_is, Asked, broken_some, broken_none}
use Rattle.walk_shapes.specs.Basis.{Basis}
use Rattle.walk_shapes.proofs.Basis.{basis_inside}
use Rattle.uniform_rules.proofs.KeepsBy.{keeps_ask, keeps_is}
use Rattle.uniform.specs.Lowest.{lowest_among, lowest_by, LowestAsks, IsLowest, verdict_of}
use Rattle.uniform.proofs.RefersBy.{refers_is, refers_inside}
use Rattle.layout_values.specs.declared.value.Value.{Value}

-- ---- the lowest number told of some entries

among_low : (told rs : List ℕ) {r : ℕ} → Memᴰ r rs → lowest_among told rs ≤ get_or told r 0
unfolding lowest_among
among_low told [] m = absurd (Memᴰ.not-nil m)
among_low told (s ∷ rs) {r} m =
    ⊎_elim (λ (q : r ≡ s). rw q (omega arith)) (λ (q : Memᴰ r rs). omega (arith, among_low told rs q)) (Memᴰ.cases_cons m)

among_there : (told rs : List ℕ) → lowest_among told rs < 256 → (r : ℕ) × Memᴰ r rs × (get_or told r 0 ≡ lowest_among told rs)
unfolding lowest_among
among_there told [] h = absurd (omega arith)
among_there told (s ∷ rs) h =
    elim (dec_le (get_or told s 0) (lowest_among told rs)) [
      | yes le ↦ (s, Memᴰ.head refl, omega arith)
      | no gt ↦
          let lower = lt_of_not-le gt in
          let x = among_there told rs (omega arith) in
          (x.0, Memᴰ.tail x.1, omega (arith, x.2))
    ]

-- ---- one more entry

module _ {f : List ℕ} {ts : List Ty} {ms : List ℕ} {table : List Value} (basis : Basis f ts ms table) {k : ℕ} {t : Ty} (there : get_elem? ts k ≡ some t) (few : k < 256) (told : List ℕ) (all : (j : ℕ) → j < k → IsLowest f ts j (get_or told j 0)) where
  -- what is told of an entry that k refers to
  told_of : {r : ℕ} → Memᴰ r (refers_to f k) → IsLowest f ts r (get_or told r 0)
  told_of {r} m = all r (refers_lower f ts basis.good_file there m).low

  -- Nothing that k reaches is broken below n, if k itself is not, and n is not above the lowest told.
  none_lower : (n : ℕ) → (is_broken ts k ≡ true → n ≤ k) → n ≤ lowest_among told (refers_to f k) → (j : ℕ) → Reaches f k j → is_broken ts j ≡ true → n ≤ j
  none_lower n own h j reach b =
      reach_cases reach (λ same. rw same (own (rw same at b)))
      (λ r m rest. omega (arith, among_low told (refers_to f k) m, (told_of m).lowest j rest b))

  -- One that is told is the lowest,
  from_below : lowest_among told (refers_to f k) < 256 → IsLowest f ts k (lowest_among told (refers_to f k))
  from_below h =
      let (r, m, is) = among_there told (refers_to f k) h in
      let x = (told_of m).there (omega arith) in
      let reach : Reaches f r (lowest_among told (refers_to f k)) = rw is at x.0 in
      let lower = refers_lower f ts basis.good_file there m in
      let high = (reached_there f ts basis.good_file lower.there reach).0 in
      record {
        lowest = none_lower (lowest_among told (refers_to f k)) (λ b. omega (arith, lower.low)) (omega arith);
        there = λ q. (onward m reach, rw is at x.1);
        bounded = omega arith;
      }

  -- else k itself, if it is broken, or none.
  pub one_more : IsLowest f ts k (lowest_by ms table told k)
  unfolding lowest_by
  one_more =
      rw (refers_is basis k there, keeps_is basis k there)
      (yes_or_no (ltb (lowest_among told (refers_to f k)) 256)
      (λ (q : ltb (lowest_among told (refers_to f k)) 256 ≡ true). rw q (from_below (ltb-true _ _ q)))
      (λ (q : ltb (lowest_among told (refers_to f k)) 256 ≡ false).
      let none_told = ltb-false _ _ q in
      let own = broken_is ts k there in
      rw q
      (yes_or_no (keeps_uniform t)
      (λ (y : keeps_uniform t ≡ true).
      rw y (record {
        lowest = none_lower 256 (λ b. true_not_false b (own ∙ ap not y)) none_told;
        there = λ h. absurd (omega arith);
        bounded = omega arith;
      }))
      (λ (n : keeps_uniform t ≡ false).
      rw n (record {
        lowest = none_lower k (λ b. omega arith) (omega arith);
        there = λ h. (itself, own ∙ ap not n);
        bounded = omega arith;
      })))))

-- ---- upward

module _ {f : List ℕ} {ts : List Ty} {ms : List ℕ} {table : List Value} (basis : Basis f ts ms table) (k : ℕ) (low : k < length ts) where
  type_there : (t : Ty) × (get_elem? ts k ≡ some t)
  type_there = (get_or ts k (scalar bool), get_elem_get_d ts k (scalar bool) low)

  -- There are at most 256 entries,
  pub few_entries : k < 256
  few_entries = let a = accepted f ts basis.good_file in omega (arith, a.count, a.trailer_good.high)

  -- each can be asked,
  pub lowest_asks : (told : ℕ) → told ≡ 256 → LowestAsks ms table told k
  lowest_asks told many =
      let t = type_there in
      record {
        inside = basis_inside basis k t.0 t.1;
        few = few_entries;
        refers_inside = refers_inside basis k told (omega (arith, few_entries)) t.1;
        keeps_ask = keeps_ask basis k t.1;
      }

  -- and once something is told of those below, something is told of it too.
  pub told_on : (told : List ℕ) → length told ≡ 256 → ((j : ℕ) → j < k → IsLowest f ts j (get_or told j 0)) → (r : ℕ) → r ≡ lowest_by ms table told k → (j : ℕ) → j < k + 1 → IsLowest f ts j (get_or (set told k r) j 0)
  told_on told many all r is j h =
      elim (dec_le k j) [
        | yes le ↦
            let same : j ≡ k = omega arith in
            let inside : k < length told = omega (arith, few_entries) in
            rw (same, get_or-set_same told k r 0 inside, is) (one_more basis type_there.1 few_entries told all)
        | no gt ↦
            let below = lt_of_not-le gt in
            rw (get_or-set_other told k j r 0 (λ q. omega arith)) (all j below)
      ]

-- ---- the answer

-- It is that of the call.
pub verdict_is : {f : List ℕ} {ts : List Ty} {e : ℕ} {t : Ty} → Asked f ts e t → e < 256 → (n : ℕ) → IsLowest f ts e n → verdict_of n ≡ ◌>>◌ (refuse_broken (lowest_broken f ts e)) (good 0)
unfolding verdict_of refuse_broken ◌>>◌
verdict_is {f} {ts} {e} a few n x = go (lowest_broken f ts e) refl
  where
    go : (o : Option ℕ) → lowest_broken f ts e ≡ o → verdict_of n ≡ ◌>>◌ (refuse_broken o) (good 0)
    go none q =
        let top : n ≡ 256 =
        elim (dec_le 256 n) [
          | yes le ↦ omega (arith, x.bounded)
          | no gt ↦ let y = x.there (lt_of_not-le gt) in true_not_false y.1 (broken_none a q y.0)
        ] in
        rw (eq-eqb n 256 top)
    go (some k) q =
        let y = broken_some a q in
        let high = (reached_there f ts a.good_file a.there y.reached).0 in
        let low = x.lowest k y.reached y.broken in
        let z = x.there (omega arith) in
        let same : n ≡ k = omega (arith, y.lowest n z.0 z.1) in
        rw (ne_eqb n 256 (λ p. omega arith), same)
