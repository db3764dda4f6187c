-- What is left of a list: whether all its numbers are below a bound, and the common type of its entries (specs/Chosen; crates/wgsl, specs/Rank).
--
-- In order: the test of the bound, from a number on; the common type of two entries, by their ranks; of a list, from a number on.
-- Assumes nothing.
use Prim.Native.Nat.{ℕ, zero, suc, ◌+◌, ◌<◌, ◌≤◌}
use mathlib.Core.Bool.{true, false, ◌&&◌}
use mathlib.Core.List.{List, [], ◌∷◌}
use mathlib.Core.Option.{none, some, none-ne-some}
use mathlib.Core.Option.{Option as MaybeOption}
use Rattle.std.specs.Prelude.{Option, None, Some}
use Rattle.std.specs.Option.{is_some, option_and}
use Rattle.said.specs.Answer.{maybe_of}
use mathlib.Core.Logic.{◌⊎◌, inl, inr, ⊎_elim}
use mathlib.Core.Path.{◌≡◌, refl, ap, sym, ◌∙◌}
use native.Mathlib.Numerals.{add-one}
use native.Mathlib.Omega.{arith}
use borrow.Author.Tests.{ltb-true}
use Rattle.std.specs.List.{list_all}
use lib.Dec.{ltb}
use lib.ListN.{length, drop, get_or}
use lib.Seq.{drop-cons}
use Rattle.wgsl.specs.Types.{bool, Ty, scalar}
use Rattle.wgsl.specs.Rank.{rank_of, Candidate, first_of, common_of, common_with, common_of_all}
use Rattle.wgsl.proofs.Absent.{both_hold, true_not_false}
use Rattle.wgsl.proofs.Rank.{common_one}
use Rattle.convert_rank.specs.Ranked.{Pair}
use Rattle.convert_common.specs.Chosen.{all_below, Listed, entry_in, entries_in, number_in}

drop_none : (l : List ℕ) (i : ℕ) → length l ≤ i → drop i l ≡ []
drop_none [] zero h = refl
drop_none [] (suc i) h = refl
drop_none (n ∷ l) zero h = absurd (omega arith)
drop_none (n ∷ l) (suc i) h = drop_none l i (omega arith)

-- ---- the bound

-- std's test of each element is `all_below`.
pub all_below_is : (list : List ℕ) (types : ℕ) → list_all (λ n. ltb n types) list ≡ all_below list types
unfolding all_below
all_below_is [] types = refl
all_below_is (n ∷ list) types = ap (λ b. ltb n types && b) (all_below_is list types)

below_at : (list : List ℕ) (types i : ℕ) → all_below list types ≡ true → i < length list → get_or list i 0 < types
unfolding all_below
below_at [] types i e h = absurd (omega arith)
below_at (n ∷ list) types zero e h = ltb-true n types (both_hold (ltb n types) (all_below list types) e).0
below_at (n ∷ list) types (suc i) e h =
    below_at list types i (both_hold (ltb n types) (all_below list types) e).1 (omega arith)

-- ---- two entries

module _ (ts : List Ty) (a b : ℕ) where
  abbrev pub first_type : Ty
  first_type = get_or ts a (scalar bool)

  abbrev pub second_type : Ty
  second_type = get_or ts b (scalar bool)

  -- By the ranks that the code finds: b, or else a, or none.
  pub common_second : (o : Option ℕ) → rank_of first_type second_type ≡ maybe_of o → is_some o ≡ true → some b ≡ number_in (common_of (entry_in ts a) (entry_in ts b))
  unfolding common_of first_of entry_in number_in
  common_second (Some n) e is = rw e
  common_second None e is = true_not_false refl (sym is)

  pub common_first : (o p : Option ℕ) → rank_of first_type second_type ≡ maybe_of o → rank_of second_type first_type ≡ maybe_of p → is_some o ≡ false → maybe_of (option_and p (Some a)) ≡ number_in (common_of (entry_in ts a) (entry_in ts b))
  unfolding common_of first_of entry_in number_in
  common_first (Some n) p e f is = true_not_false refl is
  common_first None (Some n) e f is = rw (e, f)
  common_first None None e f is = rw (e, f)

  -- The number of the common type says which entry it is.
  common_is : (e : ℕ) → some e ≡ number_in (common_of (entry_in ts a) (entry_in ts b)) → (common_of (entry_in ts a) (entry_in ts b) ≡ some (entry_in ts e)) × ((e ≡ a) ⊎ (e ≡ b))
  unfolding entry_in number_in
  common_is e h = go (common_of (entry_in ts a) (entry_in ts b)) refl h
    where
      go : (o : MaybeOption Candidate) → common_of (entry_in ts a) (entry_in ts b) ≡ o → some e ≡ number_in o → (common_of (entry_in ts a) (entry_in ts b) ≡ some (entry_in ts e)) × ((e ≡ a) ⊎ (e ≡ b))
      go none q h = absurd (none-ne-some _ (sym h))
      go (some c) q h =
          let same : e ≡ c.number = cc in
          ⊎_elim (λ (k : c ≡ entry_in ts a).
          let n : e ≡ a = same ∙ ap (λ (x : Candidate). x.number) k in
          (q ∙ ap some (rw n k), inl n))
          (λ (k : c ≡ entry_in ts b).
          let n : e ≡ b = same ∙ ap (λ (x : Candidate). x.number) k in
          (q ∙ ap some (rw n k), inr n))
          (common_one (entry_in ts a) (entry_in ts b) q)

-- nothing has no number
number_none : (o : MaybeOption Candidate) → none ≡ number_in o → o ≡ none
unfolding number_in
number_none none e = refl
number_none (some x) e = absurd (none-ne-some _ e)

-- ---- a list

-- The common type of the list is that of entry `found` and of those of its rest from number i on.
pub record Folded (ts : List Ty) (list rest : List ℕ) (found i : ℕ) : Type 0 where
  pub low : found < length ts
  pub rest_low : all_below rest (length ts) ≡ true
  pub left : common_with (some (entry_in ts found)) (entries_in ts (drop i rest)) ≡ common_of_all (entries_in ts list)

with_none : (es : List Candidate) → common_with none es ≡ none
unfolding common_with
with_none [] = refl
with_none (e ∷ es) = refl

-- Of no entries there is none.
pub folded_empty : (ts : List Ty) (list : List ℕ) → length list ≡ 0 → none ≡ number_in (common_of_all (entries_in ts list))
unfolding entries_in common_of_all number_in
folded_empty ts [] h = refl
folded_empty ts (n ∷ list) h = absurd (omega arith)

pub folded_start : {f : List ℕ} {ts : List Ty} {start : ℕ} (list : List ℕ) {first : ℕ} {rest : List ℕ} → Listed f ts start list → list ≡ first ∷ rest → Folded ts list rest first 0
unfolding all_below entries_in common_of_all
folded_start {ts = ts} list {first} {rest} l e =
    let b = both_hold (ltb first (length ts)) (all_below rest (length ts)) (rw e at l.below) in
    record { low = ltb-true first (length ts) b.0; rest_low = b.1; left = rw e refl }

module _ {f : List ℕ} {ts : List Ty} {start : ℕ} {list rest : List ℕ} {found i : ℕ} (l : Listed f ts start list) (folded : Folded ts list rest found i) where
  pub folded_end : length rest ≤ i → some found ≡ number_in (common_of_all (entries_in ts list))
  unfolding entries_in entry_in common_with number_in
  folded_end h = ap number_in (rw (drop_none rest i h) at folded.left)

  module _ (here : i < length rest) where
    pub folded_pair : Pair f ts start found (get_or rest i 0)
    folded_pair =
        record {
          accepted = l.accepted;
          start_is = l.start_is;
          first = folded.low;
          second = below_at rest (length ts) i folded.rest_low here;
        }

    next : common_with (common_of (entry_in ts found) (entry_in ts (get_or rest i 0))) (entries_in ts (drop (i + 1) rest)) ≡ common_of_all (entries_in ts list)
    unfolding entries_in common_with
    next = rw add-one (rw (drop-cons rest i 0 here) at folded.left)

    pub folded_step : (e : ℕ) → some e ≡ number_in (common_of (entry_in ts found) (entry_in ts (get_or rest i 0))) → Folded ts list rest e (i + 1)
    folded_step e h =
        let (is, one) = common_is ts found (get_or rest i 0) e h in
        let p = folded_pair in
        record { low = ⊎_elim (λ k. omega arith) (λ k. omega arith) one; rest_low = folded.rest_low; left = rw is at next }

    pub folded_none : none ≡ number_in (common_of (entry_in ts found) (entry_in ts (get_or rest i 0))) → none ≡ number_in (common_of_all (entries_in ts list))
    unfolding number_in
    folded_none h = ap number_in (sym (with_none _) ∙ rw (number_none (common_of (entry_in ts found) (entry_in ts (get_or rest i 0))) h) at next)
