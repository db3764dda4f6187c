-- What the two questions on conversion say (crates/wgsl, specs/Call), from the table's answer and what the code ranks and chooses.
--
-- In order: the entries of a list; what the table's answer tells; the rank of two entries; the common type of a list.
-- Assumes nothing.
use Rattle.std.specs.Prelude.{Err, Result}
use Rattle.std.specs.Prelude as std
use Rattle.std.specs.Option.{ok_or}
use Rattle.said.specs.Answer.{said, maybe_of}
use Rattle.said.specs.declared.refusal.Refusal.TheVariants.{NoRank}
use Prim.Native.Nat.{ℕ, ◌<◌, ◌≤◌}
use mathlib.Core.Bool.{Bool, true, false}
use mathlib.Core.List.{List, [], ◌∷◌}
use mathlib.Core.Option.{Option, none, some}
use mathlib.Core.Path.{◌≡◌, refl, sym, ap, ◌∙◌}
use native.Mathlib.Omega.{arith}
use borrow.Author.Tests.{ltb-true, ltb-false}
use lib.Dec.{ltb}
use lib.ListN.{length, get_or, get_elem?}
use Rattle.wgsl.specs.Types.{bool, Ty, scalar}
use Rattle.wgsl.specs.Said.{good, refused, ◌>>=◌, or_refuse}
use Rattle.wgsl.specs.Rule.{types_of}
use Rattle.wgsl.specs.Rank.{Candidate, rank_of, common_of_all}
use Rattle.wgsl.specs.Call.{entry_of, rank_call, entries_of, common_call}
use Rattle.wgsl.proofs.Absent.{both_hold, true_not_false}
use Rattle.wgsl.proofs.Said.{then_is, then_refused}
use Rattle.said.specs.Refusal.{number_of, place_of}
use Rattle.said.specs.declared.refusal.Refusal.{Refusal}
use Rattle.file.specs.declared.trailer.Trailer.{Trailer}
use Rattle.layout_table.specs.Table.{accepted_trailer, said_checked}
use Rattle.layout_table.proofs.SaidTable.{Taken, told_refused}
use Rattle.convert_rank.specs.Ranked.{Pair}
use Rattle.wgsl.proofs.AtEntry.{get_elem_past, get_elem_get_d}
use Rattle.convert_common.specs.Chosen.{all_below, Listed, entry_in, entries_in, number_in}

-- ---- the entries of a list

-- Where all numbers are below T, the list names entries.
entries_below : (ts : List Ty) (es : List ℕ) → all_below es (length ts) ≡ true → entries_of ts es ≡ good (entries_in ts es)
unfolding all_below entries_of entries_in entry_in or_refuse ◌>>=◌
entries_below ts [] h = refl
entries_below ts (e ∷ es) h =
    let low = both_hold (ltb e (length ts)) (all_below es (length ts)) h in
    rw (get_elem_get_d ts e (scalar bool) (ltb-true e (length ts) low.0), entries_below ts es low.1)

-- 8: where one is not, the list is refused, whichever it is.
entries_past : (ts : List Ty) (es : List ℕ) → all_below es (length ts) ≡ false → entries_of ts es ≡ refused 8 0
unfolding all_below entries_of or_refuse ◌>>=◌
entries_past ts [] h = true_not_false refl h
entries_past ts (e ∷ es) h = go (entries_past ts es) (ltb e (length ts)) refl
  where
    go : (all_below es (length ts) ≡ false → entries_of ts es ≡ refused 8 0) → (b : Bool) → ltb e (length ts) ≡ b → entries_of ts (e ∷ es) ≡ refused 8 0
    go later true q = rw (get_elem_get_d ts e (scalar bool) (ltb-true e (length ts) q), later (rw q at h))
    go later false q = rw (get_elem_past ts e (ltb-false e (length ts) q))

-- The number of what is chosen, or 18.
chosen_number : (o : Option Candidate) → or_refuse 18 0 (number_in o) ≡ ◌>>=◌ (or_refuse 18 0 o) (λ e. good e.number)
unfolding number_in or_refuse ◌>>=◌
chosen_number (some e) = refl
chosen_number none = refl

-- A number, or 18 where there is none.
pub said_or_no_rank : (o : std.Option ℕ) → said (ok_or o NoRank) ≡ or_refuse 18 0 (maybe_of o)
unfolding or_refuse
said_or_no_rank (std.Some n) = refl
said_or_no_rank std.None = refl

-- ---- what the table's answer tells

module _ (f : List ℕ) (answer : Result Trailer Refusal) (says : said_checked answer ≡ accepted_trailer f) where
  -- Of a file that the table refuses both questions are refused so.
  pub rank_refused : (a b : ℕ) (r : Refusal) → answer ≡ Err r → refused (number_of r) (place_of r) ≡ rank_call f a b
  unfolding rank_call entry_of
  rank_refused a b r is = sym (then_refused _ (then_refused _ (told_refused f answer says r is)))

  pub common_refused : (es : List ℕ) (r : Refusal) → answer ≡ Err r → refused (number_of r) (place_of r) ≡ common_call f es
  unfolding common_call
  common_refused es r is = sym (then_refused _ (told_refused f answer says r is))

module _ {f : List ℕ} {t : Trailer} (file : Taken f t) where
  -- ---- the rank of two entries

  entry_past : (e : ℕ) → t.types ≤ e → entry_of f e ≡ refused 8 0
  unfolding entry_of or_refuse
  entry_past e h =
      then_is _ file.taken ∙ ap (or_refuse 8 0) (get_elem_past file.ts e (omega (arith, file.count)))

  module _ (e : ℕ) (low : e < t.types) where
    type_is : get_elem? file.ts e ≡ some (get_or file.ts e (scalar bool))
    type_is = get_elem_get_d file.ts e (scalar bool) (omega (arith, file.count))

    entry_there : entry_of f e ≡ good (get_or file.ts e (scalar bool))
    unfolding entry_of or_refuse
    entry_there = then_is _ file.taken ∙ ap (or_refuse 8 0) type_is

  -- 8: "entry number not below T"
  pub rank_past : (a b : ℕ) → t.types ≤ a → refused 8 0 ≡ rank_call f a b
  unfolding rank_call
  rank_past a b h = sym (then_refused _ (entry_past a h))

  pub rank_past_second : (a b : ℕ) → a < t.types → t.types ≤ b → refused 8 0 ≡ rank_call f a b
  unfolding rank_call
  rank_past_second a b low h = sym (then_is _ (entry_there a low) ∙ then_refused _ (entry_past b h))

  pub pair_there : (start a b : ℕ) → start ≡ t.start → a < t.types → b < t.types → (ts : List Ty) × Pair f ts start a b
  pair_there start a b s low low' = (
    file.ts,
    record {
      accepted = file.taken;
      start_is = s ∙ file.start_is;
      first = omega (arith, file.count);
      second = omega (arith, file.count);
    },
  )

  -- The rank of the two types, or 18.
  pub rank_is_lem : {a b i j : ℕ} {o r : Option ℕ} → a < t.types → b < t.types → i ≡ a → j ≡ b → r ≡ o → ((ts : List Ty) (u v : Ty) → types_of f ≡ good ts → get_elem? ts i ≡ some u → get_elem? ts j ≡ some v → r ≡ rank_of u v) → or_refuse 18 0 o ≡ rank_call f a b
  unfolding rank_call
  rank_is_lem {a} {b} {i} {j} low low' i_is j_is e h =
      let ts = file.ts in
      let first : get_elem? ts i ≡ some (get_or ts a (scalar bool)) = rw i_is (type_is a low) in
      let second : get_elem? ts j ≡ some (get_or ts b (scalar bool)) = rw j_is (type_is b low') in
      let same = h ts _ _ file.taken first second in
      sym (then_is _ (entry_there a low) ∙ then_is _ (entry_there b low') ∙ ap (or_refuse 18 0) (sym same ∙ e))

  -- ---- the common type of a list

  -- 8 comes before 18.
  pub common_past : (es : List ℕ) → all_below es t.types ≡ false → refused 8 0 ≡ common_call f es
  unfolding common_call
  common_past es h =
      sym (then_is _ file.taken ∙ then_refused _ (entries_past file.ts es (rw file.count h)))

  module _ (es : List ℕ) (below : all_below es t.types ≡ true) where
    chosen_is_lem : or_refuse 18 0 (number_in (common_of_all (entries_in file.ts es))) ≡ common_call f es
    unfolding common_call
    chosen_is_lem =
        chosen_number (common_of_all (entries_in file.ts es))
        ∙ sym (then_is _ file.taken ∙ then_is _ (entries_below file.ts es (rw file.count below)))

    pub list_there : (start : ℕ) → start ≡ t.start → (ts : List Ty) × Listed f ts start es
    list_there start s =
        (file.ts, record { accepted = file.taken; start_is = s ∙ file.start_is; below = rw file.count below })

    -- The number of the common type, or 18.
    pub common_is : {start : ℕ} {o r : Option ℕ} → start ≡ t.start → r ≡ o → ((ts : List Ty) → Listed f ts start es → r ≡ number_in (common_of_all (entries_in ts es))) → or_refuse 18 0 o ≡ common_call f es
    unfolding list_there
    common_is {start} s e h =
        let l = list_there start s in
        ap (or_refuse 18 0) (sym e ∙ h l.0 l.1) ∙ chosen_is_lem
