-- Each law of E13 (Requests) that has hypotheses, at a file or a list that meets them: antt computes that it does. A law that nothing meets
-- would have no line here.
--
-- The file is that of specs/CommonCase.
-- Assumes nothing.
use Prim.Native.Nat.{ℕ, ◌+◌}
use mathlib.Core.List.Memᴰ
use mathlib.Core.List.{List, [], ◌∷◌, Memᴰ}
use mathlib.Core.Logic.{⊎_elim}
use mathlib.Core.Option.{none, some}
use mathlib.Core.Path.{◌≡◌, refl}
use native.Mathlib.Omega.{arith}
use Rattle.wgsl.specs.Types.{i32, f32, abstract_int, abstract_float, Ty, scalar, is_runtime, ends_in_runtime, is_open, everywhere, every_member, is_scalar_kind, scalar_kind}
use Rattle.wgsl.specs.Said.{good, refused, ◌>>=◌, ◌>>◌, refuse, or_refuse}
use Rattle.wgsl.specs.Number.{load, bytes_of}
use Rattle.wgsl.specs.Round.{up, within_limit}
use Rattle.wgsl.specs.Size.{both, given_or, is_present, present, width_of, vec3_align, vector_size, vector_align, start_after, end_after, member_start, member_end, size_of, align_of, members_align, members_end, stride_of, own_stride_of, min_size_of, offsets_of, inner_numbers_of, numbers_of, within_limits, fits_limit, has_layout, is_stored, is_plain, is_storable}
use Rattle.wgsl.specs.File.{trailer_of, length_by, type_entry_from, type_entry_at, member_entry_from, member_entry_at, size_is_given, align_is_given, given_size, given_align, rest_is_zero, between, check_trailer, member_entry_length}
use Rattle.wgsl.specs.Rule.{when, and_then, unused, scalar_of_kind, scalar_in, lower, members_from, scalar_made, vector_made, matrix_made, array_made, runtime_made, atomic_made, struct_made, over_made, type_made, type_of_entry, is_matrix_scalar, is_atomic_scalar, is_last, count_of, member_allowed, members_allowed, is_allowed, at_least, given_size_fits, is_multiple, given_align_fits, members_given_fit, given_fits, judged, types_below, names_member, is_named, all_named, types_of}
use Rattle.wgsl.specs.Rank.{from_abstract_int, from_abstract_float, if_same, scalar_rank, outline_of, leaf_of, same_numbers, leaf_rank, rank_of, Candidate, first_of, common_of, common_with, common_of_all}
use Rattle.wgsl.specs.Call.{entry_of, rank_call, entries_of, common_call}
use Rattle.wgsl.specs.Case.{type_entry, member_given, member_entry, trailer}
use Rattle.wgsl.specs.CommonClaim.{SameMembers, PartOf, Grouping, alone, together, part, part_and, members_in, common_of_grouping, grouping_call, IsCommon, AllEntries, SameCommon, Alike}
use Rattle.wgsl.specs.CommonCase.{operands, pair_and}
use Rattle.wgsl.proofs.Requests as requests

-- ---- three in two orders

module _ {A : Type 0} (a b c : A) where
  turned : (x : A) → Memᴰ x (a ∷ b ∷ c ∷ []) → Memᴰ x (c ∷ a ∷ b ∷ [])
  turned x m =
      ⊎_elim (λ e. Memᴰ.tail (Memᴰ.head e))
      (λ n. ⊎_elim (λ e. Memᴰ.tail (Memᴰ.tail (Memᴰ.head e)))
      (λ o. ⊎_elim (λ e. Memᴰ.head e) (λ p. absurd (Memᴰ.not-nil p)) (Memᴰ.cases_cons o)) (Memᴰ.cases_cons n))
      (Memᴰ.cases_cons m)

same_turned : {A : Type 0} (a b c : A) → SameMembers (a ∷ b ∷ c ∷ []) (c ∷ a ∷ b ∷ [])
same_turned a b c = record { there = turned a b c; back = λ x m. turned b c a x (turned c a b x m) }

-- the first two are a part
first_two : {A : Type 0} (a b c : A) → PartOf (a ∷ b ∷ []) (a ∷ b ∷ c ∷ [])
first_two a b c =
    record {
      first = a;
      has = Memᴰ.head refl;
      there = λ x m.
          ⊎_elim (λ e. Memᴰ.head e)
          (λ n. ⊎_elim (λ e. Memᴰ.tail (Memᴰ.head e)) (λ o. absurd (Memᴰ.not-nil o)) (Memᴰ.cases_cons n)) (Memᴰ.cases_cons m);
    }

-- three entries
three : (f : List ℕ) (a b c : ℕ) {s t u : Ty} → entry_of f a ≡ good s → entry_of f b ≡ good t → entry_of f c ≡ good u → AllEntries f (a ∷ b ∷ c ∷ [])
three f a b c {s} {t} {u} p q r e m =
    ⊎_elim (λ (h : e ≡ a). (s, rw h p))
    (λ n. ⊎_elim (λ (h : e ≡ b). (t, rw h q))
    (λ o. ⊎_elim (λ (h : e ≡ c). (u, rw h r)) (λ v. absurd (Memᴰ.not-nil v)) (Memᴰ.cases_cons o)) (Memᴰ.cases_cons n))
    (Memᴰ.cases_cons m)

-- ---- the laws

abbrev one_of : ℕ → Ty → Candidate
one_of n t = record { number = n; type = t }

abbrev a0 : Candidate
a0 = one_of 0 (scalar abstract_int)

abbrev a1 : Candidate
a1 = one_of 1 (scalar abstract_float)

abbrev i2 : Candidate
i2 = one_of 2 (scalar i32)

abbrev f4 : Candidate
f4 = one_of 4 (scalar f32)

abbrev grouped : Grouping Candidate
grouped = together (part_and (together (part_and (alone a0) (part (alone a1)))) (part (alone f4)))

pub record CommonWitnesses : Type 0 where
  pub same_is_equal : scalar i32 ≡ scalar i32
  pub common_any_order : SameCommon (some f4) (some f4)
  pub common_any_grouping : SameCommon (some f4) (some f4)
  pub common_of_part : common_of_all (i2 ∷ f4 ∷ a0 ∷ []) ≡ none
  -- the number differs
  pub any_order : Alike operands (good 6) (good 2)
  pub any_grouping : Alike operands (good 4) (good 4)
  pub any_grouping_refused : Alike operands (refused 18 0) (refused 18 0)
  pub part_refused : common_call operands (2 ∷ 4 ∷ 0 ∷ []) ≡ refused 18 0
  pub no_entry_lem : common_call operands (2 ∷ 13 ∷ []) ≡ refused 8 0
  pub no_entry_grouped : (n : ℕ) → grouping_call operands (pair_and 2 4 13) ≡ good n → ⊥
  pub empty_list : common_call operands [] ≡ refused 18 0
  pub common_good : (c : ℕ) × (common_call operands (0 ∷ 1 ∷ 4 ∷ []) ≡ good c)
  pub common_is : IsCommon operands 4 (0 ∷ 1 ∷ 4 ∷ [])
  pub rank_adds : rank_of (scalar abstract_int) (scalar f32) ≡ some (5 + 1)
  pub ranks_add_up : rank_call operands 0 4 ≡ good (5 + 1)
  pub rank_zero : rank_call operands 2 6 ≡ good 0
  pub zero_rank : (t : Ty) × (entry_of operands 9 ≡ good t) × (entry_of operands 10 ≡ good t)

pub common_witnesses : CommonWitnesses
unfolding load bytes_of up within_limit is_runtime ends_in_runtime is_open everywhere every_member both given_or is_present present width_of vec3_align vector_size vector_align start_after end_after member_start member_end size_of align_of members_align members_end stride_of own_stride_of min_size_of offsets_of inner_numbers_of numbers_of within_limits fits_limit has_layout is_stored is_plain is_storable refuse or_refuse trailer_of length_by member_entry_length type_entry_from type_entry_at member_entry_from member_entry_at size_is_given align_is_given given_size given_align rest_is_zero between check_trailer when and_then unused scalar_of_kind is_scalar_kind scalar_in lower members_from scalar_made vector_made matrix_made array_made runtime_made atomic_made struct_made over_made type_made type_of_entry is_matrix_scalar is_atomic_scalar is_last count_of member_allowed members_allowed is_allowed at_least given_size_fits is_multiple given_align_fits members_given_fit given_fits judged types_below names_member is_named all_named types_of scalar_kind from_abstract_int from_abstract_float if_same scalar_rank outline_of leaf_of same_numbers leaf_rank rank_of first_of common_of common_with common_of_all entry_of rank_call entries_of common_call type_entry member_given member_entry trailer ◌>>=◌ ◌>>◌ grouping_call operands pair_and members_in common_of_grouping
common_witnesses =
    let is_common : IsCommon operands 4 (0 ∷ 1 ∷ 4 ∷ []) = requests.common_is operands (0 ∷ 1 ∷ 4 ∷ []) 4 refl in
    record {
      same_is_equal = requests.same_is_equal operands 2 6 {s = scalar i32} {t = scalar i32} refl refl (record { outline = refl; leaf = refl });
      common_any_order = requests.common_any_order (a0 ∷ a1 ∷ f4 ∷ []) (f4 ∷ a0 ∷ a1 ∷ []) (same_turned a0 a1 f4);
      common_any_grouping = requests.common_any_grouping grouped (f4 ∷ a0 ∷ a1 ∷ []) (same_turned a0 a1 f4);
      common_of_part = requests.common_of_part (i2 ∷ f4 ∷ []) (i2 ∷ f4 ∷ a0 ∷ []) (first_two i2 f4 a0) refl;
      any_order = requests.any_order operands (0 ∷ 2 ∷ 6 ∷ []) (6 ∷ 0 ∷ 2 ∷ []) (same_turned 0 2 6);
      any_grouping = requests.any_grouping operands (pair_and 0 1 4) (4 ∷ 0 ∷ 1 ∷ []) (same_turned 0 1 4) (three operands 4 0 1 refl refl refl);
      any_grouping_refused = requests.any_grouping operands (pair_and 2 4 0) (0 ∷ 2 ∷ 4 ∷ []) (same_turned 2 4 0) (three operands 0 2 4 refl refl refl);
      part_refused = requests.part_refused operands (2 ∷ 4 ∷ []) (2 ∷ 4 ∷ 0 ∷ []) (first_two 2 4 0) (three operands 2 4 0 refl refl refl) refl;
      no_entry_lem = requests.no_entry_lem operands (2 ∷ 13 ∷ []) 13 refl (omega arith) (Memᴰ.tail (Memᴰ.head refl));
      no_entry_grouped = λ n. requests.no_entry_grouped operands (pair_and 2 4 13) 13 n refl (omega arith) (Memᴰ.tail (Memᴰ.tail (Memᴰ.head refl)));
      empty_list = requests.empty_list operands refl;
      common_good = (requests.common_good_if operands (0 ∷ 1 ∷ 4 ∷ [])).if_so (4, is_common);
      common_is = is_common;
      rank_adds = requests.rank_adds (scalar abstract_int) (scalar abstract_float) (scalar f32) refl refl;
      ranks_add_up = requests.ranks_add_up operands 0 1 4 5 1 refl refl;
      rank_zero = requests.rank_zero operands 2 6 (scalar i32) refl refl;
      zero_rank = requests.zero_rank operands 9 10 refl;
    }
