-- What the check and the four questions say (crates/wgsl, specs/Call), read from the table's answer and from a layout in it.
--
-- In order: 0 for an absent number; minimum sizes; the check; the layout of an entry; what it tells: three numbers asked alone, and all
-- four at once.
-- Assumes nothing.
use Rattle.std.specs.Prelude.{Err, Ok, Result}
use Prim.Native.Nat.{ℕ, ◌≤◌}
use mathlib.Core.Bool.{true}
use mathlib.Core.List.{List}
use mathlib.Core.Option.{Option, none, some}
use mathlib.Core.Path.{◌≡◌, refl, sym, ap, ◌∙◌}
use native.Mathlib.Omega.{arith}
use borrow.Author.Tests.{eq-eqb, ne_eqb}
use Rattle.wgsl.specs.Types.{Ty, scalar, vector, matrix, array, runtime, atomic, struct, everywhere, kind_of}
use Rattle.wgsl.specs.Size.{present, size_of, align_of, min_size_of, own_stride_of}
use Rattle.wgsl.specs.Said.{Said, good, refused, ◌>>=◌, or_refuse}
use Rattle.wgsl.specs.File.{check_trailer}
use Rattle.wgsl.specs.Rule.{is_well_formed}
use Rattle.wgsl.specs.Call.{check_of, entry_of, size_call, align_call, min_size_call, layout_of, layout_call}
use Rattle.wgsl.proofs.Said.{good_not_refused, then_good, then_cases, then_is, then_refused}
use Rattle.wgsl.proofs.Passed.{runtime_passed}
use Rattle.wgsl.proofs.Entry.{size_positive, align_positive, stride_positive}
use Rattle.wgsl.proofs.Stride.{own_stride_positive}
use Rattle.wgsl.proofs.EntryFor.{entry_well_formed}
use Rattle.said.specs.Refusal.{number_of, place_of}
use Rattle.said.specs.declared.refusal.Refusal.{Refusal}
use Rattle.file.specs.declared.trailer.Trailer.{Trailer}
use Rattle.wgsl.proofs.ScalarKind.{no_scalar_kind}
use Rattle.layout_values.proofs.ValuesOf.{own_reference}
use Rattle.layout_values.specs.Value.{parts_of, stride_in, value_of}
use Rattle.layout_values.specs.declared.value.Value.{Value}
use Rattle.layout_table.specs.Table.{accepted_trailer, said_checked, ground_of, ground_in, said_ground}
use Rattle.layout_table.specs.declared.Ground.{Ground}
use Rattle.layout_table.proofs.SaidTable.{inner, trailer_refused, told, told_refused}
use Rattle.layout_table.proofs.GroundIn.{ground_told, ground_told_refused}
use Rattle.layout_ask.specs.ValueFound.{marked}
use Rattle.layout_ask.specs.ValueFound.{value_found}
use Rattle.said.specs.Answer.{said}

-- ---- 0 for an absent number

pub marked_zero : (n : ℕ) → n ≡ 0 → marked n ≡ none
unfolding marked
marked_zero n h = rw (eq-eqb n 0 h)

pub marked_other : (n : ℕ) → (n ≡ 0 → ⊥) → marked n ≡ some n
unfolding marked
marked_other n h = rw (ne_eqb n 0 h)

-- A number that is above 0 where it is present is told by its mark.
marked_present : (o : Option ℕ) → ((n : ℕ) → o ≡ some n → 1 ≤ n) → marked (present o) ≡ o
unfolding present
marked_present none h = marked_zero 0 refl
marked_present (some n) h = let l : 1 ≤ n = h n refl in marked_other n (λ z. omega arith)

-- a question whose answer is above 0 where it is present
abbrev Positive : (Ty → Option ℕ) → Type 0
Positive ask = (t : Ty) (n : ℕ) → everywhere is_well_formed t ≡ true → ask t ≡ some n → 1 ≤ n

-- The mark of its number is its answer.
marked_is : (ask : Ty → Option ℕ) → Positive ask → (t : Ty) → everywhere is_well_formed t ≡ true → {n : ℕ} → n ≡ present (ask t) → marked n ≡ ask t
marked_is ask p t w e = rw e (marked_present (ask t) (λ n h. p t n w h))

-- ---- minimum sizes

runtime_least : (long : ℕ) (t : Ty) → kind_of t ≡ 10 → present (stride_in long t) ≡ present (min_size_of t)
unfolding kind_of stride_in parts_of min_size_of
runtime_least long (scalar s) h = absurd (no_scalar_kind s 10 (omega arith) (omega arith) h)
runtime_least long (vector n s) h = absurd (omega arith)
runtime_least long (matrix c r s) h = absurd (omega arith)
runtime_least long (array n t) h = absurd (omega arith)
runtime_least long (runtime t) h = refl
runtime_least long (atomic s) h = absurd (omega arith)
runtime_least long (struct k ms) h = absurd (omega arith)

other_least : (t : Ty) → (kind_of t ≡ 10 → ⊥) → size_of t ≡ min_size_of t
unfolding kind_of min_size_of
other_least (scalar s) h = refl
other_least (vector n s) h = refl
other_least (matrix c r s) h = refl
other_least (array n t) h = refl
other_least (runtime t) h = absurd (h refl)
other_least (atomic s) h = refl
other_least (struct k ms) h = refl

module _ (l : Value) (t : Ty) (is : l ≡ value_of l.stride l.reference t) where
  -- "its minimum size is one stride"
  pub least_stride : l.kind ≡ 10 → l.stride ≡ present (min_size_of t)
  unfolding value_of
  least_stride h = ap (λ (x : Value). x.stride) is ∙ runtime_least l.stride t (sym (ap (λ (x : Value). x.kind) is) ∙ h)

  -- "any other type's is its size"
  pub least_size : (l.kind ≡ 10 → ⊥) → l.size ≡ present (min_size_of t)
  unfolding value_of
  least_size h =
      ap (λ (x : Value). x.size) is
      ∙ ap present (other_least t (λ e. h (ap (λ (x : Value). x.kind) is ∙ e)))

sizes_positive : Positive size_of
sizes_positive t n w e = omega (arith, size_positive t n w e)

-- Every minimum size of a well-formed type is above 0.
least_positive : Positive min_size_of
unfolding min_size_of
least_positive (scalar s) n w e = sizes_positive (scalar s) n w e
least_positive (vector k s) n w e = sizes_positive (vector k s) n w e
least_positive (matrix c r s) n w e = sizes_positive (matrix c r s) n w e
least_positive (array k t) n w e = sizes_positive (array k t) n w e
least_positive (runtime t) n w e = omega (arith, stride_positive t n (runtime_passed t w).below e)
least_positive (atomic s) n w e = sizes_positive (atomic s) n w e
least_positive (struct k ms) n w e = sizes_positive (struct k ms) n w e

-- ---- the check

module _ (f : List ℕ) (a : Result Trailer Refusal) (says : said_checked a ≡ accepted_trailer f) where
  -- "check: how many entries the file has"
  pub check_types : (t : Trailer) → a ≡ Ok t → good t.types ≡ check_of f
  unfolding check_of
  check_types t is = let x = told f a says t is in sym (then_is _ x.taken ∙ ap good x.count)

  pub check_refused : (r : Refusal) → a ≡ Err r → refused (number_of r) (place_of r) ≡ check_of f
  unfolding check_of
  check_refused r is = sym (then_refused _ (told_refused f a says r is))

-- ---- the layout of an entry

module _ (f : List ℕ) (e : ℕ) where
  found_refused : {number place : ℕ} → entry_of f e ≡ refused number place → refused number place ≡ value_found f e
  unfolding value_found
  found_refused h = sym (then_refused _ h)

  pub found_no_trailer : {number place : ℕ} → check_trailer f ≡ refused number place → refused number place ≡ value_found f e
  unfolding entry_of
  found_no_trailer h = found_refused (then_refused _ (trailer_refused f h))

  module _ (a : Result Ground Refusal) (table : List Value) (says : said_ground a table ≡ ground_in f e) where
    pub found_ground : (g : Ground) → a ≡ Ok g → good g.value ≡ value_found f e
    unfolding value_found ground_of
    found_ground g is =
        let x = ground_told f e a table says g is in
        sym (then_is _ x.is_entry ∙ ap (λ (y : Ground). good y.value) (sym x.ground_is))

    pub found_no_ground : (r : Refusal) → a ≡ Err r → refused (number_of r) (place_of r) ≡ value_found f e
    found_no_ground r is = found_refused (ground_told_refused f e a table says r is)

-- ---- what it tells

module _ (f : List ℕ) (e : ℕ) (a : Result Value Refusal) (says : said a ≡ value_found f e) where
  -- A question about an entry that is refused is refused so.
  pub ask_refused : {B : Type 0} (rest : Ty → Said B) (r : Refusal) → a ≡ Err r → refused (number_of r) (place_of r) ≡ ◌>>=◌ (entry_of f e) rest
  unfolding value_found
  ask_refused rest r is =
      sym (then_refused rest (then_cases _ _ (sym says ∙ ap said is) (λ h. h) (λ x. good_not_refused refl x.after)))

  module _ (l : Value) (is : a ≡ Ok l) where
    -- Any question that the layout of a well-formed type answers, its entry answers.
    ask_is : {B : Type 0} (rest : Ty → Said B) (s : Said B) → ((t : Ty) → l ≡ value_of l.stride l.reference t → everywhere is_well_formed t ≡ true → s ≡ rest t) → s ≡ ◌>>=◌ (entry_of f e) rest
    unfolding value_found
    ask_is rest s h =
        let x = then_good _ _ (sym says ∙ ap said is) in
        let t = x.value in
        h t (own_reference _ _ t (sym (inner x.after))) (entry_well_formed f e t x.first) ∙ sym (then_is rest x.first)

    -- A number asked alone.
    ask_number : (ask : Ty → Option ℕ) → Positive ask → (n : ℕ) → ((t : Ty) → l ≡ value_of l.stride l.reference t → n ≡ present (ask t)) → {s : Said ℕ} → s ≡ or_refuse 9 0 (marked n) → s ≡ ◌>>=◌ (entry_of f e) (λ t. or_refuse 9 0 (ask t))
    ask_number ask p n same h = ask_is _ _ (λ t v w. h ∙ ap (or_refuse 9 0) (marked_is ask p t w (same t v)))

    pub ask_size : {s : Said ℕ} → s ≡ or_refuse 9 0 (marked l.size) → s ≡ size_call f e
    unfolding size_call value_of
    ask_size h = ask_number size_of sizes_positive l.size (λ t v. ap (λ (x : Value). x.size) v) h

    pub ask_align : {s : Said ℕ} → s ≡ or_refuse 9 0 (marked l.align) → s ≡ align_call f e
    unfolding align_call value_of
    ask_align h = ask_number align_of align_positive l.align (λ t v. ap (λ (x : Value). x.align) v) h

    module _ (least : ℕ) (same : (t : Ty) → l ≡ value_of l.stride l.reference t → least ≡ present (min_size_of t)) where
      pub ask_min_size : {s : Said ℕ} → s ≡ or_refuse 9 0 (marked least) → s ≡ min_size_call f e
      unfolding min_size_call
      ask_min_size h = ask_number min_size_of least_positive least same h

      -- "(the layout answer marks it absent instead)"; its stride as well
      pub ask_layout : (own : ℕ) → ((t : Ty) → l ≡ value_of l.stride l.reference t → everywhere is_well_formed t ≡ true → own ≡ present (own_stride_of t)) → {size align min stride : Option ℕ} → size ≡ marked l.size → align ≡ marked l.align → min ≡ marked least → stride ≡ marked own → good (record { size = size; align = align; min_size = min; stride = stride }) ≡ layout_call f e
      unfolding layout_call layout_of value_of
      ask_layout own stride p q r s =
          ask_is _ _ (λ t v w.
          rw (
            p,
            q,
            r,
            s,
            marked_is size_of sizes_positive t w (ap (λ (x : Value). x.size) v),
            marked_is align_of align_positive t w (ap (λ (x : Value). x.align) v),
            marked_is min_size_of least_positive t w (same t v),
            marked_is own_stride_of own_stride_positive t w (stride t v w),
          ))
