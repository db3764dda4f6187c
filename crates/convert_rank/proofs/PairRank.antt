-- The rank of one entry's type to another's, by the fields of the two entries and of those that they refer to.
--
-- In order: two entries, inside the file; kinds that are scalars or differ; structs; the entries that the two refer to; arrays and runtime arrays; vectors, matrices and atomics.
-- Assumes nothing.
use Prim.Native.Nat.{ℕ, ◌+◌, ◌*◌, ◌<◌, ◌≤◌}
use mathlib.Core.Bool.{Bool, true, false}
use mathlib.Core.List.{List}
use mathlib.Core.Option.{Option, none, some}
use mathlib.Core.Path.{◌≡◌, refl, sym, ◌∙◌}
use native.Mathlib.Omega.{arith}
use lib.ListN.{length, get_elem?}
use Rattle.wgsl.specs.Types.{Scalar, Ty, bool, scalar, scalar_kind, struct_kind, is_scalar_kind}
use Rattle.wgsl.specs.File.{trailer_of, TypeEntry, type_entry_at, type_entry_length}
use Rattle.wgsl.specs.Said.{good}
use Rattle.wgsl.specs.Rule.{types_of}
use Rattle.wgsl.specs.Rank.{scalar_rank, rank_of}
use Rattle.convert_rank.specs.Ranked.{Pair, over_scalar}
use Rattle.wgsl.proofs.ScalarKind.{other_range}
use Rattle.wgsl.proofs.AtEntry.{entry_inside, get_elem_get_d, At, scalar_lies_at, array_at, runtime_at, struct_at, reference_lower}
use Rattle.convert_rank.proofs.EntryKinds.{over_scalar_at, front_scalar, front_kind, scalar_kind_lem}
use Rattle.convert_rank.proofs.RankOf.{front_other, scalars, array_same, array_other, runtimes, struct_same, struct_other}

module _ {f : List ℕ} {ts : List Ty} {start a b : ℕ} (p : Pair f ts start a b) where
  -- The bytes of the two entries lie inside the file.
  pub first_inside : (start ≡ (trailer_of f).start) × (start + type_entry_length * a + type_entry_length ≤ length f)
  first_inside = (p.start_is, entry_inside f ts p.accepted start a p.start_is p.first)

  pub second_inside : (start ≡ (trailer_of f).start) × (start + type_entry_length * b + type_entry_length ≤ length f)
  second_inside = (p.start_is, entry_inside f ts p.accepted start b p.start_is p.second)

-- There are two such entries, of some types.
pub pair_types : {f : List ℕ} {ts : List Ty} {start a b : ℕ} → Pair f ts start a b → (s t : Ty) × (get_elem? ts a ≡ some s) × (get_elem? ts b ≡ some t)
pair_types {ts = ts} {a = a} {b = b} p = (_, _, get_elem_get_d ts a (scalar bool) p.first, get_elem_get_d ts b (scalar bool) p.second)

-- Entries a and b: their types s and t, their fields x and y.
pub record Two (f : List ℕ) (ts : List Ty) (a b : ℕ) (s t : Ty) (x y : TypeEntry) : Type 0 where
  pub first : At f ts a s x
  pub second : At f ts b t y

pub two_read : {f : List ℕ} {ts : List Ty} {a b : ℕ} {s t : Ty} {x y : TypeEntry} → types_of f ≡ good ts → get_elem? ts a ≡ some s → get_elem? ts b ≡ some t → x ≡ type_entry_at f a → y ≡ type_entry_at f b → Two f ts a b s t x y
two_read g p q m n = record { first = record { good_file = g; type_is = p; fields_are = m }; second = record { good_file = g; type_is = q; fields_are = n } }

module _ {f : List ℕ} {ts : List Ty} {a b : ℕ} {s t : Ty} {x y : TypeEntry} (two : Two f ts a b s t x y) where
  pub scalars_rank : {r : Option ℕ} → is_scalar_kind x.kind ≡ true → is_scalar_kind y.kind ≡ true → ((u v : Scalar) → scalar_kind u ≡ x.kind → scalar_kind v ≡ y.kind → r ≡ scalar_rank u v) → r ≡ rank_of s t
  scalars_rank low low' h =
      let (u, s_is, p) = scalar_lies_at two.first low in
      let (v, t_is, q) = scalar_lies_at two.second low' in
      h u v p q ∙ scalars s_is t_is

  pub scalar_other : is_scalar_kind x.kind ≡ true → is_scalar_kind y.kind ≡ false → none ≡ rank_of s t
  scalar_other low high =
      front_other s t (λ e. omega (arith, front_scalar two.first low, front_kind two.second high, (other_range _ high).0))

  pub kinds_other : is_scalar_kind x.kind ≡ false → (x.kind ≡ y.kind → ⊥) → none ≡ rank_of s t
  kinds_other high h = go (is_scalar_kind y.kind) refl
    where
      go : (b : Bool) → is_scalar_kind y.kind ≡ b → none ≡ rank_of s t
      go true q =
          front_other s t (λ e. omega (arith, front_kind two.first high, front_scalar two.second q, (other_range _ high).0))
      go false q =
          front_other s t (λ e. h (omega (arith, front_kind two.first high, front_kind two.second q)))

  module _ (same : x.kind ≡ y.kind) where
    pub structs_same : x.kind ≡ struct_kind → a ≡ b → some 0 ≡ rank_of s t
    structs_same e h =
        struct_same (struct_at two.first e).type_is (struct_at two.second (sym same ∙ e)).type_is h

    pub structs_other : x.kind ≡ struct_kind → (a ≡ b → ⊥) → none ≡ rank_of s t
    structs_other e h =
        struct_other (struct_at two.first e).type_is (struct_at two.second (sym same ∙ e)).type_is h

    pub arrays_other : x.kind ≡ 9 → (x.count ≡ y.count → ⊥) → none ≡ rank_of s t
    arrays_other e h =
        array_other (array_at two.first e).type_is (array_at two.second (sym same ∙ e)).type_is h

    -- i and j are the entries that the two refer to,
    module _ {i j : ℕ} (i_is : i ≡ x.reference) (j_is : j ≡ y.reference) where
      -- which have lower numbers, so the file has them,
      pub lower_pair : {start : ℕ} → Pair f ts start a b → is_scalar_kind x.kind ≡ false → (x.kind ≡ struct_kind → ⊥) → (i < a) × Pair f ts start i j
      lower_pair p high no_struct_lem =
          let low : i < a = omega (arith, i_is, reference_lower two.first high no_struct_lem) in
          let low' : j < b = omega (arith, j_is, reference_lower two.second (rw (← same) high) (λ e. no_struct_lem (same ∙ e))) in (
            low,
            record {
              accepted = p.accepted;
              start_is = p.start_is;
              first = omega (arith, low, p.first);
              second = omega (arith, low', p.second);
            },
          )

      pub arrays_rank : {r : Option ℕ} → x.kind ≡ 9 → x.count ≡ y.count → ((u v : Ty) → get_elem? ts i ≡ some u → get_elem? ts j ≡ some v → r ≡ rank_of u v) → r ≡ rank_of s t
      arrays_rank e n h =
          let p = array_at two.first e in
          let q = array_at two.second (sym same ∙ e) in
          h _ _ (rw i_is p.element_is) (rw j_is q.element_is) ∙ array_same p.type_is q.type_is n

      pub runtimes_rank : {r : Option ℕ} → x.kind ≡ 10 → ((u v : Ty) → get_elem? ts i ≡ some u → get_elem? ts j ≡ some v → r ≡ rank_of u v) → r ≡ rank_of s t
      runtimes_rank e h =
          let p = runtime_at two.first e in
          let q = runtime_at two.second (sym same ∙ e) in
          h _ _ (rw i_is p.element_is) (rw j_is q.element_is) ∙ runtimes p.type_is q.type_is

      -- and u and v are their fields.
      module _ {u v : TypeEntry} (u_is : u ≡ type_entry_at f i) (v_is : v ≡ type_entry_at f j) where
        left : {c : Scalar} → get_elem? ts x.reference ≡ some (scalar c) → scalar_kind c ≡ u.kind
        left e = scalar_kind_lem (record { good_file = two.first.good_file; type_is = rw i_is e; fields_are = u_is })

        right : {c : Scalar} → get_elem? ts y.reference ≡ some (scalar c) → scalar_kind c ≡ v.kind
        right e = scalar_kind_lem (record { good_file = two.first.good_file; type_is = rw j_is e; fields_are = v_is })

        pub over_scalars_rank : {r : Option ℕ} → is_scalar_kind x.kind ≡ false → (x.kind ≡ 9 → ⊥) → (x.kind ≡ 10 → ⊥) → (x.kind ≡ struct_kind → ⊥) → ((c d : Scalar) → scalar_kind c ≡ u.kind → scalar_kind d ≡ v.kind → r ≡ rank_of (over_scalar x c) (over_scalar y d)) → r ≡ rank_of s t
        over_scalars_rank high no-array no_runtime no_struct_lem h =
            let p = over_scalar_at two.first high no-array no_runtime no_struct_lem in
            let q = over_scalar_at two.second (rw (← same) high) (λ e. no-array (same ∙ e)) (λ e. no_runtime (same ∙ e)) (λ e. no_struct_lem (same ∙ e)) in
            rw (p.type_is, q.type_is) (h _ _ (left p.element_is) (right q.element_is))
