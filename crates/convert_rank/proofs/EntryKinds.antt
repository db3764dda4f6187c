-- The kinds of the entries of an accepted file (crates/wgsl, proofs/AtEntry), as ranks ask for them.
--
-- In order: an entry over a scalar; the kind that an entry's type begins with; the kind of a scalar.
-- Assumes nothing.
use Prim.Native.Nat.{ℕ, zero, suc, ◌+◌, ◌-◌, ◌<◌}
use mathlib.Core.Bool.{Bool, true, false}
use mathlib.Core.List.{List}
use mathlib.Core.Path.{◌≡◌, refl, sym, ◌∙◌}
use native.Mathlib.Omega.{arith}
use Rattle.wgsl.specs.Types.{Scalar, Ty, scalar, scalar_kind, struct_kind, is_scalar_kind}
use Rattle.wgsl.specs.File.{TypeEntry}
use Rattle.wgsl.specs.Rank.{outline_of}
use Rattle.wgsl.proofs.Fields.{OverScalar}
use Rattle.wgsl.proofs.ScalarKind.{other_range}
use Rattle.wgsl.proofs.AtEntry.{At, scalar_lies_at, vector_at, matrix_at, array_at, runtime_at, atomic_at, struct_at, kind_high}
use Rattle.convert_rank.specs.Ranked.{over_scalar}
use Rattle.convert_rank.proofs.RankOf.{front}
use Rattle.convert_rank.proofs.OverScalar.{is_vector, is_matrix, is_atomic}

module _ {f : List ℕ} {ts : List Ty} {k : ℕ} {t : Ty} {x : TypeEntry} (at : At f ts k t x) where
  -- The type of an entry of kind 7, 8 or 11 is the one over a scalar that its fields say.
  pub over_scalar_at : is_scalar_kind x.kind ≡ false → (x.kind ≡ 9 → ⊥) → (x.kind ≡ 10 → ⊥) → (x.kind ≡ struct_kind → ⊥) → OverScalar ts x.reference t (over_scalar x)
  over_scalar_at high no-array no_runtime no_struct_lem = let h = (other_range _ high).0 in go (x.kind - 7) (omega arith)
    where
      over : {make : Scalar → Ty} → OverScalar ts x.reference t make → ((s : Scalar) → over_scalar x s ≡ make s) → OverScalar ts x.reference t (over_scalar x)
      over h is =
          record { element = h.element; type_is = h.type_is ∙ sym (is h.element); element_is = h.element_is }

      go : (n : ℕ) → x.kind ≡ n + 7 → OverScalar ts x.reference t (over_scalar x)
      go zero e = over (vector_at at e) (λ s. is_vector x s e)
      go (suc zero) e = over (matrix_at at e) (λ s. is_matrix x s e)
      go (suc (suc zero)) e = absurd (no-array e)
      go (suc (suc (suc zero))) e = absurd (no_runtime e)
      go (suc (suc (suc (suc zero)))) e =
          over (atomic_at at e) (λ s. is_atomic x s (λ h. omega (arith, h, e)) (λ h. omega (arith, h, e)))
      go (suc (suc (suc (suc (suc zero))))) e = absurd (no_struct_lem e)
      go (suc (suc (suc (suc (suc (suc n)))))) e = absurd (omega (arith, kind_high at high))

  -- The type of an entry of a scalar's kind is a scalar.
  pub front_scalar : is_scalar_kind x.kind ≡ true → front t ≡ 0
  unfolding front outline_of
  front_scalar h = let (s, is, of) = scalar_lies_at at h in rw is

  -- The kind of any other entry is that of its type.
  pub front_kind : is_scalar_kind x.kind ≡ false → front t ≡ x.kind
  unfolding front outline_of
  front_kind h = let low = (other_range _ h).0 in go (x.kind - 7) (omega arith)
    where
      go : (n : ℕ) → x.kind ≡ n + 7 → front t ≡ x.kind
      go zero e = rw (vector_at at e).type_is (sym e)
      go (suc zero) e = rw (matrix_at at e).type_is (sym e)
      go (suc (suc zero)) e = rw (array_at at e).type_is (sym e)
      go (suc (suc (suc zero))) e = rw (runtime_at at e).type_is (sym e)
      go (suc (suc (suc (suc zero)))) e = rw (atomic_at at e).type_is (sym e)
      go (suc (suc (suc (suc (suc zero))))) e = rw (struct_at at e).type_is (sym e)
      go (suc (suc (suc (suc (suc (suc n)))))) e = absurd (omega (arith, kind_high at h))

-- An entry whose type is a scalar has that scalar's kind.
pub scalar_kind_lem : {f : List ℕ} {ts : List Ty} {k : ℕ} {s : Scalar} {x : TypeEntry} → At f ts k (scalar s) x → scalar_kind s ≡ x.kind
unfolding front outline_of
scalar_kind_lem {s = s} {x = x} at = go (is_scalar_kind x.kind) refl
  where
    go : (b : Bool) → is_scalar_kind x.kind ≡ b → scalar_kind s ≡ x.kind
    go true q = let (u, is, of) = scalar_lies_at at q in cc
    go false q =
        let h : 6 < x.kind = (other_range _ q).0 in
        absurd (omega (arith, front_kind at q))
