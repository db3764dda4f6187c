-- A set (crates/wgsl, specs/Call) by what the code finds: a scalar or none, its width, the words.
--
-- In order: once the target is found; 14, or one scalar; its width; 14 for a wrong number of words, 16, and the words stored; words that fit.
-- Assumes nothing.
use Prim.Native.Nat.{ℕ, ◌+◌, ◌<◌, ◌≤◌}
use mathlib.Core.Bool.{Bool, true, false}
use mathlib.Core.List.{List, [], ◌∷◌}
use mathlib.Core.Option.{Option, none, some}
use mathlib.Core.Logic.{⊎_elim}
use mathlib.Core.Path.{◌≡◌, refl, ap, sym, ◌∙◌}
use native.Mathlib.Omega.{arith}
use borrow.Author.Tests.{lt-ltb, le-ltb, ne_eqb, eqb-true, eqb-false}
use lib.Dec.{eqb}
use lib.ListN.{length, get_or}
use Rattle.wgsl.specs.Round.{up}
use Rattle.wgsl.specs.Number.{store}
use Rattle.wgsl.specs.Types.{Scalar, bool, i32, u32, f32, f16, abstract_int, abstract_float, i64, u64, f64, is_scalar_kind}
use Rattle.wgsl.specs.Size.{present, width_of}
use Rattle.wgsl.specs.Said.{Said, good, refused, ◌>>=◌, ◌>>◌, refuse, or_refuse}
use Rattle.wgsl.specs.Place.{Shape, one, parts, field, whole, span_of, words_for, words_over, word_places, store_words, can_hold, check_words}
use Rattle.wgsl.specs.Path as path
use Rattle.wgsl.specs.Call.{Done, scalar_at, set_call, set_scalar, set_target, target_call}
use Rattle.wgsl.specs.Shapes.{Sound}
use Rattle.wgsl.proofs.Absent.{true_not_false}
use Rattle.wgsl.proofs.ScalarKind.{scalar_kind_is, no_scalar_lem}
use Rattle.wgsl.proofs.Bit.{lt_or_le}
use Rattle.wgsl.proofs.Said.{good_not_refused, then_is, then_refused}
use Rattle.said.specs.Target.{kind_in}
use Rattle.said.specs.declared.target.Target.{Target}
use Rattle.paths.specs.Set.{InBuffer, fit_of}

-- ---- once the target is found

module _ (f : List ℕ) (e : ℕ) (steps ws b : List ℕ) where
  pub set_refused : {number place : ℕ} → target_call true f e steps b ≡ refused number place → set_call f e steps ws b ≡ refused number place
  unfolding set_call
  set_refused h = then_refused _ h

  pub set_found : {u : path.Target} → target_call true f e steps b ≡ good u → set_call f e steps ws b ≡ set_target u ws b
  unfolding set_call
  set_found h = then_is _ h

-- ---- 14, or one scalar

-- A kind that is no scalar's is that of no one scalar, and any other is.
none_there : (x : Shape) → is_scalar_kind (kind_in x) ≡ false → scalar_at x ≡ none
unfolding kind_in scalar_at
none_there (one s) h = true_not_false (scalar_kind_is s) h
none_there (parts n stride x) h = refl
none_there (field offset x rest) h = refl
none_there (whole z) h = refl

-- What is said to be one scalar is one.
pub scalar_shape : (x : Shape) → is_scalar_kind (kind_in x) ≡ true → (s : Scalar) × (x ≡ one s)
unfolding kind_in
scalar_shape (one s) h = (s, refl)
scalar_shape (parts n stride x) h = true_not_false h (no_scalar_lem 7 (omega arith) (omega arith))
scalar_shape (field offset x rest) h = true_not_false h (no_scalar_lem 7 (omega arith) (omega arith))
scalar_shape (whole z) h = true_not_false h (no_scalar_lem 7 (omega arith) (omega arith))

pub set_none : {t : Target} {u : path.Target} {bytes : ℕ} → InBuffer t u bytes → (ws b : List ℕ) → is_scalar_kind t.scalar ≡ false → set_target u ws b ≡ refused 14 0
unfolding set_target or_refuse ◌>>=◌
set_none {u = u} x ws b h = rw (none_there u.shape (rw x.is at h)) refl

-- the one scalar that a target is
pub record OneScalar (t : Target) (u : path.Target) : Type 0 where
  pub scalar : Scalar
  pub shape_is : u.shape ≡ one scalar
  pub offset_is : u.offset ≡ t.offset
  pub size_is : present (width_of scalar) ≡ t.size
  pub above : 0 < present (width_of scalar)

pub one_scalar : {t : Target} {u : path.Target} {bytes : ℕ} → InBuffer t u bytes → is_scalar_kind t.scalar ≡ true → OneScalar t u
unfolding Sound span_of
one_scalar {u = u} x h =
    let y = scalar_shape u.shape (rw x.is at h) in
    record {
      scalar = y.0;
      shape_is = y.1;
      offset_is = sym (ap (λ (t : Target). t.offset) x.is);
      size_is = sym (ap (λ (t : Target). t.size) x.is ∙ ap span_of y.1);
      above = rw y.1 at x.sound;
    }

pub set_one : {t : Target} {u : path.Target} (x : OneScalar t u) (ws b : List ℕ) → set_target u ws b ≡ set_scalar x.scalar t.offset ws b
unfolding set_target scalar_at or_refuse ◌>>=◌
set_one x ws b = rw (x.shape_is, x.offset_is) refl

-- ---- a scalar's width

four : (s : Scalar) → 0 < present (width_of s) → (present (width_of s) ≡ 2 → ⊥) → (present (width_of s) ≡ 8 → ⊥) → present (width_of s) ≡ 4
unfolding width_of present
four bool h k m = refl
four i32 h k m = refl
four u32 h k m = refl
four f32 h k m = refl
four f16 h k m = absurd (k refl)
four abstract_int h k m = absurd (omega arith)
four abstract_float h k m = absurd (omega arith)
four i64 h k m = absurd (m refl)
four u64 h k m = absurd (m refl)
four f64 h k m = absurd (m refl)

low : (s : Scalar) → (present (width_of s) ≡ 8 → ⊥) → present (width_of s) ≤ 4
unfolding width_of present
low bool m = omega arith
low i32 m = omega arith
low u32 m = omega arith
low f32 m = omega arith
low f16 m = omega arith
low abstract_int m = omega arith
low abstract_float m = omega arith
low i64 m = absurd (m refl)
low u64 m = absurd (m refl)
low f64 m = absurd (m refl)

module _ {t : Target} {u : path.Target} (x : OneScalar t u) where
  -- The size of a target that is one scalar is the scalar's,
  pub of_width : (k : ℕ) → t.size ≡ k → width_of x.scalar ≡ some k
  unfolding present
  of_width k e = go (width_of x.scalar) (x.size_is ∙ e) x.above
    where
      go : (o : Option ℕ) → present o ≡ k → 0 < present o → o ≡ some k
      go (some n) q above = ap some q
      go none q above = absurd (omega arith)

  -- has at most four bytes where it is not eight,
  pub at_most_four : (t.size ≡ 8 → ⊥) → (t.size ≤ 4) × (0 < t.size)
  at_most_four k = rw (← x.size_is) (low x.scalar (λ q. k (sym x.size_is ∙ q)), x.above)

  -- and is four where it is neither two nor eight.
  pub of_four : (t.size ≡ 2 → ⊥) → (t.size ≡ 8 → ⊥) → t.size ≡ 4
  of_four h k = sym x.size_is ∙ four x.scalar x.above (λ q. h (sym x.size_is ∙ q)) (λ q. k (sym x.size_is ∙ q))

-- ---- the words

single : (ws : List ℕ) → length ws ≡ 1 → ws ≡ get_or ws 0 0 ∷ []
single [] e = absurd (omega arith)
single (w ∷ []) e = refl
single (w ∷ v ∷ ws) e = absurd (omega arith)

double : (ws : List ℕ) → length ws ≡ 2 → ws ≡ get_or ws 0 0 ∷ get_or ws 1 0 ∷ []
double [] e = absurd (omega arith)
double (w ∷ []) e = absurd (omega arith)
double (w ∷ v ∷ []) e = refl
double (w ∷ v ∷ x ∷ ws) e = absurd (omega arith)

module _ (s : Scalar) (at : ℕ) (ws b : List ℕ) where
  -- 14: "for another length"
  wrong_count : {k : ℕ} → width_of s ≡ some k → (length ws ≡ words_for k → ⊥) → set_scalar s at ws b ≡ refused 14 0
  unfolding set_scalar present ◌>>◌ refuse
  wrong_count {k} e h = rw (e, ne_eqb (length ws) (words_for k) h) refl

  pub one_or_none : {k : ℕ} → width_of s ≡ some k → k ≤ 4 → 0 < k → (length ws ≡ 1 → ⊥) → set_scalar s at ws b ≡ refused 14 0
  unfolding words_for up
  one_or_none e l h n = wrong_count e (λ q. n (omega arith))

  pub two_or_none : width_of s ≡ some 8 → (length ws ≡ 2 → ⊥) → set_scalar s at ws b ≡ refused 14 0
  unfolding words_for up
  two_or_none e n = wrong_count e n

  -- 16: a word that an f16 cannot hold
  pub stored_large : width_of s ≡ some 2 → length ws ≡ 1 → 65535 < get_or ws 0 0 → set_scalar s at ws b ≡ refused 16 0
  unfolding set_scalar word_places words_for words_over up check_words can_hold present ◌>>◌ refuse
  stored_large e many h = rw (e, single ws many, le-ltb (get_or ws 0 0) 65536 (omega arith)) refl

  -- and the words stored
  pub stored_two : width_of s ≡ some 2 → length ws ≡ 1 → get_or ws 0 0 < 65536 → set_scalar s at ws b ≡ good (record { value = at; contents = store 2 b at (get_or ws 0 0) })
  unfolding set_scalar word_places words_for words_over up check_words store_words can_hold present ◌>>◌ refuse
  stored_two e many h = rw (e, single ws many, lt-ltb (get_or ws 0 0) 65536 h) refl

  pub stored_four : width_of s ≡ some 4 → length ws ≡ 1 → get_or ws 0 0 < 4294967296 → set_scalar s at ws b ≡ good (record { value = at; contents = store 4 b at (get_or ws 0 0) })
  unfolding set_scalar word_places words_for words_over up check_words store_words can_hold present ◌>>◌ refuse
  stored_four e many h = rw (e, single ws many, lt-ltb (get_or ws 0 0) 4294967296 h) refl

  pub stored_eight : width_of s ≡ some 8 → length ws ≡ 2 → get_or ws 0 0 < 4294967296 → get_or ws 1 0 < 4294967296 → set_scalar s at ws b ≡ good (record { value = at; contents = store 4 (store 4 b at (get_or ws 0 0)) (at + 4) (get_or ws 1 0) })
  unfolding set_scalar word_places words_for words_over up check_words store_words can_hold present ◌>>◌ refuse
  stored_eight e two h k =
      rw (e, double ws two, lt-ltb (get_or ws 0 0) 4294967296 h, lt-ltb (get_or ws 1 0) 4294967296 k) refl

-- ---- words that fit, or not

pub fit_refused : {number place : ℕ} (said : Said Done) → refused number place ≡ fit_of said → said ≡ refused number place
unfolding fit_of
fit_refused (good d) h = cc
fit_refused (refused n p) h = cc

module _ {t : Target} {u : path.Target} {bytes : ℕ} (x : InBuffer t u bytes) (ws b : List ℕ) (fits : good tt ≡ fit_of (set_target u ws b)) where
  not_refused : {A : Type 0} {number place : ℕ} → set_target u ws b ≡ refused number place → A
  unfolding fit_of
  not_refused e = good_not_refused (sym fits) (ap fit_of e)

  the_scalar : OneScalar t u
  the_scalar = one_scalar x (go (is_scalar_kind t.scalar) refl)
    where
      go : (k : Bool) → is_scalar_kind t.scalar ≡ k → is_scalar_kind t.scalar ≡ true
      go true q = q
      go false q = not_refused (set_none x ws b q)

  many : (k : ℕ) → t.size ≡ k → length ws ≡ words_for k
  many k e = go (eqb (length ws) (words_for k)) refl
    where
      go : (s : Bool) → eqb (length ws) (words_for k) ≡ s → length ws ≡ words_for k
      go true q = eqb-true (length ws) (words_for k) q
      go false q =
          not_refused (set_one the_scalar ws b ∙ wrong_count the_scalar.scalar t.offset ws b (of_width the_scalar k e) (eqb-false (length ws) (words_for k) q))

  -- an f16
  pub one_half : t.size ≡ 2 → (length ws ≡ 1) × (get_or ws 0 0 < 65536)
  unfolding words_for up
  one_half e = (many 2 e, ⊎_elim (λ (l : get_or ws 0 0 < 65536). l) (λ (l : 65536 ≤ get_or ws 0 0). not_refused (set_one the_scalar ws b ∙ stored_large the_scalar.scalar t.offset ws b (of_width the_scalar 2 e) (many 2 e) (omega (arith, l)))) (lt_or_le (get_or ws 0 0) 65536))

  pub set_half : t.size ≡ 2 → set_target u ws b ≡ good (record { value = t.offset; contents = store 2 b t.offset (get_or ws 0 0) })
  set_half e =
      let y = one_half e in
      set_one the_scalar ws b ∙ stored_two the_scalar.scalar t.offset ws b (of_width the_scalar 2 e) y.0 y.1

  -- eight bytes
  pub two_words : t.size ≡ 8 → length ws ≡ 2
  unfolding words_for up
  two_words e = many 8 e

  pub set_eight : t.size ≡ 8 → get_or ws 0 0 < 4294967296 → get_or ws 1 0 < 4294967296 → set_target u ws b ≡ good (record { value = t.offset; contents = store 4 (store 4 b t.offset (get_or ws 0 0)) (t.offset + 4) (get_or ws 1 0) })
  set_eight e h k = set_one the_scalar ws b ∙ stored_eight the_scalar.scalar t.offset ws b (of_width the_scalar 8 e) (two_words e) h k

  -- neither
  module _ (h : t.size ≡ 2 → ⊥) (k : t.size ≡ 8 → ⊥) where
    pub one_word : (length ws ≡ 1) × (t.size ≡ 4)
    unfolding words_for up
    one_word = let e = of_four the_scalar h k in (many 4 e, e)

    pub set_four : get_or ws 0 0 < 4294967296 → set_target u ws b ≡ good (record { value = t.offset; contents = store 4 b t.offset (get_or ws 0 0) })
    set_four l = set_one the_scalar ws b ∙ stored_four the_scalar.scalar t.offset ws b (of_width the_scalar 4 one_word.1) one_word.0 l
