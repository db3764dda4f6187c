-- Bit fields (specs/Field) by what the code finds: an i32, a u32 or none; and its word.
--
-- In order: once the target is found; 14, or one of the two; it lies inside the buffer; its field; the calls.
-- Assumes nothing.
use Prim.Native.Nat.{ℕ}
use mathlib.Core.Bool.{true, false}
use mathlib.Core.List.{List, [], ◌∷◌}
use mathlib.Core.Path.{◌≡◌, refl, ap, sym, ◌∙◌}
use mathlib.Core.Logic.{◌⊎◌, inl, inr, ⊎_elim}
use native.Mathlib.Omega.{arith}
use lib.ListN.{length}
use Rattle.wgsl.specs.Number.{load, store}
use Rattle.wgsl.specs.Types.{Scalar, bool, i32, u32, f32, f16, abstract_int, abstract_float, i64, u64, f64, scalar_kind}
use Rattle.wgsl.specs.Said.{Said, good, refused, ◌>>=◌, ◌>>◌, refuse, or_refuse}
use Rattle.wgsl.specs.Place.{Shape, one, parts, field, whole, span_of, word_places, store_words}
use Rattle.wgsl.specs.Path as path
use Rattle.wgsl.specs.Call.{scalar_at, target_call}
use Rattle.wgsl.specs.BitField.{extracted_u32, extracted_i32, inserted}
use Rattle.wgsl.specs.BitFieldCall.{is_integer, is_signed, FoundInteger, integer_at, word_of, extracted_as, extract_call, insert_call, integer_of}
use Rattle.wgsl.proofs.Absent.{true_not_false}
use Rattle.wgsl.proofs.ScalarRank.{kind_same}
use Rattle.wgsl.proofs.Said.{good_not_refused, then_is, then_refused}
use Rattle.said.specs.declared.target.Target.{Target}
use Rattle.said.specs.Target.{kind_in, target_is}
use Rattle.paths.specs.Field.{found_is, found_in, Integer}
use Rattle.wgsl.proofs.BitFieldCall.{integer_width, integer_places, integer_room}

-- ---- once the target is found

module _ (f : List ℕ) (e : ℕ) (steps b : List ℕ) where
  pub integer_refused : {number place : ℕ} → target_call true f e steps b ≡ refused number place → integer_at f e steps b ≡ refused number place
  unfolding integer_at
  integer_refused h = then_refused _ h

  pub integer_found : {u : path.Target} → target_call true f e steps b ≡ good u → integer_at f e steps b ≡ integer_of u
  unfolding integer_at
  integer_found h = then_is _ h

-- ---- 14, or one of the two

-- The kind of i32 is no other scalar's.
kind_one : (s : Scalar) → scalar_kind s ≡ 1 → s ≡ i32
unfolding scalar_kind
kind_one s e = kind_same {a = s} {b = i32} e

-- The kinds of i32 and u32 are those of integers.
kinds_integer : (s : Scalar) → (scalar_kind s ≡ 1) ⊎ (scalar_kind s ≡ 2) → is_integer s ≡ true
unfolding scalar_kind is_integer
kinds_integer s (inl e) = rw (kind_same {a = s} {b = i32} e)
kinds_integer s (inr e) = rw (kind_same {a = s} {b = u32} e)

no_integer : (s : Scalar) → (scalar_kind s ≡ 1 → ⊥) → (scalar_kind s ≡ 2 → ⊥) → is_integer s ≡ false
unfolding scalar_kind is_integer
no_integer bool h k = refl
no_integer i32 h k = absurd (h refl)
no_integer u32 h k = absurd (k refl)
no_integer f32 h k = refl
no_integer f16 h k = refl
no_integer abstract_int h k = refl
no_integer abstract_float h k = refl
no_integer i64 h k = refl
no_integer u64 h k = refl
no_integer f64 h k = refl

-- An i32 or u32 has one of the two kinds.
integer_kinds : (s : Scalar) → is_integer s ≡ true → (scalar_kind s ≡ 1 → ⊥) → s ≡ u32
unfolding is_integer scalar_kind
integer_kinds bool e h = true_not_false e refl
integer_kinds i32 e h = absurd (h refl)
integer_kinds u32 e h = refl
integer_kinds f32 e h = true_not_false e refl
integer_kinds f16 e h = true_not_false e refl
integer_kinds abstract_int e h = true_not_false e refl
integer_kinds abstract_float e h = true_not_false e refl
integer_kinds i64 e h = true_not_false e refl
integer_kinds u64 e h = true_not_false e refl
integer_kinds f64 e h = true_not_false e refl

-- A target whose kind is 1 or 2 is an i32 or a u32, and any other is refused.
module _ (u : path.Target) where
  scalar_found : (s : Scalar) → u.shape ≡ one s → is_integer s ≡ true → good (target_is u) ≡ found_in (integer_of u)
  unfolding integer_of scalar_at or_refuse ◌>>=◌ ◌>>◌ refuse kind_in span_of
  scalar_found s is e = rw (is, e) refl

  pub found_integer : (kind_in u.shape ≡ 1) ⊎ (kind_in u.shape ≡ 2) → good (target_is u) ≡ found_in (integer_of u)
  unfolding kind_in
  found_integer h = go u.shape refl h
    where
      go : (x : Shape) → u.shape ≡ x → (kind_in x ≡ 1) ⊎ (kind_in x ≡ 2) → good (target_is u) ≡ found_in (integer_of u)
      go (one s) is k = scalar_found s is (kinds_integer s k)
      go (parts n stride x) is k = absurd (⊎_elim (λ e. omega arith) (λ e. omega arith) k)
      go (field offset x rest) is k = absurd (⊎_elim (λ e. omega arith) (λ e. omega arith) k)
      go (whole z) is k = absurd (⊎_elim (λ e. omega arith) (λ e. omega arith) k)

  pub found_none : (kind_in u.shape ≡ 1 → ⊥) → (kind_in u.shape ≡ 2 → ⊥) → integer_of u ≡ refused 14 0
  unfolding kind_in integer_of scalar_at or_refuse ◌>>=◌ ◌>>◌ refuse
  found_none h k = go u.shape refl h k
    where
      go : (x : Shape) → u.shape ≡ x → (kind_in x ≡ 1 → ⊥) → (kind_in x ≡ 2 → ⊥) → integer_of u ≡ refused 14 0
      go (one s) is a b = rw (is, no_integer s a b)
      go (parts n stride x) is a b = rw is
      go (field offset x rest) is a b = rw is
      go (whole z) is a b = rw is

-- ---- it lies inside the buffer

-- What is found is an i32 or a u32 inside the buffer.
integer_inside : (f : List ℕ) (e : ℕ) (steps b : List ℕ) (x : FoundInteger) → integer_at f e steps b ≡ good x → Integer (found_is x) x (length b)
integer_inside f e steps b x h =
    let (integer, inside, within) = integer_room f e steps b x h in
    record { is = refl; integer = integer; inside = inside; within = within }

-- What the code has of an answer is there.
found_good : {t : Target} (said : Said FoundInteger) → good t ≡ found_in said → (x : FoundInteger) × (said ≡ good x) × (t ≡ found_is x)
found_good (good x) e = (x, refl, cc)
found_good (refused number place) e = good_not_refused refl e

pub found_refused : {number place : ℕ} (said : Said FoundInteger) → refused number place ≡ found_in said → said ≡ refused number place
found_refused (good x) e = good_not_refused e refl
found_refused (refused number place) e = cc

-- ---- its field

module _ {t : Target} {x : FoundInteger} {bytes : ℕ} (i : Integer t x bytes) where
  pub at_offset : t.offset ≡ x.offset
  at_offset = ap (λ (u : Target). u.offset) i.is

  kind_is : t.scalar ≡ scalar_kind x.scalar
  kind_is = ap (λ (u : Target). u.scalar) i.is

  pub word_at : (b : List ℕ) → word_of x b ≡ load 4 b t.offset
  unfolding word_of
  word_at b = rw (integer_width x.scalar i.integer, at_offset)

  -- the field of an i32 is signed, that of a u32 is not
  pub field_signed : (w offset count : ℕ) → t.scalar ≡ 1 → extracted_as x.scalar w offset count ≡ extracted_i32 w offset count
  unfolding extracted_as is_signed
  field_signed w offset count e = rw (kind_one x.scalar (sym kind_is ∙ e))

  pub field_plain : (w offset count : ℕ) → (t.scalar ≡ 1 → ⊥) → extracted_as x.scalar w offset count ≡ extracted_u32 w offset count
  unfolding extracted_as is_signed
  field_plain w offset count h = rw (integer_kinds x.scalar i.integer (λ q. h (kind_is ∙ q)))

  -- a word stored in it is stored in its four bytes
  pub stored_four : (w : ℕ) (b : List ℕ) → store_words (word_places x.scalar x.offset) (w ∷ []) b ≡ store 4 b t.offset w
  unfolding store_words
  stored_four w b = rw (integer_places x.scalar x.offset i.integer, at_offset)

-- ---- the calls, once it is found

module _ (f : List ℕ) (e : ℕ) (steps b : List ℕ) where
  -- what the code has of the scalar, from its answer
  pub integer_there : {t : Target} → good t ≡ found_in (integer_at f e steps b) → (x : FoundInteger) × (integer_at f e steps b ≡ good x) × Integer t x (length b)
  integer_there h =
      let (x, is, same) = found_good (integer_at f e steps b) h in
      let i = integer_inside f e steps b x is in
      (x, is, record { is = same; integer = i.integer; inside = i.inside; within = i.within })

  module _ (offset count : ℕ) where
    pub extract_refused : {number place : ℕ} → refused number place ≡ found_in (integer_at f e steps b) → extract_call f e steps b offset count ≡ refused number place
    unfolding extract_call
    extract_refused h = then_refused _ (found_refused (integer_at f e steps b) h)

    pub extract_found : {x : FoundInteger} → integer_at f e steps b ≡ good x → extract_call f e steps b offset count ≡ good (extracted_as x.scalar (word_of x b) offset count)
    unfolding extract_call
    extract_found h = then_is _ h

    pub insert_refused : {number place : ℕ} (new : ℕ) → refused number place ≡ found_in (integer_at f e steps b) → insert_call f e steps new offset count b ≡ refused number place
    unfolding insert_call
    insert_refused new h = then_refused _ (found_refused (integer_at f e steps b) h)

    pub insert_found : {x : FoundInteger} (new : ℕ) → integer_at f e steps b ≡ good x → insert_call f e steps new offset count b ≡ good (record { value = x.offset; contents = store_words (word_places x.scalar x.offset) (inserted (word_of x b) new offset count ∷ []) b })
    unfolding insert_call
    insert_found new h = then_is _ h
