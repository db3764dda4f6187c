-- How deep a shape is: the number of steps that a path into it can have.
--
-- In order: a bad step lies no deeper than its shape (specs/Path, `enter` and `walk`); members; the types that entries make (`Made`); an
-- accepted entry (specs/Rule).
-- Assumes nothing.
use Prim.Native.Nat.{ℕ, zero, suc, ◌+◌, ◌*◌, ◌<◌, ◌≤◌, max}
use mathlib.Core.Bool.{Bool, true, false, cond}
use mathlib.Core.List.{List, [], ◌∷◌}
use mathlib.Core.Option.{Option, some, some-injective}
use mathlib.Core.Logic.{⊎_elim}
use mathlib.Core.Path.{◌≡◌, refl}
use native.Mathlib.Omega.{arith}
use lib.Dec.{ltb}
use lib.ListN.{get_elem?}
use Rattle.wgsl.specs.Types.{Ty, Members, no_more, member}
use Rattle.wgsl.specs.Size.{align_of, size_of, member_end}
use Rattle.wgsl.specs.Said.{good, refused}
use Rattle.wgsl.specs.Rule.{lower, members_from, type_of_entry, types_below}
use Rattle.wgsl.specs.Place.{Shape, one, parts, field, whole, column, shape_of, fields_of}
use Rattle.wgsl.specs.Path as path
use Rattle.wgsl.specs.Path.{Step, index, Target, enter, walk}
use Rattle.wgsl.specs.Call.{entry_of}
use Rattle.wgsl.proofs.Absent.{some_not_none}
use Rattle.wgsl.proofs.Said.{good_not_refused, then_good, then_cases, or_refuse_good, when_some, and_then_some}
use Rattle.wgsl.proofs.Judged.{judged_good}
use Rattle.wgsl.proofs.Made.{Made, made_scalar, made_vector, made_matrix, made_array, made_runtime, made_atomic, made_struct, entry_made}
use Rattle.wgsl.proofs.Accepted.{get_elem_cases, split, accepted}
use Rattle.wgsl.proofs.Path.{target}

-- how many steps a path into a shape can have
unfoldable pub deep : Shape → ℕ
deep (one s) = 0
deep (parts n stride x) = suc (deep x)
deep (field offset x rest) = max (suc (deep x)) (deep rest)
deep (whole z) = 0

-- Where a step is refused, it is the step at that position; else it leads to a shape that is less deep.
pub enter_place : (k : ℕ) (x : Shape) (s : Step) → ((number place : ℕ) → enter k x s ≡ refused number place → place ≡ k) × ((t : Target) → enter k x s ≡ good t → deep t.shape < deep x)
unfolding enter deep
enter_place k (one s) (index i) = (λ n p e. cc, λ t e. good_not_refused e refl)
enter_place k (one s) (path.member i) = (λ n p e. cc, λ t e. good_not_refused e refl)
enter_place k (parts n stride x) (index i) = go (ltb i n)
  where
    go : (b : Bool) → ((number place : ℕ) → cond b (good (target (i * stride) x)) (refused 12 k) ≡ refused number place → place ≡ k) × ((t : Target) → cond b (good (target (i * stride) x)) (refused 12 k) ≡ good t → deep t.shape < suc (deep x))
    go true = (λ number place e. good_not_refused refl e, λ t e. let is : t.shape ≡ x = cc in rw is (omega arith))
    go false = (λ number place e. cc, λ t e. good_not_refused e refl)
enter_place k (parts n stride x) (path.member i) = (λ n p e. cc, λ t e. good_not_refused e refl)
enter_place k (field offset x rest) (index i) = (λ n p e. cc, λ t e. good_not_refused e refl)
enter_place k (field offset x rest) (path.member zero) =
    (λ n p e. good_not_refused refl e, λ t e. let is : t.shape ≡ x = cc in rw is (omega arith))
enter_place k (field offset x rest) (path.member (suc i)) =
    let r = enter_place k rest (path.member i) in
    (r.0, λ t e. omega (arith, r.1 t e))
enter_place k (whole z) (index i) = (λ n p e. cc, λ t e. good_not_refused e refl)
enter_place k (whole z) (path.member i) = (λ n p e. cc, λ t e. good_not_refused e refl)

-- The first bad step lies no further than the shape is deep.
pub walk_place : (k off : ℕ) (x : Shape) (steps : List Step) (number place : ℕ) → walk k off x steps ≡ refused number place → place ≤ k + deep x
unfolding walk
walk_place k off x [] number place e = good_not_refused refl e
walk_place k off x (s ∷ steps) number place e =
    let r = enter_place k x s in
    then_cases _ _ e (λ q. omega (arith, r.0 number place q)) (λ t.
    omega (arith, r.1 t.value t.first, walk_place (suc k) (off + t.value.offset) t.value.shape steps number place t.after))

-- one member before others
field_deep : (n z bound : ℕ) (t : Ty) (size align : Option ℕ) (ms : Members) (end : Option ℕ) → deep (shape_of n t) ≤ bound → ((end' : Option ℕ) → deep (fields_of n z end' ms) ≤ suc bound) → deep (fields_of n z end (member t size align ms)) ≤ suc bound
unfolding fields_of deep
field_deep n z bound t size align ms end h g =
    omega (arith, g (member_end end align (align_of t) size (size_of t)))

module _ (ts : List Ty) (bound : ℕ) (all : (i : ℕ) (u : Ty) → get_elem? ts i ≡ some u → (n : ℕ) → deep (shape_of n u) ≤ bound) where
  members_deep : (f : List ℕ) (c m : ℕ) (ms : Members) → members_from f ts c m ≡ some ms → (n z : ℕ) (end : Option ℕ) → deep (fields_of n z end ms) ≤ suc bound
  unfolding members_from lower fields_of deep
  members_deep f zero m ms e n z end = let none_left : ms ≡ no_more = cc in rw none_left (omega arith)
  members_deep f (suc c) m ms e n z end =
      let first = and_then_some _ _ (when_some _ _ e).1 in
      let rest = and_then_some _ _ first.after in
      let is = some-injective _ _ rest.after in
      rw (← is)
      (field_deep n z bound first.value _ _ rest.value end (all _ first.value first.first n)
      (λ end'. members_deep f c (suc m) rest.value rest.first n z end'))

  made_deep : (f : List ℕ) (k : ℕ) (t : Ty) → 1 ≤ bound → type_of_entry f ts k ≡ some t → (n : ℕ) → deep (shape_of n t) ≤ suc bound
  unfolding shape_of column deep
  made_deep f k t one-there e n = go (entry_made f ts k t e)
    where
      go : {u : Ty} → Made f ts k u → deep (shape_of n u) ≤ suc bound
      go (made_scalar s) = omega arith
      go (made_vector m s) = omega arith
      go (made_matrix c r s) = omega arith
      go (made_array i m u x) = omega (arith, all i u x n)
      go (made_runtime i u x) = omega (arith, all i u x n)
      go (made_atomic s) = omega arith
      go (made_struct c m ms x) = members_deep f c m ms x n _ _

-- The shape of an entry among the n lowest is at most n + 1 deep.
below_deep : (f : List ℕ) (n : ℕ) (ts : List Ty) → types_below f n ≡ good ts → (k : ℕ) (t : Ty) → get_elem? ts k ≡ some t → (m : ℕ) → deep (shape_of m t) ≤ suc n
unfolding types_below
below_deep f zero ts e k t h m = let z : ts ≡ [] = cc in some_not_none (rw z at h) refl
below_deep f (suc n) ts e k t h m =
    let s = split f n ts e in
    let all = below_deep f n s.before s.below in
    ⊎_elim (λ (q : get_elem? s.before k ≡ some t). omega (arith, all k t q m))
    (λ (same : s.last ≡ t).
    rw (← same) (made_deep s.before (suc n) all f n s.last (omega arith) (judged_good s.good_last).made m))
    (get_elem_cases s.before s.last k t (rw s.whole at h))

-- The shape of an accepted entry is at most 257 deep.
pub entry_deep : (f : List ℕ) (e : ℕ) (t : Ty) → entry_of f e ≡ good t → (m : ℕ) → deep (shape_of m t) ≤ 257
unfolding entry_of
entry_deep f e t h m =
    let s = then_good _ _ h in
    let a = accepted f s.value s.first in
    omega (arith, a.trailer_good.high, below_deep f _ s.value a.types_below_lem e t (or_refuse_good 8 0 _ s.after) m)
