-- The members at the positions of a list (crates/wgsl, specs/Order), one position more at a time.
--
-- In order: the member at a position; how many they are; one position more; members that more may not follow.
-- Assumes nothing.
use Prim.Native.Nat.{ℕ, zero, suc, ◌≤◌}
use mathlib.Core.Bool.{false, ◌&&◌, and-false}
use mathlib.Core.List.{List, [], ◌∷◌, ◌++◌}
use mathlib.Core.Option.{Option, some}
use mathlib.Core.Path.{◌≡◌, refl, sym, ap, ◌∙◌}
use native.Mathlib.Omega.{arith}
use lib.ListN.{length, length-append}
use Rattle.wgsl.specs.Types.{Ty, Members, no_more, member}
use Rattle.wgsl.specs.Rule.{and_then, count_of, is_last, member_allowed, members_allowed}
use Rattle.wgsl.specs.Order.{chosen, reordered}
use Rattle.wgsl.proofs.Absent.{some_not_none, true_not_false, yes_or_no}
use Rattle.wgsl.proofs.Said.{and_then_some}
use Rattle.layout_structs.specs.SoFar.{appended, all_sized}

-- ---- the member at a position

-- the member at position i is of the type t, with this size and align given
abbrev pub Picks : Members → ℕ → Ty → Option ℕ → Option ℕ → Type 0
Picks all i t size align = (rest : Members) → chosen all i rest ≡ some (member t size align rest)

record Pick (all : Members) (i : ℕ) : Type 0 where
  type : Ty
  size : Option ℕ
  align : Option ℕ
  picks : Picks all i type size align

pick : (all : Members) (i : ℕ) (rest new : Members) → chosen all i rest ≡ some new → Pick all i
unfolding chosen
pick no_more i rest new e = some_not_none e refl
pick (member t size align ms) zero rest new e = record { type = t; size = size; align = align; picks = λ r. refl }
pick (member t size align ms) (suc i) rest new e =
    let p = pick ms i rest new e in
    record { type = p.type; size = p.size; align = p.align; picks = p.picks }

-- the first of the members at the positions of a list, and the others
record First (all : Members) (i : ℕ) (order : List ℕ) (new : Members) : Type 0 where
  here : Pick all i
  rest : Members
  rest_is : reordered all order ≡ some rest
  is : new ≡ member here.type here.size here.align rest

first : (all : Members) (i : ℕ) (order : List ℕ) (new : Members) → reordered all (i ∷ order) ≡ some new → First all i order new
unfolding reordered
first all i order new e =
    let a = and_then_some (reordered all order) (λ rest. chosen all i rest) e in
    let p = pick all i a.value new a.after in
    record { here = p; rest = a.value; rest_is = a.first; is = cc (p.picks a.value, a.after) }

-- ---- how many they are

pub reordered_count : (all : Members) (order : List ℕ) (new : Members) → reordered all order ≡ some new → count_of new ≡ length order
unfolding reordered count_of
reordered_count all [] new e = let q : new ≡ no_more = cc in ap count_of q
reordered_count all (i ∷ order) new e =
    let f = first all i order new e in
    ap count_of f.is ∙ ap suc (reordered_count all order f.rest f.rest_is)

-- ---- one position more

module _ (all : Members) (i : ℕ) (t : Ty) (size align : Option ℕ) (picks : Picks all i t size align) where
  pub reordered_after : (order : List ℕ) (new : Members) → reordered all order ≡ some new → reordered all (order ++ (i ∷ [])) ≡ some (appended new t size align)
  unfolding reordered appended and_then
  reordered_after [] new e = let q : new ≡ no_more = cc in rw q (picks no_more)
  reordered_after (j ∷ order) new e =
      let f = first all j order new e in
      rw (reordered_after order f.rest f.rest_is)
      (f.here.picks (appended f.rest t size align) ∙ ap (λ (ms : Members). some (appended ms t size align)) (sym f.is))

-- ---- members that more may not follow

not_last : (ms : Members) → 1 ≤ count_of ms → is_last ms ≡ false
unfolding count_of is_last
not_last no_more h = absurd (omega arith)
not_last (member t size align ms) h = refl

-- Where the first members are refused as such that more follow, so are all.
pub reordered_refused : (all : Members) (xs ys : List ℕ) (old new : Members) → 1 ≤ length ys → reordered all xs ≡ some old → reordered all (xs ++ ys) ≡ some new → all_sized old ≡ false → members_allowed new ≡ false
unfolding reordered all_sized members_allowed
reordered_refused all [] ys old new more e f h =
    let q : old ≡ no_more = cc in
    true_not_false refl (sym (ap all_sized q) ∙ h)
reordered_refused all (x ∷ xs) ys old new more e f h =
    let a = first all x xs old e in
    let b = first all x (xs ++ ys) new f in
    let same : b.here.type ≡ a.here.type = cc (a.here.picks no_more, b.here.picks no_more) in
    let last = not_last b.rest (omega (arith, reordered_count all (xs ++ ys) b.rest b.rest_is, length-append xs ys)) in
    let sized : (member_allowed false a.here.type && all_sized a.rest) ≡ false = sym (ap all_sized a.is) ∙ h in
    rw (b.is, last, same)
    (yes_or_no (member_allowed false a.here.type)
    (λ q.
    rw (reordered_refused all xs ys a.rest b.rest more a.rest_is b.rest_is (rw q at sized))
    (and-false (member_allowed false a.here.type)))
    (λ q. rw q))
