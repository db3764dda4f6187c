-- A struct with its members in another order (specs/Order, `reordered`): which members it has, and that the rules for them hold still.
--
-- In order: one member before others; the members at the positions of a list; the rules, member by member.
-- Assumes nothing.
use Prim.Native.Nat.{ℕ, zero, suc, ◌<◌, ◌≤◌}
use mathlib.Core.Bool.{true, false, ◌&&◌, ◌||◌, or-true}
use mathlib.Core.List.Memᴰ
use mathlib.Core.List.{List, [], ◌∷◌}
use mathlib.Core.Option.{some, some-injective}
use mathlib.Core.Logic.{◌⊎◌, inl, inr, ⊎_elim}
use mathlib.Core.Path.{◌≡◌, refl, ◌∙◌}
use native.Mathlib.Omega.{arith}
use lib.ListN.{length, get_or}
use Rattle.wgsl.specs.Types.{Members, no_more, member, is_runtime, every_member}
use Rattle.wgsl.specs.Size.{is_present, size_of, align_of}
use Rattle.wgsl.specs.Rule.{count_of, and_then, is_last, member_allowed, members_allowed, given_size_fits, given_align_fits, members_given_fit, is_well_formed}
use Rattle.wgsl.specs.Order.{chosen, reordered}
use Rattle.wgsl.specs.OrderClaim.{One, member_at, is_runtime_one, is_runtime_at}
use Rattle.wgsl.proofs.Absent.{hold_both, true_not_false, some_not_none, some_present}
use Rattle.wgsl.proofs.Said.{and_then_some}
use Rattle.wgsl.proofs.Members.{first_member}
use Rattle.wgsl.proofs.OrderList.{Below}

-- ---- one member before others

-- the member at position i of `all`, and after it the rest
pub record Chosen (all : Members) (i : ℕ) (rest new : Members) : Type 0 where
  pub low : i < count_of all
  pub count : count_of new ≡ suc (count_of rest)
  pub first : member_at new 0 ≡ member_at all i
  pub later : (j : ℕ) → member_at new (suc j) ≡ member_at rest j

chosen_some : (all : Members) (i : ℕ) (rest : Members) {new : Members} → chosen all i rest ≡ some new → Chosen all i rest new
unfolding chosen member_at count_of
chosen_some no_more i rest e = some_not_none e refl
chosen_some (member t size align ms) zero rest {new} e =
    let q : new ≡ member t size align rest = cc in
    rw q (record { low = omega arith; count = refl; first = refl; later = λ j. refl })
chosen_some (member t size align ms) (suc i) rest e =
    let r = chosen_some ms i rest e in
    record { low = omega arith; count = r.count; first = r.first; later = r.later }

chosen_there : (all : Members) (i : ℕ) (rest : Members) → i < count_of all → (new : Members) × (chosen all i rest ≡ some new)
unfolding chosen count_of
chosen_there no_more i rest l = absurd (omega arith)
chosen_there (member t size align ms) zero rest l = (_, refl)
chosen_there (member t size align ms) (suc i) rest l = chosen_there ms i rest (omega arith)

-- ---- the members at the positions of a list

-- `new` are the members of `all` at the positions of the list, in its order
pub record Reordered (all : Members) (order : List ℕ) (new : Members) : Type 0 where
  pub below : Below (count_of all) order
  pub count : count_of new ≡ length order
  pub kept : (i : ℕ) → i < length order → member_at new i ≡ member_at all (get_or order i 0)

pub reordered_some : (all : Members) (order : List ℕ) {new : Members} → reordered all order ≡ some new → Reordered all order new
unfolding reordered count_of
reordered_some all [] {new} e =
    let q : new ≡ no_more = cc in
    record { below = λ i m. absurd (Memᴰ.not-nil m); count = rw q; kept = λ i l. absurd (omega arith) }
reordered_some all (i ∷ order) {new} e =
    let b = and_then_some (reordered all order) (λ rest. chosen all i rest) e in
    let r = reordered_some all order b.first in
    let c = chosen_some all i b.value b.after in
    record {
      below = λ j m. ⊎_elim (λ (q : j ≡ i). omega (arith, c.low)) (r.below j) (Memᴰ.cases_cons m);
      count = omega (arith, c.count, r.count);
      kept = along c r;
    }
  where
    along : {rest : Members} → Chosen all i rest new → Reordered all order rest → (j : ℕ) → j < length (i ∷ order) → member_at new j ≡ member_at all (get_or (i ∷ order) j 0)
    along c r zero l = c.first
    along c r (suc j) l = c.later j ∙ r.kept j (omega arith)

pub reordered_there : (all : Members) (order : List ℕ) → Below (count_of all) order → (new : Members) × (reordered all order ≡ some new)
unfolding reordered and_then
reordered_there all [] b = (no_more, refl)
reordered_there all (i ∷ order) b =
    let (rest, e) = reordered_there all order (λ j m. b j (Memᴰ.tail m)) in
    let (new, h) = chosen_there all i rest (b i (Memᴰ.head refl)) in
    (new, rw e h)

-- ---- the rules, member by member

-- what the rules say of one member, wherever it stands
pub record Fits (m : One) : Type 0 where
  pub aligned : is_present (align_of m.type) ≡ true
  pub sized_or_runtime : (is_present (size_of m.type) ≡ true) ⊎ (is_runtime m.type ≡ true)
  pub size_fits : given_size_fits m.type m.size ≡ true
  pub align_fits : given_align_fits m.type m.align ≡ true

-- It holds of each member,
pub each_fits : (ms : Members) → every_member is_well_formed ms ≡ true → members_allowed ms ≡ true → members_given_fit ms ≡ true → (i : ℕ) {m : One} → member_at ms i ≡ some m → Fits m
unfolding member_at
each_fits no_more w ok g i e = some_not_none e refl
each_fits (member t size align ms) w ok g zero e =
    let m = first_member t size align ms w ok g in
    let fits : Fits (record { type = t; size = size; align = align }) = record {
      aligned = some_present m.own_is;
      sized_or_runtime =
          ⊎_elim (λ (p : is_present (size_of t) ≡ true). inl p) (λ (p : (is_last ms ≡ true) × (is_runtime t ≡ true)). inr p.1)
          m.sized_or_last;
      size_fits = m.size_fits;
      align_fits = m.align_fits;
    } in
    rw (some-injective _ _ e) at fits
each_fits (member t size align ms) w ok g (suc i) e =
    let m = first_member t size align ms w ok g in
    each_fits ms m.rest_well m.rest_allowed m.rest_fits i e

last_or_more : (ms : Members) → (is_last ms ≡ true) ⊎ (1 ≤ count_of ms)
unfolding is_last count_of
last_or_more no_more = inl refl
last_or_more (member t size align ms) = inr (omega arith)

-- and members of each of which it holds, and of which only the last may be a runtime array, are allowed and given what fits.
pub fits_all : (ms : Members) → ((i : ℕ) (m : One) → member_at ms i ≡ some m → Fits m) → ((i : ℕ) → suc i < count_of ms → is_runtime_at ms i ≡ false) → (members_allowed ms ≡ true) × (members_given_fit ms ≡ true)
unfolding member_at count_of is_runtime_one member_allowed members_allowed members_given_fit
fits_all no_more h last = (refl, refl)
fits_all (member t size align ms) h last =
    let f = h 0 _ refl in
    let rest = fits_all ms (λ i. h (suc i)) (λ i l. last (suc i) (omega arith)) in
    let sized : (is_present (size_of t) || (is_last ms && is_runtime t)) ≡ true =
    ⊎_elim (λ (p : is_present (size_of t) ≡ true). rw p)
    (λ (p : is_runtime t ≡ true).
    ⊎_elim (λ (q : is_last ms ≡ true). rw (p, q) (or-true (is_present (size_of t))))
    (λ (q : 1 ≤ count_of ms). true_not_false p (last 0 (omega arith))) (last_or_more ms))
    f.sized_or_runtime in (
      hold_both (member_allowed (is_last ms) t) (members_allowed ms)
          (hold_both (is_present (align_of t)) (is_present (size_of t) || (is_last ms && is_runtime t)) f.aligned sized) rest.0,
      hold_both (given_size_fits t size && given_align_fits t align) (members_given_fit ms)
          (hold_both (given_size_fits t size) (given_align_fits t align) f.size_fits f.align_fits) rest.1,
    )
