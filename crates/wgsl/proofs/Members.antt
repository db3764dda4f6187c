-- The members of a struct: what the rules say of them (specs/Rule), and where they end (specs/Size, specs/Place).
--
-- In order: the rules (`Member`); what a member takes; where one member starts and ends; where all of them end, with a size and with a
-- tail.
-- Assumes nothing.
use Prim.Native.Nat.{ℕ, ◌+◌, ◌<◌, ◌≤◌}
use mathlib.Core.Bool.{Bool, true, false, not, ◌&&◌, ◌||◌, or-true}
use mathlib.Core.Option.{Option, none, some}
use mathlib.Core.Path.{◌≡◌, refl, sym, ap, ◌∙◌}
use mathlib.Core.Logic.{◌⊎◌, inl, inr, ⊎_elim}
use native.Mathlib.Omega.{arith}
use borrow.Author.Tests.{leb-true}
use Rattle.wgsl.specs.Round.{up}
use Rattle.wgsl.specs.Types.{Ty, struct, Members, no_more, member, is_runtime, ends_in_runtime, is_open, everywhere, every_member}
use Rattle.wgsl.specs.Size.{both, given_or, is_present, present, start_after, end_after, size_of, align_of, members_align, members_end, member_start, member_end}
use Rattle.wgsl.specs.Rule.{is_last, member_allowed, members_allowed, is_well_formed, at_least, given_size_fits, given_align_fits, members_given_fit}
use Rattle.wgsl.specs.Place.{Tail, tail_at, members_tail, tail_of, extent_by, extent_of}
use Rattle.wgsl.proofs.Round.{up_not_below}
use Rattle.wgsl.proofs.Absent.{both_hold, either_holds, true_not_false, some_not_none, present_some, some_present, present_is, both_some, given_present}
use Rattle.wgsl.proofs.Power.{power_positive}
use Rattle.wgsl.proofs.Align.{members_power}
use Rattle.wgsl.proofs.Tail.{runtime_open, closed_extent, TailEnds, runtime_tail, absent_end, runtime_size, sized_closed, sized_takes}

-- what the rules say of the first of some members, and of the rest
pub record Member (t : Ty) (size align : Option ℕ) (ms : Members) : Type 0 where
  pub well : everywhere is_well_formed t ≡ true
  pub rest_well : every_member is_well_formed ms ≡ true
  pub own : ℕ
  pub own_is : align_of t ≡ some own
  pub sized_or_last : (is_present (size_of t) ≡ true) ⊎ ((is_last ms ≡ true) × (is_runtime t ≡ true))
  pub rest_allowed : members_allowed ms ≡ true
  pub size_fits : given_size_fits t size ≡ true
  pub align_fits : given_align_fits t align ≡ true
  pub rest_fits : members_given_fit ms ≡ true

pub first_member : (t : Ty) (size align : Option ℕ) (ms : Members) → every_member is_well_formed (member t size align ms) ≡ true → members_allowed (member t size align ms) ≡ true → members_given_fit (member t size align ms) ≡ true → Member t size align ms
unfolding every_member member_allowed members_allowed members_given_fit
first_member t size align ms w ok g =
    let ws = both_hold (everywhere is_well_formed t) (every_member is_well_formed ms) w in
    let oks = both_hold (is_present (align_of t) && (is_present (size_of t) || (is_last ms && is_runtime t))) (members_allowed ms) ok in
    let here = both_hold (is_present (align_of t)) (is_present (size_of t) || (is_last ms && is_runtime t)) oks.0 in
    let gs = both_hold (given_size_fits t size && given_align_fits t align) (members_given_fit ms) g in
    let fit = both_hold (given_size_fits t size) (given_align_fits t align) gs.0 in
    let a = present_some (align_of t) here.0 in
    record {
      well = ws.0;
      rest_well = ws.1;
      own = a.0;
      own_is = a.1;
      sized_or_last =
          ⊎_elim (λ (p : is_present (size_of t) ≡ true). inl p)
          (λ (p : (is_last ms && is_runtime t) ≡ true). inr (both_hold (is_last ms) (is_runtime t) p))
          (either_holds (is_present (size_of t)) (is_last ms && is_runtime t) here.1);
      rest_allowed = oks.1;
      size_fits = fit.0;
      align_fits = fit.1;
      rest_fits = gs.1;
    }

-- what a member takes: the given size, or its type's extent
unfoldable pub member_extent : ℕ → Ty → Option ℕ → ℕ
member_extent n t size = present (given_or size (some (extent_of n t)))

-- a member that has a size takes its given or own size
sized_extent : (n : ℕ) (t : Ty) (size : Option ℕ) (m : ℕ) → everywhere is_well_formed t ≡ true → given_or size (size_of t) ≡ some m → member_extent n t size ≡ m
unfolding member_extent given_or present
sized_extent n t (some g) m w h = cc
sized_extent n t none m w h = closed_extent n t (sized_closed t m w h) ∙ rw h

-- what a member with a size takes is no less than its type's size
pub record Sized (t : Ty) (size : Option ℕ) (own : ℕ) : Type 0 where
  pub given : ℕ
  pub given_is : given_or size (size_of t) ≡ some given
  pub not_below : own ≤ given

pub sized : (t : Ty) (size : Option ℕ) (own : ℕ) → size_of t ≡ some own → given_size_fits t size ≡ true → Sized t size own
unfolding given_size_fits at_least given_or
sized t (some g) own e f =
    let c = both_hold (not (is_runtime t)) (at_least (size_of t) g) f in
    record { given = g; given_is = refl; not_below = leb-true own g (rw e at c.1) }
sized t none own e f = record { given = own; given_is = e; not_below = omega arith }

runtime_extent : (n : ℕ) (t : Ty) (size : Option ℕ) → is_runtime t ≡ true → given_size_fits t size ≡ true → member_extent n t size ≡ extent_of n t
unfolding member_extent given_or present
runtime_extent n t size e f = rw (runtime_size t size e f)

-- A member takes at least its type's extent.
pub member_room : (n : ℕ) (t : Ty) (size align : Option ℕ) (ms : Members) → Member t size align ms → extent_of n t ≤ member_extent n t size
member_room n t size align ms m =
    ⊎_elim
    (λ (p : is_present (size_of t) ≡ true).
    let z = present_some (size_of t) p in
    let s = sized t size z.0 z.1 m.size_fits in
    omega (arith, sized_takes n t z.0 m.well z.1, sized_extent n t size s.given m.well s.given_is, s.not_below))
    (λ (p : (is_last ms ≡ true) × (is_runtime t ≡ true)). omega (arith, runtime_extent n t size p.1 m.size_fits))
    m.sized_or_last

-- A member has an extent.
pub member_has : (t : Ty) (size align : Option ℕ) (ms : Members) → Member t size align ms → (is_open t || is_present (size_of t)) ≡ true
member_has t size align ms m =
    ⊎_elim (λ (p : is_present (size_of t) ≡ true). rw p (or-true (is_open t)))
    (λ (p : (is_last ms ≡ true) × (is_runtime t ≡ true)). rw (runtime_open t p.1)) m.sized_or_last

-- where a member starts
pub start_is : (lo a : ℕ) (align : Option ℕ) → align ≡ some a → start_after (some lo) align ≡ some (up a lo)
unfolding start_after both
start_is lo a align e = rw e

-- the end of a member that has a size
pub end_after_lem : (n lo a : ℕ) (t : Ty) (size align : Option ℕ) (m : ℕ) → everywhere is_well_formed t ≡ true → align ≡ some a → given_or size (size_of t) ≡ some m → end_after (some lo) align (given_or size (size_of t)) ≡ some (up (present align) lo + member_extent n t size)
unfolding end_after start_after both present
end_after_lem n lo a t size align m w e h = rw (e, h, sized_extent n t size m w h)

-- where the members end, the one before the first having ended at lo and the last perhaps a runtime array of n elements
unfoldable pub end_of : ℕ → ℕ → Members → ℕ
end_of n lo no_more = lo
end_of n lo (member t size align ms) = end_of n (up (present (given_or align (align_of t))) lo + member_extent n t size) ms

-- the align and the size of a member, and the end of those after it, where that is present
pub record Next (lo : ℕ) (t : Ty) (size align : Option ℕ) (ms : Members) (z : ℕ) : Type 0 where
  pub aligned : ℕ
  pub taken : ℕ
  pub align_is : given_or align (align_of t) ≡ some aligned
  pub size_is : given_or size (size_of t) ≡ some taken
  pub rest : members_end (some (up aligned lo + taken)) ms ≡ some z

pub next_member : (lo : ℕ) (t : Ty) (size align : Option ℕ) (ms : Members) (z : ℕ) → members_end (some lo) (member t size align ms) ≡ some z → Next lo t size align ms z
unfolding members_end member_end end_after start_after both
next_member lo t size align ms z e = go (given_or align (align_of t)) (given_or size (size_of t)) refl refl e
  where
    go : (al sz : Option ℕ) → given_or align (align_of t) ≡ al → given_or size (size_of t) ≡ sz → members_end (both ◌+◌ (both up al (some lo)) sz) ms ≡ some z → Next lo t size align ms z
    go (some a) (some s) p q h = record { aligned = a; taken = s; align_is = p; size_is = q; rest = h }
    go (some a) none p q h = some_not_none h (absent_end ms)
    go none sz p q h = some_not_none h (absent_end ms)

-- Where the end of the members is present, it is `end_of`.
pub end_is : (n lo : ℕ) (ms : Members) (z : ℕ) → every_member is_well_formed ms ≡ true → members_end (some lo) ms ≡ some z → end_of n lo ms ≡ z
unfolding members_end end_of every_member present
end_is n lo no_more z w e = cc
end_is n lo (member t size align ms) z w e =
    let well = both_hold (everywhere is_well_formed t) (every_member is_well_formed ms) w in
    let x = next_member lo t size align ms z e in
    rw (x.align_is, sized_extent n t size x.taken well.0 x.size_is)
    (end_is n (up x.aligned lo + x.taken) ms z well.1 x.rest)

-- The runtime array that ends a struct ends at `end_of`.
pub tail_end : (n lo : ℕ) (ms : Members) (b : Bool) (before : Option Tail) (end : Option ℕ) → every_member is_well_formed ms ≡ true → members_allowed ms ≡ true → members_given_fit ms ≡ true → (b ≡ true → TailEnds n before lo) → (is_last ms ≡ true) ⊎ (end ≡ some lo) → ends_in_runtime b ms ≡ true → TailEnds n (members_tail before end ms) (end_of n lo ms)
unfolding members_tail end_of ends_in_runtime is_last member_start member_end
tail_end n lo no_more b before end w ok g h from e = h e
tail_end n lo (member t size align ms) b before end w ok g h from e =
    let m = first_member t size align ms w ok g in
    let al : Option ℕ = given_or align (align_of t) in
    let a = given_present align (align_of t) (some_present m.own_is) in
    let f : end ≡ some lo = ⊎_elim (λ (q : false ≡ true). true_not_false q refl) (λ (q : end ≡ some lo). q) from in
    let s : start_after end al ≡ some (up (present al) lo) =
    ap (λ (x : Option ℕ). start_after x al) f ∙ start_is lo (present al) al (a.1 ∙ ap some (sym (ap present a.1 ∙ present_is a.0))) in
    tail_end n (up (present al) lo + member_extent n t size) ms (is_runtime t) (tail_at (start_after end al) t)
    (end_after end al (given_or size (size_of t))) m.rest_well m.rest_allowed m.rest_fits
    (λ q. rw (s, runtime_extent n t size q m.size_fits) (runtime_tail n (up (present al) lo) t q))
    (⊎_elim
    (λ (p : is_present (size_of t) ≡ true).
    let z = given_present size (size_of t) p in
    inr (rw f (end_after_lem n lo a.0 t size al z.0 m.well a.1 z.1)))
    (λ (p : (is_last ms ≡ true) × (is_runtime t ≡ true)). inl p.0) m.sized_or_last) e

-- A struct takes at least what its members take.
pub struct_end : (n k : ℕ) (ms : Members) → everywhere is_well_formed (struct k ms) ≡ true → every_member is_well_formed ms ≡ true → members_allowed ms ≡ true → members_given_fit ms ≡ true → (is_open (struct k ms) || is_present (size_of (struct k ms))) ≡ true → end_of n 0 ms ≤ extent_of n (struct k ms)
unfolding is_open size_of extent_of extent_by tail_of
struct_end n k ms w ws ok g h =
    ⊎_elim
    (λ (o : ends_in_runtime false ms ≡ true).
    let x = tail_end n 0 ms false none (some 0) ws ok g (λ q. true_not_false q refl) (inr refl) o in
    rw x.1 (omega (arith, x.2)))
    (λ (p : is_present (both up (members_align ms) (members_end (some 0) ms)) ≡ true).
    let z = present_some (both up (members_align ms) (members_end (some 0) ms)) p in
    let m = both_some up (members_align ms) (members_end (some 0) ms) z.0 z.1 in
    let pos : 0 < m.left = power_positive (members_power ms m.left ws g m.left_is) in
    let x = sized_takes n (struct k ms) z.0 w z.1 in
    omega (arith, x, m.is, end_is n 0 ms m.right ws m.right_is, up_not_below m.left m.right pos))
    (either_holds (ends_in_runtime false ms) (is_present (both up (members_align ms) (members_end (some 0) ms))) h)
