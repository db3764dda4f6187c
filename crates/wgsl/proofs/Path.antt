-- Where paths lead (specs/Path).
--
-- In order: the walks that find a target, as a relation (`Leads`); targets lie inside, at multiples; different paths to scalars share no
-- byte, nor do different members.
-- Assumes nothing.
use Prim.Native.Nat.{ℕ, zero, suc, ◌+◌, ◌*◌, ◌/◌, ◌%◌, ◌<◌, ◌≤◌}
use mathlib.Core.Bool.{Bool, true, false, cond}
use mathlib.Core.List.{List, [], ◌∷◌}
use mathlib.Core.Logic.{◌⊎◌, inl, inr, ⊎_elim, ⊎_map}
use mathlib.Core.Path.{◌≡◌, refl, ap, subst}
use native.Mathlib.Omega.{arith}
use native.Mathlib.Nat.{suc-mul, one-mul, mul_assoc, mul-le-mul_right, div-add-mod', add-mul-mod_self_right}
use borrow.Author.Tests.{ltb-true, lt-ltb}
use lib.Dec.{ltb}
use Rattle.wgsl.specs.Types.{Scalar}
use Rattle.wgsl.specs.Size.{present, width_of}
use Rattle.wgsl.specs.Said.{good, refused, ◌>>=◌}
use Rattle.wgsl.specs.Place.{Shape, one, parts, field, whole, span_of}
use Rattle.wgsl.specs.Path.{Step, index, member, Target, enter, walk}
use Rattle.wgsl.specs.Claim.{Apart, Leads, here, part, first, later}
use Rattle.wgsl.specs.Shapes.{Divides, From, Sound}
use Rattle.wgsl.proofs.Said.{good_not_refused}

-- this shape at this offset
abbrev pub target : ℕ → Shape → Target
target a y = record { offset = a; shape = y }

-- one step, where the rest of the walk leads on
step_leads : (k off : ℕ) (x : Shape) (s : Step) (steps : List Step) (t : Target) → ((at : ℕ) (y : Shape) → walk (suc k) at y steps ≡ good t → Leads at y steps t.offset t.shape) → walk k off x (s ∷ steps) ≡ good t → Leads off x (s ∷ steps) t.offset t.shape
unfolding walk enter ◌>>=◌
step_leads k off (one s) (index i) steps t next h = good_not_refused h refl
step_leads k off (one s) (member i) steps t next h = good_not_refused h refl
step_leads k off (parts n stride x) (index i) steps t next h = go (ltb i n) refl h
  where
    go : (b : Bool) → ltb i n ≡ b → ◌>>=◌ (cond b (good (target (i * stride) x)) (refused 12 k)) (λ u. walk (suc k) (off + u.offset) u.shape steps) ≡ good t → Leads off (parts n stride x) (index i ∷ steps) t.offset t.shape
    go true e g = part (ltb-true i n e) (next (off + i * stride) x g)
    go false e g = good_not_refused g refl
step_leads k off (parts n stride x) (member i) steps t next h = good_not_refused h refl
step_leads k off (field offset x rest) (index i) steps t next h = good_not_refused h refl
step_leads k off (field offset x rest) (member zero) steps t next h = first (next (off + offset) x h)
step_leads k off (field offset x rest) (member (suc i)) steps t next h =
    later (step_leads k off rest (member i) steps t next h)
step_leads k off (whole z) (index i) steps t next h = good_not_refused h refl
step_leads k off (whole z) (member i) steps t next h = good_not_refused h refl

-- A walk that finds a target leads there.
pub walk_leads : (k off : ℕ) (x : Shape) (steps : List Step) (t : Target) → walk k off x steps ≡ good t → Leads off x steps t.offset t.shape
unfolding walk
walk_leads k off x [] t h =
    let e : target off x ≡ t = cc in
    subst (λ (u : Target). Leads off x [] u.offset u.shape) e here
walk_leads k off x (s ∷ steps) t h = step_leads k off x s steps t (λ at y g. walk_leads (suc k) at y steps t g) h

-- Steps that lead to a target are a walk that finds it.
pub leads_walk : {off a : ℕ} {x y : Shape} {steps : List Step} → Leads off x steps a y → (k : ℕ) → walk k off x steps ≡ good (target a y)
unfolding walk enter ◌>>=◌
leads_walk here k = refl
leads_walk (part {n = n} {i = i} h l) k = rw (lt-ltb i n h) (leads_walk l (suc k))
leads_walk (first l) k = leads_walk l (suc k)
leads_walk (later l) k = leads_walk l k

-- the members that are left of a struct begin before it ends
from_span : (x : Shape) (lo : ℕ) → Sound x → From x lo → lo ≤ span_of x
unfolding Sound From span_of
from_span (one s) lo sound from = absurd from
from_span (parts n stride x) lo sound from = absurd from
from_span (field offset x rest) lo sound from = omega (arith, from_span rest (offset + span_of x) sound.1 sound.2)
from_span (whole z) lo sound from = from

-- a part ends at the latest where a later one begins
part_before : (i j stride z : ℕ) → i < j → z ≤ stride → i * stride + z ≤ j * stride
part_before i j stride z h l = omega (arith, mul-le-mul_right stride h, suc-mul i stride)

-- what steps lead to is sound and lies inside
inside : {off a : ℕ} {x y : Shape} {steps : List Step} → Leads off x steps a y → Sound x → Sound y × (off ≤ a) × (a + span_of y ≤ off + span_of x)
unfolding Sound span_of
inside here sound = (sound, omega arith, omega arith)
inside (part {n = n} {stride = stride} {i = i} {x = x} h l) sound =
    let t = inside l sound.0 in
    (t.0, omega (arith, t.1), omega (arith, t.2, part_before i n stride (span_of x) h sound.1))
inside (first {offset = offset} {x = x} {rest = rest} l) sound =
    let t = inside l sound.0 in
    (t.0, omega (arith, t.1), omega (arith, t.2, from_span rest (offset + span_of x) sound.1 sound.2))
inside (later l) sound = inside l sound.1

-- What a path leads to lies inside the shape that it starts from.
pub target_inside : (k off : ℕ) (x : Shape) (steps : List Step) (t : Target) → Sound x → walk k off x steps ≡ good t → Sound t.shape × (off ≤ t.offset) × (t.offset + span_of t.shape ≤ off + span_of x)
target_inside k off x steps t sound h = inside (walk_leads k off x steps t h) sound

divides_sum : (x : Shape) (m n i : ℕ) → Divides x m → Divides x n → Divides x (m + i * n)
unfolding Divides
divides_sum (one s) m n i d e =
    let w : ℕ = present (width_of s) in
    let q : n ≡ n / w * w = omega (arith, div-add-mod' n w) in
    rw q (rw (← mul_assoc, add-mul-mod_self_right) d)
divides_sum (parts k stride x) m n i d e = divides_sum x m n i d e
divides_sum (field offset x rest) m n i d e = (divides_sum x m n i d.0 e.0, divides_sum rest m n i d.1 e.1)
divides_sum (whole z) m n i d e = tt

target_divides : {off a : ℕ} {x y : Shape} {steps : List Step} → Leads off x steps a y → Sound x → Divides x off → Divides y a
unfolding Sound Divides
target_divides here sound d = d
target_divides (part {off = off} {stride = stride} {i = i} {x = x} h l) sound d =
    target_divides l sound.0 (divides_sum x off stride i d sound.2)
target_divides (first {off = off} {offset = offset} {x = x} l) sound d =
    target_divides l sound.0 (rw one-mul at (divides_sum x off offset 1 d.0 sound.3))
target_divides (later l) sound d = target_divides l sound.1 d.1

-- A scalar that a path leads to lies at a multiple of its size.
pub target_multiple : (k off : ℕ) (x : Shape) (steps : List Step) (a : ℕ) (s : Scalar) → Sound x → Divides x off → walk k off x steps ≡ good (target a (one s)) → a % present (width_of s) ≡ 0
unfolding Divides
target_multiple k off x steps a s sound d h = target_divides (walk_leads k off x steps (target a (one s)) h) sound d

-- what lies in the members that are left of a struct begins no earlier than they do
member_after : {off a i : ℕ} {x y : Shape} {steps : List Step} (lo : ℕ) → Leads off x (member i ∷ steps) a y → Sound x → From x lo → off + lo ≤ a
unfolding Sound From
member_after lo (first l) sound from = omega (arith, (inside l sound.0).1)
member_after lo (later {offset = offset} {x = x} l) sound from =
    omega (arith, member_after (offset + span_of x) l sound.1 sound.2)

compare : (i j : ℕ) → (i ≡ j) ⊎ ((i < j) ⊎ (j < i))
compare zero zero = inl refl
compare zero (suc j) = inr (inl (omega arith))
compare (suc i) zero = inr (inr (omega arith))
compare (suc i) (suc j) =
    ⊎_map (ap suc) (⊎_map (λ (l : i < j). omega arith) (λ (l : j < i). omega arith)) (compare i j)

leads_apart : {off a b : ℕ} {x : Shape} {p q : List Step} {s u : Scalar} → Leads off x p a (one s) → Leads off x q b (one u) → Sound x → (p ≡ q) ⊎ Apart a (present (width_of s)) b (present (width_of u))
unfolding Sound span_of
leads_apart here here sound = inl refl
leads_apart (part {stride = stride} {i = i} {x = x} {steps = p} h l) (part {i = j} {steps = q} g m) sound =
    let t = inside l sound.0 in
    let v = inside m sound.0 in
    ⊎_elim
    (λ (e : i ≡ j). ⊎_map (λ (d : p ≡ q). cc) (λ d. d) (leads_apart l (rw (← e) at m) sound.0))
    (λ w. inr (⊎_map
    (λ (d : i < j). omega (arith, t.2, v.1, part_before i j stride (span_of x) d sound.1))
    (λ (d : j < i). omega (arith, v.2, t.1, part_before j i stride (span_of x) d sound.1)) w)) (compare i j)
leads_apart (first {steps = p} l) (first {steps = q} m) sound =
    ⊎_map (λ (d : p ≡ q). cc) (λ d. d) (leads_apart l m sound.0)
leads_apart (first {offset = offset} {x = x} l) (later m) sound =
    inr (inl (omega (arith, (inside l sound.0).2, member_after (offset + span_of x) m sound.1 sound.2)))
leads_apart (later l) (first {offset = offset} {x = x} m) sound =
    inr (inr (omega (arith, (inside m sound.0).2, member_after (offset + span_of x) l sound.1 sound.2)))
leads_apart (later {i = i} {steps = p} l) (later {i = j} {steps = q} m) sound =
    ⊎_map (λ (d : ◌≡◌ {A = List Step} (member i ∷ p) (member j ∷ q)). cc) (λ d. d) (leads_apart l m sound.1)

-- Two paths to scalars are the same, or the scalars share no byte.
pub paths_apart : (k off : ℕ) (x : Shape) (p q : List Step) (a b : ℕ) (s u : Scalar) → Sound x → walk k off x p ≡ good (target a (one s)) → walk k off x q ≡ good (target b (one u)) → (p ≡ q) ⊎ Apart a (present (width_of s)) b (present (width_of u))
paths_apart k off x p q a b s u sound g h =
    leads_apart (walk_leads k off x p (target a (one s)) g) (walk_leads k off x q (target b (one u)) h) sound

-- What lies in different members of a struct shares no byte.
pub members_apart : {off a b i j : ℕ} {x y z : Shape} {p q : List Step} → Leads off x (member i ∷ p) a y → Leads off x (member j ∷ q) b z → Sound x → (i ≡ j → ⊥) → Apart a (span_of y) b (span_of z)
unfolding Sound
members_apart (first l) (first m) sound differ = absurd (differ refl)
members_apart (first {offset = offset} {x = x} l) (later m) sound differ =
    inl (omega (arith, (inside l sound.0).2, member_after (offset + span_of x) m sound.1 sound.2))
members_apart (later l) (first {offset = offset} {x = x} m) sound differ =
    inr (omega (arith, (inside m sound.0).2, member_after (offset + span_of x) l sound.1 sound.2))
members_apart (later l) (later m) sound differ = members_apart l m sound.1 (λ e. differ (ap suc e))
