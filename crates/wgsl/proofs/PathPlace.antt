-- Paths and places (specs/Path, specs/Place).
--
-- In order: a path to a scalar leads to a place; each place has a path.
-- Assumes nothing.
use Prim.Native.Nat.{ℕ, zero, suc, ◌+◌, ◌*◌, ◌<◌}
use mathlib.Core.List.Memᴰ
use mathlib.Core.List.{List, [], ◌∷◌, ◌++◌, append-nil, append_assoc, Memᴰ}
use mathlib.Core.Logic.{⊎_elim}
use mathlib.Core.Path.{◌≡◌, refl}
use native.Mathlib.Omega.{arith}
use native.Mathlib.Nat.{add-zero, zero-mul, suc-mul}
use Rattle.wgsl.specs.Types.{Scalar}
use Rattle.wgsl.specs.Said.{good}
use Rattle.wgsl.specs.Place.{Shape, one, parts, field, whole, span_of, Place, word_places, repeated, places_of}
use Rattle.wgsl.specs.Path.{Step, index, member, walk}
use Rattle.wgsl.specs.Claim.{Leads, here, part, first, later}
use Rattle.wgsl.specs.Shapes.{From, Sound}
use Rattle.wgsl.proofs.Path.{target, walk_leads, leads_walk}

-- the words of a scalar s at a are in the list of a shape at off
pub record PathPlace (x : Shape) (off a : ℕ) (s : Scalar) : Type 0 where
  pub before : List Place
  pub after : List Place
  pub split : places_of x off ≡ before ++ (word_places s a ++ after)

-- a place of y is one of x, where the places of y stand among those of x
wider : {x y : Shape} {off at a : ℕ} {s : Scalar} (before after : List Place) → places_of x off ≡ before ++ (places_of y at ++ after) → PathPlace y at a s → PathPlace x off a s
wider {x} {y} {off} {at} {a} {s} before after e p = record {
  before = before ++ p.before;
  after = p.after ++ after;
  split = rw (e, p.split) (simp append_assoc);
}

next_part : (at i stride : ℕ) → at + stride + i * stride ≡ at + suc i * stride
next_part at i stride = omega (arith, suc-mul i stride)

-- what is made for a part stands in what is made for all of them
repeated_split : (n i stride : ℕ) (f : ℕ → List Place) (at : ℕ) → i < n → (before : List Place) × (after : List Place) × (repeated n stride f at ≡ before ++ (f (at + i * stride) ++ after))
unfolding repeated
repeated_split zero i stride f at h = absurd (omega arith)
repeated_split (suc n) zero stride f at h = ([], repeated n stride f (at + stride), rw (zero-mul, add-zero))
repeated_split (suc n) (suc i) stride f at h =
    let r = repeated_split n i stride f (at + stride) (omega arith) in
    (f at ++ r.0, r.1, rw (r.2, append_assoc, next_part at i stride))

leads_place : {off a : ℕ} {x : Shape} {steps : List Step} {s : Scalar} → Leads off x steps a (one s) → PathPlace x off a s
unfolding places_of
leads_place here = record { before = []; after = []; split = rw append-nil }
leads_place (part {off = off} {n = n} {stride = stride} {i = i} {x = x} h l) =
    let r = repeated_split n i stride (λ p. places_of x p) off h in
    wider r.0 r.1 r.2 (leads_place l)
leads_place (first {off = off} {rest = rest} l) = wider [] (places_of rest off) refl (leads_place l)
leads_place (later {off = off} {offset = offset} {x = x} l) =
    wider (places_of x (off + offset)) [] (rw append-nil) (leads_place l)

-- A path to a scalar leads to a place of the list.
pub path_place : (k off : ℕ) (x : Shape) (steps : List Step) (a : ℕ) (s : Scalar) → walk k off x steps ≡ good (target a (one s)) → PathPlace x off a s
path_place k off x steps a s h = leads_place (walk_leads k off x steps (target a (one s)) h)

repeated_member_lem : {p : Place} (n stride : ℕ) (f : ℕ → List Place) (at : ℕ) → Memᴰ p (repeated n stride f at) → (i : ℕ) × (i < n) × Memᴰ p (f (at + i * stride))
unfolding repeated
repeated_member_lem zero stride f at m = absurd (Memᴰ.not-nil m)
repeated_member_lem {p} (suc n) stride f at m =
    ⊎_elim (λ (h : Memᴰ p (f at)). (0, omega arith, rw (zero-mul, add-zero) h))
    (λ (h : Memᴰ p (repeated n stride f (at + stride))).
    let r = repeated_member_lem n stride f (at + stride) h in
    (suc r.0, omega (arith, r.1), rw (next_part at r.0 stride) at r.2)) (Memᴰ.append_cases (f at) m)

-- a path to a scalar one of whose words lies at p
abbrev HasPath : ℕ → Shape → Place → Type 0
HasPath off x p =
    (s : Scalar) × (a : ℕ) × (steps : List Step) × Leads off x steps a (one s) × Memᴰ p (word_places s a)

-- a path to a scalar among the members that are left of a struct begins with a member step
one_later : {off a : ℕ} {rest : Shape} {steps : List Step} {s : Scalar} (lo offset : ℕ) (x : Shape) → From rest lo → Leads off rest steps a (one s) → (further : List Step) × Leads off (field offset x rest) further a (one s)
unfolding From
one_later lo offset x from here = absurd from
one_later lo offset x from (part h l) = absurd from
one_later lo offset x from (first {steps = steps} l) = (member 1 ∷ steps, later (first l))
one_later lo offset x from (later {i = i} {steps = steps} l) = (member (suc (suc i)) ∷ steps, later (later l))

found : (off : ℕ) (x : Shape) (p : Place) → Sound x → Memᴰ p (places_of x off) → HasPath off x p
unfolding Sound places_of
found off (one s) p sound m = (s, off, [], here, m)
found off (parts n stride x) p sound m =
    let r = repeated_member_lem n stride (λ at. places_of x at) off m in
    let f = found (off + r.0 * stride) x p sound.0 r.2 in
    (f.0, f.1, index r.0 ∷ f.2, part r.1 f.3, f.4)
found off (field offset x rest) p sound m =
    ⊎_elim
    (λ (h : Memᴰ p (places_of x (off + offset))).
    let f = found (off + offset) x p sound.0 h in
    (f.0, f.1, member 0 ∷ f.2, first f.3, f.4))
    (λ (h : Memᴰ p (places_of rest off)).
    let f = found off rest p sound.1 h in
    let g = one_later (offset + span_of x) offset x sound.2 f.3 in
    (f.0, f.1, g.0, g.1, f.4)) (Memᴰ.append_cases (places_of x (off + offset)) m)
found off (whole z) p sound m = absurd (Memᴰ.not-nil m)

-- a path that leads to a scalar one of whose words lies at the place p
pub record PlacePath (x : Shape) (off : ℕ) (p : Place) : Type 0 where
  pub scalar_is : Scalar
  pub steps : List Step
  pub scalar_lies_at : ℕ
  pub leads : (k : ℕ) → walk k off x steps ≡ good (target scalar_lies_at (one scalar_is))
  pub one_of_its : Memᴰ p (word_places scalar_is scalar_lies_at)

-- Every place of a sound shape has a path that leads to it.
pub place_path : (off : ℕ) (x : Shape) (p : Place) → Sound x → Memᴰ p (places_of x off) → PlacePath x off p
place_path off x p sound m =
    let f = found off x p sound m in
    record {
      scalar_is = f.0;
      steps = f.2;
      scalar_lies_at = f.1;
      leads = λ k. leads_walk f.3 k;
      one_of_its = f.4;
    }
