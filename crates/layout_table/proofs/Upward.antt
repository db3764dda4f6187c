-- What the members of a struct's entry make (crates/layout_structs), the entry makes.
--
-- In order: what `stepped_to` refuses; one member more; after the last.
-- Assumes nothing.
use Rattle.std.specs.Prelude.{Err, Ok, Result}
use Rattle.file.specs.Members.{member_length}
use Prim.Native.Nat.{ℕ, ◌+◌, ◌*◌, ◌<◌, ◌≤◌}
use mathlib.Core.Bool.{Bool, true, false, cond, ◌&&◌}
use mathlib.Core.List.{List}
use mathlib.Core.Option.{some}
use mathlib.Core.Path.{◌≡◌, refl, sym, ap, ◌∙◌}
use native.Mathlib.Nat.{mul-add, mul-le-mul_left}
use native.Mathlib.Omega.{arith}
use borrow.Author.Tests.{eqb-true, eqb-false}
use lib.Dec.{eqb}
use lib.ListN.{length}
use Rattle.wgsl.specs.Types.{Ty, Members, struct, struct_kind}
use Rattle.wgsl.specs.File.{trailer_of, TypeEntry, MemberEntry, member_entry_from, rest_is_zero}
use Rattle.wgsl.specs.Rule.{and_then, struct_made, count_of, member_allowed}
use Rattle.wgsl.proofs.MemberLength.{length_least, entry_within}
use Rattle.layout_values.specs.Value.{verdict_on, made_of, value_at}
use Rattle.layout_values.specs.declared.value.Value.{Value}
use Rattle.layout_structs.specs.SoFar.{Spans, Closes, Meets, stepped_to, so_far, followed}
use Rattle.layout_structs.proofs.MembersFrom.{members_at, from_first}
use Rattle.layout_structs.proofs.StructMade.{struct_members_lem, place_first}
use Rattle.layout_structs.proofs.Reached.{Reached, Coming, coming, reached_meets, reached_next, reached_past, reached_rule, reached_closes, reached_made}
use Rattle.layout_table.specs.Table.{Upward}
use Rattle.layout_values.specs.declared.value.Broken.{Broken}
use Rattle.layout_values.specs.declared.value.Broken.TheVariants.{Rule}
use Rattle.layout_structs.specs.declared.Ends.{Ends}

-- It is rule 5 alone that one more member may break.
only_rule : (last : Bool) (ms : Members) (t : Ty) (m : MemberEntry) (b : Broken) → Err b ≡ stepped_to last ms t m → b ≡ Rule
unfolding stepped_to
only_rule last ms t m b h = go (rest_is_zero m && member_allowed last t) h
  where
    go : (a : Bool) → Err b ≡ cond a (Ok (so_far (followed ms t m))) (Err Rule) → b ≡ Rule
    go true q = let z : ◌≡◌ {A = ℕ} 0 1 = cc in absurd (omega arith)
    go false q = cc

-- each member entry has n bytes
module _ {f : List ℕ} {k base members long first count i n : ℕ} {e : TypeEntry} {table : List Value} {ts : List Ty} (u : Upward f k e base members long table ts) (s : Spans members e first count) (wide : n ≡ long) (run : Result Ends Broken) (d : Reached f ts (base + n * first) i count run) where
  places : (at m : ℕ) → at + n * m ≡ at + member_length f * m
  places at m = ap (λ (x : ℕ). at + x * m) (wide ∙ u.long_is)

  members_make : {x : (Result Value Broken)} → 1 ≤ count → made_of long e.reference (and_then (members_at f ts (base + n * first) count) (λ ms. some (struct k ms))) ≡ x → x ≡ made_of long e.reference (struct_made f ts k e)
  members_make {x} l m =
      let named = s.named l in
      let within : first + count ≤ (trailer_of f).members = rw (← u.members_is) s.within in
      struct_members_lem long f ts k e e.reference first count x named.first_is named.count_is named.zeros within
      (from_first f ts long e.reference (base + n * first) count first k x m
      (places base first ∙ place_first f base first u.base_is))

  -- ---- one member more

  -- it lies within the file, and so do the fields that are read of it
  pub members_inside : i < count → base + n * first + n * i + 12 ≤ length f
  members_inside l =
      let least : 12 ≤ n = rw (wide, u.long_is) (length_least _) in
      let within : n * (first + count) ≤ n * members = mul-le-mul_left n s.within in
      let bytes : n * members ≡ long * members = ap (λ (x : ℕ). x * members) wide in
      omega (arith, u.inside, within, bytes, mul-add n first count, least, entry_within n l)

  module _ {m : MemberEntry} (l : i < count) (h : m ≡ member_entry_from f (base + n * first + n * i)) where
    here : m ≡ member_entry_from f (base + n * first + member_length f * i)
    here = h ∙ ap (member_entry_from f) (places (base + n * first) i)

    -- of a type that is not lower
    pub members_past : k ≤ m.type → (Err Rule) ≡ made_of long e.reference (struct_made f ts k e)
    members_past past = members_make (omega arith) (reached_past table long e.reference k run d u.lower l here past)

    module _ {r : ℕ} (type : r ≡ m.type) (low : r < k) {v : Value} (known : v ≡ value_at table r) where
      comes : Coming f ts (base + n * first) i count m v
      comes = rw known (coming table k r u.lower l here type low)

      pub members_meet : (ms : Members) × (t : Ty) × Meets run v ms t
      members_meet = (d.members, comes.type, reached_meets run d comes)

      -- what `step` ensures, of this member
      module _ {x : Result (Result Ends Broken) Broken} (stepped : (ms : Members) (t : Ty) → Meets run v ms t → x ≡ stepped_to (eqb (i + 1) count) ms t m) where
        as_stepped : x ≡ stepped_to (eqb (i + 1) count) d.members comes.type m
        as_stepped = stepped _ _ (reached_meets run d comes)

        pub members_rule : (b : Broken) → x ≡ Err b → Err b ≡ made_of long e.reference (struct_made f ts k e)
        members_rule b q =
            let rule : b ≡ Rule = only_rule _ _ _ _ b (sym q ∙ as_stepped) in
            rw rule (members_make (omega arith) (reached_rule run d comes long e.reference k (rw rule at (sym q ∙ as_stepped))))

        pub members_next : (p : Result Ends Broken) → x ≡ Ok p → Reached f ts (base + n * first) (i + 1) count p
        members_next p q = reached_next run d comes p (sym q ∙ as_stepped)

  -- ---- after the last

  module _ (last : i ≡ count) where
    pub members_close : 1 ≤ count → Closes run d.members
    members_close l =
        let w = s.within in
        let few = u.few in
        reached_closes run d last l (omega arith)

    -- what `finish` ensures, of these members
    pub members_made : {x : (Result Value Broken)} → e.kind ≡ struct_kind → (count ≡ 0 → x ≡ (Err Rule)) → (1 ≤ count → (j : ℕ) (ms : Members) → Closes run ms → count_of ms ≡ e.count → x ≡ verdict_on long e.reference (struct j ms)) → x ≡ made_of long e.reference (struct_made f ts k e)
    members_made {x} kind empty all = go (eqb count 0) refl
      where
        go : (b : Bool) → eqb count 0 ≡ b → x ≡ made_of long e.reference (struct_made f ts k e)
        go true p =
            let none : count ≡ 0 = eqb-true count 0 p in
            empty none ∙ s.empty kind none f ts k u.members_is
            ∙ ap (λ (x : ℕ). made_of x e.reference (struct_made f ts k e)) (sym u.long_is)
        go false p =
            let other : count ≡ 0 → ⊥ = eqb-false count 0 p in
            let there : 1 ≤ count = omega arith in
            let counted : count_of d.members ≡ e.count = d.counted ∙ last ∙ (s.named there).count_is in
            members_make there
            (reached_made run d long e.reference k last ∙ sym (all there k d.members (members_close there) counted))
