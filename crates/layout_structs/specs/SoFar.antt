-- What the members so far of a struct come to, in the words of crates/wgsl.
--
-- In order: one member more; where members end and what they hold; the verdict on them so far; what the code's functions ask: members
-- that more may follow, one more that joins them, all members of a struct; where member entries lie; the members
-- that an entry names; the lower entries.
-- Definitions only. Assumes nothing.
use Rattle.file.specs.Members.{member_length}
use Rattle.std.specs.Prelude.{ℕ, ◌+◌, ◌*◌, ◌≤◌, ◌≡◌, Bool, true, false, cond, ◌&&◌, List, [], ◌∷◌, length, take, Err, Ok, Result}
use Rattle.std.proofs.Math.Option.{Option, some}
use Rattle.std.proofs.Math.ListN.{get_elem?}
use Rattle.wgsl.specs.Types.{Ty, Members, no_more, member, ends_in_runtime, everywhere, every_member, struct_kind}
use Rattle.wgsl.specs.Size.{present, members_align, members_end, offsets_of, within_limits}
use Rattle.wgsl.specs.File.{Trailer, trailer_of, type_entry_length, member_entry_length, TypeEntry, MemberEntry, given_size, given_align, rest_is_zero, most_types, most_members}
use Rattle.wgsl.specs.Rule.{unused, struct_made, count_of, member_allowed, members_allowed, given_size_fits, given_align_fits, members_given_fit, is_well_formed}
use Rattle.layout_values.specs.declared.value.Value.{Value}
use Rattle.layout_values.specs.Value.{fixed_words, narrowest, value_of, values_from, made_of}
use Rattle.layout_structs.specs.declared.Ends.{Ends}
use Rattle.layout_values.specs.declared.value.Broken.{Broken}
use Rattle.layout_values.specs.declared.value.Broken.TheVariants.{Given, Large, Rule}

-- members, and one more after them
unfoldable pub appended : Members → Ty → Option ℕ → Option ℕ → Members
appended no_more t size align = member t size align no_more
appended (member u size' align' ms) t size align = member u size' align' (appended ms t size align)

unfoldable pub words_of_members : Members → ℕ
words_of_members no_more = 0
words_of_members (member t size align ms) = fixed_words t + words_of_members ms

unfoldable pub ends_of : Members → Ends
ends_of ms =
    record {
      end = present (members_end (some 0) ms);
      align = present (members_align ms);
      words = words_of_members ms;
      opens = ends_in_runtime false ms;
      narrow = narrowest ms;
    }

-- a struct with the entry e, of so many bytes, whose members end as p says and have entries of `long` bytes
unfoldable pub struct_of : ℕ → TypeEntry → Ends → ℕ → Value
struct_of long e p size =
    record {
      kind = struct_kind;
      narrow = p.narrow;
      reference = e.reference;
      count = e.count;
      unit = p.words;
      stride = long;
      size = size;
      align = p.align;
    }

-- every offset, and the end, is within the limit
unfoldable pub members_fit : Members → Bool
members_fit ms = within_limits (members_end (some 0) ms ∷ offsets_of (some 0) ms)

-- 6 before 7
unfoldable pub so_far : Members → Result Ends Broken
so_far ms = cond (members_given_fit ms) (cond (members_fit ms) (Ok (ends_of ms)) (Err Large)) (Err Given)

-- members that are no runtime arrays, so that more may follow
unfoldable pub all_sized : Members → Bool
all_sized no_more = true
all_sized (member t size align ms) = member_allowed false t && all_sized ms

-- members that passed rule 5 so far, and that more may follow
pub record Going (ms : Members) : Type 0 where
  pub sized : all_sized ms ≡ true
  pub well_formed : every_member is_well_formed ms ≡ true

-- members, and one more of a member entry
abbrev pub followed : Members → Ty → MemberEntry → Members
followed ms t m = appended ms t (given_size m) (given_align m)

-- members that end as p says and passed 6 and 7; and one more of type t, whose value is l, that passes 5 and 6
pub record Joins (p : Ends) (l : Value) (m : MemberEntry) (ms : Members) (t : Ty) : Type 0 where
  pub ends : p ≡ ends_of ms
  pub layout : l ≡ value_of l.stride l.reference t
  pub going : Going ms
  pub given : members_given_fit ms ≡ true
  pub fits : members_fit ms ≡ true
  pub well_formed : everywhere is_well_formed t ≡ true
  pub allowed : member_allowed true t ≡ true
  pub size_fits : given_size_fits t (given_size m) ≡ true
  pub align_fits : given_align_fits t (given_align m) ≡ true

-- the verdict on members is `past`, and one more of type t, whose value is l, comes
pub record Meets (run : Result Ends Broken) (l : Value) (ms : Members) (t : Ty) : Type 0 where
  pub verdict : run ≡ so_far ms
  pub layout : l ≡ value_of l.stride l.reference t
  pub going : Going ms
  pub well_formed : everywhere is_well_formed t ≡ true

-- what one more member comes to: 5, or the verdict on all
unfoldable pub stepped_to : Bool → Members → Ty → MemberEntry → Result (Result Ends Broken) Broken
stepped_to last ms t m = cond (rest_is_zero m && member_allowed last t) (Ok (so_far (followed ms t m))) (Err Rule)

-- all members of a struct, which passed 5
pub record Complete (ms : Members) : Type 0 where
  pub some_there : 1 ≤ count_of ms
  pub few : count_of ms ≤ most_members
  pub allowed : members_allowed ms ≡ true
  pub well_formed : every_member is_well_formed ms ≡ true

-- .. and 6 and 7, and end as p says
pub record Ended (p : Ends) (ms : Members) : Type 0 where
  pub ends : p ≡ ends_of ms
  pub complete : Complete ms
  pub given : members_given_fit ms ≡ true
  pub fits : members_fit ms ≡ true

pub record Closes (run : Result Ends Broken) (ms : Members) : Type 0 where
  pub verdict : run ≡ so_far ms
  pub complete : Complete ms

-- the byte where member entry m of a file begins
unfoldable pub member_place : List ℕ → ℕ → ℕ
member_place f m =
    let r : Trailer = trailer_of f in
    r.start + type_entry_length * r.types + member_entry_length r.form * m

-- the members that a struct's entry names
pub record Named (e : TypeEntry) (first count : ℕ) : Type 0 where
  pub kind : e.kind ≡ struct_kind
  pub zeros : unused (e.columns ∷ e.rows ∷ 0 ∷ 0 ∷ []) ≡ true
  pub first_is : first ≡ e.reference
  pub count_is : count ≡ e.count

-- .. all within M; or none, where the entry is no struct's or rule 5 refuses it
pub record Spans (members : ℕ) (e : TypeEntry) (first count : ℕ) : Type 0 where
  pub within : first + count ≤ members
  pub named : 1 ≤ count → Named e first count
  pub empty : e.kind ≡ struct_kind → count ≡ 0 → (f : List ℕ) (ts : List Ty) (k : ℕ) → members ≡ (trailer_of f).members → (Err Rule) ≡ made_of (member_length f) e.reference (struct_made f ts k e)

-- the first entries of the table hold the values of these types of a file, which its rules leave
pub record Holds (f : List ℕ) (table : List Value) (ts : List Ty) : Type 0 where
  pub first : take (length ts) table ≡ values_from f 0 ts
  pub well_formed : (k : ℕ) (t : Ty) → get_elem? ts k ≡ some t → everywhere is_well_formed t ≡ true

-- the table holds the values of the k lower entries, whose types are ts
pub record Lower (f : List ℕ) (table : List Value) (k : ℕ) (ts : List Ty) : Type 0 where
  pub holds : Holds f table ts
  pub count : length ts ≡ k
  pub few : k ≤ most_types
