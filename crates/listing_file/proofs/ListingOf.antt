-- The listing (crates/wgsl, specs/Listing) as the table tells it.
--
-- In order: the line of a layout; the values of the entries; the turns of the loop that puts their lines; what the table's answer
-- tells.
-- Assumes nothing.
use Prim.Native.Nat.{ℕ, zero, suc, ◌+◌, ◌*◌, ◌%◌, ◌^◌, ◌<◌, ◌≤◌}
use mathlib.Core.Bool.{true}
use mathlib.Core.List.{List, [], ◌∷◌, ◌++◌}
use mathlib.Core.Option.{Option, none, some}
use mathlib.Core.Path.{◌≡◌, refl, sym, ◌∙◌}
use native.Mathlib.Nat.{add-zero}
use native.Mathlib.Numerals.{add-one}
use native.Mathlib.Omega.{arith}
use borrow.Author.Tests.{lt-ltb, le-ltb}
use lib.ListN.{length, drop, get_elem?}
use lib.Seq.{drop-length}
use Rattle.wgsl.specs.Types.{Ty, everywhere}
use Rattle.wgsl.specs.Size.{present, size_of, align_of, own_stride_of}
use Rattle.wgsl.specs.Said.{Said, good, refused}
use Rattle.wgsl.specs.File.{type_entry_at}
use Rattle.wgsl.specs.Rule.{is_well_formed, types_of}
use Rattle.wgsl.specs.Listing.{or_dash, column, entry_line, entry_lines, refused_line, listed, input_limit, listing_of}
use Rattle.wgsl.proofs.Accepted.{accepted_well_formed, refused_place}
use Rattle.wgsl.proofs.Entry.{size_positive, align_positive}
use Rattle.wgsl.proofs.Stride.{own_stride_positive}
use Rattle.said.specs.Refusal.{number_of, place_of}
use Rattle.said.specs.declared.refusal.Refusal.{Refusal}
use Rattle.file.specs.declared.trailer.Trailer.{Trailer}
use Rattle.file.specs.Members.{member_length}
use Rattle.layout_values.specs.Value.{value_of, value_at, values_of}
use Rattle.layout_values.proofs.ValuesOf.{table_at, own_reference}
use Rattle.layout_values.specs.declared.value.Value.{Value}
use Rattle.layout_table.proofs.SaidTable.{Taken}
use Rattle.puts.specs.Put.{Put}
use Rattle.listing_text.specs.Line.{marked, marked_column, line, heading}
use Rattle.listing_text.proofs.Lines.{marked_absent, marked_number}
use Rattle.puts.proofs.PutLaws.{put_then, put_length}
use Rattle.listing_file.specs.List.{Entries}
use Rattle.listing_file.proofs.ListingLength.{line_length, heading_length}

-- ---- the line of a layout

-- A number that is above 0 where it is present is told by its mark.
marked_present : (o : Option ℕ) → ((n : ℕ) → o ≡ some n → 1 ≤ n) → marked (present o) ≡ or_dash o
unfolding present or_dash
marked_present none h = marked_absent 0 refl
marked_present (some n) h = let l : 1 ≤ n = h n refl in marked_number n (λ z. omega arith)

line_is : (k long r stride : ℕ) (l : Value) (t : Ty) → l ≡ value_of long r t → everywhere is_well_formed t ≡ true → stride ≡ present (own_stride_of t) → line k l.size l.align stride ≡ entry_line k t
unfolding line marked_column entry_line column value_of
line_is k long r stride l t e w own =
    rw (
      e,
      own,
      marked_present (size_of t) (λ n h. omega (arith, size_positive t n w h)),
      marked_present (align_of t) (λ n h. align_positive t n w h),
      marked_present (own_stride_of t) (λ n h. own_stride_positive t n w h),
    )

-- ---- the values of the entries

-- Entry k is the first of those that are left.
next : (ts : List Ty) (k : ℕ) → k < length ts → (t : Ty) × (get_elem? ts k ≡ some t) × (drop k ts ≡ t ∷ drop (suc k) ts)
next [] k h = absurd (omega arith)
next (t ∷ ts) zero h = (t, refl, refl)
next (t ∷ ts) (suc k) h = next ts k (omega arith)

-- what `stride_of` ensures of the stride of a value
abbrev StrideOf : Value → ℕ → Type 0
StrideOf l stride = (t : Ty) → l ≡ value_of l.stride l.reference t → everywhere is_well_formed t ≡ true → stride ≡ present (own_stride_of t)

-- The lines that are left begin with that of entry k.
lines_next : {f : List ℕ} {table : List Value} {types : ℕ} {ts : List Ty} (k stride : ℕ) → Entries f table types ts → k < types → StrideOf (value_at table k) stride → line k (value_at table k).size (value_at table k).align stride ++ entry_lines (suc k) (drop (suc k) ts) ≡ entry_lines k (drop k ts)
unfolding entry_lines
lines_next {f} {table} {types} {ts} k stride e h own =
    let low : k < length ts = omega (arith, e.count) in
    let x = next ts k low in
    let is : value_at table k ≡ value_of (member_length f) (type_entry_at f k).reference x.0 = rw e.table_is (table_at f ts k x.0 x.1) in
    let well = e.well_formed k x.0 x.1 in
    rw (x.2, line_is k _ _ stride (value_at table k) x.0 is well (own x.0 (own_reference _ _ x.0 is) well))

-- ---- the turns of the loop: what is left to put, from here, gives what all lines give from the start

pub record Going (table : List Value) (types : ℕ) (out₀ : List ℕ) (at₀ : ℕ) (out : List ℕ) (at k : ℕ) : Type 0 where
  pub few : types ≤ 256
  pub turn : k ≤ types
  pub high : at ≤ 19 + 44 * k
  pub same : length out ≡ length out₀
  pub left : (f : List ℕ) (ts : List Ty) → Entries f table types ts → (r : ℕ) (after : List ℕ) → Put out at (entry_lines k (drop k ts)) r after → Put out₀ at₀ (entry_lines 0 ts) r after

pub going_none : {table : List Value} {types at : ℕ} {before out : List ℕ} → types ≤ 256 → Put before 0 (heading types) at out → Going table types out at out at 0
going_none {types = types} h p =
    record {
      few = h;
      turn = omega arith;
      high = omega (arith, p.next, heading_length types);
      same = refl;
      left = λ f ts e r after q. q;
    }

module _ {table : List Value} {types at₀ at k : ℕ} {out₀ out : List ℕ} (g : Going table types out₀ at₀ out at k) where
  pub going_more : {r stride : ℕ} {after : List ℕ} → k < types → StrideOf (value_at table k) stride → Put out at (line k (value_at table k).size (value_at table k).align stride) r after → Going table types out₀ at₀ after r (k + 1)
  going_more {stride = stride} h own p =
      record {
        few = g.few;
        turn = omega arith;
        high = omega (arith, g.high, p.next, line_length k (value_at table k).size (value_at table k).align stride);
        same = put_length p ∙ g.same;
        left = λ f ts is s end q.
            g.left f ts is s end (rw (← lines_next k stride is h own) (put_then p (rw (add-one k) at q)));
      }

  -- The heading and all lines.
  pub going_all : {before f : List ℕ} {ts : List Ty} → k ≡ types → Entries f table types ts → Put before 0 (heading types) at₀ out₀ → Put before 0 (listed (good ts)) at out
  unfolding heading listed entry_lines
  going_all {before} {f} {ts} h e p =
      let n : k ≡ length ts = omega (arith, e.count) in
      let none_left : Put out at (entry_lines k (drop k ts)) at out =
      rw (n, drop-length ts) (record { next = sym (add-zero at); bytes = refl }) in
      rw (← e.count) (put_then p (g.left f ts e at out none_left))

-- ---- what the table's answer tells

pub listing_long : (f : List ℕ) → 65_536 < length f → listing_of f ≡ refused_line 17 0
unfolding listing_of input_limit
listing_long f h = rw (lt-ltb 65_536 (length f) h)

listing_is : (f : List ℕ) {s : Said (List Ty)} → length f ≤ 65_536 → types_of f ≡ s → listing_of f ≡ listed s
unfolding listing_of input_limit
listing_is f h e = rw (le-ltb 65_536 (length f) h, e)

-- The lines of an accepted file.
pub listing_types : (f : List ℕ) {t : Trailer} {table : List Value} → length f ≤ 65_536 → (x : Taken f t) → table ≡ values_of f x.ts → Entries f table t.types x.ts × (listing_of f ≡ listed (good x.ts))
listing_types f short x same = (
  record {
    table_is = same;
    count = sym x.count;
    few = x.few;
    well_formed = accepted_well_formed f x.ts x.taken;
  },
  listing_is f short x.taken,
)

pub listing_refused : (f : List ℕ) {number place : ℕ} (r : Refusal) → length f ≤ 65_536 → types_of f ≡ refused (number_of r) (place_of r) → number ≡ number_of r → place ≡ place_of r % 2 ^ 32 → listing_of f ≡ refused_line number place
unfolding listed
listing_refused f r short e n p =
    let low : place_of r % 2 ^ 32 ≡ place_of r = omega (arith, refused_place f e) in
    listing_is f short e ∙ rw (n, p, low)
