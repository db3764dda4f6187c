-- How long the texts of a listing are (crates/wgsl, specs/Listing; crates/listing_text, specs/Put).
--
-- In order: lines; a whole listing.
-- Assumes nothing.
use Prim.Native.Nat.{ℕ, suc, ◌*◌, ◌≤◌}
use mathlib.Core.Bool.{Bool, true, false, cond}
use mathlib.Core.List.{List, [], ◌∷◌, ◌++◌}
use mathlib.Core.Option.{Option, none, some}
use mathlib.Core.Path.{◌≡◌, refl}
use native.Mathlib.Omega.{arith}
use lib.Dec.{ltb}
use lib.ListN.{length, length-append}
use Rattle.wgsl.specs.Types.{Ty}
use Rattle.wgsl.specs.Size.{size_of, align_of, own_stride_of}
use Rattle.wgsl.specs.Said.{Said, good, refused}
use Rattle.wgsl.specs.Rule.{types_of}
use Rattle.wgsl.specs.Listing.{entries_text, refused_text, at_text, space, newline, dash, decimal, or_dash, column, entry_line, entry_lines, has_place, refused_line, listed, input_limit, listing_of}
use Rattle.wgsl.proofs.Accepted.{accepted}
use Rattle.puts.specs.Put.{Put}
use Rattle.listing_text.specs.Line.{line, heading}
use Rattle.listing_text.proofs.Decimal.{decimal_length}
use Rattle.listing_text.proofs.Lines.{column_length as marked_length}
use Rattle.puts.proofs.PutLaws.{put_length}

-- ---- lines

or_dash_length : (o : Option ℕ) → length (or_dash o) ≤ 10
unfolding or_dash dash
or_dash_length none = omega arith
or_dash_length (some n) = decimal_length n

column_length : (o : Option ℕ) → length (column o) ≤ 11
unfolding column space
column_length o = omega (arith, or_dash_length o)

-- a number and three texts of at most eleven signs
columns_length : (k : ℕ) (x y z : List ℕ) → length x ≤ 11 → length y ≤ 11 → length z ≤ 11 → length (decimal k ++ x ++ y ++ z ++ newline) ≤ 44
unfolding newline
columns_length k x y z p q r = simp length-append (omega (arith, decimal_length k))

pub line_length : (k size align stride : ℕ) → length (line k size align stride) ≤ 44
unfolding line
line_length k size align stride = columns_length k _ _ _ (marked_length size) (marked_length align) (marked_length stride)

pub heading_length : (types : ℕ) → length (heading types) ≤ 19
unfolding heading entries_text newline
heading_length types = simp length-append (omega (arith, decimal_length types))

entry_lines_length : (k : ℕ) (ts : List Ty) → length (entry_lines k ts) ≤ 44 * length ts
unfolding entry_lines entry_line
entry_lines_length k [] = omega arith
entry_lines_length k (t ∷ ts) =
    let size = column (size_of t) in
    let align = column (align_of t) in
    let stride = column (own_stride_of t) in
    let l =
    columns_length k size align stride (column_length (size_of t)) (column_length (align_of t)) (column_length (own_stride_of t)) in
    rw (length-append (entry_line k t) (entry_lines (suc k) ts)) (omega (arith, entry_lines_length (suc k) ts))

refused_line_length : (number place : ℕ) → length (refused_line number place) ≤ 33
unfolding refused_line refused_text at_text newline
refused_line_length number place =
    simp length-append (omega (arith, decimal_length number, told (has_place number)))
  where
    told : (b : Bool) → length (cond b (at_text ++ decimal place) []) ≤ 14
    told true = simp length-append (omega (arith, decimal_length place))
    told false = omega arith

-- ---- a whole listing

listed_length : (f : List ℕ) (s : Said (List Ty)) → types_of f ≡ s → length (listed s) ≤ 11283
unfolding listed heading
listed_length f (good ts) e =
    let x = accepted f ts e in
    rw (length-append (heading (length ts)) (entry_lines 0 ts))
    (omega (arith, heading_length (length ts), entry_lines_length 0 ts))
listed_length f (refused number place) e = omega (arith, refused_line_length number place)

listing_length : (f : List ℕ) → length (listing_of f) ≤ 11283
unfolding listing_of
listing_length f = go (ltb input_limit (length f))
  where
    go : (b : Bool) → length (cond b (refused_line 17 0) (listed (types_of f))) ≤ 11283
    go true = omega (arith, refused_line_length 17 0)
    go false = listed_length f (types_of f) refl

-- It ends inside a buffer that has room for the longest.
pub listing_inside : {b after : List ℕ} {r : ℕ} (f : List ℕ) → 11283 ≤ length b → Put b 0 (listing_of f) r after → r ≤ length after
listing_inside f h p = omega (arith, p.next, listing_length f, put_length p)
