-- Where a walk stands, and what a step leads to, by the table of an accepted file (crates/walk_shapes, specs/Basis).
--
-- In order: what a value says; a stand and its shape; what a step leads to; what a walk promises.
-- Definitions only. Assumes nothing.
use Rattle.std.specs.Prelude.{ℕ, ◌*◌, ◌<◌, ◌≤◌, ◌≡◌, true, cond, List, map, eqb, drop, Err, Ok, Result}
use Rattle.std.proofs.Math.Option.{some}
use Rattle.std.proofs.Math.ListN.{get_elem?}
use Rattle.wgsl.specs.Round.{limit}
use Rattle.wgsl.specs.Types.{Scalar, Ty, scalar, vector_kind, runtime_kind}
use Rattle.wgsl.specs.Size.{has_layout}
use Rattle.wgsl.specs.Said.{good, refused}
use Rattle.wgsl.specs.Place.{Shape, column, shape_of, span_of}
use Rattle.wgsl.specs.Path.{Step, step_of, enter, walk}
use Rattle.said.specs.Target.{reached}
use Rattle.layout_values.specs.Value.{value_at}
use Rattle.walk_shapes.specs.Basis.{Basis}
use Rattle.walk_path.specs.declared.enter.Stand.{Stand}
use Rattle.walk_path.specs.declared.enter.Stand.TheVariants.{Entry, Column}
use Rattle.said.specs.declared.refusal.Refusal.{Refusal}
use Rattle.walk_path.specs.declared.enter.NoStep.{NoStep}
use Rattle.walk_path.specs.declared.enter.NoStep.TheVariants.{NoIndex, NoMember, PastEnd}
use Rattle.said.specs.Answer.{said}
use Rattle.said.specs.declared.target.Target.{Target}
use Rattle.walk_path.specs.declared.enter.Inner.{Inner}
use Rattle.layout_values.specs.declared.value.Value.{Value}

-- ---- what a value says, where a runtime array has n elements

-- the bytes of entry e, which is no open struct
unfoldable pub size_at : List Value → ℕ → ℕ → ℕ
size_at table n e = cond (eqb (value_at table e).kind runtime_kind) (n * (value_at table e).stride) (value_at table e).size

-- the parts of entry e: a vector's scalars, a matrix's columns, an array's elements
unfoldable pub parts_at : List Value → ℕ → ℕ → ℕ
parts_at table n e = cond (eqb (value_at table e).kind runtime_kind) n (value_at table e).count

-- entry e has parts, number i among them
pub record Parted (table : List Value) (n e i : ℕ) : Type 0 where
  pub low : vector_kind ≤ (value_at table e).kind
  pub high : (value_at table e).kind ≤ runtime_kind
  pub inside : i < parts_at table n e

-- ---- a place and its shape

-- "A matrix column has no entry, so a place is either an entry or a column of rows and scalar."
pub data Stands (ts : List Ty) (n : ℕ) : Stand → Shape → Type 0 where
  at_entry : {e : ℕ} {t : Ty} → get_elem? ts e ≡ some t → has_layout t ≡ true → Stands ts n (Entry e) (shape_of n t)
  at_column : {r e : ℕ} {s : Scalar} → get_elem? ts e ≡ some (scalar s) → has_layout (scalar s) ≡ true → Stands ts n (Column r e) (column r s)

pub record Standing (f : List ℕ) (ts : List Ty) (ms : List ℕ) (table : List Value) (n : ℕ) (p : Stand) (x : Shape) : Type 0 where
  pub basis : Basis f ts ms table
  pub stands : Stands ts n p x
  pub within : span_of x ≤ limit

-- ---- what a step leads to

-- entering the shape x by the step s, wherever it stands in the path: a place, or 11, 12 or 13
unfoldable pub Enters : List Ty → ℕ → Result Inner NoStep → Shape → Step → Type 0
Enters ts n (Ok i) x s =
    (y : Shape) × Stands ts n i.stand y × (i.size ≡ span_of y) × ((j : ℕ) → enter j x s ≡ good (record { offset = i.offset; shape = y }))
Enters ts n (Err NoMember) x s = (j : ℕ) → enter j x s ≡ refused 11 j
Enters ts n (Err PastEnd) x s = (j : ℕ) → enter j x s ≡ refused 12 j
Enters ts n (Err NoIndex) x s = (j : ℕ) → enter j x s ≡ refused 13 j

-- ---- what a walk promises

-- from wherever it stands, in so many bytes, the steps from number k on lead to what r says
abbrev pub Walks : List ℕ → List Value → ℕ → Stand → ℕ → List ℕ → ℕ → ℕ → Result Target Refusal → Type 0
Walks ms table n p size path k offset r =
    (f : List ℕ) (ts : List Ty) (x : Shape) → Standing f ts ms table n p x → size ≡ span_of x → said r ≡ reached (walk k offset x (map step_of (drop k path)))
