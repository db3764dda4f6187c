-- That the table and the member entries of a file describe a shape (crates/wgsl, specs/Place), and that there is room for its words: what
-- the walks over words ask.
--
-- In order: words of four bytes; parts that are runs; parts that are entries; members; entries; room; what a function over one member
-- promises.
-- Definitions only. Assumes nothing.
use Rattle.std.specs.Prelude.{ℕ, zero, suc, ◌+◌, ◌*◌, ◌<◌, ◌≤◌, ◌≡◌, ◌⊎◌, List, [], ◌∷◌, length}
use Rattle.wgsl.specs.Place.{Shape, parts, field, whole, span_of, Place, places_of}
use Rattle.wgsl.specs.Shapes.{shape_words}
use Rattle.wgsl.specs.Types.{struct_kind}
use Rattle.runs.specs.Run.{run_places, part_places}
use Rattle.runs.specs.declared.Parts.{Parts}
use Rattle.layout_values.specs.declared.value.Value.{Value}
use Rattle.layout_values.specs.Value.{value_at, words_in}
use Rattle.walk_trees.specs.Slot.{packed_as, part_width, Counted, Referring, member_at, slot_at, SlotAsks}

-- ---- words of four bytes

-- every place has four bytes, so that it holds any word
unfoldable pub AllWide : List Place → Type 0
AllWide [] = Unit {0}
AllWide (p ∷ ps) = (p.width ≡ 4) × AllWide ps

unfoldable pub Wide : Shape → Type 0
Wide x = (at : ℕ) → AllWide (places_of x at)

-- ---- parts

-- parts that are runs, of the shape x
pub record RunsOf (p : Parts) (x : Shape) : Type 0 where
  pub width : (p.width ≡ 2) ⊎ (p.width ≡ 4)
  pub fits : p.unit * p.width ≤ p.stride
  pub places_are : (at : ℕ) → places_of x at ≡ part_places p.count p.unit p.width p.stride at
  pub span_is : span_of x ≡ p.count * p.stride
  pub words_are : shape_words x ≡ p.count * p.unit

-- the parts that a value says, where their words have one width
abbrev pub said_parts : Value → Parts
said_parts l = record { count = l.count; unit = l.unit; width = l.narrow; stride = l.stride }

-- the words of each part lie one after the other
pub record Runs (table : List Value) (l : Value) (x : Shape) : Type 0 where
  pub referring : Referring table l
  pub narrow_is : part_width table l ≡ l.narrow
  pub runs_are : RunsOf (said_parts l) x

-- each part is the shape y of another entry
pub record Elements (table : List Value) (l : Value) (y : Shape) : Type 0 where
  pub referring : Referring table l
  pub no_run : part_width table l ≡ 0
  pub wide : (l.narrow ≡ 2 → ⊥) → Wide y
  pub fits : span_of y ≤ l.stride
  pub words_are : shape_words y ≡ l.unit

-- ---- members

-- the member at m of entry e, of the shape y, is placed where the one before it ended at `end`; `rest` are the members after it
pub record Member (ms : List ℕ) (table : List Value) (e m end : ℕ) (y rest : Shape) : Type 0 where
  pub slot_asks : SlotAsks ms table m end
  pub lower : (member_at ms m).type < e
  pub within : (slot_at ms table m end).start + span_of y ≤ span_of rest

-- ---- entries

-- entry e, of the shape x, has its value, which counts its words, and says if they lie one after the other and if one has two bytes
pub record Valued (table : List Value) (e : ℕ) (x : Shape) : Type 0 where
  pub inside : e < length table
  pub words_are : shape_words x ≡ words_in (value_at table e)
  pub counted : Counted (value_at table e)
  pub run_is : packed_as (value_at table e) ≡ 4 → (at : ℕ) → places_of x at ≡ run_places (words_in (value_at table e)) 4 at
  pub run_fits : packed_as (value_at table e) ≡ 4 → words_in (value_at table e) * 4 ≤ span_of x
  pub wide : ((value_at table e).narrow ≡ 2 → ⊥) → Wide x

mutual
  -- parts as the value l says have the shape x
  pub data Many (ms : List ℕ) (table : List Value) : Value → Shape → Type 0 where
    runs : {l : Value} {x : Shape} → Runs table l x → Many ms table l x
    each : {l : Value} {y : Shape} → Elements table l y → Tree ms table l.reference y → Many ms table l (parts l.count l.stride y)

  -- so many members of entry e from byte m on, where the one before them ended at `end`, have the shape x
  pub data Left (ms : List ℕ) (table : List Value) : ℕ → ℕ → ℕ → ℕ → Shape → Type 0 where
    none : {e m end z : ℕ} → Left ms table e zero m end (whole z)
    more : {e c m end : ℕ} {y rest : Shape} → Member ms table e m end y rest → Tree ms table (member_at ms m).type y → Left ms table e c (m + (value_at table e).stride) (slot_at ms table m end).end rest → Left ms table e (suc c) m end (field (slot_at ms table m end).start y rest)

  -- entry e has the shape x
  pub data Tree (ms : List ℕ) (table : List Value) : ℕ → Shape → Type 0 where
    many : {e : ℕ} {x : Shape} → Valued table e x → ((value_at table e).kind ≡ struct_kind → ⊥) → (part_width table (value_at table e) ≡ 0 → (value_at table e).reference < e) → Many ms table (value_at table e) x → Tree ms table e x
    members : {e : ℕ} {x : Shape} → Valued table e x → (value_at table e).kind ≡ struct_kind → Left ms table e (value_at table e).count ((value_at table e).reference * (value_at table e).stride) 0 x → Tree ms table e x

-- ---- room

-- the shape x from byte `at` and word `k` on lies inside so many bytes and words
pub record Room (x : Shape) (at bytes k words : ℕ) : Type 0 where
  pub bytes_there : at + span_of x ≤ bytes
  pub words_there : k + shape_words x ≤ words

-- so many shapes y, each a stride after the one before and `unit` words long
pub record EachRoom (y : Shape) (count unit stride at bytes k words : ℕ) : Type 0 where
  pub unit_is : shape_words y ≡ unit
  pub bytes_there : (i : ℕ) → i < count → at + i * stride + span_of y ≤ bytes
  pub words_there : k + count * unit ≤ words

-- the member at m, of the shape y, of a struct from byte `at` on, where the one before it ended at `end`
pub record MemberRoom (ms : List ℕ) (table : List Value) (m end : ℕ) (y : Shape) (at bytes k words : ℕ) : Type 0 where
  pub slot_asks : SlotAsks ms table m end
  pub tree : Tree ms table (member_at ms m).type y
  pub room : Room y (at + (slot_at ms table m end).start) bytes k words

-- the words of the shape x from word k on are there
pub record WordRoom (x : Shape) (k words : ℕ) : Type 0 where
  pub words_there : k + shape_words x ≤ words

-- ---- what a function over one member promises

-- P of the places of the member at m, of a struct from byte `at` on, where the one before it ended at `end`
abbrev pub OfMember : List ℕ → List Value → ℕ → ℕ → ℕ → (List Place → Type 0) → Type 0
OfMember ms table m end at P =
    (y : Shape) → Tree ms table (slot_at ms table m end).ty y → P (places_of y (at + (slot_at ms table m end).start))
