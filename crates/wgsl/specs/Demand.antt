-- The customer's demand 3, over the definitions of the calls.
--
-- In order: what it assumes; a path to one scalar; a set that is read back; the demand; the one path to a place.
-- Not here: the demand about the code (crates/lepugaso, specs/Demand).
-- Definitions only. Assumes nothing.
use Rattle.std.specs.Prelude.{ℕ, ◌+◌, ◌%◌, ◌^◌, ◌<◌, ◌≤◌, true, ◌⊎◌, ◌≡◌, length, get_or, take, drop}
use mathlib.Core.List.{List, [], ◌∷◌, Memᴰ}
use Rattle.std.proofs.Math.Option.{some}
use Rattle.std.proofs.lemmas.List.Edits.{sets}
use Rattle.wgsl.specs.Round.{limit}
use Rattle.wgsl.specs.Types.{Scalar, Ty}
use Rattle.wgsl.specs.Size.{present, width_of, size_of, is_storable}
use Rattle.wgsl.specs.Said.{good}
use Rattle.wgsl.specs.Place.{one, Place, word_places, places, word_count}
use Rattle.wgsl.specs.Call.{entry_of, read_call, view_call, set_call}
use Rattle.wgsl.specs.Claim.{Outside, Apart, Holds}

-- "For any accepted table, any storable entry of fixed size and any buffer of at least that size (within 01's limit)"
pub record Given (f : List ℕ) (e : ℕ) (b : List ℕ) : Type 0 where
  pub type : Ty
  pub size : ℕ
  pub entry : entry_of f e ≡ good type
  pub storable : is_storable type ≡ true
  pub sized : size_of type ≡ some size
  pub room : size ≤ length b
  pub within : length b ≤ limit

-- The path leads to one scalar, s, at the offset a.
pub record Leading (f : List ℕ) (e : ℕ) (b path : List ℕ) (a : ℕ) (s : Scalar) : Type 0 where
  pub leads : view_call f e path b ≡ good (record { offset = a; shape = one s })

-- every number of the list has 32 bits
unfoldable pub Words : List ℕ → Type 0
Words [] = Unit {0}
Words (w ∷ ws) = (w < 2 ^ 32) × Words ws

-- The words `new` are set at a path to the scalar s at the offset a: the bytes outside that scalar stay, and a read into ws gives what it
-- gave before, but `new` from the scalar's position on ("Demand 3 then replaces that scalar's one or two words", E6).
pub record SetThenRead {f : List ℕ} {e : ℕ} {b : List ℕ} (g : Given f e b) (path : List ℕ) (a : ℕ) (s : Scalar) (new ws : List ℕ) : Type 0 where
  pub b' : List ℕ
  pub set_is : set_call f e path new b ≡ good (record { value = a; contents = b' })
  pub length_same : length b' ≡ length b
  pub others_stay : (i : ℕ) → Outside a (present (width_of s)) i → get_or b' i 0 ≡ get_or b i 0
  pub count : ℕ
  pub old : List ℕ
  pub read_before : read_call f e b ws ≡ good (record { value = count; contents = old })
  pub position : ℕ
  pub position_inside : position + length new ≤ count
  pub position_is : take (length new) (drop position (places 0 g.type)) ≡ word_places s a
  pub read_after : read_call f e b' ws ≡ good (record { value = count; contents = sets old position new })

-- What the demand asks of an entry and a buffer, in its order.
pub record DemandThree {f : List ℕ} {e : ℕ} {b : List ℕ} (g : Given f e b) : Type 0 where
  -- "every valid path to one scalar leads inside the size, at a multiple of the scalar's own size"
  pub inside : (path : List ℕ) (a : ℕ) (s : Scalar) → Leading f e b path a s → (a + present (width_of s) ≤ g.size) × (a % present (width_of s) ≡ 0)
  -- "different paths share no byte"
  pub apart : (p q : List ℕ) (a c : ℕ) (s u : Scalar) → Leading f e b p a s → Leading f e b q c u → Words p → Words q → (p ≡ q) ⊎ Apart a (present (width_of s)) c (present (width_of u))
  -- "setting a scalar with a word its type can hold is never refused and changes only its bytes; reading the whole entry into enough
  -- words then gives the old words with that one replaced"
  pub set_read : (path : List ℕ) (a : ℕ) (s : Scalar) → Leading f e b path a s → (new : List ℕ) → Holds (present (width_of s)) a new → (ws : List ℕ) → word_count 0 g.type ≤ length ws → SetThenRead g path a s new ws

-- A path, as numbers of 32 bits, that leads to the scalar one of whose words lies at the place p, and the only one that does.
pub record OnePath {f : List ℕ} {e : ℕ} {b : List ℕ} (g : Given f e b) (p : Place) : Type 0 where
  pub path : List ℕ
  pub scalar_is : Scalar
  pub numbers : Words path
  pub scalar_lies_at : ℕ
  pub leads : Leading f e b path scalar_lies_at scalar_is
  pub one_of_its : Memᴰ p (word_places scalar_is scalar_lies_at)
  pub only : (q : List ℕ) (c : ℕ) (u : Scalar) → Words q → Leading f e b q c u → Memᴰ p (word_places u c) → q ≡ path
