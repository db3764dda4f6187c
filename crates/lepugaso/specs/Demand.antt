-- The customer's demands 2 and 3 about the public calls: `write`, `read`, `view_at` and `set`, by their claims (specs/Claim).
--
-- In order: demand 2, on writing and reading; a path to one scalar; what a set did; what a read finds changed; demand 3.
-- Definitions only. Assumes nothing.
use Rattle.std.specs.Prelude.{ℕ, ◌+◌, ◌%◌, ◌<◌, ◌≤◌, true, List, ◌++◌, ◌⊎◌, ◌≡◌, length, get_or, take, drop, Err, Ok, Result}
use Rattle.std.proofs.lemmas.List.Edits.{sets}
use Rattle.wgsl.specs.Types.{Ty, is_open, is_scalar_kind}
use Rattle.wgsl.specs.Place.{extent_of, words_over, words_for, places, word_count, words_read}
use Rattle.wgsl.specs.Claim.{Outside, Apart, Uncovered, Holds, Stored, CanWrite}
use Rattle.wgsl.specs.Demand.{Given, Words}
use Rattle.said.specs.declared.refusal.Refusal.{Refusal}
use Rattle.said.specs.declared.target.Target.{Target}
use Rattle.lepugaso.specs.Claim.{Writes, Reads, Views, Sets}

-- ---- demand 2

-- `write` answered that it filled n bytes, and left b' in the buffer. An open type's array then has so many elements.
pub record Filled (f : List ℕ) (e : ℕ) (ws b : List ℕ) (n : ℕ) (b' : List ℕ) : Type 0 where
  pub type : Ty
  pub elements : ℕ
  pub stored : Stored f e b type
  pub some_elements : is_open type ≡ true → 1 ≤ elements
  pub count : length ws ≡ word_count elements type
  -- "Writing fills exactly the size"
  pub size_filled : n ≡ extent_of elements type
  pub inside : n ≤ length b
  pub length_same : length b' ≡ length b
  -- "values at their offsets"
  pub values_there : words_read (places elements type) b' ≡ ws
  -- "and zero elsewhere"
  pub zero_elsewhere : (i : ℕ) → i < n → Uncovered (places elements type) i → get_or b' i 0 ≡ 0
  -- 01: "later bytes stay"
  pub later_stay : (i : ℕ) → n ≤ i → get_or b' i 0 ≡ get_or b i 0
  -- "reading exactly the bytes written gives the same words"
  pub read_back : (vs : List ℕ) → length ws ≤ length vs → (r : Result ℕ Refusal) (vs' : List ℕ) → Reads f e (take n b') vs r vs' → (r ≡ Ok (length ws)) × (vs' ≡ ws ++ drop (length ws) vs)

-- Demand 2 of `write` and `read`, on any file, entry, words and buffer.
pub record TwoOnTheCode (f : List ℕ) (e : ℕ) (ws b : List ℕ) : Type 0 where
  -- a write is answered exactly if nothing that 01 refuses is there
  pub answered : (r : Result ℕ Refusal) (b' : List ℕ) → Writes f e ws b r b' → CanWrite f e ws b → (n : ℕ) × (r ≡ Ok n)
  pub only_then : (n : ℕ) (b' : List ℕ) → Writes f e ws b (Ok n) b' → CanWrite f e ws b
  -- and then fills the buffer as it should,
  pub filled : (n : ℕ) (b' : List ℕ) → Writes f e ws b (Ok n) b' → Filled f e ws b n b'
  -- or else leaves it as it was
  pub refused_same : (r : Refusal) (b' : List ℕ) → Writes f e ws b (Err r) b' → b' ≡ b

-- ---- a path to one scalar

-- `view_at` answers the target t for the path, and t is one scalar
pub record ToScalar (f : List ℕ) (e : ℕ) (b path : List ℕ) (t : Target) : Type 0 where
  pub views : Views f e path b (Ok t)
  pub scalar : is_scalar_kind t.scalar ≡ true

-- ---- set, and read again

-- words set by `set` at the path to t in the buffer b: what the call did
pub record IsSet (t : Target) (b : List ℕ) (r : Result ℕ Refusal) (b' : List ℕ) : Type 0 where
  pub not_refused : r ≡ Ok t.offset
  pub length_same : length b' ≡ length b
  pub others_stay : (i : ℕ) → Outside t.offset t.size i → get_or b' i 0 ≡ get_or b i 0

-- `read` answered r and gave `old` before a set of the words `new` at t, and answered q and gave `now` after it: what changed
pub record OneReplaced {f : List ℕ} {e : ℕ} {b : List ℕ} (g : Given f e b) (t : Target) (new : List ℕ) (r : Result ℕ Refusal) (old : List ℕ) (q : Result ℕ Refusal) (now : List ℕ) : Type 0 where
  pub count : ℕ
  pub answer_before : r ≡ Ok count
  pub answer_after : q ≡ Ok count
  pub position : ℕ
  pub position_inside : position + length new ≤ count
  pub position_is : take (length new) (drop position (places 0 g.type)) ≡ words_over (words_for t.size) t.size t.offset
  pub replaced : now ≡ sets old position new

-- ---- demand 3

-- "For any accepted table, any storable entry of fixed size and any buffer of at least that size (within 01's limit)": `Given`
pub record ThreeOnTheCode {f : List ℕ} {e : ℕ} {b : List ℕ} (g : Given f e b) : Type 0 where
  -- "every valid path to one scalar leads inside the size, at a multiple of the scalar's own size"
  pub inside : (path : List ℕ) (t : Target) → ToScalar f e b path t → (t.offset + t.size ≤ g.size) × (t.offset % t.size ≡ 0)
  -- "different paths share no byte" (`Words`: steps are numbers of 32 bits, as those of every slice of u32 are)
  pub apart : (p q : List ℕ) (t u : Target) → ToScalar f e b p t → ToScalar f e b q u → Words p → Words q → (p ≡ q) ⊎ Apart t.offset t.size u.offset u.size
  -- "setting a scalar with a word its type can hold is never refused and changes only its bytes"
  pub set_alone : (path : List ℕ) (t : Target) → ToScalar f e b path t → (new : List ℕ) → Holds t.size t.offset new → (r : Result ℕ Refusal) (b' : List ℕ) → Sets f e path new b r b' → IsSet t b r b'
  -- "reading the whole entry into enough words then gives the old words with that one replaced" (E6: "that scalar's one or two words")
  pub read_back : (path : List ℕ) (t : Target) → ToScalar f e b path t → (new : List ℕ) → Holds t.size t.offset new → (r : Result ℕ Refusal) (b' : List ℕ) → Sets f e path new b r b' → (ws : List ℕ) → word_count 0 g.type ≤ length ws → (p q : Result ℕ Refusal) (old now : List ℕ) → Reads f e b ws p old → Reads f e b' ws q now → OneReplaced g t new p old q now
