-- What the claims of the public calls say: a record for each call that the demands speak of, with its `ensures` word for word.
--
-- In order: write; read; view_at; set. That a caller of the compiled call learns just this is proofs/Claims.
-- Definitions only. Assumes nothing.
use Rattle.std.specs.Prelude.{ℕ, List, ◌≡◌, Result}
use Rattle.wgsl.specs.Call.{answer_of, contents_of, read_call, write_call, view_call, set_call}
use Rattle.said.specs.Target.{reached}
use Rattle.said.specs.declared.refusal.Refusal.{Refusal}
use Rattle.said.specs.Answer.{said}
use Rattle.said.specs.declared.target.Target.{Target}

-- `write` of the words ws as entry e of the file f into the buffer b answers r and leaves b' in the buffer
pub record Writes (f : List ℕ) (e : ℕ) (ws b : List ℕ) (r : Result ℕ Refusal) (b' : List ℕ) : Type 0 where
  pub answer : said r ≡ answer_of (write_call f e ws b)
  pub buffer : b' ≡ contents_of b (write_call f e ws b)

-- `read` of the buffer b into ws answers r and leaves ws' there
pub record Reads (f : List ℕ) (e : ℕ) (b ws : List ℕ) (r : Result ℕ Refusal) (ws' : List ℕ) : Type 0 where
  pub answer : said r ≡ answer_of (read_call f e b ws)
  pub words : ws' ≡ contents_of ws (read_call f e b ws)

-- `view_at` along a path answers r
pub record Views (f : List ℕ) (e : ℕ) (path b : List ℕ) (r : Result Target Refusal) : Type 0 where
  pub answer : said r ≡ reached (view_call f e path b)

-- `set` with the words ws answers r and leaves b' in the buffer
pub record Sets (f : List ℕ) (e : ℕ) (path ws b : List ℕ) (r : Result ℕ Refusal) (b' : List ℕ) : Type 0 where
  pub answer : said r ≡ answer_of (set_call f e path ws b)
  pub buffer : b' ≡ contents_of b (set_call f e path ws b)
