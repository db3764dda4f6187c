-- What a caller of a public call learns is its claim (specs/Claim): `Learnt` is what the prover makes of the contract in the source, and
-- hands to every caller's proof.
--
-- In order: write; read; view_at; set.
-- Assumes nothing.
use Rattle.std.specs.Prelude.{Result, ℕ}
use Prim.Native.Nat.{ℕ}
use mathlib.Core.List.{List}
use contract.Lifetimes.{Lfts}
use denote.Bor.{Bor}
use denote.Ref.{MutBor, at_last}
use Rattle.words.proofs.reading.read.Reads as reading
use Rattle.words.proofs.writing.write.Reads as writing
use Rattle.paths.proofs.view.view_at.Reads as viewing
use Rattle.paths.proofs.set.set.Reads as setting
use Rattle.lepugaso.specs.Claim.{Writes, Reads, Views, Sets}
use Rattle.said.specs.declared.refusal.Refusal.{Refusal}
use Rattle.said.specs.declared.target.Target.{Target}

pub write_learnt : (κs : Lfts 3) (file words : Bor (List ℕ)) (buf : MutBor (List ℕ)) (e : ℕ) (r : Result ℕ Refusal) (b' : List ℕ) → writing.Learnt κs (file, (e, (words, (buf, tt)))) r (file, (e, (words, (at_last buf b', tt)))) → Writes file.now e words.now buf.now r b'
write_learnt κs file words buf e r b' h = record { answer = h.0; buffer = h.1 }

pub read_learnt : (κs : Lfts 3) (file buf : Bor (List ℕ)) (words : MutBor (List ℕ)) (e : ℕ) (r : Result ℕ Refusal) (ws' : List ℕ) → reading.Learnt κs (file, (e, (buf, (words, tt)))) r (file, (e, (buf, (at_last words ws', tt)))) → Reads file.now e buf.now words.now r ws'
read_learnt κs file buf words e r ws' h = record { answer = h.0; words = h.1 }

pub view_learnt : (κs : Lfts 3) (file path buf : Bor (List ℕ)) (e : ℕ) (r : Result Target Refusal) → viewing.Learnt κs (file, (e, (path, (buf, tt)))) r (file, (e, (path, (buf, tt)))) → Views file.now e path.now buf.now r
view_learnt κs file path buf e r h = record { answer = h }

pub set_learnt : (κs : Lfts 4) (file path words : Bor (List ℕ)) (buf : MutBor (List ℕ)) (e : ℕ) (r : Result ℕ Refusal) (b' : List ℕ) → setting.Learnt κs (file, (e, (path, (words, (buf, tt))))) r (file, (e, (path, (words, (at_last buf b', tt))))) → Sets file.now e path.now words.now buf.now r b'
set_learnt κs file path words buf e r b' h = record { answer = h.0; buffer = h.1 }
