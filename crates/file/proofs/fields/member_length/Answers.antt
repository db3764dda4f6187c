-- By the form.
use native.Mathlib.Omega.{arith}
use borrow.Author.Tests.{eq-eqb, ne_eqb}
use Rattle.wgsl.specs.File.{member_entry_length}
use Rattle.file.proofs.fields.member_length.Goals as goal

pub returns-then-form-eq2 : goal.returns-then-form-eq2
unfolding member_entry_length
returns-then-form-eq2 c = (rw (eq-eqb _ 2 c.if-form-eq2.true), omega arith)

pub returns : goal.returns
unfolding member_entry_length
returns c = (rw (ne_eqb _ 2 c.if-form-eq2.false), omega arith)
