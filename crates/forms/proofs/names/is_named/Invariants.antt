use mathlib.Core.Bool.{true}
use mathlib.Core.Path.{◌≡◌}
use Rattle.wgsl.specs.Form.{nameless}
use Rattle.forms.proofs.names.is_named.Given as goal

abbrev pub invariant-loop-m : goal.invariant-loop-m
invariant-loop-m l = nameless l.f l.m ≡ true
