-- Each test is one law of `StructMade`.
use mathlib.Core.Bool.{not}
use mathlib.Core.Path.{ap}
use native.Mathlib.Omega.{arith}
use Rattle.layout_values.proofs.Unused.{denied}
use Rattle.layout_structs.proofs.StructMade.{struct_used, struct_past}
use Rattle.layout_structs.proofs.span_of.Goals as goal

pub returns-then-not-zeros : goal.returns-then-not-zeros
returns-then-not-zeros c =
    record {
      within = omega arith;
      named = λ l. absurd (omega arith);
      empty = λ e z f ts k m. struct_used _ f ts k _ (denied c.zeros.ensures (ap not c.if-not-zeros.true));
    }

pub returns-then-members-first : goal.returns-then-members-first
returns-then-members-first c =
    record {
      within = omega arith;
      named = λ l. absurd (omega arith);
      empty = λ e z f ts k m. struct_past _ f ts k _ (omega arith);
    }
