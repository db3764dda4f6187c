-- The loop's invariant: the lowest told of all is the lower of `low`, the lowest so far, and that of the members left, from number i on.
use Prim.Native.Nat.{◌-◌}
use mathlib.Core.Path.{ap}
use native.Mathlib.Numerals.{unary_clauses}
use native.Mathlib.Omega.{arith}
use Rattle.wgsl.specs.File.{MemberEntry}
use Rattle.uniform.proofs.Among.{next_inside, rest_inside, among_first, among_on, among_last}
use Rattle.uniform.proofs.lowest_member.Goals as goal

pub loop-i-init : goal.loop-i-init
loop-i-init c = simp unary_clauses (c.requires, omega arith, among_first _ _)

pub overflow_add-first : goal.overflow_add-first
overflow_add-first c = record { fits = omega (arith, (next_inside _ _ _ _ _ c.loop-i.i c.loop-i-test.true c.loop-i.invariant.0).0, c.well_formed.0.0) }

pub member_at-ty-requires : goal.member_at-ty-requires
member_at-ty-requires c = (next_inside _ _ _ _ _ c.loop-i.i c.loop-i-test.true c.loop-i.invariant.0).0

pub bounds-told-ty : goal.bounds-told-ty
bounds-told-ty c =
    let type = ap (λ (x : MemberEntry). x.type) c.member_at-ty.ensures in
    omega (arith, type, (next_inside _ _ _ _ _ c.loop-i.i c.loop-i-test.true c.loop-i.invariant.0).1)

pub loop-i-preserved : goal.loop-i-preserved
loop-i-preserved c = (
  rest_inside _ _ _ _ _ c.loop-i.i c.loop-i-test.true c.loop-i.invariant.0,
  omega (arith, c.min-low.ensures, c.loop-i.invariant.1),
  among_on _ _ _ _ _ c.loop-i.i c.loop-i.low _ c.loop-i-test.true (ap (λ (x : MemberEntry). x.type) c.member_at-ty.ensures) (omega (arith, c.min-low.ensures)) c.loop-i.invariant.2,
)

pub returns : goal.returns
returns c = among_last _ _ _ _ (c.args.l.count - c.loop-i.i) _ _ (omega arith) c.loop-i.invariant.1 c.loop-i.invariant.2
