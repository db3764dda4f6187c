-- Each answer is a law of `PairRank`, at the fields that were read. The measure is the number of the first entry, which falls since an entry refers to lower ones only.
use mathlib.Core.Path.{sym, ◌∙◌}
use native.Mathlib.Omega.{arith}
use Rattle.convert_rank.proofs.PairRank.{first_inside, second_inside, pair_types, two_read, lower_pair, scalars_rank, kinds_other, arrays_rank, runtimes_rank, over_scalars_rank}
use Rattle.convert_rank.proofs.+entry_rank.Goals as goal
use Rattle.convert_rank.proofs.+entry_rank.Goals.{in-9+else-x-y-2, in-10-1}

pub entry_of-x-requires : goal.entry_of-x-requires
entry_of-x-requires t c = first_inside c.requires.1

pub entry_of-y-requires : goal.entry_of-y-requires
entry_of-y-requires t c = second_inside c.requires.1

pub returns-then-is_scalar : goal.returns-then-is_scalar
returns-then-is_scalar t c ts s u g p q =
    scalars_rank (two_read g p q c.entry_of-x.ensures c.entry_of-y.ensures) (grind arith) (grind arith) c.scalar_rank.ensures

pub returns-then-x-y : goal.returns-then-x-y
returns-then-x-y t c ts s u g p q =
    kinds_other (two_read g p q c.entry_of-x.ensures c.entry_of-y.ensures) (sym c.is_scalar.ensures ∙ c.if-is_scalar.false) c.if-x-y.true

pub entry_of-requires : goal.entry_of-requires
entry_of-requires t c =
    let p = c.requires.1 in
    let (s, u, m, n) = pair_types p in
    first_inside (lower_pair (two_read p.accepted m n c.entry_of-x.ensures c.entry_of-y.ensures) c.if-x-y.false c.wide-p.ensures.0 c.wide-q.ensures.0 p
    (sym c.is_scalar.ensures ∙ c.if-is_scalar.false) (λ e. omega (arith, e))).1

pub entry_of-requires-in_default : goal.entry_of-requires-in_default
entry_of-requires-in_default t c =
    let p = c.requires.1 in
    let (s, u, m, n) = pair_types p in
    second_inside (lower_pair (two_read p.accepted m n c.entry_of-x.ensures c.entry_of-y.ensures) c.if-x-y.false c.wide-p.ensures.0 c.wide-q.ensures.0 p
    (sym c.is_scalar.ensures ∙ c.if-is_scalar.false) (λ e. omega (arith, e))).1

pub entry_rank-requires : goal.entry_rank-requires
entry_rank-requires t c =
    let p = c.requires.1 in
    let (s, u, m, n) = pair_types p in
    let (low, q) = lower_pair (two_read p.accepted m n c.entry_of-x.ensures c.entry_of-y.ensures) c.if-x-y.false c.wide-p.ensures.0 c.wide-q.ensures.0 p
    (sym c.is_scalar.ensures ∙ c.if-is_scalar.false) (λ e. elim c.in-9-2-1.branch [ in-9+else-x-y-2 w ↦ omega (arith, e) | in-10-1 w ↦ omega (arith, e) ]) in
    (omega (arith, low, c.decreases), (_, q))

pub returns-in_default : goal.returns-in_default
returns-in_default t c ts s u g p q =
    over_scalars_rank (two_read g p q c.entry_of-x.ensures c.entry_of-y.ensures) c.if-x-y.false c.wide-p.ensures.0 c.wide-q.ensures.0
    c.entry_of.ensures c.entry_of-in_default.ensures (sym c.is_scalar.ensures ∙ c.if-is_scalar.false)
    (λ e. omega (arith, e)) (λ e. omega (arith, e)) (λ e. omega (arith, e)) c.over_scalar_rank.ensures

pub returns-in-9-2 : goal.returns-in-9-2
returns-in-9-2 t c ts s u g p q =
    let two = two_read g p q c.entry_of-x.ensures c.entry_of-y.ensures in
    elim c.in-9-2-1.branch [
      | in-9+else-x-y-2 w ↦ arrays_rank two c.if-x-y.false c.wide-p.ensures.0 c.wide-q.ensures.0 (omega arith) (omega arith) (λ v v'. c.entry_rank.ensures ts v v' g)
      | in-10-1 w ↦ runtimes_rank two c.if-x-y.false c.wide-p.ensures.0 c.wide-q.ensures.0 (omega arith) (λ v v'. c.entry_rank.ensures ts v v' g)
    ]
