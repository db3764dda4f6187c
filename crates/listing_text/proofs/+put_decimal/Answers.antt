-- The measure is the number: a tenth of it is put first, in at most nine digits, then its last digit.
use Prim.Native.Nat.{◌/◌}
use native.Mathlib.Omega.{arith}
use Rattle.listing_text.proofs.Decimal.{decimal_length_nine}
use Rattle.listing_text.proofs.PutDecimal.{put_digit, put_last}
use Rattle.listing_text.proofs.+put_decimal.Goals as goal

pub returns-then-n-lt10 : goal.returns-then-n-lt10
returns-then-n-lt10 t c =
    let a = c.args in
    put_digit a.out.now a.at a.n c.if-n-lt10.true

pub bounds-out-next : goal.bounds-out-next
bounds-out-next t c =
    let n = c.args.n in
    omega (arith, decimal_length_nine (n / 10) (omega arith))

pub overflow_add-result-2 : goal.overflow_add-result-2
overflow_add-result-2 t c =
    let n = c.args.n in
    omega (arith, decimal_length_nine (n / 10) (omega arith))

pub returns : goal.returns
returns t c =
    let s = c in
    put_last s.args.n (omega arith) s.ranges.n.fits c.put_decimal-next.ensures
