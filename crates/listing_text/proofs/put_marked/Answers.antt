-- Each answer is what the definition says of the number (`Lines`).
use Rattle.wgsl.specs.Listing.{dash}
use Rattle.puts.specs.Put.{Put}
use Rattle.listing_text.proofs.Lines.{marked_absent, marked_number}
use Rattle.listing_text.proofs.put_marked.Goals as goal

pub returns-then-n-eq0 : goal.returns-then-n-eq0
unfolding dash
returns-then-n-eq0 c =
    let t = c in
    let a = t.args in
    let p : Put a.out.now a.at dash _ _ = c.put.ensures in
    rw (marked_absent a.n t.if-n-eq0.true) p

pub returns : goal.returns
returns c =
    let t = c in
    rw (marked_number t.args.n t.if-n-eq0.false) c.put_decimal.ensures
