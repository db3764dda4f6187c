-- Five puts, one after another; a number has at most ten signs and a column eleven, so that there is room for each.
use Rattle.wgsl.specs.Listing.{newline}
use Rattle.listing_text.specs.Line.{line}
use Rattle.puts.proofs.PutLaws.{put_then}
use Rattle.listing_text.proofs.put_line.Goals as goal

pub returns : goal.returns
unfolding line newline
returns c =
    let sizes = put_then (put_then c.put_decimal-a.ensures c.put_column-b.ensures) c.put_column-c.ensures in
    put_then (put_then sizes c.put_column-d.ensures) c.put.ensures
