-- Three puts, one after another; a number has at most ten digits.
use Rattle.wgsl.specs.Listing.{entries_text, newline}
use Rattle.listing_text.specs.Line.{heading}
use Rattle.puts.proofs.PutLaws.{put_then}
use Rattle.listing_text.proofs.put_heading.Goals as goal

pub returns : goal.returns
unfolding heading entries_text newline
returns c = put_then (put_then c.put-a.ensures c.put_decimal-b.ensures) c.put.ensures
