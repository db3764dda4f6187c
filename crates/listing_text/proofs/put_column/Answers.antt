-- Two puts, one after another.
use Rattle.wgsl.specs.Listing.{space}
use Rattle.listing_text.specs.Line.{marked_column}
use Rattle.puts.proofs.PutLaws.{put_then}
use Rattle.listing_text.proofs.put_column.Goals as goal

pub returns : goal.returns
unfolding marked_column space
returns c = put_then c.put-a.ensures c.put_marked.ensures
