-- A listing has at most 11,283 bytes, so that it ends inside the buffer.
use Rattle.std.proofs.Common.{rules}
use mathlib.Core.Path.{sym}
use lib.Seq.{length-take-le}
use Rattle.listing_file.proofs.ListingLength.{listing_inside}
use Rattle.listing.proofs.main.Goals as goal

pub slice_bounds-out-end : goal.slice_bounds-out-end
slice_bounds-out-end c = listing_inside _ (search rules) c.list-m.ensures

pub slice_bounds-write_all-end : goal.slice_bounds-write_all-end
slice_bounds-write_all-end c = sym (length-take-le _ _ (listing_inside _ (search rules) c.list-m.ensures))
