use Rattle.listing_file.proofs.ListingOf.{Going}
use Rattle.listing_file.proofs.put_entries.Given as goal

abbrev pub invariant-loop-k : goal.invariant-loop-k
invariant-loop-k l = Going l.table l.types l.initial.out l.initial.at l.out l.at l.k
