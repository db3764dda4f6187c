-- Each answer is a law of `ListingOf`, over what `check_trailer` and `fill` ensure.
use mathlib.Core.Path.{sym, ap, ◌∙◌}
use borrow.Author.Rules.{rules}
use Rattle.file.specs.Fields.{said_trailer}
use Rattle.layout_table.proofs.SaidTable.{trailer_refused, table_told, table_refused}
use Rattle.listing_file.proofs.ListingOf.{listing_long, listing_types, listing_refused}
use Rattle.listing_file.proofs.list.Goals as goal

pub returns-then-file-gt-INPUT_LIMIT : goal.returns-then-file-gt-INPUT_LIMIT
returns-then-file-gt-INPUT_LIMIT c = rw (listing_long c.args.file.now (search rules)) c.put_refused.ensures

pub put_entries-requires : goal.put_entries-requires
put_entries-requires c =
    let x = table_told _ _ _ c.fill.ensures _ _ c.in-Ok-fill.is (sym c.check_trailer.ensures ∙ ap said_trailer c.in-Ok.is) in
    record { room = search rules; entries = (_, x.0.ts, (listing_types _ (search rules) x.0 x.1).0) }

pub returns-in-Err : goal.returns-in-Err
returns-in-Err c =
    let bad = trailer_refused _ (sym c.check_trailer.ensures ∙ ap said_trailer c.in-Err.is) in
    rw (listing_refused _ c.in-Err.r (search rules) bad c.number.ensures c.place.ensures) c.put_refused-in-Err.ensures

pub returns-in-Ok-fill : goal.returns-in-Ok-fill
returns-in-Ok-fill c =
    let x = table_told _ _ _ c.fill.ensures _ _ c.in-Ok-fill.is (sym c.check_trailer.ensures ∙ ap said_trailer c.in-Ok.is) in
    let l = listing_types _ (search rules) x.0 x.1 in
    rw l.1 (c.put_entries.ensures _ x.0.ts l.0)

pub returns-in-Err-fill : goal.returns-in-Err-fill
returns-in-Err-fill c =
    let bad = table_refused _ _ _ c.fill.ensures _ c.in-Err-fill.is in
    rw (listing_refused _ c.in-Err-fill.r (search rules) bad c.number-in-Err-fill.ensures c.place-in-Err-fill.ensures) c.put_refused-in-Err-fill.ensures
