-- The puts, one after another, are the line that the number asks (`Lines`); a number has at most ten digits.
use mathlib.Core.Path.{sym, ◌∙◌}
use Rattle.wgsl.specs.Listing.{refused_text, at_text, newline}
use Rattle.listing_text.proofs.Lines.{refused_line_plain, refused_line_place}
use Rattle.puts.proofs.PutLaws.{put_then}
use Rattle.listing_text.proofs.put_refused.Goals as goal

pub returns-then-has_place : goal.returns-then-has_place
unfolding refused_text at_text newline
returns-then-has_place c =
    rw (refused_line_place c.args.number c.args.place (sym c.has_place.ensures ∙ c.if-has_place.true))
    (put_then
    (put_then (put_then c.put-a.ensures c.put_decimal-b.ensures)
    (put_then c.put-c.ensures c.put_decimal-d.ensures))
    c.put.ensures)

pub returns : goal.returns
unfolding refused_text newline
returns c =
    rw (refused_line_plain c.args.number c.args.place (sym c.has_place.ensures ∙ c.if-has_place.false))
    (put_then (put_then c.put-a.ensures c.put_decimal-b.ensures) c.put-2.ensures)
