use Rattle.listing_lines.proofs.bytes.Lines.+number.Given as goal

abbrev pub decreases-number : goal.decreases-number
decreases-number l = l.n
