-- `listing::put_line` meets its contract: the line's end behind the digits. Assumes nothing.
use Rattle.listing.proofs.Laws.{line-ended}
use Rattle.listing.proofs.put_line.Goals as goal

pub returns : goal.returns
returns c = line-ended _ _ _ _ c.put_digits.ensures
