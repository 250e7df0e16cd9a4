-- `listing::digit` meets its contract. Assumes nothing.
use Rattle.listing.proofs.Laws.{digit_low, digit_high}
use Rattle.listing.proofs.digit.Goals as goal

pub returns-then-n-lt10 : goal.returns-then-n-lt10
returns-then-n-lt10 c = digit_low _ c.if-n-lt10.true

pub returns-else-n-lt10 : goal.returns-else-n-lt10
returns-else-n-lt10 c = digit_high _ c.if-n-lt10.false
