-- `words::signed20` meets its contract, by the law of signed numbers at 20 bits. Assumes nothing.
use Rattle.std.proofs.Common.{arith}
use Rattle.words.proofs.Laws.{signed_low, signed_high}
use Rattle.words.proofs.signed20.Goals as goal

pub returns-then-n-lt524288 : goal.returns-then-n-lt524288
returns-then-n-lt524288 c = signed_low 20 _ c.if-n-lt524288.true

pub returns-else-n-lt524288 : goal.returns-else-n-lt524288
returns-else-n-lt524288 c = signed_high 20 _ (omega arith) c.if-n-lt524288.false
