-- `words::gain_bit` meets its contract: a shifted one is the bit's power. Assumes nothing.
use Rattle.rules.proofs.Powers.{one_shl}
use Rattle.rules.specs.Words.{gain}
use Rattle.words.proofs.gain_bit.Goals as goal

pub returns : goal.returns
unfolding gain
returns c = rw (one_shl 64 c.args.i c.requires)
