-- `words::lose_bit` meets its contract: a shifted one is the bit's power. Assumes nothing.
use Rattle.std.proofs.Common.{◌∙◌}
use Rattle.rules.proofs.Powers.{one_shl}
use Rattle.rules.specs.Words.{lose, without}
use Rattle.words.proofs.lose_bit.Goals as goal

pub returns : goal.returns
unfolding lose without
returns c = c.without.ensures ∙ rw (one_shl 64 c.args.i c.requires)
