-- `dma_commands::clear_dones` meets its contract: the flags of each channel. Assumes nothing.
use Rattle.rules.specs.Registers.{clear_dones}
use Rattle.rules.specs.Minor.{DONE}
use Rattle.rules.specs.Words.{lose}
use borrow.Author.Rules.{rules}
use Rattle.dma_commands.proofs.clear_dones.Goals as goal

pub returns : goal.returns
unfolding clear_dones
returns c base lent d w m = rw (← c.named.ensures) (c.flag_each.ensures (λ b. lose b DONE) (λ b r h p. search rules) base lent d w m)
