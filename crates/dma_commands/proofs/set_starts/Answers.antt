-- `dma_commands::set_starts` meets its contract: the flags of each channel, and then KICK. Assumes nothing.
use Rattle.dma_commands.proofs.Laws.{starts}
use Rattle.rules.specs.Minor.{START}
use Rattle.rules.specs.Words.{gain}
use borrow.Author.Rules.{rules}
use Rattle.dma_commands.proofs.set_starts.Goals as goal

pub returns : goal.returns
returns c base lent d w m =
    starts base lent _ _ c.named-m.ensures (c.with_kick.ensures base lent d w _ _ m) (c.flag_each-started.ensures (λ b. gain b START) (λ b r h p. search rules) base lent d w m)
