-- `channel::csr_of` meets its contract. Assumes nothing.
use Rattle.channel.proofs.Reading.{csr_read}
use borrow.Author.Rules.{rules}
use Rattle.channel.proofs.csr_of.Goals as goal

pub returns : goal.returns
returns c = (csr_read _ _ c.get.ensures, search rules)
