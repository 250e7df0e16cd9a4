-- `channel::nbytes_of` meets its contract. Assumes nothing.
use Rattle.channel.proofs.Reading.{nbytes_read}
use borrow.Author.Rules.{rules}
use Rattle.channel.proofs.nbytes_of.Goals as goal

pub returns : goal.returns
returns c = (nbytes_read _ _ c.get.ensures, search rules, search rules)
