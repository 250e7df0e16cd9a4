-- `dma::word_known` meets its contract: one of the words, or none of them. Assumes nothing.
use Rattle.dma.proofs.Laws.{word-there, word-none}
use Rattle.dma.proofs.word_known.Goals as goal

pub returns-in-0 : goal.returns-in-0
returns-in-0 c v = word-there _ v c.requires c.in-0.is

pub returns-in_default : goal.returns-in_default
returns-in_default c v = word-none _ v c.requires c.in_default.in_default-own.rest.1
