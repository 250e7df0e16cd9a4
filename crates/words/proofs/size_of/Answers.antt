-- `words::size_of` meets its contract: the table's entry at the code. Assumes nothing.
use Rattle.std.proofs.Common.{◌%◌, arith}
use Rattle.rules.specs.Words.{size_of}
use Rattle.words.proofs.Laws.{size_entry}
use Rattle.words.proofs.size_of.Goals as goal

pub returns : goal.returns
unfolding size_of
returns c = size_entry (c.args.code % 8) (omega arith)
