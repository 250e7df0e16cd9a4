-- `words::U8Word::read` meets its contract: the bytes found, the highest first. Assumes nothing.
use Rattle.std.proofs.Common.{ap, ◌∙◌, w8, arith}
use Rattle.std.specs.Int.{from_be_bytes}
use Rattle.rules.specs.Bytes.{number, part}
use Rattle.words.proofs.U8Word.read.Goals as goal

pub returns : goal.returns
unfolding number part
returns c = c.from_be_bytes.ensures ∙ ap (from_be_bytes w8) c.bytes_at-found.ensures ∙ omega arith
