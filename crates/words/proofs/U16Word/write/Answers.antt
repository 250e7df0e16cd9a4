-- `words::U16Word::write` meets its contract: its bytes are laid down, the highest first. Assumes nothing.
use Rattle.std.proofs.Common.{◌∙◌, div-one}
use Rattle.rules.specs.Bytes.{bytes}
use Rattle.words.proofs.U16Word.write.Goals as goal

pub returns : goal.returns
unfolding bytes
returns c = c.lay.ensures ∙ rw (c.to_be_bytes-laid.ensures, div-one c.args.self)
