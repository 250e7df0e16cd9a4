-- `words::U8Word::write` meets its contract: its bytes are laid down, the highest first. Assumes nothing.
use Rattle.std.proofs.Common.{◌≡◌, ◌%◌, ◌∙◌, div-one, arith}
use Rattle.rules.specs.Bytes.{bytes}
use Rattle.words.proofs.U8Word.write.Goals as goal

pub returns : goal.returns
unfolding bytes
returns c =
    let all : c.args.self % 256 ≡ c.args.self = omega arith in
    c.lay.ensures ∙ rw (c.to_be_bytes-laid.ensures, div-one c.args.self, all)
