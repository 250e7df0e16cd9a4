-- `capture_file::hex::digit` meets its contract. Assumes nothing.
use Rattle.std.proofs.Common.{◌∙◌, arith}
use Rattle.capture_file.proofs.Laws.{digit_or}
use Rattle.capture_file.proofs.hex.digit.Goals as goal

pub returns : goal.returns
returns c = let e = c.unwrap_or.ensures ∙ digit_or _ c.nibble.ensures in (e, omega (arith, e))
