-- `words::whole_sizes` meets its contract: the bounds that it requires keep the product in range. Assumes nothing.
use Rattle.std.proofs.Common.{◌∙◌, arith}
use Rattle.words.proofs.Laws.{wholes_up, wholes_fit}
use Rattle.words.proofs.whole_sizes.Goals as goal

pub returns : goal.returns
returns c =
    let up = c.div_ceil.ensures ∙ wholes_up c.args.n c.args.size (omega arith) in
    (up, rw up (wholes_fit _ _ (omega arith) (omega arith)))
