-- `direct::take_back_by` meets its contract. Assumes nothing.
use Rattle.direct.proofs.Laws.{act_left, spared_device}
use Rattle.direct.proofs.take_back_by.Goals as goal

pub returns : goal.returns
returns c =
    let back = c.take_back in
    (act_left back.result back.ensures.0 c.answered.ensures, spared_device back.result back.ensures.1 c.answered.ensures)
