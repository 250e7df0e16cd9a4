-- `direct::write_by` meets its contract, from that of the call on a device in parts. Assumes nothing.
use Rattle.direct.proofs.Laws.{proper_core, fed_left, spared_answer}
use Rattle.rules.specs.Calls.{write}
use Rattle.act.specs.Parts.{ordered, tabled, counted}
use Rattle.direct.proofs.write_by.Goals as goal

pub returns : goal.returns
returns c =
    let a = c.args in
    let core = c.core_in in
    (λ x proper base w s. fed_left (write a.address a.size a.value) a.k core.result core.ensures c.write_in.result c.handed_back.result (ordered (tabled (counted x _) _) a.priorities.now a.k.chip) (ordered (tabled (counted x _) _) c.write_in.new.priorities a.k.chip) base w s _ w s _ a.used (c.write_in.ensures.0 x (proper_core a.k core.result (ordered (tabled (counted x _) _) a.priorities.now a.k.chip) core.ensures proper) base w s) c.handed_back.ensures, spared_answer c.write_in.result.verdict c.write_in.result.used c.write_in.ensures.1 c.handed_back.ensures.0)
