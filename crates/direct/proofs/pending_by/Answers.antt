-- `direct::pending_by` meets its contract, from that of the call on a device in parts. Assumes nothing.
use Rattle.direct.proofs.Laws.{proper_core, fed_left}
use Rattle.rules.specs.Calls.{pending}
use Rattle.act.specs.Parts.{counted}
use Rattle.direct.proofs.pending_by.Goals as goal

pub returns : goal.returns
returns c x proper base w s =
    let a = c.args in
    let core = c.core_in in
    fed_left (pending a.channel a.count) a.k core.result core.ensures c.pending_in.result c.handed_back.result (counted x _) (counted x _) base w s _ w s _ a.used
    (c.pending_in.ensures x (proper_core a.k core.result (counted x _) core.ensures proper) base w s) c.handed_back.ensures
