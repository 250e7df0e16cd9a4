-- `direct::acknowledge_by` meets its contract, from that of the call on a device in parts. Assumes nothing.
use Prim.Native.Nat.{◌%◌, ◌^◌}
use Rattle.direct.proofs.Laws.{proper_core, heard_left}
use Rattle.act.specs.Parts.{taking}
use Rattle.direct.proofs.acknowledge_by.Goals as goal

pub returns : goal.returns
returns c x proper base w staging =
    let a = c.args in
    let core = c.core_in in
    heard_left (a.ipl % 2 ^ 8) _ a.k core.result core.ensures c.acknowledge_in-r.result.done (taking x _) (taking x _) base w staging _ w staging _ a.used proper
    (c.acknowledge_in-r.ensures x (proper_core a.k core.result (taking x _) core.ensures proper) base w staging) c.heard_answer.ensures
