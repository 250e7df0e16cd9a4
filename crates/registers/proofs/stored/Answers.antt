-- `registers::stored` meets its contract. Assumes nothing.
use Rattle.std.specs.Prelude.{None}
use lib.ListN.{length}
use Rattle.registers.proofs.Laws.{stored_settled}
use Rattle.acting.proofs.Laws.{then_levels, stood_same}
use Rattle.act.specs.Parts.{whole}
use Rattle.rules.specs.Carry.{lending}
use Rattle.rules.specs.Calls.{levelled}
use Rattle.registers.proofs.stored.Goals as goal

pub returns : goal.returns
returns c x act p does same base w staging =
    let a = c.args in
    let lent = lending (length staging) in
    let g = stored_settled base lent act (whole a.k x) a.e x w a.journal.now a.used _ p c.requires c.settle-s.ensures does in
    stood_same c.end_core.result x None w staging _
    (c.end_core.ensures x x.table base lent (levelled act) w a.journal.now staging p c.requires (λ h. then_levels (same h) g.levels) g.since g.later g.left)
