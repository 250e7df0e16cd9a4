-- `journal::store_table` meets its contract: refused already, no room, or the record and the store. Assumes nothing.
use Rattle.journal.proofs.Laws.{legal-table, no_room, room}
use Rattle.act.proofs.Laws.{stays_refused, table_full, table_done}
use lib.ListN.{length}
use mathlib.Core.Path.{refl}
use native.Mathlib.Omega.{arith}
use Rattle.std.proofs.Common.{ap, not}
use Rattle.journal.proofs.store_table.Goals as goal

pub returns-in_err-c : goal.returns-in_err-c
returns-in_err-c c base lent d w m = stays_refused base lent _ c.from_residual.result d w _ _ m c.from_residual.ensures c.in_err-c.was

pub returns-then-not-has_room : goal.returns-then-not-has_room
returns-then-not-has_room c base lent d w m =
    table_full base lent d _ w c.args.journal.now c.args.table.now m c.in_ok-c.was _ _ _ (omega arith) (legal-table _ c.requires.1) (no_room _ _ c.has_room.ensures (ap not c.if-not-has_room.true))

pub overflow_add-end : goal.overflow_add-end
overflow_add-end c =
    record { fits = omega (arith, room c.in_ok-c.c.at (length c.args.journal.now) c.has_room.ensures (ap not c.if-not-has_room.false)) }

pub put_record-requires : goal.put_record-requires
put_record-requires c = room _ _ c.has_room.ensures (ap not c.if-not-has_room.false)

pub returns : goal.returns
returns c base lent d w m =
    table_done base lent d _ w c.args.journal.now c.args.table.now m c.in_ok-c.was _ _ _ (omega arith) (legal-table _ c.requires.1)
    (room _ _ c.has_room.ensures (ap not c.if-not-has_room.false)) c.get_width-old.ensures c.put_width.ensures c.put_record.ensures refl
