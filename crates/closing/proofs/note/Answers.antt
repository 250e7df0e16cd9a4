-- `closing::note` meets its contract: by whether it fits. Assumes nothing.
use Prim.Native.Nat.{◌+◌, ◌≤◌}
use native.Mathlib.Omega.{arith}
use lib.ListN.{length}
use Rattle.journal.proofs.Laws.{room, no_room}
use Rattle.closing.proofs.Laws.{add-no, add_yes}
use Rattle.std.proofs.Common.{ap, not}
use Rattle.closing.proofs.note.Goals as goal

pub returns-then-not-has_room : goal.returns-then-not-has_room
returns-then-not-has_room c = add-no _ _ _ (no_room _ _ c.has_room.ensures (ap not c.if-not-has_room.true))

pub put_record-requires : goal.put_record-requires
put_record-requires c = room _ _ c.has_room.ensures (ap not c.if-not-has_room.false)

pub overflow_add-result : goal.overflow_add-result
overflow_add-result c =
    let fits : c.args.at + 16 ≤ length c.args.journal.now = room _ _ c.has_room.ensures (ap not c.if-not-has_room.false) in
    omega arith

pub returns : goal.returns
returns c = add_yes _ _ _ (room _ _ c.has_room.ensures (ap not c.if-not-has_room.false)) c.put_record.ensures
