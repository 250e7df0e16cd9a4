-- `journal::has_room` meets its contract: room is asked of the journal's length. Assumes nothing.
use Rattle.journal.proofs.Laws.{room_asked}
use native.Mathlib.Omega.{arith}
use lib.ListN.{length}
use Prim.Native.Nat.{◌+◌}
use mathlib.Core.Path.{sym}
use borrow.Author.Tests.{lt-leb}
use Rattle.journal.proofs.has_room.Goals as goal

pub returns-then-journal-lt16 : goal.returns-then-journal-lt16
returns-then-journal-lt16 c =
    let a = c.args in
    sym (lt-leb (a.at + 16) (length a.journal.now) (omega arith))

pub returns : goal.returns
returns c =
    let a = c.args in
    room_asked a.at (length a.journal.now) 16 (omega arith)
