-- `journal::put_record` meets its contract: its six stores are the record's bytes. Assumes nothing.
use mathlib.Core.Path.{◌∙◌}
use native.Mathlib.Omega.{arith}
use lib.ListN.{length-set}
use Rattle.journal.proofs.Laws.{record_laid}
use Rattle.journal.proofs.put_record.Goals as goal

pub bounds-journal-at-2 : goal.bounds-journal-at-2
bounds-journal-at-2 c = simp length-set (omega (arith, c.put-2.auto.s, c.put.auto.s))

pub bounds-journal-at-3 : goal.bounds-journal-at-3
bounds-journal-at-3 c = simp length-set (omega (arith, c.put-2.auto.s, c.put.auto.s))

pub bounds-journal-at-4 : goal.bounds-journal-at-4
bounds-journal-at-4 c = simp length-set (omega (arith, c.put-2.auto.s, c.put.auto.s))

pub shape_of-journal : goal.shape_of-journal
shape_of-journal c = simp length-set (c.put-2.auto.s ∙ c.put.auto.s)

pub returns : goal.returns
returns c =
    let a = c.args in
    rw (c.put-2.ensures, c.put.ensures) (record_laid a.journal.now a.at a.kind a.width a.place a.value)
