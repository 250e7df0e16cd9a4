-- `journal::undo_table` meets its contract. Assumes nothing.
use Rattle.journal.proofs.UndoLaws.{other_table-width, past-table, table_back}
use Rattle.journal.proofs.Laws.{legal-width}
use native.Mathlib.Omega.{arith}
use mathlib.Core.Path.{sym, ◌∙◌}
use Rattle.std.proofs.Common.{ap, not}
use Rattle.journal.proofs.undo_table.Goals as goal

pub returns-then-not-is_table_width : goal.returns-then-not-is_table_width
returns-then-not-is_table_width c base w = other_table-width base _ _ _ w _ c.is_table_width.ensures (ap not c.if-not-is_table_width.true)

pub overflow_add-at : goal.overflow_add-at
overflow_add-at c = omega (arith, (legal-width _ (sym c.is_table_width.ensures ∙ c.if-not-is_table_width.false)).most)

pub returns-then-table-at : goal.returns-then-table-at
returns-then-table-at c base w = past-table base _ _ _ w _ c.is_table_width.ensures (ap not c.if-not-is_table_width.false) c.if-table-at.true

pub put_width-requires : goal.put_width-requires
put_width-requires c = (c.if-table-at.false, legal-width _ (sym c.is_table_width.ensures ∙ c.if-not-is_table_width.false))

pub returns : goal.returns
returns c base w = table_back base _ _ _ w _ c.is_table_width.ensures (ap not c.if-not-is_table_width.false) c.if-table-at.false c.put_width.ensures
