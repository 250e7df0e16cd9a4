-- `journal::undo_memory` meets its contract. Assumes nothing.
use Rattle.journal.proofs.UndoLaws.{other_width, other_place, laid_back}
use Rattle.journal.proofs.Laws.{memory_width, table-width}
use Rattle.memory.proofs.Laws.{at_fits}
use native.Mathlib.Omega.{arith}
use mathlib.Core.Path.{sym, ◌∙◌}
use Rattle.std.proofs.Common.{ap, not}
use Rattle.journal.proofs.undo_memory.Goals as goal

pub returns-then-not-is_memory_width : goal.returns-then-not-is_memory_width
returns-then-not-is_memory_width c t = other_width _ _ _ _ _ t c.is_memory_width.ensures (ap not c.if-not-is_memory_width.true)

pub where_is-requires : goal.where_is-requires
where_is-requires c = omega (arith, memory_width _ (sym c.is_memory_width.ensures ∙ c.if-not-is_memory_width.false))

pub returns-in_default : goal.returns-in_default
returns-in_default c t = other_place _ _ _ _ _ t c.is_memory_width.ensures (ap not c.if-not-is_memory_width.false) c.where_is.ensures c.in_default.is

pub put_width-requires : goal.put_width-requires
put_width-requires c = (at_fits _ _ _ _ c.where_is.ensures c.in-Some.is, table-width _ (memory_width _ (sym c.is_memory_width.ensures ∙ c.if-not-is_memory_width.false)))

pub returns : goal.returns
returns c t = laid_back _ _ _ _ _ t c.is_memory_width.ensures (ap not c.if-not-is_memory_width.false) c.where_is.ensures c.in-Some.is c.put_width.ensures
