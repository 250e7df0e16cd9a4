-- `scan::table_head` meets its contract: a wrong width, a place outside, and neither. Assumes nothing.
use mathlib.Core.Path.{sym, ◌∙◌}
use native.Mathlib.Omega.{arith}
use Rattle.rules.specs.Act.{table}
use Rattle.rules.proofs.Steps.{in_table_lem, past-table}
use Rattle.scan.proofs.Laws.{table-holding}
use Rattle.scan.proofs.HeadLaws.{legal-most, wrong-width, outside, wide}
use Rattle.scan.proofs.table_head.Goals as goal

pub returns-then-not-is_table_width : goal.returns-then-not-is_table_width
returns-then-not-is_table_width c base w = wrong-width _ _ _ _ _ (sym c.is_table_width.ensures ∙ c.if-not-is_table_width.true)

pub overflow_add-place : goal.overflow_add-place
overflow_add-place c = record { fits = omega (arith, legal-most table c.args.width (sym c.is_table_width.ensures ∙ c.if-not-is_table_width.false)) }

pub returns-then-place-width-gt2048 : goal.returns-then-place-width-gt2048
returns-then-place-width-gt2048 c base w =
    outside _ _ _ _ _ (sym c.is_table_width.ensures ∙ c.if-not-is_table_width.false)
    (past-table _ _ _ _ (omega (arith, table-holding w)))

pub returns : goal.returns
returns c base w =
    wide _ _ _ _ _ (sym c.is_table_width.ensures ∙ c.if-not-is_table_width.false)
    (in_table_lem _ _ _ _ (omega (arith, table-holding w)))
