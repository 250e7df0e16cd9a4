-- `scan::head_of` meets its contract: no mark, and each kind by itself. Assumes nothing.
use mathlib.Core.Path.{sym, ◌∙◌}
use Rattle.scan.proofs.HeadLaws.{unmarked, in_window, in_table_lem, in_field, other_kind}
use Rattle.scan.proofs.Laws.{mode_scanning, store_head}
use Rattle.scan.proofs.head_of.Goals as goal

pub returns-then-not-is_marked : goal.returns-then-not-is_marked
returns-then-not-is_marked c = unmarked _ _ _ (sym c.is_marked.ensures ∙ c.if-not-is_marked.true)

pub returns-in-0 : goal.returns-in-0
returns-in-0 c =
    in_window _ _ _ _ (sym c.is_marked.ensures ∙ c.if-not-is_marked.false) c.get-kind.ensures c.get-width.ensures c.get-place.ensures
    c.in-0.is (store_head _ _ _ _ _ _ c.window_head.ensures)

pub returns-in-1 : goal.returns-in-1
returns-in-1 c =
    in_table_lem _ _ _ _ (sym c.is_marked.ensures ∙ c.if-not-is_marked.false) c.get-kind.ensures c.get-width.ensures c.get-place.ensures
    c.in-1.is (store_head _ _ _ _ _ _ (c.table_head.ensures _ _))

pub returns-in-2 : goal.returns-in-2
returns-in-2 c =
    in_field _ _ _ _ (sym c.is_marked.ensures ∙ c.if-not-is_marked.false) c.get-kind.ensures c.get-width.ensures c.get-place.ensures
    (mode_scanning _ _) c.in-2.is (c.field_head.ensures _)

pub returns-in_default : goal.returns-in_default
returns-in_default c =
    let no = c.in_default.in_default-own.rest in
    other_kind _ _ _ _ (sym c.is_marked.ensures ∙ c.if-not-is_marked.false) c.get-kind.ensures c.get-width.ensures c.get-place.ensures
    no.0.0.1 no.0.1 no.1
