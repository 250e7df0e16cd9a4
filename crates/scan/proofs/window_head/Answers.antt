-- `scan::window_head` meets its contract: a wrong width, a place outside, and neither. Assumes nothing.
use mathlib.Core.Path.{sym, ◌∙◌}
use native.Mathlib.Omega.{arith}
use Rattle.rules.specs.Act.{window}
use Rattle.memory.proofs.Laws.{not_inside, inside}
use Rattle.scan.proofs.HeadLaws.{legal-most, wrong-width, outside, wide}
use Rattle.scan.proofs.window_head.Goals as goal

pub returns-then-not-is_memory_width : goal.returns-then-not-is_memory_width
returns-then-not-is_memory_width c = wrong-width _ _ _ _ _ (sym c.is_memory_width.ensures ∙ c.if-not-is_memory_width.true)

pub where_is-requires : goal.where_is-requires
where_is-requires c = legal-most _ _ (sym c.is_memory_width.ensures ∙ c.if-not-is_memory_width.false)

pub returns-in_err-where_is : goal.returns-in_err-where_is
returns-in_err-where_is c =
    rw c.from_residual.ensures (outside _ _ _ _ _ (sym c.is_memory_width.ensures ∙ c.if-not-is_memory_width.false)
    (not_inside _ _ _ _ c.where_is.ensures c.in_err-where_is.was))

pub overflow_mul-result : goal.overflow_mul-result
overflow_mul-result c = record { fits = omega (arith, legal-most window c.args.width (sym c.is_memory_width.ensures ∙ c.if-not-is_memory_width.false)) }

pub returns : goal.returns
returns c =
    wide _ _ _ _ _ (sym c.is_memory_width.ensures ∙ c.if-not-is_memory_width.false)
    (inside _ _ _ _ c.where_is.ensures c.in_ok-where_is.was)
