-- `registers::read_dma` meets its contract. Assumes nothing.
use Rattle.rules.specs.View.{view}
use Rattle.registers.proofs.Laws.{fair, end_there}
use Rattle.rules.specs.Calls.{check, read_unless}
use mathlib.Core.Path.{sym, ◌∙◌}
use Rattle.registers.proofs.read_dma.Goals as goal

pub returns-then-past_end : goal.returns-then-past_end
unfolding read_unless check
returns-then-past_end c =
    let p = sym c.past_end.ensures ∙ c.if-past_end.true in
    rw (end_there _ _ (view c.args.d) p, p)

pub edma_read-requires : goal.edma_read-requires
edma_read-requires c = fair _ _ c.requires.1 (sym c.past_end.ensures ∙ c.if-past_end.false)

pub returns : goal.returns
unfolding check
returns c = rw (sym c.past_end.ensures ∙ c.if-past_end.false, ← c.edma_read.ensures) c.reading.ensures
