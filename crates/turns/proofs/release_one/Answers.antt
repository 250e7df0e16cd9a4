-- `turns::release_one` meets its contract. Assumes nothing.
use Rattle.turns.proofs.Freeing.{still_busy, freed_only, freed_too}
use Rattle.turns.proofs.release_one.Goals as goal

pub returns-then-not-over : goal.returns-then-not-over
returns-then-not-over c = still_busy _ _ _ _ _ c.over.ensures c.if-not-over.true

pub returns-then-not-has_bit : goal.returns-then-not-has_bit
returns-then-not-has_bit c = freed_only _ _ _ _ _ c.over.ensures c.if-not-over.false c.has_bit.ensures c.if-not-has_bit.true

pub returns : goal.returns
returns c = freed_too _ _ _ _ _ c.over.ensures c.if-not-over.false c.has_bit.ensures c.if-not-has_bit.false c.gain_bit.ensures
