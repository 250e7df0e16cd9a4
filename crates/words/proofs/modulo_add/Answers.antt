-- `words::modulo_add` meets its contract: the mask is that of the low bits. Assumes nothing.
use Rattle.words.proofs.Laws.{modulo_none, modulo_some}
use Rattle.words.proofs.modulo_add.Goals as goal

pub returns-then-m-eq0 : goal.returns-then-m-eq0
returns-then-m-eq0 c = modulo_none _ _ _ c.if-m-eq0.true

pub returns : goal.returns
returns c = modulo_some _ _ _ c.requires c.if-m-eq0.false c.ranges.addr.fits
