-- `chip::with_bit` meets its contract. Assumes nothing.
use Rattle.chip.proofs.Seeing.{marked_in, marked_out}
use Rattle.chip.proofs.with_bit.Goals as goal

pub returns-then-on : goal.returns-then-on
returns-then-on c = marked_in c.args.m c.args.ch c.if-on.true c.gain_bit.ensures

pub returns-else-on : goal.returns-else-on
returns-else-on c = marked_out c.args.m c.args.ch c.if-on.false c.lose_bit.ensures
