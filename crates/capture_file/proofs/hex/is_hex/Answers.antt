-- `capture_file::hex::is_hex` meets its contract. Assumes nothing.
use Rattle.std.proofs.Common.{not, sym, ap, ◌∙◌}
use Rattle.capture_file.proofs.Laws.{not_none, is_nothing, digit_on, digit_off, digits_end}
use Rattle.capture_file.proofs.hex.is_hex.Goals as goal

pub returns-then-is_none : goal.returns-then-is_none
returns-then-is_none c = sym (digit_off _ _ _ c.loop-k-test.true (is_nothing _ c.nibble.ensures (c.is_none.ensures ∙ ap not c.if-is_none.true))) ∙ c.loop-k.invariant

pub loop-k-preserved : goal.loop-k-preserved
loop-k-preserved c = digit_on _ _ _ c.loop-k-test.true (not_none _ c.nibble.ensures (c.is_none.ensures ∙ ap not c.if-is_none.false)) ∙ c.loop-k.invariant

pub returns : goal.returns
returns c = sym (digits_end _ _ _ c.loop-k-test.false) ∙ c.loop-k.invariant
