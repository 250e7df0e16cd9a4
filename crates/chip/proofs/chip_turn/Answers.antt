-- `chip::chip_turn` meets its contract. Assumes nothing.
use mathlib.Core.Path.{refl, sym, ◌∙◌}
use Rattle.chip.proofs.Turning.{turn-started, turn-lined, turn_asked}
use borrow.Author.Rules.{rules}
use Rattle.chip.proofs.chip_turn.Goals as goal

pub returns-then-has_bit : goal.returns-then-has_bit
returns-then-has_bit c =
    let a = c.args in
    turn-started a.base _ a.clock.now a.clock.pace a.ch a.t _ _ _ _ _ _ _ _ _ _ c.csr_of.ensures.1 c.requires _ c.lose_bit-kick.ensures (search rules) _ refl _ c.csr_of.ensures.0 (sym c.has_bit.ensures ∙ c.if-has_bit.true) _ c.by_pass.ensures

pub returns-then-ch-eq-LINE : goal.returns-then-ch-eq-LINE
returns-then-ch-eq-LINE c =
    let a = c.args in
    turn-lined a.base _ a.clock.now a.clock.pace a.ch a.t _ _ _ _ _ _ _ _ _ _ c.csr_of.ensures.1 c.requires _ c.lose_bit-kick.ensures (search rules) _ refl _ c.csr_of.ensures.0 (sym c.has_bit.ensures ∙ c.if-has_bit.false) c.if-ch-eq-LINE.true _ _ c.by_line.ensures

pub returns : goal.returns
returns c =
    let a = c.args in
    turn_asked a.base _ a.clock.now a.clock.pace a.ch a.t _ _ _ _ _ _ _ _ _ _ c.csr_of.ensures.1 c.requires _ c.lose_bit-kick.ensures (search rules) _ refl _ c.csr_of.ensures.0 (sym c.has_bit.ensures ∙ c.if-has_bit.false) c.if-ch-eq-LINE.false _ c.spend.ensures.0 c.spend.ensures.1 _ c.by_pass-2.ensures
