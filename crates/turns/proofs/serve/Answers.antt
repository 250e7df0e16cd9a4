-- `turns::serve` meets its contract. Assumes nothing.
use mathlib.Core.Path.{sym, ◌∙◌}
use Rattle.turns.proofs.Turning.{serve-started, serve_none, serve-lined, serve_asked}
use Rattle.turns.proofs.serve.Goals as goal

pub returns-then-has_bit : goal.returns-then-has_bit
returns-then-has_bit c =
    let a = c.args in
    serve-started a.base _ a.clock.now a.clock.pace a.ch a.t _ _ _ _ _ _ c.csr_of.ensures.1 c.requires _ c.csr_of.ensures.0 (sym c.has_bit.ensures ∙ c.if-has_bit.true) _ _ _ _ _ c.start_loop.ensures

pub returns-then-not-offered : goal.returns-then-not-offered
returns-then-not-offered c =
    let a = c.args in
    serve_none a.base _ a.clock.now a.clock.pace a.ch a.t _ _ _ _ _ _ c.csr_of.ensures.1 c.requires _ c.csr_of.ensures.0 (sym c.has_bit.ensures ∙ c.if-has_bit.false) c.offered.ensures c.if-not-offered.true

pub returns-then-ch-eq-LINE : goal.returns-then-ch-eq-LINE
returns-then-ch-eq-LINE c =
    let a = c.args in
    serve-lined a.base _ a.clock.now a.clock.pace a.ch a.t _ _ _ _ _ _ c.csr_of.ensures.1 c.requires _ c.csr_of.ensures.0 (sym c.has_bit.ensures ∙ c.if-has_bit.false) c.offered.ensures c.if-not-offered.false _ _ _ _ _ c.if-ch-eq-LINE.true _ c.serve_line.ensures

pub returns : goal.returns
returns c =
    let a = c.args in
    serve_asked a.base _ a.clock.now a.clock.pace a.ch a.t _ _ _ _ _ _ c.csr_of.ensures.1 c.requires _ c.csr_of.ensures.0 (sym c.has_bit.ensures ∙ c.if-has_bit.false) c.offered.ensures c.if-not-offered.false _ _ _ _ _ c.if-ch-eq-LINE.false _ c.request_loop.ensures
