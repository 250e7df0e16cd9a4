-- `major_end::reload` meets its contract, by ESG. Assumes nothing.
use Rattle.std.proofs.Common.{sym, ◌∙◌}
use Rattle.rules.specs.Minor.{ESG, reload}
use Rattle.rules.specs.Words.{has}
use Rattle.act.proofs.Laws.{picked, left_out}
use Rattle.major_end.proofs.reload.Goals as goal

pub returns-then-csr_has : goal.returns-then-csr_has
unfolding reload
returns-then-csr_has c lent d m =
    let a = c.args in
    picked _ lent (has a.t.csr ESG) _ _ _ (sym c.csr_has.ensures ∙ c.if-csr_has.true) (c.load_next.ensures lent d m)

pub returns : goal.returns
unfolding reload
returns c lent d m =
    left_out _ lent _ _ _ _ (sym c.csr_has.ensures ∙ c.if-csr_has.false) (c.wind.ensures _ lent d _ m)
