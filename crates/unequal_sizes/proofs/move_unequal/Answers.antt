-- `unequal_sizes::move_unequal` meets its contract, by how the reads and the writes end. Assumes nothing.
use Rattle.std.proofs.Common.{ap, ◌∙◌}
use Rattle.std.specs.Result.{result_ok}
use Rattle.act.proofs.Laws.{made_err, none_refused}
use Rattle.unequal_sizes.proofs.Unequal.{unequal_short, unequal_unread, unequal_to, unequal_not}
use Rattle.unequal_sizes.proofs.move_unequal.Goals as goal

pub returns-then-staging-all : goal.returns-then-staging-all
returns-then-staging-all c d = unequal_short _ _ d _ _ _ _ _ _ _ _ _ _ _ _ c.if-staging-all.true

pub returns-in_err-s : goal.returns-in_err-s
returns-in_err-s c d =
    let a = c.args in
    let p = none_refused c.from_residual.result c.ok_or.ensures.value c.ok_or.ensures.ok_part c.in_err-s.was c.from_residual.ensures in
    rw p.1
    (unequal_unread a.base _ d a.window.now a.journal.now a.at a.reads _ _ _ _ a.ssize _ a.from _ c.if-staging-all.false _ _
    (c.read_sizes.ensures _ d a.journal.now a.at) p.0)

pub returns-in_err-written : goal.returns-in_err-written
returns-in_err-written c d =
    let a = c.args in
    rw (made_err c.from_residual-in_err-written.result c.from_residual-in_err-written.ensures)
    (unequal_not a.base _ d a.window.now a.journal.now a.at a.reads _ _ _ _ a.ssize _ a.from _ c.if-staging-all.false _ _
    (c.read_sizes.ensures _ d a.journal.now a.at) (c.ok_or.ensures.ok_part ∙ ap result_ok c.in_ok-s.was) _ _ _ (c.write_sizes.ensures _ d) c.in_err-written.was)

pub returns : goal.returns
returns c d =
    let a = c.args in
    unequal_to a.base _ d a.window.now a.journal.now a.at a.reads _ _ _ _ a.ssize _ a.from _ c.if-staging-all.false _ _
    (c.read_sizes.ensures _ d a.journal.now a.at) (c.ok_or.ensures.ok_part ∙ ap result_ok c.in_ok-s.was) _ _ _ (c.write_sizes.ensures _ d) c.in_ok-written.was
