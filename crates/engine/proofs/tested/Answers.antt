-- `engine::tested` meets its contract. Assumes nothing.
use Rattle.engine.proofs.Starts.{window_bad, journal_bad, time_bad, none_bad}
use Rattle.engine.proofs.tested.Goals as goal

pub returns-then-bad_window : goal.returns-then-bad_window
returns-then-bad_window c = window_bad _ _ _ _ _ _ c.bad_window.ensures c.if-bad_window.true

pub returns-then-bad_journal : goal.returns-then-bad_journal
returns-then-bad_journal c = journal_bad _ _ _ _ _ _ c.bad_window.ensures c.if-bad_window.false c.bad_journal.ensures c.if-bad_journal.true

pub returns-then-bad_time : goal.returns-then-bad_time
returns-then-bad_time c = time_bad _ _ _ _ _ _ c.bad_window.ensures c.if-bad_window.false c.bad_journal.ensures c.if-bad_journal.false c.bad_time.ensures c.if-bad_time.true

pub returns : goal.returns
returns c = none_bad _ _ _ _ _ _ c.bad_window.ensures c.if-bad_window.false c.bad_journal.ensures c.if-bad_journal.false c.bad_time.ensures c.if-bad_time.false
