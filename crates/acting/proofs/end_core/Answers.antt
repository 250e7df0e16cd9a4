-- `acting::end_core` meets its contract. Assumes nothing.
use Rattle.std.specs.Prelude.{None}
use Rattle.acting.proofs.Laws.{core_noted, told_made, told-cleared, stands_new, stands_old}
use Rattle.act.specs.Parts.{tabled}
use Rattle.acting.proofs.end_core.Goals as goal

pub returns-in_default : goal.returns-in_default
returns-in_default c x t base lent m w j₀ z p fits same since later left =
    let a = c.args in
    let r = c.done-r.result in
    let noted = core_noted a.k a.s x t p a.used _ c.begun.ensures c.note_core-numbers.ensures (c.note_sources-sources.ensures x p same) c.note_end.ensures in
    stands_old r x (tabled x t) None w z _ c.in_default.is
    (told-cleared a.k x (tabled x t) None a.used w j₀ w _ _ fits since base lent m a.s _ later left noted r c.done-r.ensures z c.in_default.is c.clear.ensures)

pub returns : goal.returns
returns c x t base lent m w j₀ z p fits same since later left =
    let a = c.args in
    let r = c.done-r.result in
    let noted = core_noted a.k a.s x t p a.used _ c.begun.ensures c.note_core-numbers.ensures (c.note_sources-sources.ensures x p same) c.note_end.ensures in
    stands_new r x (tabled x t) None w z _ c.in-Ok.is
    (told_made a.k x (tabled x t) None a.used w j₀ w _ _ fits since base lent m a.s _ later left noted r c.done-r.ensures z c.in-Ok.is)
