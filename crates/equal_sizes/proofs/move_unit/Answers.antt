-- `equal_sizes::move_unit` meets its contract, by where the unit is read: the laws of a unit at every width. Assumes nothing.
use Rattle.std.proofs.Common.{◌∙◌, ap, refl}
use Rattle.std.specs.Result.{result_ok}
use Rattle.act.proofs.Laws.{none_refused}
use Rattle.journal.proofs.Laws.{table-width}
use Rattle.memory.proofs.Laws.{at_fits}
use Rattle.equal_sizes.proofs.Laws.{unit_outside, unit_read}
use Rattle.equal_sizes.proofs.move_unit.Goals as goal

pub returns-in_err-i : goal.returns-in_err-i
returns-in_err-i g c lent d =
    let p = none_refused c.from_residual.result c.ok_or.ensures.value c.ok_or.ensures.ok_part c.in_err-i.was c.from_residual.ensures in
    rw p.1 (unit_outside _ lent d _ _ _ _ _ _ c.where_is.ensures p.0)

pub get_width-v-requires : goal.get_width-v-requires
get_width-v-requires g c =
    (at_fits _ _ _ _ c.where_is.ensures (c.ok_or.ensures.ok_part ∙ ap result_ok c.in_ok-i.was), table-width _ c.requires)

pub returns : goal.returns
returns g c lent d =
    let a = c.args in
    unit_read a.base lent d a.window.now a.journal.now a.at g.row.WIDTH a.a a.b c.where_is.ensures refl (c.ok_or.ensures.ok_part ∙ ap result_ok c.in_ok-i.was) c.get_width-v.ensures (c.store.ensures lent d)
