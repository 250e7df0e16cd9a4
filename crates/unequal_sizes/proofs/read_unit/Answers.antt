-- `unequal_sizes::read_unit` meets its contract, by where the unit is read: the laws of a unit at every width. Assumes nothing.
use Rattle.std.proofs.Common.{take, rules}
use Rattle.memory.proofs.Laws.{at_fits}
use Rattle.journal.proofs.Laws.{table-width}
use Rattle.unequal_sizes.proofs.Reading.{staged, read_outside, read_inside}
use Rattle.unequal_sizes.proofs.read_unit.Goals as goal

pub returns-in_err-i : goal.returns-in_err-i
returns-in_err-i g c lent d j e = rw c.from_residual.ensures (read_outside _ lent d _ j e _ _ _ c.where_is.ensures c.in_err-i.was _)

pub get_width-requires : goal.get_width-requires
get_width-requires g c = (at_fits _ _ _ _ c.where_is.ensures c.in_ok-i.was, table-width _ c.requires.1)

pub put_width-requires : goal.put_width-requires
put_width-requires g c = (search rules, table-width _ c.requires.1)

pub returns : goal.returns
returns g c lent d j e =
    let a = c.args in
    read_inside a.base lent d a.window.now j e g.row.WIDTH a.a (take a.len a.staging.now) c.where_is.ensures c.in_ok-i.was
    (staged a.staging.now a.len g.row.WIDTH a.window.now _ c.requires.0 (λ i. (c.type_inv.window i).fits) c.get_width.ensures c.put_width.ensures)
