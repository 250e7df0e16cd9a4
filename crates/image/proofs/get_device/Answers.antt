-- `image::get_device` meets its contract. Assumes nothing.
use Rattle.image.specs.Image.{chip_in}
use Rattle.image.proofs.Laws.{scalars_got}
use Rattle.image.proofs.Rows.{priorities_got, device_got}
use Rattle.image.proofs.get_device.Goals as goal

pub returns : goal.returns
returns c =
    device_got _ (scalars_got _ c.get_row.ensures c.from_list-scalars.ensures) c.get_table.ensures c.get_row-2.ensures c.get_row-3.ensures c.get_row-4.ensures c.get_row-5.ensures (priorities_got (chip_in c.args.image.now) _ c.get_row-6.ensures) c.get_controller-a.ensures c.get_controller-b.ensures c.get_controller-c.ensures
