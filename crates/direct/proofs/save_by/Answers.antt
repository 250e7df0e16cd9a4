-- `direct::save_by` meets its contract. Assumes nothing.
use Rattle.direct.proofs.Laws.{save_short, save_made}
use borrow.Author.Rules.{rules}
use Rattle.direct.proofs.save_by.Goals as goal

pub returns-then-image-ne-BYTES : goal.returns-then-image-ne-BYTES
returns-then-image-ne-BYTES c = save_short _ _ (search rules) c.packed.ensures

pub returns : goal.returns
returns c = save_made _ c.args.image.now (search rules) c.put_device.ensures
