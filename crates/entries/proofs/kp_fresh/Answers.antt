-- `entries::kp_fresh` meets its contract. Assumes nothing.
use Rattle.entries.proofs.Laws.{fresh_short, fresh_unknown, fresh_other, fresh_entry}
use native.Mathlib.Omega.{arith}
use borrow.Author.Rules.{rules}
use Rattle.entries.proofs.kp_fresh.Goals as goal

pub returns-then-image-ne-BYTES : goal.returns-then-image-ne-BYTES
returns-then-image-ne-BYTES c = fresh_short _ _ _ (search rules) c.packed.ensures

pub returns-then-ignore_masks-gt1 : goal.returns-then-ignore_masks-gt1
returns-then-ignore_masks-gt1 c = fresh_unknown _ _ _ (search rules) (omega arith) c.packed-then-ignore_masks-gt1.ensures

pub returns-then-mode-gt1 : goal.returns-then-mode-gt1
returns-then-mode-gt1 c = fresh_other _ _ _ (search rules) (omega arith) (omega arith) c.packed-then-mode-gt1.ensures

pub returns : goal.returns
returns c = fresh_entry c.args.image.now _ _ (search rules) (omega arith) (omega arith) c.fresh.ensures c.put_device.ensures
