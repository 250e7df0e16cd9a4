-- `entries::kp_read` meets its contract. Assumes nothing.
use Rattle.entries.proofs.Laws.{no_read, read_entry}
use Rattle.rules.specs.Calls.{after_read}
use Rattle.image.proofs.Rows.{image_long}
use mathlib.Core.Path.{sym, ◌∙◌}
use Rattle.entries.proofs.kp_read.Goals as goal

pub returns-then-not-is_image : goal.returns-then-not-is_image
returns-then-not-is_image c = no_read _ _ (sym c.is_image.ensures ∙ c.if-not-is_image.true) c.packed.ensures

pub get_device-requires : goal.get_device-requires
get_device-requires c = image_long _ (sym c.is_image.ensures ∙ c.if-not-is_image.false)

pub returns : goal.returns
returns c =
    let a = c.args in
    read_entry a.image.now (λ d. after_read d a.address a.size) (sym c.is_image.ensures ∙ c.if-not-is_image.false) c.get_device.ensures c.read.ensures c.reading_of.ensures
