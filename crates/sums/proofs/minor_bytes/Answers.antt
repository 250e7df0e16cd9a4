-- `sums::minor_bytes` meets its contract, by whether an address takes the offset. Assumes nothing.
use Rattle.std.proofs.Common.{sym, ◌∙◌}
use Rattle.sums.proofs.Laws.{bytes_offset, bytes_plain}
use Rattle.sums.proofs.minor_bytes.Goals as goal

pub returns-then-either : goal.returns-then-either
returns-then-either c = (bytes_offset _ _ (sym c.either.ensures ∙ c.if-either.true) c.cap.ensures.0, c.cap.ensures.1, c.cap.ensures.2)

pub returns-else-either : goal.returns-else-either
returns-else-either c =
    (bytes_plain _ _ (sym c.either.ensures ∙ c.if-either.false) c.cap-else-either.ensures.0, c.cap-else-either.ensures.1, c.cap-else-either.ensures.2)
