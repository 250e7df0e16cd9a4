-- `masks::with_bytes_in` meets its contract. Bytes are bits (`RegisterBytes`). Assumes nothing.
use Rattle.masks.proofs.RegisterBytes.{with_bytes_bits}
use mathlib.Core.Path.{◌∙◌, sym}
use Rattle.masks.proofs.with_bytes_in.Goals as goal

pub returns : goal.returns
returns c = c.with_bits_from.ensures ∙ rw c.bits_from-new.ensures.0 (sym (with_bytes_bits _ _ _ c.requires.0 c.ranges.register.fits _))
