-- `masks::bytes_in` meets its contract. Bytes are bits (`RegisterBytes`). Assumes nothing.
use Rattle.masks.proofs.RegisterBytes.{bytes_bits}
use lib.Pow.{pow_mono}
use native.Mathlib.Omega.{arith}
use native.Mathlib.Nat.{lt_of_lt_of_le}
use mathlib.Core.Path.{◌∙◌, sym}
use Rattle.masks.proofs.bytes_in.Goals as goal

pub overflow_cast-result : goal.overflow_cast-result
overflow_cast-result c = record { fits = lt_of_lt_of_le c.bits_from.ensures.1 (pow_mono {j = 32} (omega arith)) }

pub returns : goal.returns
returns c = c.bits_from.ensures.0 ∙ sym (bytes_bits _ _ _ c.requires.0 c.ranges.register.fits)
