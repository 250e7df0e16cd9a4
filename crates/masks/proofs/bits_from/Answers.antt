-- `masks::bits_from` meets its contract. A shifted one is a power of two, so that the remainder is that of `bits_from`. Assumes
-- nothing.
use mathlib.Core.Path.{refl}
use Rattle.masks.proofs.BitLaws.{bits_lt}
use Rattle.rules.specs.Lines.{bits_from}
use Rattle.rules.proofs.Powers.{one_shl, shl_pos}
use Rattle.masks.proofs.bits_from.Goals as goal

pub nonzero_rem-result : goal.nonzero_rem-result
nonzero_rem-result c = shl_pos 64 _ c.requires.1

pub returns : goal.returns
unfolding bits_from
returns c = rw (one_shl 64 c.args.n c.requires.1) (refl, bits_lt c.args.i c.args.n c.args.m)
