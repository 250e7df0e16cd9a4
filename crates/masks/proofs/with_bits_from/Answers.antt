-- `masks::with_bits_from` meets its contract. The bits that are there go, and the new ones come: what is left fits 64 bits. Assumes
-- nothing.
use Rattle.masks.proofs.BitLaws.{old_le, replaced, replaced_fits}
use Rattle.masks.proofs.with_bits_from.Goals as goal

pub overflow_sub-result : goal.overflow_sub-result
overflow_sub-result c =
    old_le 64 c.args.i c.args.n 0 _ c.bits_from.ensures.0 c.requires.2

pub overflow_add-result : goal.overflow_add-result
overflow_add-result c =
    record { fits = rw (replaced 64 _ _ _ _ c.bits_from.ensures.0 c.requires.2 c.requires.3) (replaced_fits 64 _ _ _ _ c.requires.2 c.requires.3 c.ranges.m.fits) }

pub returns : goal.returns
returns c = replaced 64 _ _ _ _ c.bits_from.ensures.0 c.requires.2 c.requires.3
