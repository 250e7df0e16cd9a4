-- `equal_sizes::units_of` meets its contract: sizes without a gap are units of 4, any others are themselves. Assumes nothing.
use Rattle.std.proofs.Common.{refl, arith}
use Rattle.equal_sizes.proofs.KnownLaws.{fours_fit, plain_fours, plain_itself}
use Rattle.equal_sizes.proofs.units_of.Goals as goal

pub overflow_mul-result : goal.overflow_mul-result
overflow_mul-result c = record { fits = omega (arith, fours_fit c.if-count-lt268435456.true c.requires.most) }

pub returns-then-count-lt268435456 : goal.returns-then-count-lt268435456
returns-then-count-lt268435456 c = plain_fours _ _ _ c.requires c.if-size-gt4.true c.if-step-size.true c.if-step-size-2.true refl refl refl refl

pub returns-else-count-lt268435456 : goal.returns-else-count-lt268435456
returns-else-count-lt268435456 c = plain_itself _ _ _ c.requires

pub returns-else-step-size-2 : goal.returns-else-step-size-2
returns-else-step-size-2 c = plain_itself _ _ _ c.requires

pub returns-else-step-size : goal.returns-else-step-size
returns-else-step-size c = plain_itself _ _ _ c.requires

pub returns-else-size-gt4 : goal.returns-else-size-gt4
returns-else-size-gt4 c = plain_itself _ _ _ c.requires
