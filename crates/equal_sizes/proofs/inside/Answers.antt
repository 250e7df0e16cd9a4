-- `equal_sizes::inside` meets its contract: the test's numbers, whose sums and product fit 64 bits. Assumes nothing.
use mathlib.Core.Bool.{false≢true}
use Rattle.std.proofs.Common.{arith, leb-true}
use Rattle.equal_sizes.proofs.KnownLaws.{product_fits, all_inside}
use Rattle.equal_sizes.proofs.inside.Goals as goal

pub returns-then-from-base : goal.returns-then-from-base
returns-then-from-base c = λ e. absurd (false≢true e)

pub overflow_mul-result : goal.overflow_mul-result
overflow_mul-result c = record { fits = omega (arith, product_fits c.ranges.count.fits c.ranges.off.fits) }

pub overflow_add-result : goal.overflow_add-result
overflow_add-result c = record { fits = omega (arith, product_fits c.ranges.count.fits c.ranges.off.fits) }

pub overflow_add-result-2 : goal.overflow_add-result-2
overflow_add-result-2 c = record { fits = omega (arith, product_fits c.ranges.count.fits c.ranges.off.fits) }

pub returns : goal.returns
returns c = λ e. all_inside _ _ _ _ _ _ (omega arith) (leb-true _ _ e)
