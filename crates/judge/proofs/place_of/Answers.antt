-- `judge::place_of` meets its contract. Assumes nothing.
use Rattle.judge.proofs.Cases.{small_product, large_product, place_fits}
use Rattle.judge.specs.Walks.{place_of}
use Rattle.std.proofs.Common.{◌^◌, ◌<◌, refl, arith, rules}
use Rattle.judge.proofs.place_of.Goals as goal

pub overflow_mul-result : goal.overflow_mul-result
overflow_mul-result c = let w : c.args.written < 2 ^ 32 = omega (arith, c.ranges.written) in search (rules, large_product _ _ w c.requires.0.size_most)

pub overflow_mul-result-2 : goal.overflow_mul-result-2
overflow_mul-result-2 c = let k : c.args.at.unit < 8 = omega (arith, c.requires.1) in search (rules, small_product _ _ k c.requires.0.unit_most)

pub overflow_cast-result-3 : goal.overflow_cast-result-3
overflow_cast-result-3 c = let k : c.args.at.unit < 8 = omega (arith, c.requires.1) in search (rules, small_product _ _ k c.requires.0.unit_most)

pub overflow_add-result : goal.overflow_add-result
overflow_add-result c =
    let k : c.args.at.unit < 8 = omega (arith, c.requires.1) in
    let w : c.args.written < 2 ^ 32 = omega (arith, c.ranges.written) in
    search (rules, place_fits _ _ _ _ w c.requires.0.size_most k c.requires.0.unit_most)

pub returns : goal.returns
unfolding place_of
returns c =
    let k : c.args.at.unit < 8 = omega (arith, c.requires.1) in
    let w : c.args.written < 2 ^ 32 = omega (arith, c.ranges.written) in
    (refl, place_fits _ _ _ _ w c.requires.0.size_most k c.requires.0.unit_most)
