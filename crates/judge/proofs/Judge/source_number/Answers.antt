-- `judge::Judge::source_number` meets its contract. Assumes nothing.
use Rattle.std.proofs.Common.{◌<◌, refl, arith, lit<, rules}
use Rattle.judge.proofs.Cases.{number_more, bytes_fit_one}
use Rattle.judge.specs.Walks.{source_number, source_bytes}
use Rattle.rules.specs.Bytes.{number}
use Rattle.judge.proofs.Judge.source_number.Goals as goal

pub loop-k-init : goal.loop-k-init
unfolding source_number source_bytes number
loop-k-init c = (refl, lit< tt)

pub overflow_mul-v : goal.overflow_mul-v
overflow_mul-v c =
    let few : c.loop-k.k < 4 = omega (arith, c.loop-k-test.true, c.requires.1) in
    search (rules, (bytes_fit_one c.loop-k.k c.loop-k.v 0 few c.loop-k.invariant.1 (lit< tt)).0)

pub overflow_add-v : goal.overflow_add-v
overflow_add-v c =
    let few : c.loop-k.k < 4 = omega (arith, c.loop-k-test.true, c.requires.1) in
    search (rules, (bytes_fit_one c.loop-k.k c.loop-k.v c.source_byte.result few c.loop-k.invariant.1 (omega arith)).0)

pub loop-k-preserved : goal.loop-k-preserved
loop-k-preserved c =
    let few : c.loop-k.k < 4 = omega (arith, c.loop-k-test.true, c.requires.1) in
    (number_more _ _ _ _ _ _ c.loop-k.invariant.0 c.source_byte.ensures, (bytes_fit_one c.loop-k.k c.loop-k.v c.source_byte.result few c.loop-k.invariant.1 (omega arith)).1)
