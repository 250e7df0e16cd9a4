-- `sums::cap` meets its contract, by cases; a count that is not 0 is at most 2^30, so that the cap decides. Assumes nothing.
use Rattle.std.proofs.Common.{◌≡◌, min, rules, arith, eq-eqb, ne_eqb}
use Rattle.rules.specs.Minor.{capped}
use Rattle.sums.proofs.cap.Goals as goal

pub returns-then-n-eq0 : goal.returns-then-n-eq0
unfolding capped
returns-then-n-eq0 c = (rw (eq-eqb c.args.n 0 c.if-n-eq0.true), omega arith, omega arith)

pub returns-else-n-eq0 : goal.returns-else-n-eq0
unfolding capped
returns-else-n-eq0 c =
    let least : c.min.result ≡ min c.args.n 4194304 = search rules in
    (rw (ne_eqb c.args.n 0 c.if-n-eq0.false) least, omega (arith, least), omega (arith, least))
