-- `pieces::fill` meets its contract: each read gives the file's next bytes. Assumes nothing.
use Rattle.std.proofs.Common.{arith, ◌≡◌, ◌+◌}
use Rattle.std.proofs.KnownBytes.{Consumes-nil}
use Rattle.pieces.proofs.Laws.{read_on}
use Rattle.pieces.proofs.fill.Goals as goal

pub loop-have-init : goal.loop-have-init
loop-have-init g c = record { within = omega arith; bytes = Consumes-nil (g.F.Read.remaining c.args.file.now) }

pub loop-have-preserved : goal.loop-have-preserved
loop-have-preserved g c = record {
  within = let w = rw c.in_ok-n.was at c.read_more.ensures.within in omega (arith, w);
  bytes = read_on _ _ _ _ _ _ _ c.loop-have.invariant.bytes c.read_more.ensures.front (rw c.in_ok-n.was at c.read_more.ensures.bytes);
}

pub returns-then-n-eq0-clause-bytes : goal.returns-then-n-eq0-clause-bytes
returns-then-n-eq0-clause-bytes g c =
    let none : c.loop-have.have + c.in_ok-n.n ≡ c.loop-have.have = omega arith in
    rw none at (read_on _ _ _ _ _ _ _ c.loop-have.invariant.bytes c.read_more.ensures.front (rw c.in_ok-n.was at c.read_more.ensures.bytes))
