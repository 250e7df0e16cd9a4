-- `judge::Judge::source_number` meets its contract. Assumes nothing.
use Rattle.std.proofs.Common.{◌≡◌, ◌^◌, ◌<◌}
use Rattle.judge.specs.Walks.{source_number}
use Rattle.judge.proofs.Judge.source_number.Given as goal

abbrev pub invariant-loop-k : goal.invariant-loop-k
invariant-loop-k l = (l.v ≡ source_number l.self.sources.now l.self.origin l.self.plan.source.unit l.read l.j l.k) × (l.v < 256 ^ l.k)
