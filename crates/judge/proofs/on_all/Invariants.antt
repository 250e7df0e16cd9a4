-- `judge::on_all` meets its contract. Assumes nothing.
use Rattle.std.proofs.Common.{◌≡◌, ◌-◌}
use Rattle.judge.specs.Walks.{Safe, on_all}
use Rattle.judge.proofs.on_all.Given as goal

abbrev pub invariant-loop-k : goal.invariant-loop-k
invariant-loop-k l =
    (on_all l.fn.p l.sources l.origin l.number l.records (l.count - l.k) l.k l.c ≡ on_all l.fn.p l.sources l.origin l.number l.records l.count 0 l.initial.c) × Safe l.c
