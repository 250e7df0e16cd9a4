-- `words::clear` meets its contract. The loop's invariant: from `from` up to here all is zero, and the rest is as it was. Assumes nothing.
use Rattle.std.proofs.Common.{◌≡◌, ◌-◌, replicate}
use Rattle.std.proofs.Math.Seq.{paste}
use Rattle.words.proofs.clear.Given as goal

abbrev pub invariant-loop-i : goal.invariant-loop-i
invariant-loop-i l = l.s ≡ paste l.initial.s l.from (replicate (l.i - l.from) 0) (l.i - l.from)
