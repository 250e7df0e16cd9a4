-- `controllers::waiting` meets its contract. The loop's invariant: from here on the channels that are left give what all give from the
use Rattle.controllers.specs.Waiting.{waiting_in}
use Rattle.std.proofs.Common.{◌≡◌, ◌-◌}
use Rattle.controllers.proofs.waiting.Given as goal

abbrev pub invariant-loop-i : goal.invariant-loop-i
invariant-loop-i l = waiting_in l.pending (64 - l.i) l.i l.m ≡ waiting_in l.pending 64 0 l.standing
