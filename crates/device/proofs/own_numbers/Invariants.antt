-- `device::own_numbers` meets its contract. The loop's invariant: the numbers before the channel's are there. Assumes nothing.
use mathlib.Core.Path.{◌≡◌}
use Rattle.device.proofs.Laws.{counted_to}
use Rattle.device.proofs.own_numbers.Given as goal

abbrev pub invariant-loop-channel : goal.invariant-loop-channel
invariant-loop-channel l = l.own ≡ counted_to l.channel
