-- `device::own_numbers` meets its contract. The loop's invariant: the numbers before the channel's are there. Assumes nothing.
use Rattle.device.proofs.Laws.{counted_none, counted-turn}
use Rattle.device.proofs.own_numbers.Goals as goal

pub loop-channel-init : goal.loop-channel-init
loop-channel-init c = counted_none

pub loop-channel-preserved : goal.loop-channel-preserved
loop-channel-preserved c = counted-turn _ c.loop-channel-test.true c.loop-channel.invariant
