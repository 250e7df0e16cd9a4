-- `image::put_flags` meets its contract. Assumes nothing.
use Rattle.image.proofs.Laws.{flags-put}
use Rattle.image.proofs.put_flags.Goals as goal

pub returns : goal.returns
returns c = flags-put _ _ _ _ _ _ c.flags_of.ensures c.put.ensures c.put-2.ensures
