-- `back::is_end` meets its contract: what the four reads ensure. Assumes nothing.
use Rattle.back.proofs.FindLaws.{end_is}
use Rattle.back.proofs.is_end.Goals as goal

pub returns : goal.returns
returns c = rw (end_is, ← c.is_marked.ensures, ← c.get.ensures, ← c.get-2.ensures, ← c.get-3.ensures)
