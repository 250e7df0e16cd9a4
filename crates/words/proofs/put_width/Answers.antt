-- `words::put_width` meets its contract: each arm lays down the low bytes of its width. Assumes nothing.
use Rattle.words.proofs.Wide.{put_low}
use Rattle.words.proofs.put_width.Goals as goal

pub returns-in-1 : goal.returns-in-1
returns-in-1 c = put_low 1 _ _ _ c.in-1.is c.put.ensures

pub returns-in-2 : goal.returns-in-2
returns-in-2 c = put_low 2 _ _ _ c.in-2.is c.put-in-2.ensures

pub returns-in-4 : goal.returns-in-4
returns-in-4 c = put_low 4 _ _ _ c.in-4.is c.put-in-4.ensures
