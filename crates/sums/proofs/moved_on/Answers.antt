-- `sums::moved_on` meets its contract, by whether the address takes the offset and the loop is the last. Assumes nothing.
use Rattle.rules.specs.Minor.{minor_offset}
use Rattle.sums.proofs.Laws.{offset_none, offset_last, offset_added}
use Rattle.sums.proofs.moved_on.Goals.{else-on-via-then-on+else-count_of-ne1, else-on-via-else-on}
use Rattle.sums.proofs.moved_on.Goals as goal

pub returns-then-count_of-ne1 : goal.returns-then-count_of-ne1
unfolding minor_offset
returns-then-count_of-ne1 c = offset_added _ _ c.count_of.ensures c.if-on.true c.if-count_of-ne1.true c.signed20.ensures

pub returns-else-on : goal.returns-else-on
returns-else-on c =
    elim c.else-on.branch [
      | else-on-via-then-on+else-count_of-ne1 w ↦ offset_last _ _ w.count_of.ensures w.if-on.true w.if-count_of-ne1.false
      | else-on-via-else-on w ↦ offset_none _ _ w.if-on.false
    ]
