-- `entries::kp_capture` meets its contract. Assumes nothing.
use Rattle.entries.proofs.Laws.{no-descriptor, capture_entry}
use Rattle.entries.proofs.kp_capture.Goals as goal

pub returns-then-descriptor-ne32 : goal.returns-then-descriptor-ne32
returns-then-descriptor-ne32 c = let a = c.args in no-descriptor a.descriptor.now a.cr a.records.now c.if-descriptor-ne32.true c.packed.ensures

pub returns : goal.returns
returns c = let a = c.args in capture_entry a.descriptor.now a.cr a.records.now c.if-descriptor-ne32.false c.captured.ensures c.captured_answer.ensures
