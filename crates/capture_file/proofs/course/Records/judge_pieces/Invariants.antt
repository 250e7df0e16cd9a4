-- `capture_file::course::Records::judge_pieces` meets its contract: what is safe stays so.
-- Assumes nothing.
use Rattle.judge.specs.Walks.{Safe}
use Rattle.capture_file.proofs.course.Records.judge_pieces.Given as goal

abbrev pub invariant-loop-number : goal.invariant-loop-number
invariant-loop-number g l = Safe l.c
