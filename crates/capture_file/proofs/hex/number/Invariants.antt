-- `capture_file::hex::number` meets its contract. Assumes nothing.
use Rattle.capture_file.specs.Hex.{spelled_from}
use Rattle.std.proofs.Common.{length, ◌-◌, ◌≡◌}
use Rattle.capture_file.proofs.hex.number.Given as goal

abbrev pub invariant-loop-k : goal.invariant-loop-k
invariant-loop-k l = spelled_from l.text l.v l.k (length l.text - l.k) ≡ spelled_from l.text 0 0 (length l.text)
