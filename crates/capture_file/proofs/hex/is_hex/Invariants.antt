-- `capture_file::hex::is_hex` meets its contract. Assumes nothing.
use Rattle.capture_file.specs.Hex.{digits_from}
use Rattle.std.proofs.Common.{length, ◌-◌, ◌≡◌}
use Rattle.capture_file.proofs.hex.is_hex.Given as goal

abbrev pub invariant-loop-k : goal.invariant-loop-k
invariant-loop-k l = digits_from l.text l.k (length l.text - l.k) ≡ digits_from l.text 0 (length l.text)
