-- `capture_file::hex::descriptor` meets its contract. Assumes nothing.
use Rattle.capture_file.specs.Hex.{byte_of}
use Rattle.std.proofs.Common.{ℕ, length, get_or, ◌<◌, ◌≡◌}
use Rattle.capture_file.proofs.hex.descriptor.Given as goal

abbrev pub invariant-loop-k : goal.invariant-loop-k
invariant-loop-k l = ((j : ℕ) → j < l.k → get_or l.out j 0 ≡ byte_of l.text j) × (length l.out ≡ 32)
