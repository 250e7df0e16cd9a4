-- What the steps of an act find in a device. It stands alone, so that contracts may cite it. Assumes nothing.
use Rattle.std.proofs.Common.{◌≡◌, length}
use Rattle.rules.specs.State.{Device}
use Rattle.rules.proofs.FieldLaws.{Sound}

-- a sound device with a table of 2048 bytes; every value of the declared type stands for one
pub record Proper (d : Device) : Type 0 where
  pub sound : Sound d
  pub size : length d.table ≡ 2048
