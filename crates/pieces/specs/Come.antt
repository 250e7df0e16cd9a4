-- How many bytes came, also where a read failed after them. Assumes nothing.
use Rattle.std.specs.Prelude.{ℕ, Result, Ok, Err}
use Rattle.pieces.specs.declared.Failed.{Failed}

abbrev pub come : Result ℕ Failed → ℕ
come (Ok n) = n
come (Err x) = x.after
