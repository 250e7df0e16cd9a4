-- What a register read answers, as the rules have it. Assumes nothing.
use Rattle.std.proofs.Math.Option.{Option, none, some}
use Rattle.std.specs.Prelude.{ℕ, Option as Held, Some, None}

abbrev pub reads : Held ℕ → Option ℕ
reads (Some v) = some v
reads None = none
