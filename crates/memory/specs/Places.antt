-- Where an access to memory falls. Assumes nothing.
use Rattle.std.specs.Prelude.{false, cond, List, ℕ, Option, Some, None}
use Rattle.rules.specs.Act.{window}
use Rattle.rules.specs.Calls.{fresh}
use Rattle.rules.specs.Carry.{Machine, there, index_of}

-- a machine with this window; which device it has makes no difference to a place in memory
unfoldable pub holding : List ℕ → Machine
holding w = record { mem = w; dev = fresh false false }

-- n bytes from address a on: their index in the window, if they are all there
unfoldable pub place_of : ℕ → List ℕ → ℕ → ℕ → Option ℕ
place_of base w a n = cond (there base window a n (holding w)) (Some (index_of base window a)) None
