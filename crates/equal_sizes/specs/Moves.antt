-- What a function that moves sizes promises: that it does the steps of its tree, whatever the rest of the world is. Assumes nothing.
use Rattle.std.specs.Prelude.{◌≡◌, ℕ, List, Result, Ok, Err}
use Rattle.rules.specs.Act.{Act}
use Rattle.rules.specs.Calls.{world_of, refusal_number}
use Rattle.rules.specs.Carry.{Out, ok, no, go, Lent}
use Rattle.rules.specs.State.{Device}
use Rattle.act.specs.declared.Stopped.{Stopped}
use Rattle.equal_sizes.specs.declared.Moved.{Moved}

-- with this window and this journal
unfoldable pub moved : Result Moved (Stopped ℕ) → Device → List ℕ → List ℕ → Out (ℕ × ℕ)
moved (Ok r) d w j = ok (r.from, r.to) (world_of d w j r.at)
moved (Err stopped) d w j = no (refusal_number stopped.why) (world_of d w j stopped.at)

-- from the journal's end `at` on
abbrev pub Moves : Act (ℕ × ℕ) → ℕ → ℕ → Result Moved (Stopped ℕ) → List ℕ → List ℕ → List ℕ → List ℕ → Type 0
Moves act base at r w w' j j' = (lent : Lent) (d : Device) → moved r d w' j' ≡ go base lent act (world_of d w j at)
