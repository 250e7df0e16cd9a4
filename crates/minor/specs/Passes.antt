-- What one pass promises: that it does the steps of its tree, whatever the rest of the device is. After a refusal too the whole world is stated,
-- so that what was done can be undone. Assumes nothing.
use Rattle.std.specs.Prelude.{Bool, true, false, List, ◌≡◌, ℕ, Option, Some, None, Ok, Err}
use Rattle.rules.specs.Act.{Act}
use Rattle.rules.specs.Calls.{refusal_number}
use Rattle.rules.specs.Carry.{Out, ok, no, go, Lent}
use Rattle.rules.specs.State.{Device}
use Rattle.act.specs.Worlds.{world}
use Rattle.act.specs.declared.Flow.{Flow}
use Rattle.act.specs.Worlds.{Step}

-- an idle pass, which answers no, leaves the scalars c that it was given
unfoldable pub passed : Option Step → Flow → Device → List ℕ → List ℕ → List ℕ → List ℕ → Out Bool
passed None c d w j t m = ok false (world d c w j t m)
passed (Some (Ok f)) c d w j t m = ok true (world d f w j t m)
passed (Some (Err stopped)) c d w j t m = no (refusal_number stopped.why) (world d stopped.at w j t m)

-- with what is lent
abbrev pub Passes : Act Bool → ℕ → Lent → Flow → Option Step → List ℕ → List ℕ → List ℕ → List ℕ → List ℕ → List ℕ → List ℕ → List ℕ → Type 0
Passes act base lent c r w w' j j' t t' m m' = (d : Device) → passed r c d w' j' t' m' ≡ go base lent act (world d c w j t m)
