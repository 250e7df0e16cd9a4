-- What the passes of one channel promise: that they do their tree's steps, whatever the rest of the device is. Assumes nothing.
use Rattle.std.specs.Prelude.{List, ◌≡◌, ℕ, ◌^◌, ◌<◌, Result, Ok, Err}
use Rattle.rules.specs.Act.{Act}
use Rattle.rules.specs.Calls.{refusal_number}
use Rattle.rules.specs.Carry.{Out, ok, no, go, Lent}
use Rattle.rules.specs.With.{with_pending}
use Rattle.rules.specs.State.{Device}
use Rattle.act.specs.Worlds.{world, came_to}
use Rattle.act.specs.declared.Flow.{Flow}
use Rattle.act.specs.Worlds.{Step}
use Rattle.channel.specs.declared.Line.{Line}
use Rattle.act.specs.declared.Stopped.{Stopped}

-- passes one after the other
abbrev pub Goes : Act (Unit {0}) → ℕ → Lent → Flow → Step → List ℕ → List ℕ → List ℕ → List ℕ → List ℕ → List ℕ → List ℕ → List ℕ → Type 0
Goes act base lent c r w w' j j' t t' m m' = (d : Device) → came_to r d w' j' t' m' ≡ go base lent act (world d c w j t m)

-- passes on requests, which spend pending counts
abbrev pub Asks : Act (Unit {0}) → ℕ → Lent → Flow → Step → List ℕ → List ℕ → List ℕ → List ℕ → List ℕ → List ℕ → List ℕ → List ℕ → List ℕ → List ℕ → Type 0
Asks act base lent c r w w' j j' t t' m m' p p' =
    (d : Device) → came_to r (with_pending d p') w' j' t' m' ≡ go base lent act (world (with_pending d p) c w j t m)

-- the sum of the bytes of a line's passes
unfoldable pub lined : Result Line (Stopped Flow) → Device → List ℕ → List ℕ → List ℕ → List ℕ → Out ℕ
lined (Ok line) d w j t m = ok line.sum (world d line.flow w j t m)
lined (Err stopped) d w j t m = no (refusal_number stopped.why) (world d stopped.at w j t m)

-- the sum is small enough for a time
abbrev pub Small : Result Line (Stopped Flow) → Type 0
Small (Ok line) = line.sum < 2 ^ 33
Small (Err stopped) = Unit {0}

pub record Sums (act : Act ℕ) (base : ℕ) (lent : Lent) (c : Flow) (r : Result Line (Stopped Flow)) (w w' j j' t t' m m' : List ℕ) : Type 0 where
  pub small : Small r
  pub does : (d : Device) → lined r d w' j' t' m' ≡ go base lent act (world d c w j t m)
