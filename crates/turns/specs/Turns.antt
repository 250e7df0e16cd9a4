-- What the functions of a turn promise: that they do their tree's steps, whatever the rest of the device is. Assumes nothing.
use Rattle.std.specs.Prelude.{List, ◌≡◌, ℕ, ◌+◌, ◌*◌, set}
use Rattle.rules.specs.Act.{Act}
use Rattle.rules.specs.Carry.{World, ok, go, Lent}
use Rattle.rules.specs.Run.{paced}
use Rattle.rules.specs.With.{with_pending, with_busy}
use Rattle.rules.specs.State.{Device}
use Rattle.act.specs.Worlds.{world, came_to}
use Rattle.act.specs.declared.Flow.{Flow}
use Rattle.act.specs.Worlds.{Step}

-- the device d, but for what a turn holds apart from a pass: busy, pending
abbrev pub around : Device → List ℕ → List ℕ → Device
around d b p = with_busy (with_pending d p) b

-- window, journal, table, busy, majors, pending
abbrev pub turning : Device → Flow → List ℕ → List ℕ → List ℕ → List ℕ → List ℕ → List ℕ → World
turning d t w j tb b m p = world (around d b p) t w j tb m

-- a turn, or a part of one
abbrev pub Turns : Act (Unit {0}) → ℕ → Lent → Flow → Step → List ℕ → List ℕ → List ℕ → List ℕ → List ℕ → List ℕ → List ℕ → List ℕ → List ℕ → List ℕ → List ℕ → List ℕ → Type 0
Turns act base lent t r w w' j j' tb tb' b b' m m' p p' = (d : Device) → came_to r (around d b' p') w' j' tb' m' ≡ go base lent act (turning d t w j tb b m p)

-- channel 35's pace, whatever the rest of the world is; and no other channel's busy time
pub record Paces (now pace sum : ℕ) (t r : Flow) (b b' : List ℕ) : Type 0 where
  pub does : (base : ℕ) (lent : Lent) (d : Device) (w j tb m p : List ℕ)
      → go base lent (paced now pace sum) (turning d t w j tb b m p) ≡ ok tt (turning d r w j tb b' m p)
  pub until : b' ≡ set b 35 (now + sum * pace)
