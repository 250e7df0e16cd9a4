-- What the functions of a turn promise: that they do their tree's steps, whatever the rest of the device is. Assumes nothing.
use Rattle.std.specs.Prelude.{Bool, true, cond, List, ◌≡◌, ℕ, get_or, Result, Ok, Err}
use Rattle.rules.specs.Act.{Act, done, ◌>>=◌, ◌>>◌}
use Rattle.rules.specs.Calls.{refusal_number}
use Rattle.rules.specs.Carry.{Out, ok, no, go, Lent}
use Rattle.rules.specs.Minor.{descriptor, pass}
use Rattle.rules.specs.Run.{paced, chip_turns, run_turns}
use Rattle.rules.specs.State.{Device}
use Rattle.rules.specs.View.{view_priorities}
use Rattle.rules.proofs.Proper.{Proper}
use Rattle.act.specs.Worlds.{world, came_to}
use Rattle.act.specs.declared.Flow.{Flow}
use Rattle.act.specs.Worlds.{Step}
use Rattle.turns.specs.Turns.{around, turning}
use Rattle.chip.specs.declared.Turned.{Turned}
use Rattle.act.specs.declared.Stopped.{Stopped}

-- where a turn came to, and whether its pass answered yes
unfoldable pub turned_to : Result Turned (Stopped Flow) → Device → List ℕ → List ℕ → List ℕ → List ℕ → Out Bool
turned_to (Ok r) d w j t m = ok r.went (world d r.flow w j t m)
turned_to (Err stopped) d w j t m = no (refusal_number stopped.why) (world d stopped.at w j t m)

-- channel 35 on request: one pass, and its pace
unfoldable pub line_turn : ℕ → ℕ → Act Bool
line_turn now pace = do
  t ← descriptor 35
  went ← pass 35
  paced now pace (cond went t.nbytes 0)
  done went

-- w, j, tb, b, m, p are window, journal, table, busy, majors and pending

-- one pass
abbrev pub Passing : Act Bool → ℕ → Lent → Flow → Result Turned (Stopped Flow) → List ℕ → List ℕ → List ℕ → List ℕ → List ℕ → List ℕ → List ℕ → List ℕ → Type 0
Passing act base lent t r w w' j j' tb tb' m m' = (d : Device) → turned_to r d w' j' tb' m' ≡ go base lent act (world d t w j tb m)

-- a turn of channel ch, or a part of one; busy times and pending counts of other channels are as they were
pub record Serves (act : Act Bool) (ch base : ℕ) (lent : Lent) (t : Flow) (r : Result Turned (Stopped Flow)) (w w' j j' tb tb' b b' m m' p p' : List ℕ) : Type 0 where
  pub does : (d : Device) → turned_to r (around d b' p') w' j' tb' m' ≡ go base lent act (turning d t w j tb b m p)
  pub busy : (c : ℕ) → (ch ≡ c → ⊥) → get_or b' c 0 ≡ get_or b c 0
  pub pending : (c : ℕ) → (ch ≡ c → ⊥) → get_or p' c 0 ≡ get_or p c 0

-- all turns of a run, of every proper device that has the priorities o
abbrev pub Chips : ℕ → ℕ → ℕ → Lent → List ℕ → Flow → Step → List ℕ → List ℕ → List ℕ → List ℕ → List ℕ → List ℕ → List ℕ → List ℕ → List ℕ → List ℕ → List ℕ → List ℕ → Type 0
Chips time pace base lent o t r w w' j j' tb tb' b b' m m' p p' = (d : Device) → Proper (turning d t w j tb b m p).now.dev → d.priorities ≡ view_priorities true o
    → came_to r (around d b' p') w' j' tb' m' ≡ go base lent (chip_turns time pace run_turns 0) (turning d t w j tb b m p)
