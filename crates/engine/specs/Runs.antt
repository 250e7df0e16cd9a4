-- What the parts of a run promise. Assumes nothing.
use Rattle.std.specs.Prelude.{Bool, cond, not, List, ◌≡◌, ℕ, ◌≤◌, eqb, length, replicate, take, None, Ok, Err}
use Rattle.rules.specs.Act.{Act, ask, when, ◌>>=◌}
use Rattle.rules.specs.Calls.{Asked, run, service, refusal_number, levelled, world_of, told_after, after}
use Rattle.rules.specs.Carry.{unmade, cleared, go, perform, Lent, lending}
use Rattle.rules.specs.Run.{run_all, service_all}
use Rattle.rules.specs.Scalars.{KICK}
use Rattle.rules.specs.State.{Device}
use Rattle.rules.specs.View.{view_priorities}
use Rattle.rules.specs.declared.Controller.{Controller as HeldController}
use Rattle.rules.specs.declared.Refusal.{Refusal}
use Rattle.rules.specs.declared.Scalars.{Scalars}
use Rattle.rules.proofs.Proper.{Proper}
use Rattle.act.specs.Parts.{Arrays, ordered, working, whole, told_done}
use Rattle.act.specs.Worlds.{came_to, flow_of}
use Rattle.act.specs.declared.Core.{Core}
use Rattle.act.specs.declared.Done.{Done}
use Rattle.act.specs.declared.Flow.{Flow}
use Rattle.act.specs.Worlds.{Step}
use Rattle.acting.specs.Ending.{Settled, refused_by, remaining}
use Rattle.acting.specs.declared.Reached.{Reached}
use Rattle.turns.specs.Turns.{around, turning}

-- w, s, j, tb, b, m, p are window, staging, journal, table, busy, majors and pending

-- a run; of a service, one that follows if KICK is not 0
abbrev pub run_of : Bool → ℕ → ℕ → Act (Unit {0})
run_of again time pace = cond again (ask KICK >>= (λ kick. when (not (eqb kick 0)) (run_all time pace))) (run_all time pace)

-- its turns, of every proper device with this mode and these priorities
abbrev pub TakesTurns : Bool → Bool → List ℕ → ℕ → ℕ → ℕ → Lent → Flow → Step → List ℕ → List ℕ → List ℕ → List ℕ → List ℕ → List ℕ → List ℕ → List ℕ → List ℕ → List ℕ → List ℕ → List ℕ → Type 0
TakesTurns again chip o time pace base lent t r w w' j j' tb tb' b b' m m' p p' = (d : Device) → Proper (turning d t w j tb b m p).now.dev → d.chip ≡ chip → d.priorities ≡ view_priorities chip o
    → came_to r (around d b' p') w' j' tb' m' ≡ go base lent (run_of again time pace) (turning d t w j tb b m p)

-- and staging is zero
pub record RunsAll (again chip : Bool) (o : List ℕ) (time pace base : ℕ) (t : Flow) (r : Step) (w w' s s' j j' tb tb' b b' m m' p p' : List ℕ) : Type 0 where
  pub does : TakesTurns again chip o time pace base (lending (length s)) t r w w' j j' tb tb' b b' m m' p p'
  pub cleared_staging : s' ≡ replicate (length s) 0

-- the steps of a service, or of a run
abbrev pub turns_of : Bool → ℕ → ℕ → Act (Unit {0})
turns_of again time pace = cond again (service_all time pace) (run_all time pace)

-- a core of these numbers
abbrev pub numbered : Scalars → List HeldController → Bool → Core
numbered s k ignore = record { scalars = s; controllers = k; ignore_masks = ignore }

-- they are the turns of a run that begins with r and busy times b', of a device that is proper still
pub record Begins (again : Bool) (time : ℕ) (s : Scalars) (r : Flow) (b b' p : List ℕ) (used : ℕ) : Type 0 where
  pub goes : (pace base : ℕ) (lent : Lent) (k : List HeldController) (ignore : Bool) (x : Arrays) (tb m w j : List ℕ)
      → go base lent (turns_of again time pace) (world_of (whole (numbered s k ignore) (working x tb b m p)) w j used)
      ≡ go base lent (run_of again time pace) (turning (whole (numbered s k ignore) (working x tb b m p)) r w j tb b' m p)
  pub proper : (k : List HeldController) (ignore : Bool) (x : Arrays) (tb m w j : List ℕ) → Proper (whole (numbered s k ignore) (working x tb b m p))
      → Proper (turning (whole (numbered s k ignore) (working x tb b m p)) r w j tb b' m p).now.dev

-- how an act of turns ended that began with core k and arrays x and came, in s₀ and then in s, to arrays x', window w' and journal j: all that is
-- there where it is accepted; and where it is refused, its number, and that nothing is changed but window, arrays and the journal behind its end
pub record Ended (k : Core) (x x' : Arrays) (s₀ : Step) (r : Done) (base : ℕ) (lent : Lent) (act : Act (Unit {0})) (w j₀ w' j j' : List ℕ) (used : ℕ) : Type 0 where
  pub told_made : (z : List ℕ) → r.verdict ≡ (Ok tt)
      → told_done None r x' w' z j' ≡ told_after z used (perform base lent (levelled act) (world_of (whole k x) w j₀ used))
  pub told_unmade : (why : Refusal) → r.verdict ≡ Err why
      → perform base lent (levelled act) (world_of (whole k x) w j₀ used) ≡ unmade (refusal_number why) (cleared (world_of (whole k x) w j₀ used))
  pub core_kept : (why : Refusal) → r.verdict ≡ Err why → r ≡ refused_by k (Err why) used
  pub front : take (flow_of s₀).at j' ≡ take (flow_of s₀).at j
  pub long : length j' ≡ length j

abbrev pub EndsTurns : Core → Reached → ℕ → Done → List ℕ → List ℕ → List ℕ → List ℕ → List ℕ → List ℕ → List ℕ → List ℕ → Type 0
EndsTurns k s used r b b' m m' p p' j j' = (x : Arrays) (tb tb' : List ℕ) (s₀ : Step) (base : ℕ) (lent : Lent) (act : Act (Unit {0})) (w j₀ w' : List ℕ)
    → Proper (whole k (working x tb b m p)) → used ≤ length j₀
    → Settled k (working x tb' b' m' p') s₀ s base lent act (whole k (working x tb b m p)) w j₀ w' j used
    → Ended k (working x tb b m p) (working x tb' b' m' p') s₀ r base lent act w j₀ w' j j' used

-- a service or a run, carried out as a call does it, but for busy times, majors and pending counts after a refusal; of a device with this mode and
-- these priorities
abbrev pub Carries : Bool → Bool → List ℕ → ℕ → ℕ → ℕ → Core → Done → List ℕ → List ℕ → List ℕ → List ℕ → List ℕ → List ℕ → List ℕ → List ℕ
    → List ℕ → List ℕ → List ℕ → List ℕ → List ℕ → List ℕ → ℕ → Type 0
Carries again chip o time pace base k r w w' s s' j j' tb tb' b b' m m' p p' used = (y : Arrays) → let x = ordered y o chip in Proper (whole k (working x tb b m p))
    → told_done None r (remaining r.verdict (working x tb' b m p) (working x tb' b' m' p')) w' s' j'
    ≡ told_after (replicate (length s) 0) used (perform base (lending (length s)) (levelled (turns_of again time pace)) (world_of (whole k (working x tb b m p)) w j used))

-- the call
abbrev pub call_of : Bool → ℕ → ℕ → Asked
call_of again time pace = cond again (service time pace) (run time pace)

abbrev pub Runs : Bool → ℕ → ℕ → ℕ → Core → Done → Arrays → List ℕ → List ℕ → List ℕ → List ℕ → List ℕ → List ℕ → List ℕ → List ℕ → List ℕ → List ℕ → List ℕ → List ℕ → List ℕ → List ℕ → ℕ → Type 0
Runs again time pace base k r x w w' s s' j j' tb tb' b b' m m' p p' used = Proper (whole k (working x tb b m p))
    → told_done None r (working x tb' b' m' p') w' s' j' ≡ after (call_of again time pace) base (whole k (working x tb b m p)) w s j used
