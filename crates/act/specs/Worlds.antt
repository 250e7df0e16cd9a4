-- How the engine's values stand for a world of the rules, and what a function promises: that it does an act's steps, whatever the rest of
-- the world is. Assumes nothing.
use Rattle.std.specs.Prelude.{◌≡◌, List, ℕ, Result, Ok, Err}
use Rattle.rules.specs.Act.{Act, ◌>>=◌}
use Rattle.rules.specs.Calls.{world_of, refusal_number}
use Rattle.rules.specs.Carry.{World, Out, ok, no, go, Lent}
use Rattle.rules.specs.Scalars.{view_scalars}
use Rattle.rules.specs.State.{Device}
use Rattle.rules.specs.With.{with_scalars, with_table, with_majors}
use Rattle.act.specs.declared.Flow.{Flow}
use Rattle.act.specs.declared.Stopped.{Stopped}

-- ---- values and worlds

-- still going, or refused: why, and how far it had come
abbrev pub Step : Type 0
Step = Result Flow (Stopped Flow)

-- the same of a function that touches only window and journal
abbrev pub Walk : Type 0
Walk = Result ℕ (Stopped ℕ)

-- the device d, but for what the engine holds apart: scalars, table, majors
abbrev pub over : Device → Flow → List ℕ → List ℕ → Device
over d c table majors = with_majors (with_table (with_scalars d (view_scalars c.scalars)) table) majors

-- window, journal, table, majors
abbrev pub world : Device → Flow → List ℕ → List ℕ → List ℕ → List ℕ → World
world d c w j t m = world_of (over d c t m) w j c.at

-- where a step stands
abbrev pub flow_of : Step → Flow
flow_of (Ok c) = c
flow_of (Err stopped) = stopped.at

-- and, of it, the journal's end alone
abbrev pub walk_of : Step → Walk
walk_of (Ok c) = Ok c.at
walk_of (Err stopped) = Err (record { why = stopped.why; at = stopped.at.at })

unfoldable pub came_to : Step → Device → List ℕ → List ℕ → List ℕ → List ℕ → Out (Unit {0})
came_to (Ok c) d w j t m = ok tt (world d c w j t m)
came_to (Err stopped) d w j t m = no (refusal_number stopped.why) (world d stopped.at w j t m)

unfoldable pub walked : Walk → Device → List ℕ → List ℕ → Out (Unit {0})
walked (Ok e) d w j = ok tt (world_of d w j e)
walked (Err stopped) d w j = no (refusal_number stopped.why) (world_of d w j stopped.at)

-- on with m after what came before, unless that was refused
unfoldable pub on : ℕ → Lent → {A : Type 0} → Act A → Out (Unit {0}) → Out A
on base lent m (ok a u) = go base lent m u
on base lent m (no n u) = no n u

-- ---- promises

-- of a function that is lent journal and table
abbrev pub OnTable : Act (Unit {0}) → Step → Step → List ℕ → List ℕ → List ℕ → List ℕ → Type 0
OnTable act s r j j' t t' = (base : ℕ) (lent : Lent) (d : Device) (w m : List ℕ) → came_to r d w j' t' m ≡ on base lent act (came_to s d w j t m)

-- of one that changes scalars only
abbrev pub OnScalars : Act (Unit {0}) → Step → Step → Type 0
OnScalars act s r = (base : ℕ) (lent : Lent) (d : Device) (w j t m : List ℕ) → came_to r d w j t m ≡ on base lent act (came_to s d w j t m)

-- of one that is lent majors
abbrev pub OnMajors : Act (Unit {0}) → Step → Step → List ℕ → List ℕ → Type 0
OnMajors act s r m m' = (base : ℕ) (lent : Lent) (d : Device) (w j t : List ℕ) → came_to r d w j t m' ≡ on base lent act (came_to s d w j t m)

-- of one that reads the window, and is lent journal and table
abbrev pub OnWindow : Act (Unit {0}) → ℕ → Step → Step → List ℕ → List ℕ → List ℕ → List ℕ → List ℕ → Type 0
OnWindow act base s r w j j' t t' = (lent : Lent) (d : Device) (m : List ℕ) → came_to r d w j' t' m ≡ on base lent act (came_to s d w j t m)

-- of one that reads the window, and is lent all else
abbrev pub OnRest : Act (Unit {0}) → ℕ → Step → Step → List ℕ → List ℕ → List ℕ → List ℕ → List ℕ → List ℕ → List ℕ → Type 0
OnRest act base s r w j j' t t' m m' = (lent : Lent) (d : Device) → came_to r d w j' t' m' ≡ on base lent act (came_to s d w j t m)

-- of one that reads the window and answers: whatever is done with its answer
abbrev pub Gives : {A : Type 0} → Act A → ℕ → Step → Step → A → List ℕ → Type 0
Gives {A} act base s r a w = (lent : Lent) (d : Device) (j t m : List ℕ) (k : A → Act (Unit {0})) → on base lent (k a) (came_to r d w j t m) ≡ on base lent (act >>= k) (came_to s d w j t m)

-- of one that is lent window and journal only, from the journal's end `at` on
abbrev pub Walks : Act (Unit {0}) → ℕ → ℕ → Walk → List ℕ → List ℕ → List ℕ → List ℕ → Type 0
Walks act base at r w w' j j' = (lent : Lent) (d : Device) → walked r d w' j' ≡ go base lent act (world_of d w j at)
