-- How acts end, on a device in parts, for every base, window and staging. Assumes nothing.
use Rattle.std.specs.Prelude.{Bool, false, List, ◌++◌, ◌≡◌, ℕ, ◌-◌, ◌≤◌, min, length, take, replicate, None, Ok, Err, Some}
use Rattle.std.specs.Result.{result_ok}
use Rattle.rules.specs.Act.{Act}
use Rattle.rules.specs.Calls.{told_after, refusal_number, world_of, levelled}
use Rattle.rules.specs.Carry.{Out, ok, no, go, leave, perform, Lent}
use Rattle.rules.specs.State.{Device}
use Rattle.rules.specs.Verdicts.{Heard}
use Rattle.rules.specs.declared.Refusal.TheVariants as Refusal
use Rattle.rules.specs.Verdicts.{Verdict}
use Rattle.rules.proofs.Proper.{Proper}
use Rattle.act.specs.Parts.{Arrays, tabled, whole, SameLevels, told_done}
use Rattle.act.specs.Worlds.{came_to, walk_of}
use Rattle.act.specs.declared.Core.{Core}
use Rattle.act.specs.declared.Done.{Done}
use Rattle.act.specs.Worlds.{Step}
use Rattle.act.specs.Worlds.{Walk}
use Rattle.closing.specs.Closes.{Noted}
use Rattle.acting.specs.declared.Reached.{Reached}

-- ---- how far an act came

-- as an end of its steps: the device of that core and the arrays x, window and journal; and what was heard, if it came on
abbrev pub arrived_at : Walk → Heard → Device → List ℕ → List ℕ → Out Heard
arrived_at (Ok at) h d w j = ok h (world_of d w j at)
arrived_at (Err stopped) h d w j = no (refusal_number stopped.why) (world_of d w j stopped.at)

abbrev pub arrived : Heard → Reached → Arrays → List ℕ → List ℕ → Out Heard
arrived h s x w j = arrived_at s.walk h (whole s.core x) w j

-- where it came on, the used length that it began with is past neither the end it came to nor the journal's last byte
abbrev pub Later : ℕ → Walk → List ℕ → Type 0
Later used (Ok at) j = used ≤ min at (length j)
Later used (Err stopped) j = Unit {0}

-- the journal j₀ that it began with, and j as it is now, are the same below the used length, and as long
pub record Since (used : ℕ) (j₀ j : List ℕ) : Type 0 where
  pub front : take used j₀ ≡ take used j
  pub long : length j₀ ≡ length j

-- where the journal ends then
abbrev pub end_at : Walk → ℕ
end_at (Ok at) = at
end_at (Err stopped) = stopped.at

-- where its last records begin
abbrev pub begun_at : Walk → Noted
begun_at w = result_ok w

-- ---- what it answers

abbrev pub refused_by : Core → Verdict → ℕ → Done
refused_by k v used = record { verdict = v; used = used; core = k }

abbrev pub done_at : Core → Walk → Core → Noted → ℕ → Done
done_at k (Err stopped) e n used = refused_by k (Err stopped.why) used
done_at k (Ok at) e None used = refused_by k (Err Refusal.Room) used
done_at k (Ok at) e (Some end) used = record { verdict = (Ok tt); used = end; core = e }

abbrev pub done_by : Core → Reached → Noted → ℕ → Done
done_by k s n used = done_at k s.walk s.core n used

-- zero from the used length on
abbrev pub cleared_from : ℕ → List ℕ → List ℕ
cleared_from used j = take used j ++ replicate (length j - used) 0

-- what stands after a call that ended so: the one after a refusal, else the other
unfoldable pub remaining : {A : Type 0} → Verdict → A → A → A
remaining (Ok accepted) x y = y
remaining (Err n) x y = x

-- ---- promises

-- an act that began with the device d came to s, and to the device of core k and arrays x but for lines and level, which are worked out anew
pub record Settled (k : Core) (x : Arrays) (s : Step) (r : Reached) (base : ℕ) (lent : Lent) (act : Act (Unit {0})) (d : Device) (w j₀ w' j : List ℕ) (used : ℕ) : Type 0 where
  pub left : perform base lent (levelled act) (world_of d w j₀ used) ≡ leave (world_of d w j₀ used) (arrived None r x w' j)
  pub since : Since used j₀ j
  pub later : Later used r.walk j
  pub levels : SameLevels k r.core
  pub ends : r.walk ≡ walk_of s

abbrev pub Settles : Core → Step → Reached → Type 0
Settles k s r = (x : Arrays) (base : ℕ) (lent : Lent) (act : Act (Unit {0})) (d : Device) (w j₀ w' j : List ℕ) (used : ℕ) → Proper d → used ≤ length j₀
    → came_to s (whole k x) w' j x.table x.majors ≡ go base lent act (world_of d w j₀ used)
    → Settled k x s r base lent act d w j₀ w' j used

-- an act that began with core k and arrays x came to s and, of the arrays, to another table t; j₀ is the journal that it began with
abbrev pub EndsCore : Core → Reached → Bool → ℕ → Done → List ℕ → List ℕ → Type 0
EndsCore k s levels used r j j' = (x : Arrays) (t : List ℕ) (base : ℕ) (lent : Lent) (m : Act Heard) (w j₀ z : List ℕ) → Proper (whole k x)
    → used ≤ length j₀ → (levels ≡ false → SameLevels k s.core) → Since used j₀ j → Later used s.walk j
    → perform base lent m (world_of (whole k x) w j₀ used) ≡ leave (world_of (whole k x) w j₀ used) (arrived None s (tabled x t) w j)
    → told_done None r (remaining r.verdict x (tabled x t)) w z j' ≡ told_after z used (perform base lent m (world_of (whole k x) w j₀ used))
