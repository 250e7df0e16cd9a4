-- A device in parts: its core, which is handed on by value, and its long arrays, which are lent; and what a call on it promises.
-- Assumes nothing.
use Rattle.std.specs.Prelude.{Bool, List, ◌≡◌, ℕ, get_or}
use Rattle.rules.specs.Calls.{Told, told, Asked, verdict_number, after}
use Rattle.rules.specs.State.{Controller, Device}
use Rattle.rules.specs.View.{view_controller, view}
use Rattle.rules.specs.declared.Device.{Device as HeldDevice}
use Rattle.rules.specs.Verdicts.{Heard}
use Rattle.rules.proofs.Proper.{Proper}
use Rattle.rules.proofs.ViewLaws.{no_held}
use Rattle.act.specs.declared.Core.{Core}
use Rattle.act.specs.declared.Done.{Done}

-- ---- the arrays, and the mode, which no call changes

pub record Arrays : Type 0 where
  pub table : List ℕ
  pub busy : List ℕ
  pub majors : List ℕ
  pub pending : List ℕ
  pub taken : List ℕ
  pub priorities : List ℕ
  pub chip : Bool

-- these with another table; other pending counts; another table, other busy times, majors and pending counts; other taken counts; other
-- priorities, and the mode
abbrev pub tabled : Arrays → List ℕ → Arrays
tabled x t = record { table = t; busy = x.busy; majors = x.majors; pending = x.pending; taken = x.taken; priorities = x.priorities; chip = x.chip }

abbrev pub counted : Arrays → List ℕ → Arrays
counted x p = record { table = x.table; busy = x.busy; majors = x.majors; pending = p; taken = x.taken; priorities = x.priorities; chip = x.chip }

abbrev pub working : Arrays → List ℕ → List ℕ → List ℕ → List ℕ → Arrays
working x t b m p = record { table = t; busy = b; majors = m; pending = p; taken = x.taken; priorities = x.priorities; chip = x.chip }

abbrev pub taking : Arrays → List ℕ → Arrays
taking x t = record { table = x.table; busy = x.busy; majors = x.majors; pending = x.pending; taken = t; priorities = x.priorities; chip = x.chip }

abbrev pub ordered : Arrays → List ℕ → Bool → Arrays
ordered x o chip = record { table = x.table; busy = x.busy; majors = x.majors; pending = x.pending; taken = x.taken; priorities = o; chip = chip }

-- ---- the device

abbrev pub held : Core → Arrays → HeldDevice
held k x = record {
  scalars = k.scalars;
  table = x.table;
  busy = x.busy;
  majors = x.majors;
  taken = x.taken;
  pending = x.pending;
  priorities = x.priorities;
  controllers = k.controllers;
  ignore_masks = k.ignore_masks;
  chip = x.chip;
}

-- its parts
abbrev pub core_of : HeldDevice → Core
core_of d = record { scalars = d.scalars; controllers = d.controllers; ignore_masks = d.ignore_masks }

abbrev pub arrays_of : HeldDevice → Arrays
arrays_of d = record { table = d.table; busy = d.busy; majors = d.majors; pending = d.pending; taken = d.taken; priorities = d.priorities; chip = d.chip }

-- what it stands for
abbrev pub whole : Core → Arrays → Device
whole k x = view (held k x)

-- what one of its controllers stands for
abbrev pub held_at : Core → ℕ → Controller
held_at k c = view_controller (get_or k.controllers c no_held)

-- the level bytes of the three controllers are the same
pub record SameLevels (k l : Core) : Type 0 where
  pub first : (held_at k 0).levels ≡ (held_at l 0).levels
  pub second : (held_at k 1).levels ≡ (held_at l 1).levels
  pub third : (held_at k 2).levels ≡ (held_at l 2).levels

-- ---- a call

-- all that is there after it, with what was heard
abbrev pub told_done : Heard → Done → Arrays → List ℕ → List ℕ → List ℕ → Told
told_done h r x window staging journal = told (verdict_number r.verdict) h (whole r.core x) window staging journal r.used

-- what it promises: of a device with core k and arrays x before it and x' after it, for every base, window and staging
abbrev pub Calls : Asked → Heard → Core → Done → Arrays → Arrays → List ℕ → List ℕ → ℕ → Type 0
Calls c h k r x x' j j' used = Proper (whole k x) → (base : ℕ) (window staging : List ℕ) → told_done h r x' window staging j' ≡ after c base (whole k x) window staging j used
