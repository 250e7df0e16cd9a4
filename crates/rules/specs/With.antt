-- A device, and a controller, with another value in one field. Assumes nothing.
use Rattle.std.specs.Prelude.{List, ℕ}
use Rattle.rules.specs.State.{Controller, Device}

-- a device with other parts, and the settings of d
abbrev parted : Device → List ℕ → List ℕ → List ℕ → List ℕ → List ℕ → List ℕ → List ℕ → List Controller → Device
parted d scalars table busy majors taken pending priorities controllers = record {
  scalars = scalars;
  controllers = controllers;
  busy = busy;
  majors = majors;
  pending = pending;
  taken = taken;
  priorities = priorities;
  table = table;
  ignore = d.ignore;
  chip = d.chip;
}

abbrev pub with_scalars : Device → List ℕ → Device
with_scalars d v = parted d v d.table d.busy d.majors d.taken d.pending d.priorities d.controllers

abbrev pub with_table : Device → List ℕ → Device
with_table d v = parted d d.scalars v d.busy d.majors d.taken d.pending d.priorities d.controllers

abbrev pub with_busy : Device → List ℕ → Device
with_busy d v = parted d d.scalars d.table v d.majors d.taken d.pending d.priorities d.controllers

abbrev pub with_majors : Device → List ℕ → Device
with_majors d v = parted d d.scalars d.table d.busy v d.taken d.pending d.priorities d.controllers

abbrev pub with_taken : Device → List ℕ → Device
with_taken d v = parted d d.scalars d.table d.busy d.majors v d.pending d.priorities d.controllers

abbrev pub with_pending : Device → List ℕ → Device
with_pending d v = parted d d.scalars d.table d.busy d.majors d.taken v d.priorities d.controllers

abbrev pub with_priorities : Device → List ℕ → Device
with_priorities d v = parted d d.scalars d.table d.busy d.majors d.taken d.pending v d.controllers

abbrev pub with_controllers : Device → List Controller → Device
with_controllers d v = parted d d.scalars d.table d.busy d.majors d.taken d.pending d.priorities v

abbrev pub with_masks : Controller → ℕ → Controller
with_masks c v = record { masks = v; forced = c.forced; lines = c.lines; levels = c.levels; config = c.config }

abbrev pub with_forced : Controller → ℕ → Controller
with_forced c v = record { masks = c.masks; forced = v; lines = c.lines; levels = c.levels; config = c.config }

abbrev pub with_lines : Controller → ℕ → Controller
with_lines c v = record { masks = c.masks; forced = c.forced; lines = v; levels = c.levels; config = c.config }

abbrev pub with_levels : Controller → List ℕ → Controller
with_levels c v = record { masks = c.masks; forced = c.forced; lines = c.lines; levels = v; config = c.config }

abbrev pub with_config : Controller → ℕ → Controller
with_config c v = record { masks = c.masks; forced = c.forced; lines = c.lines; levels = c.levels; config = v }
