-- What a device as code holds it stands for. Of a priority the bits count that the field has in the mode: six, or none (document 02, [10]); all
-- else is alike, field by field. Assumes nothing.
use Rattle.std.specs.Prelude.{Bool, List, map, ℕ, ◌%◌, ◌^◌}
use Rattle.rules.specs.Act.{PRIORITY}
use Rattle.rules.specs.Fields.{bits_in}
use Rattle.rules.specs.State.{Controller, Device}
use Rattle.rules.specs.Scalars.{view_scalars}
use Rattle.rules.specs.declared.Controller.{Controller as HeldController}
use Rattle.rules.specs.declared.Device.{Device as HeldDevice}

abbrev pub view_controller : HeldController → Controller
view_controller k = record { masks = k.masks; forced = k.forced; lines = k.lines; config = k.config; levels = k.levels }

abbrev pub view_priorities : Bool → List ℕ → List ℕ
view_priorities chip l = map (λ v. v % 2 ^ bits_in chip (PRIORITY 0)) l

abbrev pub view : HeldDevice → Device
view d = record {
  scalars = view_scalars d.scalars;
  controllers = map view_controller d.controllers;
  busy = d.busy;
  majors = d.majors;
  pending = d.pending;
  taken = d.taken;
  priorities = view_priorities d.chip d.priorities;
  table = d.table;
  ignore = d.ignore_masks;
  chip = d.chip;
}
