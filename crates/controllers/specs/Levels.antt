-- What one controller says, and what a walk over its sources has found so far. Assumes nothing.
use Rattle.std.specs.Prelude.{ℕ, max, Bool, cond, List, nat_le, slice_set}
use Rattle.rules.specs.State.{Controller}
use Rattle.rules.specs.Fields.{controller}
use Rattle.rules.specs.With.{with_lines}
use Rattle.rules.specs.Lines.{driven, deliverable, loudest, answers, loudest_above, Found}
use Rattle.controllers.specs.declared.Loud.{Loud}

-- the deliverable sources of a controller, by the ignore setting
abbrev pub sources_of : Bool → Controller → ℕ
sources_of ignore k = deliverable ignore k.lines k.masks k.forced

-- its level
unfoldable pub level_in : Bool → Controller → ℕ
level_in ignore k = loudest k.levels (sources_of ignore k) 64

-- a controller of several, with the lines that INT drives
abbrev pub driven_in : ℕ → List Controller → ℕ → Controller
driven_in int cs c = with_lines (controller cs c) (driven c int (controller cs c).lines)

-- all three with theirs, and the highest of their levels
abbrev pub controllers_in : ℕ → List Controller → List Controller
controllers_in int cs = slice_set (slice_set (slice_set cs 0 (driven_in int cs 0)) 1 (driven_in int cs 1)) 2 (driven_in int cs 2)

abbrev pub highest_in : Bool → ℕ → List Controller → ℕ
highest_in ignore int cs = max (level_in ignore (driven_in int cs 2)) (max (level_in ignore (driven_in int cs 1)) (level_in ignore (driven_in int cs 0)))

-- the loudest of its sources that answers
unfoldable pub loud_in : ℕ → Bool → Controller → Found
loud_in ipl ignore k = loudest_above ipl k.levels (sources_of ignore k) 64

-- a level and where it was found, as the rules have it
abbrev pub found : Loud → Found
found f = (f.level, f.at)

-- what one source says: its level, if that answers, and where; else level 0
unfoldable pub said_by : ℕ → ℕ → ℕ → Found
said_by ipl l s = cond (answers ipl l) (l, s) (0, 0)

-- what was found in higher sources stands against what is found in lower ones: of equals the higher source
unfoldable pub over : Found → Found → Found
over high low = cond (nat_le low.0 high.0) high low
