-- What functions on a device's core promise: that they do an act's steps, whatever the device's arrays are. Assumes nothing.
use Rattle.std.specs.Prelude.{ℕ, List}
use Rattle.rules.specs.Act.{Act}
use Rattle.rules.specs.With.{with_taken}
use Rattle.rules.specs.State.{Device}
use Rattle.rules.specs.Verdicts.{Heard}
use Rattle.rules.proofs.Proper.{Proper}
use Rattle.act.specs.Does.{Answers, Does}
use Rattle.act.specs.Parts.{Arrays, whole, SameLevels}
use Rattle.act.specs.declared.Core.{Core}

-- core k becomes r, and no level byte changes
pub record Worked (act : Act (Unit {0})) (k r : Core) (x : Arrays) : Type 0 where
  pub does : Does act (whole k x) (whole r x)
  pub levels : SameLevels k r

abbrev pub Works : Act (Unit {0}) → Core → Core → Arrays → Type 0
Works act k r x = Proper (whole k x) → Worked act k r x

-- the taken counts t become t'
abbrev pub Hears : Act Heard → Heard → List ℕ → List ℕ → Type 0
Hears act h t t' = (d : Device) → Answers act (with_taken d t) h (with_taken d t')

-- arrays x become x'
abbrev pub Answered : Act Heard → Heard → Core → Arrays → Arrays → Type 0
Answered act h k x x' = Proper (whole k x) → Answers act (whole k x) h (whole k x')
