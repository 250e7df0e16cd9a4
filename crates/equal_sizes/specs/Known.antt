-- Units that are known to lie in the window, with room for their records: what one test before a loop shows. Assumes nothing.
use Rattle.std.specs.Prelude.{◌≡◌, ℕ, ◌+◌, ◌-◌, ◌*◌, ◌^◌, ◌<◌, ◌≤◌, List, ◌≢◌, Ok}
use Rattle.rules.specs.Act.{Act}
use Rattle.rules.specs.Minor.{move_sizes}
use Rattle.words.specs.Widths.{MemoryWidth}
use Rattle.act.specs.Worlds.{Walks}
use Rattle.equal_sizes.specs.declared.steps.Steps.{Steps}
use Rattle.equal_sizes.specs.declared.Units.{Units}

-- an act with one store, which was made: the journal is one record longer
abbrev pub Recorded : Act (Unit {0}) → ℕ → ℕ → List ℕ → List ℕ → List ℕ → List ℕ → Type 0
Recorded act base at = Walks act base at (Ok (at + 16))

-- n bytes from address a on, in a window of `len` bytes
pub record Within (base len a n : ℕ) : Type 0 where
  pub low : base ≤ a
  pub high : a + n ≤ base + len

-- n units from address a on, `off` apart: where there is one, the first is not below the window and the last does not end past it
abbrev pub Inside : ℕ → ℕ → ℕ → ℕ → ℕ → ℕ → Type 0
Inside base len width n off a = (n ≢ 0) → (base ≤ a) × (a + n * off + width ≤ base + len + off)

-- units of a width that are read from s on and written from d on, each with its record, in a journal of `room` bytes that ends at e
pub record Known (base len width n : ℕ) (step : Steps) (s d room e : ℕ) : Type 0 where
  pub small : width ≤ 4
  pub sources_plain : step.smod ≡ 0
  pub targets_plain : step.dmod ≡ 0
  pub unwrapped : base + len ≤ 2 ^ 32
  pub sources : Inside base len width n step.soff s
  pub targets : Inside base len width n step.doff d
  pub records : n * 16 ≤ room - e

-- the tree of `count` sizes
abbrev pub sizes_of : ℕ → Steps → ℕ → ℕ → ℕ → Act (ℕ × ℕ)
sizes_of count step size s d = move_sizes count step.soff step.smod step.doff step.dmod size s d

-- units that have, without modulo, the same tree
pub record Plain (size count : ℕ) (step : Steps) (u : Units) : Type 0 where
  pub width : u.width ≤ 4 → MemoryWidth u.width
  pub same : u.step.smod ≡ 0 → u.step.dmod ≡ 0 → (s d : ℕ) → s < 2 ^ 32 → d < 2 ^ 32
      → sizes_of u.count u.step u.width s d ≡ sizes_of count step size s d
