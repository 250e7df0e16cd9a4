-- The undoing of the records of stores in a stretch of the journal, whatever bytes stand there. Assumes nothing.
use Rattle.std.specs.Prelude.{cond, ◌&&◌, List, ◌++◌, ◌≡◌, ℕ, zero, suc, ◌-◌, ◌/◌, min, eqb, length, take, drop, replicate}
use Rattle.rules.specs.Act.{window, table}
use Rattle.rules.specs.Carry.{Machine, legal, there, stored}
use Rattle.rules.specs.State.{Device}
use Rattle.rules.specs.TakeBack.{kind, width, place, value}
use Rattle.rules.specs.With.{with_table}

-- a window and a table, and the rest of a device
abbrev pub machine_of : List ℕ → List ℕ → Device → Machine
machine_of w t d = record { mem = w; dev = with_table d t }

module _ (base : ℕ) where
  -- the old value of a store's record laid over window or table again; a record of another kind, and one whose width or place does not fit, is
  -- passed over
  unfoldable pub undo_as : ℕ → ℕ → ℕ → ℕ → Machine → Machine
  undo_as k n a v m =
      cond (eqb k 0 && legal window n && there base window a n m) (stored base window a n v m)
      (cond (eqb k 1 && legal table n && there base table a n m) (stored base table a n v m) m)

  unfoldable pub undo_line : List ℕ → Machine → Machine
  undo_line l m = undo_as (kind l) (width l) (place l) (value l) m

  -- the first n records of l: undoing goes last to first
  unfoldable pub undo_lines : ℕ → List ℕ → Machine → Machine
  undo_lines zero l m = m
  undo_lines (suc n) l m = undo_line (take 16 l) (undo_lines n (drop 16 l) m)

-- window and table before and after records were undone, whatever the rest of the device is
abbrev pub Undone : (Machine → Machine) → List ℕ → List ℕ → List ℕ → List ℕ → Type 0
Undone f w w' t t' = (d : Device) → machine_of w' t' d ≡ f (machine_of w t d)

-- window, table and journal, and what they are after the stores since the journal ended at `used` are taken back: journal bytes past the used length
-- are zero to the end
pub record RolledBack (base used at : ℕ) (w w' t t' j j' : List ℕ) : Type 0 where
  pub stores_are : Undone (undo_lines base ((min at (length j) - used) / 16) (drop used j)) w w' t t'
  pub journal_is : j' ≡ take used j ++ replicate (length j - used) 0
