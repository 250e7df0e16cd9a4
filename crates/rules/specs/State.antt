-- What documents 01 and 02 speak of: a controller, and a device. Code holds a device as it likes; `View` says what that stands for. Assumes nothing.
use Rattle.std.specs.Prelude.{Bool, List, ℕ}

-- its masks (IMR), forced sources (FRC), lines, ICONFIG and the level bytes of its 64 sources
pub record Controller : Type 0 where
  pub masks : ℕ
  pub forced : ℕ
  pub lines : ℕ
  pub config : ℕ
  pub levels : List ℕ

pub record Device : Type 0 where
  -- the numbers that stand alone, by document 01's numbers (`Scalars`)
  pub scalars : List ℕ
  -- the three controllers
  pub controllers : List Controller
  -- by channel: busy until, majors, pending counts
  pub busy : List ℕ
  pub majors : List ℕ
  pub pending : List ℕ
  -- how often each vector was taken, from vector 64 on
  pub taken : List ℕ
  -- by channel, in the chip's mode: priorities (document 02, [10])
  pub priorities : List ℕ
  -- the descriptor table
  pub table : List ℕ
  -- the settings: masks are ignored; the mode is the chip's
  pub ignore : Bool
  pub chip : Bool
