-- The widths of records: what `legal` of crate `rules` says, in a form that a caller's `search` shows of a number and reads. Assumes nothing.
use Rattle.std.specs.Prelude.{◌≡◌, ℕ, ◌<◌, ◌≤◌, true, ◌||◌, ◌==◌, nat_eq}

-- memory store: width 1, 2, 4
pub record MemoryWidth (w : ℕ) : Type 0 where
  pub positive : 0 < w
  pub most : w ≤ 4
  pub one_of : nat_eq w 1 || w == 2 || (w == 4) ≡ true

-- descriptor store: 1, 2, 4, 8
pub record TableWidth (w : ℕ) : Type 0 where
  pub positive : 0 < w
  pub most : w ≤ 8
  pub one_of : nat_eq w 1 || w == 2 || w == 4 || (w == 8) ≡ true
