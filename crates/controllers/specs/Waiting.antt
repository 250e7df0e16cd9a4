-- The requesting channels, said of the pending counts. Assumes nothing.
use Rattle.std.specs.Prelude.{ℕ, zero, suc, cond, List, ◌==◌, slice_index}
use Rattle.rules.specs.Words.{gain}

-- the channels of m, and of so many more from ch on those whose pending count is above 0
unfoldable pub waiting_in : List ℕ → ℕ → ℕ → ℕ → ℕ
waiting_in counts zero ch m = m
waiting_in counts (suc left) ch m = waiting_in counts left (suc ch) (cond (slice_index counts ch == 0) m (gain m ch))
