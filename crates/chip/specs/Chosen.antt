-- The choice among channels that are given as a mask. Assumes nothing.
use Rattle.std.specs.Prelude.{cond, ◌&&◌, List, ℕ, zero, suc, leb, get_or}
use Rattle.rules.specs.Words.{has}

-- of so many channels from ch on that are in m, with the priorities o: the one with the highest, the higher number among equals; `best` is the one so far,
-- and `top` its priority
unfoldable pub chosen : ℕ → List ℕ → ℕ → ℕ → ℕ → ℕ → ℕ
chosen m o zero ch best top = best
chosen m o (suc left) ch best top =
    chosen m o left (suc ch) (cond (has m ch && leb top (get_or o ch 0)) ch best) (cond (has m ch && leb top (get_or o ch 0)) (get_or o ch 0) top)
