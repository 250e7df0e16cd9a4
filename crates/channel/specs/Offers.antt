-- Whether a channel is offered, asked of the engine's own values. Assumes nothing.
use Rattle.std.specs.Prelude.{Bool, not, ◌&&◌, ◌||◌, List, ℕ, eqb, get_or}
use Rattle.rules.specs.Words.{has}

-- ERQ and a request: standing bit, or pending count above 0
unfoldable pub offered_in : ℕ → ℕ → List ℕ → ℕ → Bool
offered_in erq standing counts ch = has erq ch && (has standing ch || not (eqb (get_or counts ch 0) 0))
