-- Channels whose busy time is over. Assumes nothing.
use Rattle.std.specs.Prelude.{cond, ◌&&◌, List, ◌≡◌, ℕ, get_or, set}
use Rattle.rules.specs.Carry.{ok, go, Lent}
use Rattle.rules.specs.Run.{over, release}
use Rattle.rules.specs.Words.{has, gain}
use Rattle.rules.specs.With.{with_busy}
use Rattle.rules.specs.Fields.{holds}
use Rattle.rules.specs.Scalars.{ERQ}
use Rattle.rules.specs.State.{Device}
use Rattle.act.specs.Does.{beside}

-- the busy times, where that of a channel becomes 0 if it is over
unfoldable pub freed : ℕ → List ℕ → ℕ → List ℕ
freed now busy ch = cond (over now (get_or busy ch 0)) (set busy ch 0) busy

-- the mask, with that channel if it has ERQ set too
unfoldable pub freeing : ℕ → ℕ → List ℕ → ℕ → ℕ → ℕ
freeing now erq busy ch m = cond (over now (get_or busy ch 0) && has erq ch) (gain m ch) m

-- all of them are freed, and those that have ERQ set are the answer
abbrev pub Frees : ℕ → ℕ → ℕ → List ℕ → List ℕ → Type 0
Frees now erq r b b' =
    (base : ℕ) (lent : Lent) (mem used free : List ℕ) (d : Device) → holds ERQ d ≡ erq
    → go base lent (release now 64 0 0) (beside mem used free (with_busy d b)) ≡ ok r (beside mem used free (with_busy d b'))
