-- What functions promise that carry out commands: that they do an act's steps, on any device with the pending counts p. (SERQ asks who
-- requests.) Assumes nothing.
use Rattle.std.specs.Prelude.{List, ◌≡◌, ◌<◌, ℕ}
use Rattle.rules.specs.Act.{Act}
use Rattle.rules.specs.Carry.{Lent}
use Rattle.rules.specs.Scalars.{view_scalars}
use Rattle.rules.specs.State.{Device}
use Rattle.rules.specs.With.{with_scalars}
use Rattle.rules.specs.declared.Scalars.{Scalars}
use Rattle.act.specs.Does.{Does}
use Rattle.act.specs.Worlds.{came_to, on}
use Rattle.act.specs.Worlds.{Step}

-- of a function of a descriptor's last byte: that it makes g of it, where post says what it makes
abbrev pub Makes : (ℕ → ℕ → Type 0) → (ℕ → ℕ) → Type 0
Makes post g = (b r : ℕ) → b < 256 → post b r → r ≡ g b

-- of a function that changes the numbers that stand alone
abbrev pub OnNumbers : Act (Unit {0}) → List ℕ → Scalars → Scalars → Type 0
OnNumbers act p n r = (d : Device) → d.pending ≡ p → Does act (with_scalars d (view_scalars n)) (with_scalars d (view_scalars r))

-- of one that is lent journal and table
abbrev pub Commands : Act (Unit {0}) → List ℕ → Step → Step → List ℕ → List ℕ → List ℕ → List ℕ → Type 0
Commands act p s r j j' t t' = (base : ℕ) (lent : Lent) (d : Device) (w m : List ℕ) → d.pending ≡ p → came_to r d w j' t' m ≡ on base lent act (came_to s d w j t m)
