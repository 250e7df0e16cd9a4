-- Loops: what is left to do from where a loop stands is the whole from where it began. A turn's walk takes the first act off what is left, or
-- ends the whole with its refusal. Assumes nothing.
use Rattle.std.specs.Prelude.{Ok, Err}
use mathlib.Core.List.{List}
use mathlib.Core.Path.{◌≡◌, ap, ◌∙◌}
use Prim.Native.Nat.{ℕ}
use Rattle.rules.specs.Act.{Act, ◌>>◌}
use Rattle.rules.specs.Calls.{world_of, refusal_number}
use Rattle.rules.specs.Carry.{no, go, Lent}
use Rattle.rules.specs.State.{Device}
use Rattle.act.specs.Worlds.{Walk, Walks}
use Rattle.act.specs.declared.Stopped.{Stopped}
use Rattle.act.proofs.Laws.{walk_on_lem, walk_off}

-- doing `left` here, at the journal's end e, is doing `whole` at the start, from the journal's end `at` on
abbrev pub Remains : {A : Type 0} → ℕ → Act A → ℕ → List ℕ → List ℕ → Act A → ℕ → List ℕ → List ℕ → Type 0
Remains base left e w j whole at w₀ j₀ = (lent : Lent) (d : Device) → go base lent left (world_of d w j e) ≡ go base lent whole (world_of d w₀ j₀ at)

module _ {A : Type 0} (base : ℕ) (whole : Act A) (at : ℕ) (w₀ j₀ : List ℕ)
    (x : Act (Unit {0})) (y : Act A) {left : Act A} (turn : x >> y ≡ left) (w j : List ℕ) (e : ℕ) (rest : Remains base left e w j whole at w₀ j₀)
  where
    joined : (lent : Lent) (d : Device) → go base lent (x >> y) (world_of d w j e) ≡ go base lent whole (world_of d w₀ j₀ at)
    joined lent d = ap (λ (m : Act A). go base lent m (world_of d w j e)) turn ∙ rest lent d

    module _ (w' j' : List ℕ) {r : Walk} (did : Walks x base e r w w' j j') where
      pub turn_on : {e' : ℕ} → r ≡ Ok e' → Remains base y e' w' j' whole at w₀ j₀
      turn_on h lent d = walk_on_lem base lent d w j e x y w' j' (did lent d) h ∙ joined lent d

      pub turn-off : {stopped : Stopped ℕ} → r ≡ Err stopped → (lent : Lent) (d : Device)
          → no (refusal_number stopped.why) (world_of d w' j' stopped.at) ≡ go base lent whole (world_of d w₀ j₀ at)
      turn-off h lent d = walk_off base lent d w j e x y w' j' (did lent d) h ∙ joined lent d
