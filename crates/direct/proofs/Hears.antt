-- An acknowledge changes no field but the counts of what was taken. Assumes nothing.
use mathlib.Core.Bool.{true, false}
use mathlib.Core.List.{List}
use mathlib.Core.Path.{◌≡◌, refl}
use Prim.Native.Nat.{ℕ}
use lib.Dec.{leb}
use lib.ListN.{length}
use Rattle.rules.specs.Act.{Field, SCALAR, MASKS, FORCED, LINES, CONFIG, BUSY, MAJORS, PENDING, SOURCE, TAKEN, PRIORITY}
use Rattle.rules.specs.Calls.{ack, stops, act_of, device_told, told_after, world_of, after}
use Rattle.rules.specs.Carry.{World, Out, ok, no, made, unmade, with_device, last_lines, written, cleared, leave, perform, lending}
use Rattle.rules.specs.State.{Device}
use Rattle.rules.specs.Verdicts.{Heard}
use Rattle.rules.proofs.CallLaws.{either_way}
use Rattle.rules.proofs.Each.{Rights, Properly, each_keeps}
use Rattle.rules.proofs.Proper.{Proper}
use Rattle.rules.proofs.Keeps.{AtEnd}
use Rattle.rules.proofs.Pieces.{acknowledge_each}
use Rattle.rules.proofs.Steps.{cutting}

-- ---- its steps

abbrev OfTaken : Field → Type 0
OfTaken (SCALAR i) = ⊥
OfTaken (MASKS c) = ⊥
OfTaken (FORCED c) = ⊥
OfTaken (LINES c) = ⊥
OfTaken (CONFIG c) = ⊥
OfTaken (BUSY ch) = ⊥
OfTaken (MAJORS ch) = ⊥
OfTaken (PENDING ch) = ⊥
OfTaken (SOURCE c s) = ⊥
OfTaken (TAKEN i) = Unit {0}
OfTaken (PRIORITY ch) = ⊥

abbrev counting : Rights
counting = record { may_stage = λ n. ⊥; may_fetch = λ sp a n. ⊥; may_store = λ sp a n. ⊥; may_put = OfTaken }

-- ---- the device

module _ (d : Device) where
  abbrev As : Device → Type 0
  As e = (e.scalars ≡ d.scalars) × (e.controllers ≡ d.controllers)

  abbrev On : World → Type 0
  On u = As u.now.dev

  on-put : (f : Field) (v : ℕ) (u : World) → Proper u.now.dev → OfTaken f → On u → On (cutting f v u)
  unfolding with_device
  on-put (SCALAR i) v u q h p = absurd h
  on-put (MASKS c) v u q h p = absurd h
  on-put (FORCED c) v u q h p = absurd h
  on-put (LINES c) v u q h p = absurd h
  on-put (CONFIG c) v u q h p = absurd h
  on-put (BUSY ch) v u q h p = absurd h
  on-put (MAJORS ch) v u q h p = absurd h
  on-put (PENDING ch) v u q h p = absurd h
  on-put (SOURCE c s) v u q h p = absurd h
  on-put (TAKEN i) v u q h p = p
  on-put (PRIORITY ch) v u q h p = absurd h

  ended : (u : World) (o : Out Heard) (staging : List ℕ) (used : ℕ) → On u → AtEnd (Properly On) o → As (device_told (told_after staging used (leave u o)))
  unfolding leave told_after written cleared
  ended u (ok a v) staging used p q =
      elim (leb (length (last_lines u v)) (length v.free)) as (λ b. As (device_told (told_after staging used (elim b [ true ↦ made a (written (last_lines u v) v) | false ↦ unmade 11 (cleared u) ])))) [
        | true ↦ q.1
        | false ↦ p
      ]
  ended u (no n v) staging used p q = p

  module _ (base : ℕ) (window staging journal : List ℕ) (used ipl : ℕ) (proper : Proper d) where
    pub ack-keeps : As (device_told (after (ack ipl) base d window staging journal used))
    unfolding after perform act_of
    ack-keeps =
        either_way (λ t. As (device_told t)) d window staging journal used (stops base (length window) (length journal) used (ack ipl) d) (λ k _. (refl, refl))
        (λ _. ended (world_of d window journal used) _ _ used (refl, refl)
        (each_keeps base (lending (length staging)) counting On (λ sp a n v u q h. absurd h) on-put (acknowledge_each (λ i. tt) ipl) (world_of d window journal used) (proper, (refl, refl))))
