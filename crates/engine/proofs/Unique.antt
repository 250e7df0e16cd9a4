-- The contracts of run and service fix every outcome: two that satisfy one are equal in every part. Assumes nothing.
-- Demand 3 (rules/proofs/Demand3) speaks of rows of `after` and `after_back`; the contracts say that what a call leaves is `after (run ..)` or
-- `after (service ..)` of what it was given, so that the theorem holds of rows of these calls as it stands.
use Rattle.std.specs.Prelude.{Err}
use mathlib.Core.List.{List}
use mathlib.Core.Path.{◌≡◌, sym, ◌∙◌}
use Prim.Native.Nat.{ℕ}
use Rattle.rules.specs.Calls.{Asked, told_acted, Spared, after}
use Rattle.rules.specs.declared.Acted.{Acted}
use Rattle.rules.specs.declared.Device.{Device as HeldDevice}
use Rattle.rules.specs.declared.Refusal.{Refusal}
use Rattle.rules.specs.State.{Device}
use Rattle.rules.specs.View.{view}
use Rattle.rules.proofs.CallLaws.{act_as_given}
use Rattle.rules.proofs.Told.{SameActed, told_once, given_back}

-- what is equal: the answer, which is the verdict, the used length and the device, but for bits of priorities that count for nothing; window, staging
-- and journal
pub outcome_fixed : (call : Asked) (base : ℕ) (d : Device) (window staging journal : List ℕ) (used : ℕ) (a b : Acted) {w x s t i j : List ℕ}
    → told_acted a w s i ≡ after call base d window staging journal used → told_acted b x t j ≡ after call base d window staging journal used
    → SameActed a b × (w ≡ x) × (s ≡ t) × (i ≡ j)
outcome_fixed call base d window staging journal used a b p q = told_once a b (p ∙ sym q)

-- and where it is a refusal the device is the one given, those bits too
pub refused_same : (call : Asked) (base : ℕ) (d : HeldDevice) (window staging journal : List ℕ) (used : ℕ) (a : Acted) {w s j : List ℕ}
    → told_acted a w s j ≡ after call base (view d) window staging journal used → Spared a.verdict d.priorities a.device.priorities
    → (n : Refusal) → a.verdict ≡ Err n → a.device ≡ d
refused_same call base d window staging journal used a meets spared n e =
    given_back d a.device window journal used (act_as_given base (view d) window journal used call staging) a.verdict meets spared n e
