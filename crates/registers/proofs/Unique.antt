-- Two outcomes that satisfy a call's contract are equal, but for the bits of priorities that count for nothing; and where it is a refusal, the device
-- is the one given, those bits too. Assumes nothing.
use Rattle.std.specs.Prelude.{Err}
use mathlib.Core.List.{List, []}
use mathlib.Core.Path.{◌≡◌, sym, ◌∙◌}
use Prim.Native.Nat.{ℕ}
use Rattle.rules.specs.Calls.{Asked, ack, ToldRead, told_reading, Spared}
use Rattle.rules.specs.declared.Acknowledged.{Acknowledged}
use Rattle.rules.specs.declared.Acted.{Acted}
use Rattle.rules.specs.declared.Device.{Device as HeldDevice}
use Rattle.rules.specs.State.{Device}
use Rattle.rules.specs.View.{view}
use Rattle.rules.specs.Verdicts.{Reading}
use Rattle.rules.specs.declared.Refusal.{Refusal}
use Rattle.rules.proofs.CallLaws.{act_as_given}
use Rattle.rules.proofs.Told.{given_back, SameActed, SameHeard, told_once, heard_once, reading_once}
use Rattle.registers.specs.Asked.{Made, MadeHeard}

-- ---- the answer, and the journal after it

pub unique : (c : Asked) (d : Device) (used : ℕ) (a b : Acted) (j i k : List ℕ) → Made c d used a j i → Made c d used b j k → SameActed a b × (i ≡ k)
unique c d used a b j i k p q = let t = told_once a b (p 0 [] [] ∙ sym (q 0 [] [])) in (t.0, t.3)

pub unique_heard : (ipl : ℕ) (d : Device) (used : ℕ) (a b : Acknowledged) (j i k : List ℕ) → MadeHeard ipl d used a j i → MadeHeard ipl d used b j k → SameHeard a b × (i ≡ k)
unique_heard ipl d used a b j i k p q = let t = heard_once a b (p 0 [] [] ∙ sym (q 0 [] [])) in (t.0, t.3)

pub unique_reading : (a b : Reading) (t : ToldRead) → told_reading a ≡ t → told_reading b ≡ t → a ≡ b
unique_reading a b t p q = reading_once a b (p ∙ sym q)

-- ---- refusals

module _ (d : HeldDevice) (used : ℕ) (j i : List ℕ) (n : Refusal) where
  pub refused_same : (c : Asked) (a : Acted) → Made c (view d) used a j i → Spared a.verdict d.priorities a.device.priorities → a.verdict ≡ Err n → a.device ≡ d
  refused_same c a m s v = given_back d a.device [] j used (act_as_given 0 (view d) [] j used c []) a.verdict (m 0 [] []) s n v

  pub refused_same_heard : (ipl : ℕ) (a : Acknowledged) → MadeHeard ipl (view d) used a j i → Spared a.verdict d.priorities a.device.priorities → a.verdict ≡ Err n → a.device ≡ d
  refused_same_heard ipl a m s v = given_back d a.device [] j used (act_as_given 0 (view d) [] j used (ack ipl) []) a.verdict (m 0 [] []) s n v
