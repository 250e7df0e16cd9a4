-- The contract of `take_back` fixes its outcome, at the same arguments: two outcomes that satisfy it are equal but for those bits of priorities that
-- count for nothing, and a refused call's device is the one given, with these too. Assumes nothing.
use Rattle.std.specs.Prelude.{Err}
use mathlib.Core.List.{List, []}
use mathlib.Core.Path.{◌≡◌, sym, ◌∙◌}
use Prim.Native.Nat.{ℕ}
use Rattle.rules.specs.Calls.{told_acted, Spared, after_back}
use Rattle.rules.specs.View.{view}
use Rattle.rules.specs.declared.Acted.{Acted}
use Rattle.rules.specs.declared.Device.{Device as HeldDevice}
use Rattle.rules.specs.declared.Refusal.{Refusal}
use Rattle.rules.proofs.CallLaws.{back_as_given}
use Rattle.rules.proofs.Told.{SameActed, told_once, given_back}

module _ (base : ℕ) (d : HeldDevice) (window journal : List ℕ) (used : ℕ) (a : Acted) {w i : List ℕ} (meets : told_acted a w [] i ≡ after_back base (view d) window journal used)
  where
    -- what is equal: verdict, used length, device, window and journal
    pub unique : (b : Acted) {x j : List ℕ} → told_acted b x [] j ≡ after_back base (view d) window journal used → SameActed a b × (w ≡ x) × (i ≡ j)
    unique b e =
        let same = told_once a b (meets ∙ sym e) in
        (same.0, same.1, same.3)

    pub as_given : Spared a.verdict d.priorities a.device.priorities → (n : Refusal) → a.verdict ≡ Err n → a.device ≡ d
    as_given spared n e = given_back d a.device window journal used (back_as_given base (view d) window journal used) a.verdict meets spared n e
