-- Fields, table and the settings determine the device. Assumes nothing.
use mathlib.Core.Path.{◌≡◌, refl, sym, ap, ◌∙◌}
use mathlib.Core.List.{List, []}
use Prim.Native.Nat.{ℕ, zero, suc, ◌<◌}
use native.Mathlib.Omega.{arith}
use lib.ListN.{get_or}
use lib.Seq.{ext_get_or}
use Rattle.rules.specs.State.{Controller, Device}
use Rattle.rules.specs.Fields.{own_of, parts_of, fields_of, controller, no_controller}
use Rattle.rules.proofs.PartLaws.{parts_same}
use Rattle.rules.proofs.FieldLaws.{sizes, Sound, sized}

same-controller : (a b : Controller) → a.masks ≡ b.masks → a.forced ≡ b.forced → a.lines ≡ b.lines → a.config ≡ b.config → a.levels ≡ b.levels → a ≡ b
same-controller a b p q r s t = rw (p, q, r, s, t) refl

below_three : (P : ℕ → Type 0) → P 0 → P 1 → P 2 → (i : ℕ) → i < 3 → P i
below_three P a b c zero h = a
below_three P a b c (suc zero) h = b
below_three P a b c (suc (suc zero)) h = c
below_three P a b c (suc (suc (suc i))) h = absurd (no i h)
  where
    no : (i : ℕ) → suc (suc (suc i)) < 3 → ⊥
    no i h = omega arith

module _ (d e : Device) (s : Sound d) (t : Sound e) (same : fields_of d ≡ fields_of e) where
  parts : parts_of d ≡ parts_of e
  unfolding fields_of
  parts = parts_same sizes (parts_of d) (parts_of e) (sized d s) (sized e t) same

  part : (k : ℕ) → get_or (parts_of d) k [] ≡ get_or (parts_of e) k []
  part k = ap (λ (l : List (List ℕ)). get_or l k []) parts

  number : (k : ℕ) → get_or (own_of d) k 0 ≡ get_or (own_of e) k 0
  unfolding parts_of
  number k = ap (λ (l : List ℕ). get_or l k 0) (part 2)

  controllers-same : d.controllers ≡ e.controllers
  unfolding parts_of own_of
  controllers-same =
      ext_get_or no_controller d.controllers e.controllers (s.three ∙ sym t.three)
      (λ i h. below_three (λ i. controller d.controllers i ≡ controller e.controllers i)
      (same-controller _ _ (number 0) (number 1) (number 2) (number 3) (part 6))
      (same-controller _ _ (number 4) (number 5) (number 6) (number 7) (part 7))
      (same-controller _ _ (number 8) (number 9) (number 10) (number 11) (part 8))
      i (omega (arith, s.three)))

  pub device-same : d.table ≡ e.table → d.ignore ≡ e.ignore → d.chip ≡ e.chip → d ≡ e
  unfolding parts_of own_of
  device-same p q c =
      rw (part 0, q, c, p, part 3, part 4, part 5, controllers-same, part 10, part 11) refl
