-- What the contracts of the entries come to: two outcomes are equal, to the last field of the device, but for bits of priorities that count for nothing
-- (rules/specs/View); and the device after a refusal is the one at entry, to the last bit. Assumes nothing.
use mathlib.Core.Bool.{Bool, true, false, cond, ◌&&◌}
use mathlib.Core.List.{List, []}
use mathlib.Core.Path.{◌≡◌, sym, ap, subst, ◌∙◌}
use native.Mathlib.Omega.{arith}
use Prim.Native.Nat.{ℕ, zero, suc}
use lib.Dec.{eqb, ltb}
use Rattle.rules.specs.Calls.{Asked, Told, told, heard_told, after, after_back, fresh}
use Rattle.rules.specs.State.{Device}
use Rattle.rules.specs.View.{view}
use Rattle.rules.specs.declared.Device.{Device as HeldDevice}
use Rattle.rules.proofs.CallLaws.{AsGiven, act_as_given, back_as_given}
use Rattle.rules.proofs.Hearing.{Audible, act_hears, back_hears}
use Rattle.rules.proofs.Told.{prioritized, view_once}
use Rattle.image.specs.Image.{device_in, is_image}
use Rattle.answers.specs.Answers.{packed, Left, left, left_by}
use Rattle.answers.proofs.Reading.{status_is}
use Rattle.answers.specs.Answers.{status_in}
use Rattle.direct.specs.Direct.{left_of, SparedBy, fresh_by, loaded_by}

left_parts : {r r' : ℕ} {d d' : Device} {window window' staging staging' journal journal' : List ℕ} → left r d window staging journal ≡ left r' d' window' staging' journal'
    → (r ≡ r') × (d ≡ d') × (window ≡ window') × (staging ≡ staging') × (journal ≡ journal')
left_parts e = (cc, cc, cc, cc, cc)

-- whatever it is that both equal
pub entry_fixed : (l : Left Device) {r r' : ℕ} (d d' : HeldDevice) {window window' staging staging' journal journal' : List ℕ}
    → left r (view d) window staging journal ≡ l → left r' (view d') window' staging' journal' ≡ l
    → (r ≡ r') × (d ≡ prioritized d' d.priorities) × (window ≡ window') × (staging ≡ staging') × (journal ≡ journal')
entry_fixed l d d' p q = let e = left_parts (p ∙ sym q) in (e.0, view_once d d' e.1, e.2, e.3, e.4)

-- ---- a refusal: where the answer has a number, the device is the one given, those bits too

module _ (d d' : HeldDevice) (n r : ℕ) (refused : status_in r ≡ suc n) (spared : SparedBy r d.priorities d'.priorities) where
  unchanged : view d' ≡ view d → d' ≡ d
  unchanged p = view_once d' d p ∙ ap (prioritized d) (spared n refused)

  module _ (window journal : List ℕ) (used : ℕ) {window' staging' journal' : List ℕ} where
    as_given : (t : Told) → Audible (heard_told t) → AsGiven (view d) window journal used t → left r (view d') window' staging' journal' ≡ left_of t → d' ≡ d
    unfolding left_by
    as_given (told zero heard e w s j u) a g p = let none : status_in r ≡ 0 = ap status_in (left_parts p).0 ∙ status_is 0 heard u a in absurd (omega (arith, none, refused))
    as_given (told (suc m) heard e w s j u) a g p = unchanged ((left_parts p).1 ∙ g.0)

    pub refused_act : (c : Asked) (base : ℕ) (staging : List ℕ) → left r (view d') window' staging' journal' ≡ left_of (after c base (view d) window staging journal used) → d' ≡ d
    refused_act c base staging =
        as_given (after c base (view d) window staging journal used) (act_hears c base (view d) window staging journal used) (act_as_given base (view d) window journal used c staging)

    pub refused_back : (base : ℕ) → left r (view d') window' staging' journal' ≡ left_of (after_back base (view d) window journal used) → d' ≡ d
    refused_back base =
        as_given (after_back base (view d) window journal used) (subst Audible (sym (back_hears base (view d) window journal used)) tt) (back_as_given base (view d) window journal used)

  -- a fresh device, and one from bytes
  unmade : (b : Bool) (e : Device) → left r (view d') [] [] [] ≡ cond b (left 0 e [] [] []) (left (packed 255 0 0 0) (view d) [] [] []) → d' ≡ d
  unmade true e p = let none : r ≡ 0 = (left_parts p).0 in absurd (omega (arith, none, refused))
  unmade false e p = unchanged (left_parts p).1

  pub refused_fresh : (ignore mode : ℕ) → left r (view d') [] [] [] ≡ fresh_by (view d) ignore mode → d' ≡ d
  unfolding fresh_by
  refused_fresh ignore mode p = unmade (ltb ignore 2 && ltb mode 2) (fresh (eqb ignore 1) (eqb mode 1)) p

  pub refused_load : (image : List ℕ) → left r (view d') [] [] [] ≡ loaded_by (view d) image → d' ≡ d
  unfolding loaded_by
  refused_load image p = unmade (is_image image) (device_in image) p
