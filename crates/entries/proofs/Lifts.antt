-- One machine seen through another (crate `rules`, proofs/Through): what is there in the other is lifted to the one that is seen. Assumes nothing.
use mathlib.Core.List.{List}
use mathlib.Core.Path.{◌≡◌, refl, sym, ap, ◌∙◌}
use Prim.Native.Nat.{ℕ}
use native.Mathlib.Omega.{arith}
use Rattle.rules.specs.Carry.{After, made, unmade}
use Rattle.rules.proofs.History.{Alone, none, more}
use Rattle.rules.proofs.Lasts.{Ending}
use Rattle.rules.proofs.Through.{carried, alone-keeps}

module _ {A W W' : Type 0} (g : W → W') where
  -- an end that is seen to be made is made
  pub made_lifts : (o : After A W) {a : A} {v : W'} → carried (λ a. a) g o ≡ made a v → (w : W) × (o ≡ made a w) × (g w ≡ v)
  made_lifts (made b w) e = let p = made_parts e in (w, ap (λ x. made x w) p.0, p.1)
    where
      made_parts : {b a : A} {v w : W'} → ◌≡◌ {A = After A W'} (made b w) (made a v) → (b ≡ a) × (w ≡ v)
      made_parts e = (cc, cc)
  made_lifts (unmade n w) e = absurd (let z : ◌≡◌ {A = ℕ} 0 1 = cc in omega arith)

-- `make'` is `make`, where P holds and what is there is seen through g: calls made alone in the one are made alone in the other
module _ {A C W W' : Type 0} (make : C → W → After A W) (make' : C → W' → After A W') (g : W → W') (P : W → Type 0)
    (make_keeps : (c : C) (w : W) → P w → Ending P (make c w)) (same_make : (c : C) (w : W) → P w → make' c (g w) ≡ carried (λ a. a) g (make c w))
    (start : W) (at_start : P start)
  where
    pub alone_lifts : {cs : List (C × A)} {v : W'} → Alone make' (g start) cs v → (w : W) × Alone make start cs w × (g w ≡ v)
    alone_lifts none = (start, none, refl)
    alone_lifts (more {c = c} {w = v} k e) =
        let l = alone_lifts k in
        let keeps = alone-keeps make make' g P make_keeps same_make start at_start l.1 in
        let m = made_lifts g (make c l.0) (sym (same_make c l.0 keeps) ∙ ap (make' c) l.2 ∙ e) in
        (m.0, more l.1 m.1, m.2)
