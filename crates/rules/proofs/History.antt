-- Any row of calls and take-backs leaves what the calls still standing, made alone in order, leave: for every machine with these laws. Assumes nothing.
use mathlib.Core.List.{List, [], ◌∷◌}
use mathlib.Core.Logic.{◌↔◌}
use mathlib.Core.Path.{◌≡◌, refl, sym, ap, ◌∙◌, subst}
use Prim.Native.Nat.{ℕ}
use native.Mathlib.Omega.{arith}
use Rattle.rules.specs.Carry.{After, made, unmade}

-- ---- rows

-- of a row: a call, or a take-back
pub data Entry (C : Type 0) : Type 0 where
  call : C → Entry C
  back : Entry C

-- where a row leads: what is there, and the calls still standing, each with its answer, the last one first
pub record Walk (C A W : Type 0) : Type 0 where
  pub here : W
  pub standing : List (C × A)

abbrev pub tail : {C : Type 0} → List C → List C
tail [] = []
tail (c ∷ cs) = cs

-- a call that is made stands; one that is not does not
abbrev pub called : {A C W : Type 0} → C → List (C × A) → After A W → Walk C A W
called c cs (made a w) = record { here = w; standing = (c, a) ∷ cs }
called c cs (unmade n w) = record { here = w; standing = cs }

-- a take-back that is made takes the last one
abbrev pub taken : {A B C W : Type 0} → List (C × A) → After B W → Walk C A W
taken cs (made b w) = record { here = w; standing = tail cs }
taken cs (unmade n w) = record { here = w; standing = cs }

-- a machine: what a call does, with its answer, and what a take-back does
module _ {A B C W : Type 0} (make : C → W → After A W) (take_back : W → After B W) where
  -- a row, the last entry first
  unfoldable pub walk : W → List (Entry C) → Walk C A W
  walk w [] = record { here = w; standing = [] }
  walk w (call c ∷ row) = called c (walk w row).standing (make c (walk w row).here)
  walk w (back ∷ row) = taken (walk w row).standing (take_back (walk w row).here)

-- calls, the last one first, are made alone in order: each is made, answers this, and the last leads to w
pub data Alone {A C W : Type 0} (make : C → W → After A W) (start : W) : List (C × A) → W → Type 0 where
  none : Alone make start [] start
  more : {c : C} {a : A} {cs : List (C × A)} {w w' : W} → Alone make start cs w → make c w ≡ made a w' → Alone make start ((c, a) ∷ cs) w'

-- they lead to one end only
pub alone_one : {A C W : Type 0} {make : C → W → After A W} {start : W} {cs : List (C × A)} {v w : W} → Alone make start cs v → Alone make start cs w → v ≡ w
alone_one none none = refl
alone_one {make = make} (more {c = c} k e) (more l f) = let p = alone_one k l in let q = ap (make c) p in cc

-- ---- what is asked of the machine

-- `obs` is what is compared. `Leads os w`: taking back from w leads back through the observed states os, the nearest first.
pub record Laws {A B C O W : Type 0} (make : C → W → After A W) (take_back : W → After B W) (obs : W → O) (Leads : List O → W → Type 0) (start : W) : Type 0 where
  pub at_start : Leads [] start
  -- a call made puts what was there in front; a call not made, or a take-back not made, changes nothing that is compared
  pub on_made : (c : C) (os : List O) (w w' : W) (a : A) → Leads os w → make c w ≡ made a w' → Leads (obs w ∷ os) w'
  pub on_unmade : (c : C) (os : List O) (w w' : W) (n : ℕ) → Leads os w → make c w ≡ unmade n w' → (obs w' ≡ obs w) × Leads os w'
  pub on_no_back : (os : List O) (w w' : W) (n : ℕ) → Leads os w → take_back w ≡ unmade n w' → (obs w' ≡ obs w) × Leads os w'
  -- a take-back leads to the nearest; where there is none it is not made
  pub on_back : (o : O) (os : List O) (w w' : W) (b : B) → Leads (o ∷ os) w → take_back w ≡ made b w' → (obs w' ≡ o) × Leads os w'
  pub on_none : (w w' : W) (b : B) → Leads [] w → take_back w ≡ made b w' → ⊥
  -- what a call answers, and what it does to what is compared, goes by what is compared
  pub determined : (c : C) (os : List O) (u w w' : W) (a : A) → Leads os u → Leads os w → obs u ≡ obs w → make c w ≡ made a w'
      → (u' : W) × (make c u ≡ made a u') × (obs u' ≡ obs w')

-- ---- what follows

module _ {A B C O W : Type 0} (make : C → W → After A W) (take_back : W → After B W) (obs : W → O) (Leads : List O → W → Type 0) (start : W)
    (laws : Laws make take_back obs Leads start) where
  -- the calls cs, made alone from the start, are all made, with their answers, and lead through os to o
  data Came : List (C × A) → List O → O → Type 0 where
    first : Came [] [] (obs start)
    next : {c : C} {a : A} {cs : List (C × A)} {o o' : O} {os : List O} → Came cs os o
        → ((u : W) → Leads os u → obs u ≡ o → (u' : W) × (make c u ≡ made a u') × (obs u' ≡ o')) → Came ((c, a) ∷ cs) (o ∷ os) o'

  came_alone : {cs : List (C × A)} {os : List O} {o : O} → Came cs os o → (w : W) × Alone make start cs w × (obs w ≡ o) × Leads os w
  came_alone first = (start, none, refl, laws.at_start)
  came_alone (next {c = c} {a = a} {cs = cs} {os = os} k g) =
      let h = came_alone k in
      let u = h.0 in
      let r = g u h.3 h.2 in
      (r.0, more h.1 r.1, r.2, subst (λ x. Leads (x ∷ os) r.0) h.2 (laws.on_made c os u r.0 a h.3 r.1))

  record Inv (s : Walk C A W) : Type 0 where
    os : List O
    leads : Leads os s.here
    came : Came s.standing os (obs s.here)

  called_inv : (c : C) (s : Walk C A W) → Inv s → (o : After A W) → make c s.here ≡ o → Inv (called c s.standing o)
  called_inv c s h (made a w) e = record {
    os = obs s.here ∷ h.os;
    leads = laws.on_made c h.os s.here w a h.leads e;
    came = next h.came (λ u l p. laws.determined c h.os u s.here w a l h.leads p e);
  }
  called_inv c s h (unmade n w) e =
      let r = laws.on_unmade c h.os s.here w n h.leads e in
      record { os = h.os; leads = r.1; came = subst (Came s.standing h.os) (sym r.0) h.came }

  taken_inv : (s : Walk C A W) → Inv s → (o : After B W) → take_back s.here ≡ o → Inv (taken s.standing o)
  taken_inv s h (made b w) e = popped s.standing h.os (obs s.here) h.leads h.came
    where
      popped : (cs : List (C × A)) (os : List O) (o : O) → Leads os s.here → Came cs os o → Inv (taken cs (made b w))
      popped cs os o l first = absurd (laws.on_none s.here w b l e)
      popped cs os o l (next {o = o₁} {os = os₁} k g) =
          let r = laws.on_back o₁ os₁ s.here w b l e in
          record { os = os₁; leads = r.1; came = subst (Came _ os₁) (sym r.0) k }
  taken_inv s h (unmade n w) e =
      let r = laws.on_no_back h.os s.here w n h.leads e in
      record { os = h.os; leads = r.1; came = subst (Came s.standing h.os) (sym r.0) h.came }

  walk_inv : (row : List (Entry C)) → Inv (walk make take_back start row)
  unfolding walk
  walk_inv [] = record { os = []; leads = laws.at_start; came = first }
  walk_inv (call c ∷ row) = let s = walk make take_back start row in called_inv c s (walk_inv row) (make c s.here) refl
  walk_inv (back ∷ row) = let s = walk make take_back start row in taken_inv s (walk_inv row) (take_back s.here) refl

  -- the standing calls, made alone in order, are made, answer what they answered in the row, and give what is there, as far as it is compared
  pub history : (row : List (Entry C)) → let s = walk make take_back start row in (w : W) × Alone make start s.standing w × (obs s.here ≡ obs w)
  history row = let h = came_alone (walk_inv row).came in (h.0, h.1, sym h.2)

  -- where the way back is never cut short: with a call standing a take-back is made, and leads to what the others alone give
  module _ (whole : (o : O) (os : List O) (w : W) → Leads (o ∷ os) w → (b : B) × (w' : W) × (take_back w ≡ made b w')) where
    pub one_stands : (row : List (Entry C)) (c : C × A) (cs : List (C × A)) → let s = walk make take_back start row in s.standing ≡ c ∷ cs
        → (b : B) × (w u : W) × (take_back s.here ≡ made b w) × Alone make start cs u × (obs w ≡ obs u)
    one_stands row c cs = let s = walk make take_back start row in full s.here s.standing (walk_inv row).os (obs s.here) (walk_inv row).leads (walk_inv row).came
      where
        full : (w : W) (ds : List (C × A)) (os : List O) (o : O) → Leads os w → Came ds os o → ds ≡ c ∷ cs
            → (b : B) × (w' u : W) × (take_back w ≡ made b w') × Alone make start cs u × (obs w' ≡ obs u)
        full w ds os o l first e = (let z : ◌≡◌ {A = ℕ} 0 1 = cc in absurd (omega arith))
        full w ds os o l (next {cs = es} {o = o₁} {os = os₁} k g) e =
            let r = whole o₁ os₁ w l in
            let h = came_alone k in
            (r.0, r.1, h.0, r.2, subst (λ x. Alone make start x h.0) (ap tail e) h.1, (laws.on_back o₁ os₁ w r.1 r.0 l r.2).0 ∙ sym h.2)

    -- so a take-back that is refused, with whatever number, finds none standing
    pub refused_none : (row : List (Entry C)) (n : ℕ) (w : W) → let s = walk make take_back start row in take_back s.here ≡ unmade n w → s.standing ≡ []
    refused_none row n w e = empty (walk make take_back start row).standing refl
      where
        empty : (cs : List (C × A)) → (walk make take_back start row).standing ≡ cs → cs ≡ []
        empty [] p = refl
        empty (c ∷ cs) p =
            let r = one_stands row c cs p in
            let f = r.3 in
            let z : ◌≡◌ {A = ℕ} 0 1 = cc in absurd (omega arith)

  -- where nothing to lead back to is answered by 12: with no call standing a take-back is so refused
  module _ (twelve : (w : W) → Leads [] w → take_back w ≡ unmade 12 w) where
    pub none_stands : (row : List (Entry C)) → let s = walk make take_back start row in s.standing ≡ [] → take_back s.here ≡ unmade 12 s.here
    none_stands row = let s = walk make take_back start row in empty s.here s.standing (walk_inv row).os (obs s.here) (walk_inv row).leads (walk_inv row).came
      where
        empty : (w : W) (cs : List (C × A)) (os : List O) (o : O) → Leads os w → Came cs os o → cs ≡ [] → take_back w ≡ unmade 12 w
        empty w cs os o l first e = twelve w l
        empty w cs os o l (next k g) e = let z : take_back w ≡ unmade 12 w = cc in z

    -- and only then
    pub none_iff : ((o : O) (os : List O) (w : W) → Leads (o ∷ os) w → (b : B) × (w' : W) × (take_back w ≡ made b w')) → (row : List (Entry C))
        → let s = walk make take_back start row in (take_back s.here ≡ unmade 12 s.here) ↔ (s.standing ≡ [])
    none_iff whole row = (refused_none whole row 12 (walk make take_back start row).here, none_stands row)
