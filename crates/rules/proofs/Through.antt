-- One machine seen through another: where every call and every take-back of the one is the other's, so is every row. Assumes nothing.
use mathlib.Core.List.{List, [], ◌∷◌}
use mathlib.Core.Path.{◌≡◌, refl, ap, ◌∙◌, subst}
use Rattle.rules.specs.Carry.{After, made, unmade}
use Rattle.rules.proofs.History.{Entry, call, back, Walk, called, taken, walk, Alone, none, more}
use Rattle.rules.proofs.Lasts.{Ending}

-- an end with another answer, and what is there seen otherwise
abbrev pub carried : {A B W W' : Type 0} → (A → B) → (W → W') → After A W → After B W'
carried f g (made a v) = made (f a) (g v)
carried f g (unmade n v) = unmade n (g v)

abbrev pub carried_walk : {A C W W' : Type 0} → (W → W') → Walk C A W → Walk C A W'
carried_walk g s = record { here = g s.here; standing = s.standing }

-- what every call and every take-back keeps, every row keeps
module _ {C A B W : Type 0} (make : C → W → After A W) (take_back : W → After B W) (P : W → Type 0) (make_keeps : (c : C) (w : W) → P w → Ending P (make c w))
    (back_keeps : (w : W) → P w → Ending P (take_back w))
  where
    called_keeps : (c : C) (cs : List (C × A)) (o : After A W) → Ending P o → P (called c cs o).here
    called_keeps c cs (made a w) h = h
    called_keeps c cs (unmade n w) h = h

    taken-keeps : (cs : List (C × A)) (o : After B W) → Ending P o → P (taken cs o).here
    taken-keeps cs (made b w) h = h
    taken-keeps cs (unmade n w) h = h

    pub walk_keeps : (w : W) → P w → (row : List (Entry C)) → P (walk make take_back w row).here
    unfolding walk
    walk_keeps w h [] = h
    walk_keeps w h (call c ∷ row) =
        let s = walk make take_back w row in
        called_keeps c s.standing (make c s.here) (make_keeps c s.here (walk_keeps w h row))
    walk_keeps w h (back ∷ row) =
        let s = walk make take_back w row in
        taken-keeps s.standing (take_back s.here) (back_keeps s.here (walk_keeps w h row))

-- `make'` is `make`, where P holds and what is there is seen through g
module _ {A C W W' : Type 0} (make : C → W → After A W) (make' : C → W' → After A W') (g : W → W') (P : W → Type 0)
    (make_keeps : (c : C) (w : W) → P w → Ending P (make c w)) (same_make : (c : C) (w : W) → P w → make' c (g w) ≡ carried (λ a. a) g (make c w))
  where
    pub alone-keeps : (start : W) → P start → {cs : List (C × A)} {w : W} → Alone make start cs w → P w
    alone-keeps start h none = h
    alone-keeps start h (more {c = c} {w = w} k e) = subst (Ending P) e (make_keeps c w (alone-keeps start h k))

    pub alone_through : (start : W) → P start → {cs : List (C × A)} {w : W} → Alone make start cs w → Alone make' (g start) cs (g w)
    alone_through start h none = none
    alone_through start h (more {c = c} {w = w} k e) = more (alone_through start h k) (same_make c w (alone-keeps start h k) ∙ ap (carried (λ (a : A). a) g) e)

    -- and so are the take-backs
    module _ {B B' : Type 0} (take_back : W → After B W) (take_back' : W' → After B' W') (f : B → B') (back_keeps : (w : W) → P w → Ending P (take_back w))
        (same_back : (w : W) → P w → take_back' (g w) ≡ carried f g (take_back w))
      where
        called_through : (c : C) (cs : List (C × A)) (o : After A W) → called c cs (carried (λ (a : A). a) g o) ≡ carried_walk g (called c cs o)
        called_through c cs (made a w) = refl
        called_through c cs (unmade n w) = refl

        taken_through : (cs : List (C × A)) (o : After B W) → taken cs (carried f g o) ≡ carried_walk g (taken cs o)
        taken_through cs (made b w) = refl
        taken_through cs (unmade n w) = refl

        pub walk_through : (w : W) → P w → (row : List (Entry C)) → walk make' take_back' (g w) row ≡ carried_walk g (walk make take_back w row)
        unfolding walk
        walk_through w h [] = refl
        walk_through w h (call c ∷ row) =
            let s = walk make take_back w row in
            ap (λ (x : Walk C A W'). called c x.standing (make' c x.here)) (walk_through w h row)
            ∙ ap (called c s.standing) (same_make c s.here (walk_keeps make take_back P make_keeps back_keeps w h row))
            ∙ called_through c s.standing (make c s.here)
        walk_through w h (back ∷ row) =
            let s = walk make take_back w row in
            ap (λ (x : Walk C A W'). taken x.standing (take_back' x.here)) (walk_through w h row)
            ∙ ap (taken s.standing) (same_back s.here (walk_keeps make take_back P make_keeps back_keeps w h row))
            ∙ taken_through s.standing (take_back s.here)
