-- Laws of the numbers that stand alone, one by one. Assumes nothing.
use mathlib.Core.Bool.{Bool, true, ◌&&◌}
use mathlib.Core.List.{List, [], ◌∷◌}
use mathlib.Core.Path.{◌≡◌, refl}
use Prim.Native.Nat.{ℕ, zero, suc}
use lib.Dec.{leb, ltb}
use lib.ListN.{get_or}
use Rattle.rules.specs.Scalars.{scalar_bits, view_scalars}
use Rattle.rules.specs.declared.Scalars.{Scalars}
use Rattle.rules.proofs.BoolLaws.{and_left, and_right}

-- each has some bits, and at most 64
pub scalar_bits_lem : (i : ℕ) → (ltb 0 (get_or scalar_bits i 64) ≡ true) × (leb (get_or scalar_bits i 64) 64 ≡ true)
scalar_bits_lem i = each scalar_bits refl i
  where
    fair : List ℕ → Bool
    fair [] = true
    fair (b ∷ bs) = ltb 0 b && leb b 64 && fair bs

    each : (bs : List ℕ) → fair bs ≡ true → (i : ℕ) → (ltb 0 (get_or bs i 64) ≡ true) × (leb (get_or bs i 64) 64 ≡ true)
    each [] e i = (refl, refl)
    each (b ∷ bs) e zero =
        let both = and_left (ltb 0 b && leb b 64) (fair bs) e in
        (and_left (ltb 0 b) (leb b 64) both, and_right (ltb 0 b) (leb b 64) both)
    each (b ∷ bs) e (suc i) = each bs (and_right (ltb 0 b && leb b 64) (fair bs) e) i

-- what they stand for tells them
pub scalars_once : (s t : Scalars) → view_scalars s ≡ view_scalars t → s ≡ t
scalars_once s t p = λ i. record {
  cr = get_or (p i) 0 0;
  erq = get_or (p i) 1 0;
  eei = get_or (p i) 2 0;
  int = get_or (p i) 3 0;
  err = get_or (p i) 4 0;
  kick = get_or (p i) 5 0;
  deferred = get_or (p i) 6 0;
  deadline = get_or (p i) 7 0;
  level = get_or (p i) 8 0;
  standing = get_or (p i) 9 0;
}
