-- Lines, level and acknowledge, where a wrong program would answer otherwise. By computation. Assumes nothing.
use mathlib.Core.Bool.{true, false}
use mathlib.Core.List.{List, [], ◌∷◌}
use mathlib.Core.Path.{◌≡◌, refl}
use Prim.Native.Nat.{ℕ, ◌^◌}
use Rattle.rules.specs.State.{Device}
use Rattle.rules.specs.Act.{LINES, SOURCE}
use Rattle.rules.specs.Scalars.{INT}
use Rattle.rules.specs.Calls.{fresh}
use Rattle.rules.specs.Fields.{with_field}
use Rattle.walls.specs.Wrong.{answer_of, hears}
use Rattle.walls.specs.Examples.{lent, written, computed}

-- ---- lines

-- INT drives lines 8..23 of controller 0, 8..47 of controller 1 and line 0 of controller 2
unfoldable pub driven : ℕ → List ℕ
driven int = written (with_field INT int (fresh false false)) 0xFC044000 4 1 (LINES 0 ∷ LINES 1 ∷ LINES 2 ∷ [])

pub lines-driven : driven 1 ∷ driven (2 ^ 15) ∷ driven (2 ^ 16) ∷ driven (2 ^ 55) ∷ driven (2 ^ 56) ∷ driven (2 ^ 63) ∷ []
    ≡ (2 ^ 8 ∷ 0 ∷ 0 ∷ [])
    ∷ (2 ^ 23 ∷ 0 ∷ 0 ∷ [])
    ∷ (0 ∷ 2 ^ 8 ∷ 0 ∷ [])
    ∷ (0 ∷ 2 ^ 47 ∷ 0 ∷ [])
    ∷ (0 ∷ 0 ∷ 1 ∷ [])
    ∷ (0 ∷ 0 ∷ 1 ∷ [])
    ∷ []
unfolding computed driven
lines-driven = refl

-- ---- acknowledge: number, level, vector, used length

-- source s of controller c has a level, and its line
unfoldable pub lined : ℕ → ℕ → ℕ → Device → Device
lined c s level d = with_field (SOURCE c s) level (with_field (LINES c) (2 ^ s) d)

unfoldable pub heard : ℕ → Device → List ℕ
heard ipl d = answer_of (hears ipl (lent d [] []))

-- a masked line is not delivered, but where masks are ignored
pub masked : heard 0 (lined 1 5 3 (fresh false false)) ∷ heard 0 (lined 1 5 3 (fresh true false)) ∷ [] ≡ (0 ∷ 0 ∷ 0 ∷ 16 ∷ []) ∷ (0 ∷ 3 ∷ 133 ∷ 32 ∷ []) ∷ []
unfolding computed lined heard
masked = refl

-- of equal levels the higher controller, and in it the higher source; the highest level before both
pub highest_heard : heard 0 (lined 0 9 4 (lined 1 5 4 (fresh true false)))
    ∷ heard 0 (lined 0 9 5 (lined 1 5 4 (fresh true false)))
    ∷ heard 0 (with_field (SOURCE 2 7) 4 (with_field (LINES 2) 0x180 (with_field (SOURCE 2 8) 4 (fresh true false))))
    ∷ []
    ≡ (0 ∷ 4 ∷ 133 ∷ 32 ∷ [])
    ∷ (0 ∷ 5 ∷ 73 ∷ 32 ∷ [])
    ∷ (0 ∷ 4 ∷ 200 ∷ 32 ∷ [])
    ∷ []
unfolding computed lined heard
highest_heard = refl

-- a level at or below `ipl` is ignored, but 7; level 0 always
pub ipl_looked_at : heard 3 (lined 1 5 3 (fresh true false)) ∷ heard 2 (lined 1 5 3 (fresh true false)) ∷ heard 7 (lined 1 5 7 (fresh true false)) ∷ heard 0 (lined 1 5 8 (fresh true false)) ∷ []
    ≡ (0 ∷ 0 ∷ 0 ∷ 16 ∷ [])
    ∷ (0 ∷ 3 ∷ 133 ∷ 32 ∷ [])
    ∷ (0 ∷ 7 ∷ 133 ∷ 32 ∷ [])
    ∷ (0 ∷ 0 ∷ 0 ∷ 16 ∷ [])
    ∷ []
unfolding computed lined heard
ipl_looked_at = refl
