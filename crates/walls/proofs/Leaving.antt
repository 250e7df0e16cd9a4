-- What a refusal leaves, after a first store too: window and device as given, the journal zero from the used length on, staging zero after a run.
-- By computation. Assumes nothing.
use Rattle.std.specs.Prelude.{None}
use mathlib.Core.Bool.{false}
use mathlib.Core.List.{List, [], ◌∷◌, ◌++◌}
use mathlib.Core.Path.{◌≡◌, refl}
use Prim.Native.Nat.{ℕ}
use lib.ListN.{replicate}
use Rattle.rules.specs.State.{Device}
use Rattle.rules.specs.Calls.{fresh, told}
use Rattle.walls.specs.Wrong.{Given, runs, serves, writes}
use Rattle.walls.specs.Examples.{moving, with_channel, computed}

-- a used record, and room for `free` bytes more, each byte 0xEE
unfoldable pub short : ℕ → Device → List ℕ → List ℕ → Given
short free d window staging = record { base = 0x80000000; device = d; window = window; staging = staging; journal = replicate 16 0xAA ++ replicate free 0xEE; used = 16 }

-- two bytes one on: the second store is outside a window of two
unfoldable pub leaving : Device
leaving = with_channel 0 (moving 0 1 2 1 0x80000001 1)

pub after_9 : runs (0, 0) (short 160 leaving (7 ∷ 8 ∷ []) (5 ∷ 6 ∷ [])) ≡ told 9 None leaving (7 ∷ 8 ∷ []) (0 ∷ 0 ∷ []) (replicate 16 0xAA ++ replicate 160 0) 16
unfolding computed short leaving
after_9 = refl

-- an unequal pass that reads four bytes, with three of staging
unfoldable pub staged : Device
staged = with_channel 0 (moving 0x0200 4 4 1 0x80000004 1)

pub after_10 : serves (0, 0) (short 160 staged (7 ∷ 8 ∷ []) (5 ∷ 6 ∷ 7 ∷ []))
    ≡ told 10 None staged (7 ∷ 8 ∷ []) (replicate 3 0) (replicate 16 0xAA ++ replicate 160 0) 16
unfolding computed short staged
after_10 = refl

-- room for one record of the two
pub after_11 : runs (0, 0) (short 31 leaving (7 ∷ 8 ∷ 9 ∷ []) [])
    ≡ told 11 None leaving (7 ∷ 8 ∷ 9 ∷ []) [] (replicate 16 0xAA ++ replicate 31 0) 16
unfolding computed short leaving
after_11 = refl

-- and in a write, with room for the field's record alone
pub write-after_11 : writes (0xFC044000, 4, 1) (short 31 (fresh false false) [] (5 ∷ []))
    ≡ told 11 None (fresh false false) [] (5 ∷ []) (replicate 16 0xAA ++ replicate 31 0) 16
unfolding computed short
write-after_11 = refl
