-- The pending call of document 02's [1]: 14 at both sides of its bound, its place among the refusals, what it leaves; a count of 0; and two frames
-- reported while one waits. By computation. Assumes nothing.
use Rattle.std.specs.Prelude.{None}
use mathlib.Core.Bool.{false}
use mathlib.Core.List.{List, [], ◌∷◌, ◌++◌}
use mathlib.Core.Path.{◌≡◌, refl, sym, ap, ◌∙◌}
use Prim.Native.Nat.{ℕ, ◌-◌, ◌^◌}
use borrow.Author.Tests.{eqb-false}
use lib.Dec.{lit<}
use lib.ListN.{replicate, get_or}
use Rattle.rules.specs.Act.{PENDING}
use Rattle.rules.specs.Calls.{fresh, Told, told, number_told, device_told, window_told}
use Rattle.rules.specs.Carry.{end_line}
use Rattle.rules.specs.Fields.{with_field}
use Rattle.rules.specs.Scalars.{KICK}
use Rattle.rules.specs.State.{Device}
use Rattle.walls.specs.Wrong.{Given, StoresOver, TakesAnySum, TakesNoSum, gives, counts, runs}
use Rattle.walls.specs.Examples.{moving, requesting, lent, computed}
use Rattle.walls.proofs.Leaving.{short}

-- channel 5 has this count
unfoldable pub counting : ℕ → Device
counting n = with_field (PENDING 5) n (fresh false false)

-- the number of a call that adds to it
unfoldable pub adding : ℕ → ℕ → ℕ
adding n count = number_told (counts (5, count) (lent (counting n) [] []))

-- 2^32 - 1 is taken, and one more is not, however the sum is made
pub at_the_bound : adding (2 ^ 32 - 2) 1
    ∷ adding (2 ^ 32 - 2) 2
    ∷ adding 0 (2 ^ 32 - 1)
    ∷ adding 1 (2 ^ 32 - 1)
    ∷ adding (2 ^ 32 - 1) 0
    ∷ adding (2 ^ 32 - 1) 1
    ∷ adding (2 ^ 32 - 1) (2 ^ 32 - 1)
    ∷ []
    ≡ 0 ∷ 14 ∷ 0 ∷ 14 ∷ 0 ∷ 14 ∷ 14 ∷ []
unfolding computed counting adding
at_the_bound = refl

-- of channel 5 the count is full: 6 and 8 come before 14, and 14 before 11; other channels have their own counts
pub in_order : number_told (counts (64, 1) (record { base = 0; device = counting (2 ^ 32 - 1); window = []; staging = []; journal = []; used = 8 }))
    ∷ number_told (counts (64, 1) (record { base = 0; device = counting (2 ^ 32 - 1); window = []; staging = []; journal = []; used = 0 }))
    ∷ number_told (counts (5, 1) (record { base = 0; device = counting (2 ^ 32 - 1); window = []; staging = []; journal = []; used = 0 }))
    ∷ number_told (counts (5, 0) (record { base = 0; device = counting (2 ^ 32 - 1); window = []; staging = []; journal = []; used = 0 }))
    ∷ number_told (counts (6, 1) (lent (counting (2 ^ 32 - 1)) [] []))
    ∷ []
    ≡ 6 ∷ 8 ∷ 14 ∷ 11 ∷ 0 ∷ []
unfolding computed counting
in_order = refl

-- 14 leaves all as it was, staging and the journal's unused room too
pub after_14 : counts (5, 2) (short 31 (counting (2 ^ 32 - 2)) (7 ∷ 8 ∷ []) (5 ∷ 6 ∷ []))
    ≡ told 14 None (counting (2 ^ 32 - 2)) (7 ∷ 8 ∷ []) (5 ∷ 6 ∷ []) (replicate 16 0xAA ++ replicate 31 0xEE) 16
unfolding computed short counting
after_14 = refl

-- a count of 0 changes nothing, and writes its group: the end record alone
pub nothing_added : counts (5, 0) (short 16 (counting 3) [] []) ≡ told 0 None (counting 3) [] [] (replicate 16 0xAA ++ end_line 0) 32
unfolding computed short counting
nothing_added = refl

-- ---- two frames, reported one by one

-- what a call leaves, lent to the next
unfoldable pub next : Told → Given
next (told n heard d window staging journal used) = record { base = 0x80000000; device = d; window = window; staging = staging; journal = journal; used = used }

-- channel 3 moves frames of two bytes, from the window's first four bytes to its last four, one for each request; nothing is pending yet
unfoldable pub waiting : Given
waiting = lent (with_field KICK 0 (requesting 3 0 (moving 0 1 2 2 0x80000004 0))) (1 ∷ 2 ∷ 3 ∷ 4 ∷ 0 ∷ 0 ∷ 0 ∷ 0 ∷ []) []

unfoldable pub frame : Given → Given
frame g = next (counts (3, 1) g)

-- then the inputs, which set the KICK bit of a channel that requests, and a run
unfoldable pub moved : Given → Told
moved g = runs (0, 0) (next (gives (0, 0, 0, 0) g))

-- the count that waits before the run and after it, and the window's last four bytes
unfoldable pub seen : Given → List ℕ
seen g =
    get_or g.device.pending 3 9 ∷ get_or (device_told (moved g)).pending 3 9
    ∷ get_or (window_told (moved g)) 4 9 ∷ get_or (window_told (moved g)) 5 9 ∷ get_or (window_told (moved g)) 6 9 ∷ get_or (window_told (moved g)) 7 9 ∷ []

pub no_frame : seen waiting ≡ 0 ∷ 0 ∷ 0 ∷ 0 ∷ 0 ∷ 0 ∷ []
unfolding computed waiting next moved seen
no_frame = refl

pub one_frame : seen (frame waiting) ≡ 1 ∷ 0 ∷ 1 ∷ 2 ∷ 0 ∷ 0 ∷ []
unfolding computed waiting next frame moved seen
one_frame = refl

pub two_frames : seen (frame (frame waiting)) ≡ 2 ∷ 0 ∷ 1 ∷ 2 ∷ 3 ∷ 4 ∷ []
unfolding computed waiting next frame moved seen
two_frames = refl

-- a run without the inputs moves nothing: the pending call sets no KICK bit
pub not_kicked : window_told (runs (0, 0) (frame (frame waiting))) ≡ 1 ∷ 2 ∷ 3 ∷ 4 ∷ 0 ∷ 0 ∷ 0 ∷ 0 ∷ []
unfolding computed waiting next frame
not_kicked = refl

-- ---- what is shut out

-- one frame waits; and so many that there is room for one more
unfoldable pub one : Given
one = lent (counting 1) [] []

unfoldable pub room : Given
room = lent (counting (2 ^ 32 - 2)) [] []

module _ (program : ℕ × ℕ → Given → Told) where
  pub not_storing_over : program (5, 1) one ≡ counts (5, 1) one → StoresOver program → ⊥
  unfolding StoresOver computed counting one
  not_storing_over meets wrong = eqb-false 2 1 refl (ap (λ t. get_or (device_told t).pending 5 0) (sym meets) ∙ wrong (5, 1) one (ap number_told meets))

  pub not_any_sum : program (5, 2) room ≡ counts (5, 2) room → TakesAnySum program → ⊥
  unfolding TakesAnySum computed counting room
  not_any_sum meets wrong = wrong (5, 2) room (ap number_told meets)

  pub not_no_sum : program (5, 1) room ≡ counts (5, 1) room → TakesNoSum program → ⊥
  unfolding TakesNoSum computed counting room
  not_no_sum meets wrong = wrong (5, 1) room (lit< tt) (lit< tt) (ap number_told meets)
