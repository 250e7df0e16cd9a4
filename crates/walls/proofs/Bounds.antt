-- Refusals 1 to 8 at both sides of each bound, as one table, and their order. By computation. Assumes nothing.
use mathlib.Core.Bool.{false}
use mathlib.Core.List.{[], ◌∷◌}
use mathlib.Core.Path.{◌≡◌, refl}
use Prim.Native.Nat.{◌+◌, ◌-◌, ◌^◌}
use Rattle.rules.specs.Calls.{write, inputs, pending, run, service, ack, fresh, wrong, wrong_back, wrong_read}
use Rattle.walls.specs.Examples.{computed}

-- sizes 0 to 5 and 8 of a read and a write of the table's first bytes
pub sizes : wrong_read (fresh false false) 0xFC045000 0
    ∷ wrong_read (fresh false false) 0xFC045000 1
    ∷ wrong_read (fresh false false) 0xFC045000 2
    ∷ wrong_read (fresh false false) 0xFC045000 3
    ∷ wrong 0 0 0 0 (write 0xFC045000 4 0)
    ∷ wrong 0 0 0 0 (write 0xFC045000 5 0)
    ∷ wrong 0 0 0 0 (write 0xFC045000 8 0)
    ∷ []
    ≡ 1 ∷ 0 ∷ 0 ∷ 1 ∷ 0 ∷ 1 ∷ 1 ∷ []
unfolding computed
sizes = refl

-- the last address before the blocks and the first after them; no such register; past the table, and in a controller past a word
pub addresses : wrong_read (fresh false false) 0xFC043FFF 1
    ∷ wrong_read (fresh false false) 0xFC054000 4
    ∷ wrong 0 0 0 0 (write 0xFC043FFF 4 0)
    ∷ wrong 0 0 0 0 (write 0xFC054000 1 0)
    ∷ wrong 0 0 0 0 (write 0xFC044038 4 0)
    ∷ wrong_read (fresh false false) 0xFC044008 2
    ∷ wrong 0 0 0 0 (write 0xFC0457FE 2 0)
    ∷ wrong 0 0 0 0 (write 0xFC0457FE 4 0)
    ∷ wrong_read (fresh false false) 0xFC0457FF 2
    ∷ wrong 0 0 0 0 (write 0xFC05000A 2 0)
    ∷ wrong 0 0 0 0 (write 0xFC05000B 2 0)
    ∷ wrong_read (fresh false false) 0xFC05000B 2
    ∷ []
    ≡ 2 ∷ 2 ∷ 2 ∷ 2 ∷ 3 ∷ 3 ∷ 0 ∷ 4 ∷ 4 ∷ 0 ∷ 4 ∷ 3 ∷ []
unfolding computed
addresses = refl

-- windows: empty, of 1 byte, of 2^24 and of one more; up to 2^32 and one past it
pub windows : wrong 0 0 0 0 (run 0 0)
    ∷ wrong 0 1 0 0 (run 0 0)
    ∷ wrong 0 (2 ^ 24) 0 0 (service 0 0)
    ∷ wrong 0 (2 ^ 24 + 1) 0 0 (run 0 0)
    ∷ wrong (2 ^ 32 - 1) 1 0 0 (service 0 0)
    ∷ wrong (2 ^ 32 - 1) 2 0 0 (run 0 0)
    ∷ wrong_back 0 0 0 0
    ∷ wrong_back 0 (2 ^ 24) 0 0
    ∷ wrong_back 0 (2 ^ 24 + 1) 0 0
    ∷ wrong_back (2 ^ 32 - 1) 2 0 0
    ∷ []
    ≡ 5 ∷ 0 ∷ 0 ∷ 5 ∷ 0 ∷ 5 ∷ 5 ∷ 0 ∷ 5 ∷ 5 ∷ []
unfolding computed
windows = refl

-- journals: of 2^28 bytes and of one more; used lengths that are no multiple of 16, or above the length
pub journals : wrong 0 0 (2 ^ 28) 0 (ack 0)
    ∷ wrong 0 0 (2 ^ 28 + 1) 0 (ack 0)
    ∷ wrong 0 0 32 8 (inputs 0 0 0 0)
    ∷ wrong 0 0 32 16 (inputs 0 0 0 0)
    ∷ wrong 0 0 31 32 (pending 0 0)
    ∷ wrong 0 0 32 32 (pending 0 0)
    ∷ wrong 0 1 15 16 (run 0 0)
    ∷ wrong 0 0 15 16 (write 0xFC044000 4 0)
    ∷ wrong_back 0 1 16 24
    ∷ []
    ≡ 0 ∷ 6 ∷ 6 ∷ 0 ∷ 6 ∷ 0 ∷ 6 ∷ 6 ∷ 6 ∷ []
unfolding computed
journals = refl

-- `now`, pace and channel
pub times : wrong 0 1 0 0 (run (2 ^ 62) 1000000)
    ∷ wrong 0 1 0 0 (run (2 ^ 62 + 1) 0)
    ∷ wrong 0 1 0 0 (service 0 1000001)
    ∷ wrong 0 0 0 0 (pending 63 0)
    ∷ wrong 0 0 0 0 (pending 64 0)
    ∷ []
    ≡ 0 ∷ 7 ∷ 7 ∷ 0 ∷ 8 ∷ []
unfolding computed
times = refl

-- of several the lowest number
pub in_number_order : wrong 0 0 0 8 (write 0 3 0)
    ∷ wrong 0 0 0 8 (write 0 4 0)
    ∷ wrong 0 0 0 8 (write 0xFC044038 4 0)
    ∷ wrong 0 0 0 8 (write 0xFC0457FE 4 0)
    ∷ wrong 0 0 0 8 (run (2 ^ 63) 0)
    ∷ wrong 0 1 0 8 (run (2 ^ 63) 0)
    ∷ wrong 0 0 0 8 (pending 64 0)
    ∷ []
    ≡ 1 ∷ 2 ∷ 3 ∷ 4 ∷ 5 ∷ 6 ∷ 6 ∷ []
unfolding computed
in_number_order = refl
