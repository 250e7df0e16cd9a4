-- Registers, where a wrong program would read or write otherwise. By computation. Assumes nothing.
use mathlib.Core.Bool.{false}
use mathlib.Core.List.{[], ◌∷◌}
use mathlib.Core.Path.{◌≡◌, refl}
use Prim.Native.Nat.{◌^◌}
use lib.ListN.{get_or, replicate}
use Rattle.rules.specs.State.{Device}
use Rattle.rules.specs.Act.{MASKS, FORCED, PENDING}
use Rattle.rules.specs.Scalars.{ERQ, EEI, KICK}
use Rattle.rules.specs.Calls.{fresh, Told, told_read, after_read, device_told}
use Rattle.rules.specs.Fields.{holds, with_field}
use Rattle.walls.specs.Wrong.{answer_of, writes}
use Rattle.walls.specs.Examples.{written, computed}

-- ---- DMA registers

-- the word at 0x08 is ERQ's high half, and at 0x0C its low half; the command bytes read 0
unfoldable pub enabled : Device
enabled = with_field ERQ 0x1122334455667788 (fresh false false)

pub high_half_first : after_read enabled 0xFC044008 4 ∷ after_read enabled 0xFC04400C 4 ∷ after_read enabled 0xFC044018 1 ∷ []
    ≡ told_read 0 0x11223344 ∷ told_read 0 0x55667788 ∷ told_read 0 0 ∷ []
unfolding computed enabled
high_half_first = refl

-- a word written to ERQ sets no KICK bit, where SERQ of a requesting channel does
pub erq_word : written (with_field (PENDING 1) 5 (fresh false false)) 0xFC04400C 4 2 (ERQ ∷ KICK ∷ []) ≡ 2 ∷ 0 ∷ []
unfolding computed
erq_word = refl

pub serq : written (with_field (PENDING 1) 5 (fresh false false)) 0xFC044018 1 1 (ERQ ∷ KICK ∷ []) ≡ 2 ∷ 2 ∷ []
unfolding computed
serq = refl

-- four commands, the top byte first: SERQ 10, CERQ 11, SEEI 12, CEEI 13
pub four_commands : written (with_field ERQ (2 ^ 11) (with_field EEI (2 ^ 13) (fresh false false))) 0xFC044018 4 0x0A0B0C0D (ERQ ∷ EEI ∷ []) ≡ 2 ^ 10 ∷ 2 ^ 12 ∷ []
unfolding computed
four_commands = refl

-- SSRT of all channels: 64 stores, the first and the last START bit, and every KICK bit
unfoldable pub started_all : Told
started_all = writes (0xFC04401E, 1, 0x40) (record { base = 0; device = fresh false false; window = []; staging = []; journal = replicate 1056 0; used = 0 })

pub ssrt_all : answer_of started_all ∷ (get_or (device_told started_all).table 0x1F 0 ∷ get_or (device_told started_all).table 0x7FF 0 ∷ holds KICK (device_told started_all) ∷ []) ∷ []
    ≡ (0 ∷ 0 ∷ 0 ∷ 1056 ∷ [])
    ∷ (1 ∷ 1 ∷ 0xFFFFFFFFFFFFFFFF ∷ [])
    ∷ []
unfolding computed started_all
ssrt_all = refl

-- ---- controllers

-- a byte written to the forced sources is merged with them, and not with the masks
pub forced_merged : written (with_field (FORCED 0) 0xFF (fresh false false)) 0xFC048011 1 0x12 (FORCED 0 ∷ MASKS 0 ∷ []) ≡ 0x00120000000000FF ∷ 0xFFFFFFFFFFFFFFFF ∷ []
unfolding computed
forced_merged = refl
