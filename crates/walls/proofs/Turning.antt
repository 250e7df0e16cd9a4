-- Whose turn it is, and what a turn of channel 35 leaves. By computation. Assumes nothing.
use mathlib.Core.Bool.{false}
use mathlib.Core.List.{List, [], ◌∷◌, ◌++◌}
use mathlib.Core.Path.{◌≡◌, refl}
use Prim.Native.Nat.{ℕ, ◌-◌, ◌^◌}
use lib.ListN.{replicate, get_or}
use Rattle.rules.specs.State.{Device}
use Rattle.rules.specs.Act.{BUSY}
use Rattle.rules.specs.Scalars.{DEADLINE, DEFERRED, KICK}
use Rattle.rules.specs.Calls.{fresh, device_told, window_told}
use Rattle.rules.specs.Fields.{holds, with_field}
use Rattle.rules.specs.Minor.{tcd_bytes}
use Rattle.rules.specs.With.{with_table}
use Rattle.rules.proofs.Marked.{tcd}
use Rattle.walls.specs.Wrong.{Given, runs, serves}
use Rattle.walls.specs.Examples.{moving, requesting, lent, computed}
use Rattle.walls.proofs.Moving.{word, three}

-- channel 0 stores a byte that channel 1 reads
unfoldable pub rivals : Device
rivals =
    with_field KICK 3
    (with_table (fresh false false) (tcd_bytes (moving 0 1 1 1 0x80000001 1) ++ tcd_bytes (moving 0x0101 2 2 1 0x80000002 1) ++ replicate 1984 0))

-- the lowest set bit of KICK is served next: channel 1 reads what channel 0 stored
pub lowest-first : window_told (runs (0, 0) (lent rivals (0x11 ∷ 0x22 ∷ 0 ∷ 0 ∷ []) [])) ≡ replicate 4 0x11
unfolding computed rivals
lowest-first = refl

-- a channel busy past `now` moves to DEFERRED: KICK and DEFERRED
unfoldable pub waiting : Device → List ℕ
waiting d = holds KICK d ∷ holds DEFERRED d ∷ []

pub busy_deferred : waiting (device_told (runs (9, 0) (lent (with_field (BUSY 1) 10 rivals) (0x11 ∷ 0x22 ∷ 0 ∷ 0 ∷ []) []))) ≡ 0 ∷ 2 ∷ []
unfolding computed rivals waiting
busy_deferred = refl

-- and is served if its busy time is `now`
pub busy-no_more : waiting (device_told (runs (10, 0) (lent (with_field (BUSY 1) 10 rivals) (0x11 ∷ 0x22 ∷ 0 ∷ 0 ∷ []) []))) ≡ 0 ∷ 0 ∷ []
unfolding computed rivals waiting
busy-no_more = refl

-- ---- channel 35

unfoldable pub line : ℕ → Given
line deadline =
    lent (with_field DEADLINE deadline (requesting 35 5 (tcd 0x0202 4 2 2 0))) three []

-- busy time, deadline, pending count and majors of channel 35
unfoldable pub paced : Device → List ℕ
paced d = get_or d.busy 35 0 ∷ holds DEADLINE d ∷ get_or d.pending 35 0 ∷ get_or d.majors 35 0 ∷ []

-- both passes up to DONE, for one request, of which none is spent; busy for 8 bytes at pace 3; a later deadline falls to that
pub line-paced : paced (device_told (runs (100, 3) (line (2 ^ 64 - 1)))) ≡ 124 ∷ 124 ∷ 5 ∷ 1 ∷ []
unfolding computed line word three paced
line-paced = refl

-- an earlier one stays
pub deadline_stays : paced (device_told (runs (100, 3) (line 123))) ≡ 124 ∷ 123 ∷ 5 ∷ 1 ∷ []
unfolding computed line word three paced
deadline_stays = refl

-- any other channel spends a pending count for each pass
pub pending_spent : get_or (device_told (runs (100, 3) (lent (requesting 34 2 (moving 0 0 1 3 0x80000001 0)) (7 ∷ 0 ∷ []) []))).pending 34 9 ≡ 0
unfolding computed
pending_spent = refl

-- ---- service

-- a busy time that is not past `now` becomes 0, and its channel, requesting, is served: busy time, pending count and majors
unfoldable pub service_of : Device → List ℕ
service_of d = get_or d.busy 7 9 ∷ get_or d.pending 7 9 ∷ get_or d.majors 7 9 ∷ []

pub busy_time_ends : service_of (device_told (serves (10, 0) (lent (with_field (BUSY 7) 10 (with_field KICK 0 (requesting 7 1 (moving 0 0 1 1 0x80000001 0)))) (7 ∷ 0 ∷ []) []))) ≡ 0 ∷ 0 ∷ 1 ∷ []
unfolding computed service_of
busy_time_ends = refl
