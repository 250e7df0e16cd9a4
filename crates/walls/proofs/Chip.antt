-- Service as the chip does it (document 02, [10]): turns, KICK, channel 35, priorities and their records; and what is shut out. By computation.
-- Assumes nothing.
use Rattle.std.specs.Prelude.{None}
use mathlib.Core.Bool.{true, false}
use mathlib.Core.List.{List, [], ◌∷◌, ◌++◌}
use mathlib.Core.Path.{◌≡◌, refl, sym, ap, ◌∙◌}
use Prim.Native.Nat.{ℕ}
use native.Mathlib.Omega.{arith}
use borrow.Author.Tests.{eqb-false}
use lib.Dec.{lit<}
use lib.ListN.{get_or, replicate}
use Rattle.rules.specs.State.{Device}
use Rattle.rules.specs.Act.{BUSY, MAJORS, PENDING, PRIORITY}
use Rattle.rules.specs.Scalars.{DEADLINE, DEFERRED, KICK}
use Rattle.rules.specs.Calls.{fresh, Told, told, told_read, after_read, number_told, device_told, window_told}
use Rattle.rules.specs.Carry.{line, end_line}
use Rattle.rules.specs.Fields.{holds, with_field}
use Rattle.rules.specs.View.{view_priorities}
use Rattle.rules.proofs.Bench.{read_number}
use Rattle.walls.specs.Wrong.{Given, answer_of, writes, runs, serves, takes_back}
use Rattle.walls.specs.Examples.{moving, lent, held, written, computed}
use Rattle.walls.specs.Chip.{byte, empty, in_mode, in_chip, alone, asking, over, left, stands, trio, held_there, chips}
use Rattle.walls.specs.Chip.{rivals, stays, starting, requested, refusing, LowestFirst, LowerNumberFirst, WholeForStart, WholeForRequest, AsksAgain}
use Rattle.walls.proofs.Adding.{next}

-- ---- one minor loop

-- one of two loops: a byte is moved, START is gone, ACTIVE stays, the count is one less
pub one_loop : left 0 (runs (0, 0) (over (with_field KICK 1 (in_mode true (byte 0 4 2 1 ∷ [])))))
    ≡ (0x11 ∷ 0x22 ∷ 0x33 ∷ 0x44 ∷ 0x11 ∷ 0 ∷ 0 ∷ 0 ∷ [])
    ∷ (0x40 ∷ 1 ∷ 0 ∷ 0 ∷ [])
    ∷ []
unfolding computed chips
one_loop = refl

-- the same device in the old mode: the whole major loop, and DONE
pub old_loops : left 0 (runs (0, 0) (over (with_field KICK 1 (in_mode false (byte 0 4 2 1 ∷ [])))))
    ≡ (0x11 ∷ 0x22 ∷ 0x33 ∷ 0x44 ∷ 0x11 ∷ 0x22 ∷ 0 ∷ 0 ∷ [])
    ∷ (0x80 ∷ 2 ∷ 0 ∷ 1 ∷ [])
    ∷ []
unfolding computed chips
old_loops = refl

-- blocks of two bytes, of which three are to move: one for each request, and the third waits
unfoldable pub blocks : ℕ → Given
blocks count = over (asking 0 count (in_chip (moving 0 1 2 3 0x80000004 0 ∷ [])))

pub one_request : left 0 (runs (0, 0) (blocks 1)) ≡ (0x11 ∷ 0x22 ∷ 0x33 ∷ 0x44 ∷ 0x11 ∷ 0x22 ∷ 0 ∷ 0 ∷ []) ∷ (0x40 ∷ 2 ∷ 0 ∷ 0 ∷ []) ∷ []
unfolding computed chips blocks
one_request = refl

pub two_requests : left 0 (runs (0, 0) (blocks 2)) ≡ (0x11 ∷ 0x22 ∷ 0x33 ∷ 0x44 ∷ 0x11 ∷ 0x22 ∷ 0x33 ∷ 0x44 ∷ []) ∷ (0x40 ∷ 1 ∷ 0 ∷ 0 ∷ []) ∷ []
unfolding computed chips blocks
two_requests = refl

-- START spends no request
pub start_spends_none : left 0 (runs (0, 0) (over (with_field (PENDING 0) 7 (in_chip (byte 0 4 2 1 ∷ [])))))
    ≡ (0x11 ∷ 0x22 ∷ 0x33 ∷ 0x44 ∷ 0x11 ∷ 0 ∷ 0 ∷ 0 ∷ [])
    ∷ (0x40 ∷ 1 ∷ 7 ∷ 0 ∷ [])
    ∷ []
unfolding computed chips
start_spends_none = refl

-- ---- whose turn it is

-- fresh priorities: channel 2 (33), then channel 1 (22), then channel 0 (11)
pub by_number : held_there (runs (0, 0) (over trio)) ≡ 0 ∷ 0x33 ∷ 0x22 ∷ 0x11 ∷ []
unfolding computed chips
by_number = refl

-- with priority 63 channel 0 goes first
pub by_priority : held_there (runs (0, 0) (over (with_field (PRIORITY 0) 63 trio))) ≡ 0 ∷ 0x11 ∷ 0x33 ∷ 0x22 ∷ []
unfolding computed chips
by_priority = refl

-- of channels 0 and 1, equal and above channel 2, the higher number goes first
pub among_equals : held_there (runs (0, 0) (over (with_field (PRIORITY 0) 9 (with_field (PRIORITY 1) 9 trio)))) ≡ 0 ∷ 0x22 ∷ 0x11 ∷ 0x33 ∷ []
unfolding computed chips
among_equals = refl

-- after each loop it looks afresh: of two requests of channel 0 the first loop links to channel 1, which is served next and stores 33 where the second
-- loop stores 22 after it
pub looks_afresh : left 1 (runs (0, 0) (over (asking 0 2 (in_chip (byte 0 4 0x8202 0 ∷ byte 2 5 1 0 ∷ [])))))
    ≡ (0x11 ∷ 0x22 ∷ 0x33 ∷ 0x44 ∷ 0x11 ∷ 0x22 ∷ 0 ∷ 0 ∷ [])
    ∷ (0x80 ∷ 1 ∷ 0 ∷ 1 ∷ [])
    ∷ []
unfolding computed chips
looks_afresh = refl

-- ---- a pass that answers no

-- channel 1 goes first and answers no: it is asked once, spends one of its requests, loses its KICK bit, and is passed over; channel 0 is served after
-- it
unfoldable pub first-no : Told
first-no = runs (0, 0) (over (with_field KICK 2 (asking 1 3 (in_chip (byte 0 4 1 1 ∷ empty 0 ∷ [])))))

pub passed_over : window_told first-no ∷ stands 0 (device_told first-no) ∷ stands 1 (device_told first-no) ∷ held (device_told first-no) (KICK ∷ []) ∷ []
    ≡ (0x11 ∷ 0x22 ∷ 0x33 ∷ 0x44 ∷ 0x11 ∷ 0 ∷ 0 ∷ 0 ∷ [])
    ∷ (0x80 ∷ 1 ∷ 0 ∷ 1 ∷ [])
    ∷ (0 ∷ 0 ∷ 2 ∷ 0 ∷ [])
    ∷ (0 ∷ [])
    ∷ []
unfolding computed chips first-no
passed_over = refl

-- for the rest of the call: the next one asks it again
pub next_call_asks : stands 1 (device_told (runs (0, 0) (next first-no))) ≡ 0 ∷ 0 ∷ 1 ∷ 0 ∷ []
unfolding computed chips first-no next
next_call_asks = refl

-- with START too: nothing is stored, and START stays
pub start_stays : answer_of (runs (0, 0) (over (in_chip (empty 1 ∷ [])))) ∷ stands 0 (device_told (runs (0, 0) (over (in_chip (empty 1 ∷ []))))) ∷ []
    ≡ (0 ∷ 0 ∷ 0 ∷ 16 ∷ [])
    ∷ (1 ∷ 0 ∷ 0 ∷ 0 ∷ [])
    ∷ []
unfolding computed chips
start_stays = refl

-- ---- channel 35

-- at 100 with pace 3: how it stands; its busy time, and the deadline
unfoldable pub paced : Device → List (List ℕ)
paced d =
    let d' = device_told (runs (100, 3) (over d)) in
    stands 35 d' ∷ held d' (BUSY 35 ∷ DEADLINE ∷ []) ∷ []

-- by request: one loop of two bytes and no more, for it is busy for two bytes then; the deadline falls to that; no request is spent
pub line-paced : paced (asking 35 5 (alone 35 (moving 0 1 2 3 0x80000004 0))) ≡ (0x40 ∷ 2 ∷ 5 ∷ 0 ∷ []) ∷ (106 ∷ 106 ∷ []) ∷ []
unfolding computed chips paced
line-paced = refl

-- a service at the end of that time makes the next loop, and one before it makes none: how it stands, and its busy time
unfoldable pub served_at : ℕ → List ℕ
served_at now =
    let d = device_told (serves (now, 3) (next (runs (100, 3) (over (asking 35 5 (alone 35 (moving 0 1 2 3 0x80000004 0))))))) in
    stands 35 d ++ held d (BUSY 35 ∷ [])

pub line-goes-on : served_at 105 ∷ served_at 106 ∷ [] ≡ (0x40 ∷ 2 ∷ 5 ∷ 0 ∷ 106 ∷ []) ∷ (0x40 ∷ 1 ∷ 5 ∷ 0 ∷ 112 ∷ []) ∷ []
unfolding computed chips next served_at
line-goes-on = refl

-- an earlier deadline stays
pub deadline_stays : paced (with_field DEADLINE 105 (asking 35 5 (alone 35 (moving 0 1 2 3 0x80000004 0)))) ≡ (0x40 ∷ 2 ∷ 5 ∷ 0 ∷ []) ∷ (106 ∷ 105 ∷ []) ∷ []
unfolding computed chips paced
deadline_stays = refl

-- by START: no pace
pub line-started : paced (alone 35 (moving 0 1 2 3 0x80000004 1)) ≡ (0x40 ∷ 2 ∷ 0 ∷ 0 ∷ []) ∷ (0 ∷ 0xFFFFFFFFFFFFFFFF ∷ []) ∷ []
unfolding computed chips paced
line-started = refl

-- by START first, and then by request: paced once
pub line_both : paced (asking 35 5 (alone 35 (moving 0 1 2 3 0x80000004 1))) ≡ (0x40 ∷ 1 ∷ 5 ∷ 0 ∷ []) ∷ (106 ∷ 106 ∷ []) ∷ []
unfolding computed chips paced
line_both = refl

-- a pass that answers no counts 0: busy until now, and the deadline falls to now
pub line-no : paced (asking 35 5 (alone 35 (empty 0))) ≡ (0 ∷ 0 ∷ 5 ∷ 0 ∷ []) ∷ (100 ∷ 100 ∷ []) ∷ []
unfolding computed chips paced
line-no = refl

-- ---- KICK

-- channel 0 has START, and one loop; these are the KICK bits. After the call: its csr, KICK and DEFERRED
unfoldable pub kicked : ℕ → Device
kicked k = with_field KICK k (in_chip (byte 0 4 1 1 ∷ []))

unfoldable pub seen : Told → List ℕ
seen t = get_or (device_told t).table 0x1F 9 ∷ held (device_told t) (KICK ∷ DEFERRED ∷ [])

-- KICK is no gate: a channel without its bit is served. Of the bits, only that of a channel that is served goes
pub no_gate : seen (runs (0, 0) (over (kicked 0))) ∷ seen (runs (0, 0) (over (kicked 9))) ∷ [] ≡ (0x80 ∷ 0 ∷ 0 ∷ []) ∷ (0x80 ∷ 8 ∷ 0 ∷ []) ∷ []
unfolding computed chips kicked seen
no_gate = refl

-- a service makes no run where KICK is 0, and makes one where any bit is set
pub service-runs : seen (serves (0, 0) (over (kicked 0))) ∷ seen (serves (0, 0) (over (kicked 8))) ∷ [] ≡ (1 ∷ 0 ∷ 0 ∷ []) ∷ (0x80 ∷ 8 ∷ 0 ∷ []) ∷ []
unfolding computed chips kicked seen
service-runs = refl

-- a channel busy past `now` is not served, keeps its bit and does not move to DEFERRED; and is served if its busy time is `now`
pub busy-waits : seen (runs (9, 0) (over (with_field (BUSY 0) 10 (kicked 1)))) ∷ seen (runs (10, 0) (over (with_field (BUSY 0) 10 (kicked 1)))) ∷ []
    ≡ (1 ∷ 1 ∷ 0 ∷ [])
    ∷ (0x80 ∷ 0 ∷ 0 ∷ [])
    ∷ []
unfolding computed chips kicked seen
busy-waits = refl

-- ---- priorities as registers

-- a byte keeps six bits: C7 at 0x105 is priority 7 of channel 5, and of no other; the first and the last
pub six_bits : written (fresh false true) 0xFC044105 1 0xC7 (PRIORITY 4 ∷ PRIORITY 5 ∷ PRIORITY 6 ∷ [])
    ∷ written (fresh false true) 0xFC044100 1 0xFF (PRIORITY 0 ∷ [])
    ∷ written (fresh false true) 0xFC04413F 1 0x40 (PRIORITY 63 ∷ [])
    ∷ []
    ≡ (4 ∷ 7 ∷ 6 ∷ [])
    ∷ (63 ∷ [])
    ∷ (0 ∷ [])
    ∷ []
unfolding computed
six_bits = refl

-- read back; as they are reset; and just outside there is nothing to read
unfoldable pub wrote : Device → Told
wrote d = writes (0xFC044105, 1, 0xC7) (lent d (7 ∷ []) [])

pub read_back : after_read (device_told (wrote (fresh false true))) 0xFC044105 1
    ∷ after_read (fresh false true) 0xFC044105 1
    ∷ after_read (fresh false true) 0xFC04413F 1
    ∷ after_read (fresh false true) 0xFC0440FF 1
    ∷ after_read (fresh false true) 0xFC044140 1
    ∷ []
    ≡ told_read 0 7
    ∷ told_read 0 5
    ∷ told_read 0 63
    ∷ told_read 3 0
    ∷ told_read 3 0
    ∷ []
unfolding computed wrote
read_back = refl

-- sizes 2 and 4 are refused with 3
pub bytes_only : read_number (after_read (fresh false true) 0xFC044104 2)
    ∷ read_number (after_read (fresh false true) 0xFC044104 4)
    ∷ number_told (writes (0xFC044104, 2, 1) (lent (fresh false true) [] []))
    ∷ number_told (writes (0xFC044104, 4, 1) (lent (fresh false true) [] []))
    ∷ []
    ≡ 3 ∷ 3 ∷ 3 ∷ 3 ∷ []
unfolding computed
bytes_only = refl

-- in the old mode the write is accepted and changes nothing: its group is the end record alone; and a read is refused with 3
pub old_write : wrote (fresh false false) ≡ told 0 None (fresh false false) (7 ∷ []) [] (end_line 0 ++ replicate 496 0xEE) 16
unfolding computed wrote
old_write = refl

pub old_read : after_read (fresh false false) 0xFC044105 1 ≡ told_read 3 0
unfolding computed
old_read = refl

-- ---- and in the journal

-- the write's group: field 773, which was 5, and the end
pub write_group : wrote (fresh false true)
    ≡ told 0 None (with_field (PRIORITY 5) 7 (fresh false true)) (7 ∷ []) [] (line 2 8 773 5 ++ end_line 1 ++ replicate 480 0xEE) 32
unfolding computed wrote
write_group = refl

-- taken back
pub write_back : takes_back tt (next (wrote (fresh false true))) ≡ told 0 None (fresh false true) (7 ∷ []) [] (replicate 32 0 ++ replicate 480 0xEE) 0
unfolding computed wrote next
write_back = refl

-- a group of one record of field 773, made by hand: accepted with a value of six bits in the chip's mode; damaged with one more, and in the old mode
unfoldable pub taking : Device → List ℕ → Told
taking d record₁ = takes_back tt (record { base = 0x80000000; device = d; window = 7 ∷ []; staging = []; journal = record₁ ++ end_line 1; used = 32 })

pub six_bits_back : taking (fresh false true) (line 2 8 773 63) ≡ told 0 None (with_field (PRIORITY 5) 63 (fresh false true)) (7 ∷ []) [] (replicate 32 0) 0
unfolding computed taking
six_bits_back = refl

pub seven_bits_damaged : taking (fresh false true) (line 2 8 773 64) ≡ told 13 None (fresh false true) (7 ∷ []) [] (line 2 8 773 64 ++ end_line 1) 32
unfolding computed taking
seven_bits_damaged = refl

pub old_damaged : taking (fresh false false) (line 2 8 773 0) ≡ told 13 None (fresh false false) (7 ∷ []) [] (line 2 8 773 0 ++ end_line 1) 32
unfolding computed taking
old_damaged = refl

-- the last priority is field 831, and there is no field 832
pub last_field : number_told (taking (fresh false true) (line 2 8 831 0)) ∷ number_told (taking (fresh false true) (line 2 8 832 0)) ∷ [] ≡ 0 ∷ 13 ∷ []
unfolding computed taking
last_field = refl

-- ---- a device that holds more there: of 200 the low six bits count, 8; in the old mode none
pub held-above : view_priorities true (200 ∷ 63 ∷ 64 ∷ []) ∷ view_priorities false (200 ∷ 63 ∷ 64 ∷ []) ∷ [] ≡ (8 ∷ 63 ∷ 0 ∷ []) ∷ (0 ∷ 0 ∷ 0 ∷ []) ∷ []
unfolding computed
held-above = refl

-- ---- what is shut out

module _ (program : ℕ × ℕ → Given → Told) where
  -- channel 1, of priority 1, is served before channel 0, of priority 0: the byte is 11
  pub not_lowest-first : program (0, 0) (rivals 0 1) ≡ runs (0, 0) (rivals 0 1) → LowestFirst program → ⊥
  unfolding LowestFirst computed chips
  not_lowest-first meets wrong = eqb-false 0x11 0x22 refl (ap stays (sym meets) ∙ wrong (0, 0) 0 1 (lit< tt) (lit< tt) (ap number_told meets))

  -- both have priority 7: channel 1 is served first
  pub not_lower_number-first : program (0, 0) (rivals 7 7) ≡ runs (0, 0) (rivals 7 7) → LowerNumberFirst program → ⊥
  unfolding LowerNumberFirst computed chips
  not_lower_number-first meets wrong = eqb-false 0x11 0x22 refl (ap stays (sym meets) ∙ wrong (0, 0) 7 (lit< tt) (ap number_told meets))

  -- of two loops one is made, and majors stays 0
  pub not_whole_for_start : program (0, 0) (starting 2) ≡ runs (0, 0) (starting 2) → WholeForStart program → ⊥
  unfolding WholeForStart computed chips
  not_whole_for_start meets wrong = eqb-false 0 1 refl (ap (λ t. holds (MAJORS 0) (device_told t)) (sym meets) ∙ wrong (0, 0) 2 (lit< tt) (lit< tt) (ap number_told meets))

  pub not_whole_for_request : program (0, 0) (requested 2) ≡ runs (0, 0) (requested 2) → WholeForRequest program → ⊥
  unfolding WholeForRequest computed chips
  not_whole_for_request meets wrong = eqb-false 0 1 refl (ap (λ t. holds (MAJORS 0) (device_told t)) (sym meets) ∙ wrong (0, 0) 2 (lit< tt) (lit< tt) (ap number_told meets))

  -- of two requests one is left
  pub not_asking_again : program (0, 0) (refusing 2) ≡ runs (0, 0) (refusing 2) → AsksAgain program → ⊥
  unfolding AsksAgain computed chips
  not_asking_again meets wrong =
      let one : holds (PENDING 0) (device_told (program (0, 0) (refusing 2))) ≡ 1 = ap (λ t. holds (PENDING 0) (device_told t)) meets in
      omega (arith, wrong (0, 0) 2 (lit< tt) (lit< tt) (ap number_told meets), one)
