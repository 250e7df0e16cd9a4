-- Document 01, "The calls" and "Refusal numbers", with document 02's [1] and [10]: what each call is given, what refuses it before anything is done, its
-- act, and all that is there after it. Assumes nothing.
use Rattle.std.specs.Prelude.{Bool, true, false, cond, not, ◌||◌, List, [], ◌∷◌, ◌++◌, ◌≡◌, ℕ, zero, suc, ◌+◌, ◌-◌, ◌%◌, ◌^◌, eqb, ltb, length, replicate, take, drop, Some, None, Ok, Err}
use Rattle.std.proofs.Math.Option.{Option, none, some}
use Rattle.std.specs.Int.Bits.{bit_and, bit_or}
use Rattle.rules.specs.Act.{Act, done, nothing, ask, put, change, ◌>>=◌, ◌>>◌, LINES, PENDING}
use Rattle.rules.specs.Scalars.{ERQ, KICK, DEADLINE, STANDING, scalar_bits}
use Rattle.rules.specs.Fields.{holds, with_field}
use Rattle.rules.specs.Carry.{World, After, made, unmade, perform, lending}
use Rattle.rules.specs.TakeBack.{take_back}
use Rattle.rules.specs.Run.{requesting, run_all, service_all}
use Rattle.rules.specs.Lines.{owned_from, relevel, acknowledge}
use Rattle.rules.specs.Registers.{in_blocks, write_at, read_at, past_table, past_word}
use Rattle.rules.specs.declared.Acknowledged.{Acknowledged}
use Rattle.rules.specs.declared.Acted.{Acted}
use Rattle.rules.specs.State.{Controller, Device}
use Rattle.rules.specs.View.{view}
use Rattle.rules.specs.declared.Refusal.{Refusal}
use Rattle.rules.specs.Verdicts.{Verdict, Reading, Heard}

-- ---- the answers' numbers

abbrev pub refusal_number : Refusal → ℕ
refusal_number Refusal.Size = 1
refusal_number Refusal.Address = 2
refusal_number Refusal.Register = 3
refusal_number Refusal.Crossing = 4
refusal_number Refusal.Window = 5
refusal_number Refusal.Journal = 6
refusal_number Refusal.Time = 7
refusal_number Refusal.Channel = 8
refusal_number Refusal.Outside = 9
refusal_number Refusal.Staging = 10
refusal_number Refusal.Room = 11
refusal_number Refusal.NothingStands = 12
refusal_number Refusal.Damaged = 13
refusal_number Refusal.Count = 14

-- 0: accepted
abbrev pub verdict_number : Verdict → ℕ
verdict_number (Ok accepted) = 0
verdict_number (Err r) = refusal_number r

-- level and vector; 0 and 0 where nothing was found
abbrev pub heard_level : Heard → ℕ
heard_level None = 0
heard_level (Some source) = source.level

abbrev pub heard_vector : Heard → ℕ
heard_vector None = 0
heard_vector (Some source) = source.vector

-- the number of a reading, 0 where it is a value; and the value, 0 where it is refused
abbrev pub reading_number : Reading → ℕ
reading_number (Ok v) = 0
reading_number (Err r) = refusal_number r

abbrev pub reading_value : Reading → ℕ
reading_value (Ok v) = v
reading_value (Err r) = 0

-- ---- a fresh device: zero in every field, except masks (all ones) and deadline (2^64 - 1), and in the chip's mode priorities (the channel's own
-- number)

unfoldable pub fresh_controller : Controller
fresh_controller = record { masks = 2 ^ 64 - 1; forced = 0; lines = 0; levels = replicate 64 0; config = 0 }

-- so many numbers, from n on
unfoldable pub counting : ℕ → ℕ → List ℕ
counting zero n = []
counting (suc left) n = n ∷ counting left (suc n)

-- with its settings: masks are ignored; the mode is the chip's
unfoldable pub fresh : Bool → Bool → Device
fresh ignore chip = with_field DEADLINE (2 ^ 64 - 1) (record {
  scalars = replicate (length scalar_bits) 0;
  controllers = fresh_controller ∷ fresh_controller ∷ fresh_controller ∷ [];
  busy = replicate 64 0;
  majors = replicate 64 0;
  pending = replicate 64 0;
  taken = replicate 192 0;
  priorities = cond chip (counting 64 0) (replicate 64 0);
  table = replicate 2048 0;
  ignore = ignore;
  chip = chip;
})

-- ---- the acts

-- the masks replace the old ones, except DMA-owned line bits; then KICK gains every requesting channel with its ERQ bit set
unfoldable pub set_inputs : ℕ → ℕ → ℕ → ℕ → Act (Unit {0})
set_inputs standing l0 l1 l2 = do
  put STANDING standing
  change (LINES 0) (λ old. owned_from 0 old l0)
  change (LINES 1) (λ old. owned_from 1 old l1)
  change (LINES 2) (λ old. owned_from 2 old l2)
  erq ← ask ERQ
  asking ← requesting
  change KICK (λ k. bit_or k (bit_and asking erq))

-- adds a 32-bit count to the one that stands for one channel ([1])
unfoldable pub add_pending : ℕ → ℕ → Act (Unit {0})
add_pending ch count = change (PENDING ch) (λ old. old + count)

unfoldable pub or_nothing : Option (Act (Unit {0})) → Act (Unit {0})
or_nothing none = nothing
or_nothing (some a) = a

-- what is asked of the engine by a call that is an act
pub data Asked : Type 0 where
  -- full address, size, value
  write : ℕ → ℕ → ℕ → Asked
  -- standing request mask and three line masks
  inputs : ℕ → ℕ → ℕ → ℕ → Asked
  -- channel, count
  pending : ℕ → ℕ → Asked
  -- `now`, pace
  run : ℕ → ℕ → Asked
  service : ℕ → ℕ → Asked
  -- `ipl`
  ack : ℕ → Asked

-- each accepted act but acknowledge ends by working out lines and level anew
unfoldable pub levelled : Act (Unit {0}) → Act Heard
levelled m = do
  m
  relevel
  done None

unfoldable pub act_of : Asked → Act Heard
act_of (write address size v) = levelled (or_nothing (write_at address size v))
act_of (inputs standing l0 l1 l2) = levelled (set_inputs standing l0 l1 l2)
act_of (pending ch count) = levelled (add_pending ch count)
act_of (run now pace) = levelled (run_all now pace)
act_of (service now pace) = levelled (service_all now pace)
act_of (ack ipl) = acknowledge ipl

-- ---- refusals before anything is done: 1 to 8, for the arguments, in number order; then 14, for what the device holds

unfoldable pub bad_size : ℕ → Bool
bad_size size = not (eqb size 1 || eqb size 2 || eqb size 4)

unfoldable pub is_none : {A : Type 0} → Option A → Bool
is_none none = true
is_none (some a) = false

-- window empty, longer than 2^24 bytes, or base + length above 2^32
unfoldable pub bad_window : ℕ → ℕ → Bool
bad_window base len = eqb len 0 || ltb (2 ^ 24) len || ltb (2 ^ 32) (base + len)

-- journal longer than 2^28 bytes, or used length no multiple of 16 or above the length
unfoldable pub bad_journal : ℕ → ℕ → Bool
bad_journal len used = ltb (2 ^ 28) len || not (eqb (used % 16) 0) || ltb len used

unfoldable pub bad_time : ℕ → ℕ → Bool
bad_time now pace = ltb (2 ^ 62) now || ltb 1000000 pace

-- the sum would pass 2^32 - 1 ([1])
unfoldable pub bad_sum : ℕ → ℕ → Bool
bad_sum standing count = ltb (2 ^ 32 - 1) (standing + count)

-- the number, if the test holds; else what comes after it. 0: nothing is wrong
unfoldable pub check : Bool → ℕ → ℕ → ℕ
check true n next = n
check false n next = next

-- the first of two numbers that is not 0
unfoldable pub first : ℕ → ℕ → ℕ
first zero n = n
first (suc m) n = suc m

-- what bars a call: 14, of the count that stands for the channel and the one to be added
unfoldable pub barred : Asked → Device → ℕ
barred (write address size v) d = 0
barred (inputs standing l0 l1 l2) d = 0
barred (pending ch count) d = check (bad_sum (holds (PENDING ch) d) count) 14 0
barred (run now pace) d = 0
barred (service now pace) d = 0
barred (ack ipl) d = 0

-- base address, lengths of window and journal, used length
module _ (base window journal used : ℕ) where
  unfoldable pub wrong : Asked → ℕ
  wrong (write address size v) =
      check (bad_size size) 1
      (check (not (in_blocks address)) 2
      (check (is_none (write_at address size v)) 3
      (check (past_table address size || past_word address size) 4
      (check (bad_journal journal used) 6 0))))
  wrong (inputs standing l0 l1 l2) = check (bad_journal journal used) 6 0
  wrong (pending ch count) = check (bad_journal journal used) 6 (check (ltb 63 ch) 8 0)
  wrong (run now pace) = check (bad_window base window) 5 (check (bad_journal journal used) 6 (check (bad_time now pace) 7 0))
  wrong (service now pace) = check (bad_window base window) 5 (check (bad_journal journal used) 6 (check (bad_time now pace) 7 0))
  wrong (ack ipl) = check (bad_journal journal used) 6 0

  -- what stops a call before anything is done: something wrong with its arguments; then what the device holds
  unfoldable pub stops : Asked → Device → ℕ
  stops c d = first (wrong c) (barred c d)

  unfoldable pub wrong_back : ℕ
  wrong_back = check (bad_window base window) 5 (check (bad_journal journal used) 6 0)

unfoldable pub wrong_read : Device → ℕ → ℕ → ℕ
wrong_read d address size =
    check (bad_size size) 1 (check (not (in_blocks address)) 2 (check (is_none (read_at d address size)) 3 (check (past_table address size) 4 0)))

-- ---- all that is there after a call

-- the answer's number (0: accepted), what an acknowledge heard, device, window, staging, journal, used length
pub data Told : Type 0 where
  told : ℕ → Heard → Device → List ℕ → List ℕ → List ℕ → ℕ → Told

-- its parts
abbrev pub number_told : Told → ℕ
number_told (told n heard d window staging journal used) = n

abbrev pub heard_told : Told → Heard
heard_told (told n heard d window staging journal used) = heard

abbrev pub device_told : Told → Device
device_told (told n heard d window staging journal used) = d

abbrev pub window_told : Told → List ℕ
window_told (told n heard d window staging journal used) = window

abbrev pub journal_told : Told → List ℕ
journal_told (told n heard d window staging journal used) = journal

-- what an answer tells, with window, staging and journal as they are then
abbrev pub told_acted : Acted → List ℕ → List ℕ → List ℕ → Told
told_acted r window staging journal = told (verdict_number r.verdict) None (view r.device) window staging journal r.used

abbrev pub told_heard : Acknowledged → List ℕ → List ℕ → List ℕ → Told
told_heard r window staging journal = told (verdict_number r.verdict) r.heard (view r.device) window staging journal r.used

-- where a call is refused, those bits of priorities that count for nothing (`View`) are as they were too: of all that are held, before and after it
abbrev pub Spared : Verdict → List ℕ → List ℕ → Type 0
Spared v held held' = (n : Refusal) → v ≡ Err n → held' ≡ held

-- staging is all zero after every run or service that is not refused before anything is done, and otherwise unchanged
unfoldable pub staging_after : Asked → List ℕ → List ℕ
staging_after (write address size v) staging = staging
staging_after (inputs standing l0 l1 l2) staging = staging
staging_after (pending ch count) staging = staging
staging_after (run now pace) staging = replicate (length staging) 0
staging_after (service now pace) staging = replicate (length staging) 0
staging_after (ack ipl) staging = staging

abbrev pub world_of : Device → List ℕ → List ℕ → ℕ → World
world_of d window journal used = record { now = record { mem = window; dev = d }; used = take used journal; free = drop used journal }

-- after a refusal the used length is the one given
unfoldable pub told_after : List ℕ → ℕ → After Heard World → Told
told_after staging used (made heard u) = told 0 heard u.now.dev u.now.mem staging (u.used ++ u.free) (length u.used)
told_after staging used (unmade n u) = told n None u.now.dev u.now.mem staging (u.used ++ u.free) used

-- of a call that is given this device, window, staging, journal and used length: stopped with a number, it tells them as they are; else, 0, what
-- its act left
module _ (d : Device) (window staging journal : List ℕ) (used : ℕ) where
  unfoldable pub unless_stopped : ℕ → Told → Told
  unless_stopped zero acted = acted
  unless_stopped (suc n) acted = told (suc n) None d window staging journal used

-- base address; device, window, staging, journal and used length as the call is given them
unfoldable pub after : Asked → ℕ → Device → List ℕ → List ℕ → List ℕ → ℕ → Told
after c base d window staging journal used =
    unless_stopped d window staging journal used (stops base (length window) (length journal) used c d)
    (told_after (staging_after c staging) used (perform base (lending (length staging)) (act_of c) (world_of d window journal used)))

unfoldable pub heard_nothing : {A : Type 0} → After A World → After Heard World
heard_nothing (made a u) = made None u
heard_nothing (unmade n u) = unmade n u

-- take back: it has no staging
unfoldable pub after_back : ℕ → Device → List ℕ → List ℕ → ℕ → Told
after_back base d window journal used =
    unless_stopped d window [] journal used (wrong_back base (length window) (length journal) used)
    (told_after [] used (heard_nothing (take_back base (world_of d window journal used))))

-- a register read: its number and its value
pub data ToldRead : Type 0 where
  told_read : ℕ → ℕ → ToldRead

abbrev pub told_reading : Reading → ToldRead
told_reading r = told_read (reading_number r) (reading_value r)

unfoldable pub or_zero : Option ℕ → ℕ
or_zero none = 0
or_zero (some v) = v

-- stopped with a number; or, with 0, what stands there
unfoldable pub read_unless : ℕ → Option ℕ → ToldRead
read_unless zero v = told_read 0 (or_zero v)
read_unless (suc n) v = told_read (suc n) 0

unfoldable pub after_read : Device → ℕ → ℕ → ToldRead
after_read d address size = read_unless (wrong_read d address size) (read_at d address size)

-- on an `unfolding` line: all the definitions of this file
unfoldable pub refusals : Unit {0}
unfolding bad_size is_none bad_window bad_journal bad_time bad_sum check wrong first barred stops wrong_back wrong_read
refusals = tt

unfoldable pub calls : Unit {0}
unfolding refusals fresh_controller counting fresh set_inputs add_pending or_nothing levelled act_of staging_after told_after unless_stopped after heard_nothing after_back or_zero read_unless after_read
calls = tt
