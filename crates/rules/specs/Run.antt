-- Document 01, "Run, service, controllers", with document 02's [10]: requests, turns in both modes, and service. Assumes nothing.
use Rattle.std.specs.Prelude.{Bool, cond, not, ◌&&◌, ◌||◌, ℕ, zero, suc, ◌+◌, ◌-◌, ◌*◌, ◌^◌, min, eqb, leb, ltb}
use Rattle.std.specs.Int.Bits.{bit_and, bit_or}
use Rattle.rules.specs.Act.{Act, done, nothing, endless, fetch, ask, put, change, look, when, ◌>>=◌, ◌>>◌, table, BUSY, MAJORS, PENDING, PRIORITY, CHIP}
use Rattle.rules.specs.Scalars.{ERQ, KICK, DEFERRED, DEADLINE, STANDING}
use Rattle.rules.specs.Bytes.{number}
use Rattle.rules.specs.Words.{has, gain, lose, lowest}
use Rattle.rules.specs.Minor.{descriptor, pass, START, DONE}

-- ---- requests

-- a channel requests if its standing bit is set or its pending count is above 0
unfoldable pub requests : ℕ → Act Bool
requests ch = do
  standing ← ask STANDING
  count ← ask (PENDING ch)
  done (has standing ch || not (eqb count 0))

-- ERQ and a request
unfoldable pub offered : ℕ → Act Bool
offered ch = do
  erq ← ask ERQ
  asks ← requests ch
  done (has erq ch && asks)

-- the requesting channels as a mask: those of m, and of so many more from ch on those whose pending count is above 0
unfoldable pub waiting : ℕ → ℕ → ℕ → Act ℕ
waiting zero ch m = done m
waiting (suc left) ch m = do
  count ← ask (PENDING ch)
  waiting left (suc ch) (cond (eqb count 0) m (gain m ch))

unfoldable pub requesting : Act ℕ
requesting = do
  standing ← ask STANDING
  waiting 64 0 standing

-- ---- one turn

-- START runs minor loops until majors changes or a pass answers no
unfoldable pub start_loop : ℕ → ℕ → ℕ → Act (Unit {0})
start_loop zero ch before = nothing
start_loop (suc n) ch before = do
  went ← pass ch
  majors ← ask (MAJORS ch)
  cond (went && eqb majors before) (start_loop n ch before) nothing

-- the number of passes to recurse on; it never decides (`proofs/Ends`)
unfoldable pub start_passes : ℕ
start_passes = 2 ^ 15

-- channel 35 runs until a pass answers no, DONE shows, or the sum of raw `nbytes` (read before each pass, added if the pass answers yes) is
-- above 2^20; the sum
unfoldable pub line_loop : ℕ → ℕ → Act ℕ
line_loop zero sum = endless
line_loop (suc n) sum = do
  t ← descriptor 35
  went ← pass 35
  t' ← descriptor 35
  cond went
      (cond (has t'.csr DONE || ltb (2 ^ 20) (sum + t.nbytes)) (done (sum + t.nbytes)) (line_loop n (sum + t.nbytes)))
      (done sum)

-- the number of passes to recurse on; it never decides (`proofs/Ends`)
unfoldable pub line_passes : ℕ
line_passes = 2 ^ 22 + 1

-- then busy until = now + sum x pace, and a deadline later than that falls to it
unfoldable pub paced : ℕ → ℕ → ℕ → Act (Unit {0})
paced now pace sum = do
  put (BUSY 35) (now + sum * pace)
  change DEADLINE (λ deadline. min deadline (now + sum * pace))

unfoldable pub serve_line : ℕ → ℕ → Act (Unit {0})
serve_line now pace = do
  sum ← line_loop line_passes 0
  paced now pace sum

-- other channels, while ERQ and a request hold, spend one pending count if there is one, then run a pass
unfoldable pub request_loop : ℕ → ℕ → Act (Unit {0})
request_loop zero ch = nothing
request_loop (suc n) ch = do
  asks ← offered ch
  cond asks
      (do
        _ ← change (PENDING ch) (λ count. count - 1)
        went ← pass ch
        cond went (request_loop n ch) nothing)
      nothing

-- at most 1,048,577 passes
unfoldable pub request_passes : ℕ
request_passes = 1048577

-- the channel's START, or otherwise ERQ and a request
unfoldable pub serve : ℕ → ℕ → ℕ → Act (Unit {0})
serve now pace ch = do
  t ← descriptor ch
  majors ← ask (MAJORS ch)
  asks ← offered ch
  cond (has t.csr START)
      (start_loop start_passes ch majors)
      (when asks (cond (eqb ch 35) (serve_line now pace) (request_loop request_passes ch)))

-- the channel goes from KICK first; one that is busy past `now` moves to DEFERRED
unfoldable pub turn : ℕ → ℕ → ℕ → Act (Unit {0})
turn now pace ch = do
  change KICK (λ k. lose k ch)
  busy ← ask (BUSY ch)
  cond (ltb now busy) (change DEFERRED (λ k. gain k ch)) (serve now pace ch)

-- ---- turns

-- the lowest set bit of KICK is served next
unfoldable pub turns : ℕ → ℕ → ℕ → Act (Unit {0})
turns now pace zero = nothing
turns now pace (suc n) = do
  kick ← ask KICK
  cond (eqb kick 0) nothing (do
    _ ← turn now pace (lowest kick)
    turns now pace n)

-- at most 4,096 turns
unfoldable pub run_turns : ℕ
run_turns = 4096

-- ---- turns as the chip makes them (document 02, [10])

-- the channels that have START or both ERQ and a request and aren't busy past `now`
unfoldable pub ready : ℕ → ℕ → Act Bool
ready now ch = do
  flags ← fetch table (32 * ch + 0x1F) 1
  asks ← offered ch
  busy ← ask (BUSY ch)
  done ((has (number flags) START || asks) && not (ltb now busy))

-- of so many channels from ch on that are ready and not passed over (`past`), the one with the highest priority value, the higher number among
-- equals; `best` is the one so far, and `top` its priority. 64: none
unfoldable pub choose : ℕ → ℕ → ℕ → ℕ → ℕ → ℕ → Act ℕ
choose now past zero ch best top = done best
choose now past (suc left) ch best top = do
  is ← ready now ch
  value ← ask (PRIORITY ch)
  choose now past left (suc ch)
      (cond (is && not (has past ch) && leb top value) ch best)
      (cond (is && not (has past ch) && leb top value) value top)

-- one minor loop: the channel's KICK bit goes; its pending is spent as before: not by START, and not by channel 35. Channel 35's pace applies to its
-- one loop, if no START led to it; a pass that answers no counts 0. Does the pass answer yes
unfoldable pub chip_turn : ℕ → ℕ → ℕ → Act Bool
chip_turn now pace ch = do
  change KICK (λ k. lose k ch)
  t ← descriptor ch
  when (not (has t.csr START) && not (eqb ch 35)) (change (PENDING ch) (λ count. count - 1))
  went ← pass ch
  when (not (has t.csr START) && eqb ch 35) (paced now pace (cond went t.nbytes 0))
  done went

-- then looks afresh; one whose pass answers no is passed over for the rest of the call
unfoldable pub chip_turns : ℕ → ℕ → ℕ → ℕ → Act (Unit {0})
chip_turns now pace zero past = nothing
chip_turns now pace (suc n) past = do
  ch ← choose now past 64 0 64 0
  cond (ltb ch 64)
      (do
        went ← chip_turn now pace ch
        chip_turns now pace n (cond went past (gain past ch)))
      nothing

-- ---- run

unfoldable pub run_all : ℕ → ℕ → Act (Unit {0})
run_all now pace = do
  chip ← look CHIP
  cond chip (chip_turns now pace run_turns 0) (turns now pace run_turns)

-- ---- service

-- a busy time that is not 0 and not past `now`
unfoldable pub over : ℕ → ℕ → Bool
over now busy = not (eqb busy 0) && leb busy now

-- of so many channels from ch on, each such busy time becomes 0; those of them with ERQ set join m
unfoldable pub release : ℕ → ℕ → ℕ → ℕ → Act ℕ
release now zero ch m = done m
release now (suc left) ch m = do
  busy ← ask (BUSY ch)
  erq ← ask ERQ
  _ ← when (over now busy) (put (BUSY ch) 0)
  release now left (suc ch) (cond (over now busy && has erq ch) (gain m ch) m)

-- those channels, and all of DEFERRED, join KICK if they request or are in it; DEFERRED becomes 0; a run follows if KICK is not 0
unfoldable pub service_all : ℕ → ℕ → Act (Unit {0})
service_all now pace = do
  back ← release now 64 0 0
  deferred ← ask DEFERRED
  asking ← requesting
  put DEFERRED 0
  change KICK (λ k. bit_or k (bit_and (bit_or back deferred) (bit_or asking k)))
  kick ← ask KICK
  when (not (eqb kick 0)) (run_all now pace)

-- on an `unfolding` line: all the definitions of this file
unfoldable pub runs : Unit {0}
unfolding requests offered waiting requesting start_loop start_passes line_loop line_passes paced serve_line request_loop request_passes serve turn turns run_turns ready choose chip_turn chip_turns run_all over release service_all
runs = tt
