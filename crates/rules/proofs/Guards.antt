-- The guards that `go` tests on stores, and on fetches from the table, never decide: a call that refusals 1 to 8 let pass stores in legal
-- widths only, and reaches into the table's 2048 bytes only; so without these tests its act goes the same. Assumes nothing.
use mathlib.Core.Bool.{Bool, true, false, ◌&&◌, ◌||◌, not, false≢true}
use mathlib.Core.Path.{◌≡◌, refl, ap, ◌∙◌}
use Prim.Native.Nat.{ℕ, zero, suc, ◌+◌, ◌-◌, ◌*◌, ◌/◌, ◌%◌, ◌^◌, ◌<◌, ◌≤◌, zero-le, suc-le-suc}
use native.Mathlib.Omega.{arith}
use lib.Count.{count_trailing_zeros, under}
use lib.Dec.{eqb, leb, ltb, lit<}
use lib.ListN.{length}
use borrow.Author.Tests.{eqb-false, eqb-true, leb-true, ltb-false, ltb-true, not-false}
use Rattle.rules.specs.Act.{Act, Done, Endless, Stage, Fetch, Store, Ask, Put, Look, Space, window, table, BUSY, MAJORS, PENDING, PRIORITY, CHIP}
use Rattle.rules.specs.Scalars.{ERQ, KICK, DEFERRED, DEADLINE, STANDING}
use Rattle.rules.specs.Fields.{bits_of, holds, setting_of}
use Rattle.rules.specs.Carry.{World, Out, ok, no, there, legal, fetched, recorded, go, Lent}
use Rattle.rules.specs.Words.{has, lowest}
use Rattle.rules.specs.Minor.{START, DONE, descriptor, pass}
use Rattle.rules.specs.Run.{requests, offered, start_loop, line_loop, paced, serve_line, request_loop, start_passes, line_passes, request_passes, serve, turn, turns, run_turns, ready, choose, chip_turn, chip_turns, run_all, release, service_all}
use Rattle.rules.specs.Registers.{within, in_table, block_of, offset_of, write_at, past_table, past_word, in_blocks}
use Rattle.rules.specs.Calls.{add_pending, Asked, write, inputs, pending, run, service, ack, act_of, bad_size, is_none, wrong}
use Rattle.rules.proofs.BoolLaws.{and_left, or_either, neither}
use Rattle.rules.proofs.CallLaws.{passed}
use Rattle.rules.proofs.FieldLaws.{holds_fits}
use Rattle.rules.proofs.Steps.{cutting, in_table_lem, fetch-inside}
use Rattle.rules.proofs.Each.{Rights, Each, at_done, at_endless, at_stage, at_fetch, at_store, at_ask, at_put, at_look, ◌>>=◌, ◌>>◌, each_fetch, each_ask, each_asked, each_put, each_change, each_look, each_when, each_cond, proper-store, proper-put, fetched_length}
use Rattle.rules.proofs.Proper.{Proper}
use Rattle.rules.proofs.PassLaws.{descriptor_each, pass_each}
use Rattle.rules.proofs.Arms.{write_each}
use Rattle.rules.proofs.Pieces.{requesting_each, levelled_each, acknowledge_each, inputs_each}

-- ---- the guards

abbrev pub Inside : Space → ℕ → ℕ → Type 0
Inside window a n = Unit {0}
Inside table a n = a + n ≤ 2048

-- every store has a legal width, and every place in the table is inside its 2048 bytes
unfoldable pub guarded : Rights
guarded = record {
  may_stage = λ n. Unit {0};
  may_fetch = λ sp a n. Inside sp a n;
  may_store = λ sp a n. (legal sp n ≡ true) × Inside sp a n;
  may_put = λ f. Unit {0};
}

-- ---- a pass, and the loops of passes

-- to ask needs no rights
pub offered_each : {r : Rights} (ch : ℕ) → Each r (offered ch)
unfolding offered requests
offered_each ch = do
  erq ← each_ask ERQ
  asks ← do
    standing ← each_ask STANDING
    count ← each_ask (PENDING ch)
    at_done
  at_done

module _ (ch : ℕ) (h : ch < 64) where
  pass_guarded : Each guarded (pass ch)
  unfolding guarded legal
  pass_guarded = pass_each ch record {
    on_window = record { stage_any = λ n. tt; fetch_unit = λ a n l. tt; store_unit = λ a n l. (l, tt) };
    fetch_own = omega arith;
    store_own = λ a n l b w. (w, omega arith);
    fetch_link = λ to l. omega arith;
    store_link = λ to l. (refl, omega arith);
    put_int = tt;
    put_kick = tt;
    put_erq = tt;
    put_majors = tt;
  }

  own_guarded : Each guarded (descriptor ch)
  unfolding guarded
  own_guarded = descriptor_each ch (omega arith)

  start_guarded : (n before : ℕ) → Each guarded (start_loop n ch before)
  unfolding start_loop
  start_guarded zero before = at_done
  start_guarded (suc n) before = do
    went ← pass_guarded
    majors ← each_ask (MAJORS ch)
    each_cond (went && eqb majors before) (λ _. start_guarded n before) (λ _. at_done)

  request_guarded : (n : ℕ) → Each guarded (request_loop n ch)
  unfolding request_loop guarded
  request_guarded zero = at_done
  request_guarded (suc n) = do
    asks ← offered_each ch
    each_cond asks
        (λ _. do
          _ ← each_change (PENDING ch) _ tt
          went ← pass_guarded
          each_cond went (λ _. request_guarded n) (λ _. at_done))
        (λ _. at_done)

line_guarded : (n sum : ℕ) → Each guarded (line_loop n sum)
unfolding line_loop
line_guarded zero sum = at_endless
line_guarded (suc n) sum = do
  t ← own_guarded 35 (lit< tt)
  went ← pass_guarded 35 (lit< tt)
  t' ← own_guarded 35 (lit< tt)
  each_cond went
      (λ _. each_cond (has t'.csr DONE || ltb (2 ^ 20) (sum + t.nbytes)) (λ _. at_done) (λ _. line_guarded n (sum + t.nbytes)))
      (λ _. at_done)

-- ---- turns

-- the lowest set bit of a mask of k bits that is not 0 is below k
under_below : (digit below k : ℕ) → (digit ≡ 0 → below < k) → under digit below < suc k
under_below zero below k h = suc-le-suc (h refl)
under_below (suc digit) below k h = suc-le-suc zero-le

trailing_below : (k m : ℕ) → 0 < m → m < 2 ^ k → count_trailing_zeros k m < k
unfolding count_trailing_zeros
trailing_below zero m h l = absurd (omega arith)
trailing_below (suc k) m h l = under_below (m % 2) (count_trailing_zeros k (m / 2)) k (λ e. trailing_below k (m / 2) (omega arith) (omega arith))

pub lowest_below : (m : ℕ) → 0 < m → m < 2 ^ 64 → lowest m < 64
unfolding lowest
lowest_below m h l = trailing_below 64 m h l

module _ (now pace : ℕ) where
  paced_guarded : (sum : ℕ) → Each guarded (paced now pace sum)
  unfolding paced guarded
  paced_guarded sum = do
    each_put (BUSY 35) _ tt
    each_change DEADLINE _ tt

  serve_guarded : (ch : ℕ) → ch < 64 → Each guarded (serve now pace ch)
  unfolding serve serve_line
  serve_guarded ch h = do
    t ← own_guarded ch h
    majors ← each_ask (MAJORS ch)
    asks ← offered_each ch
    each_cond (has t.csr START)
        (λ _. start_guarded ch h start_passes majors)
        (λ _. each_when asks λ _. each_cond (eqb ch 35)
        (λ _. do
          sum ← line_guarded line_passes 0
          paced_guarded sum)
        (λ _. request_guarded ch h request_passes))

  turn_guarded : (ch : ℕ) → ch < 64 → Each guarded (turn now pace ch)
  unfolding turn guarded
  turn_guarded ch h = do
    each_change KICK _ tt
    busy ← each_ask (BUSY ch)
    each_cond (ltb now busy) (λ _. each_change DEFERRED _ tt) (λ _. serve_guarded ch h)

  turns_guarded : (n : ℕ) → Each guarded (turns now pace n)
  unfolding turns bits_of
  turns_guarded zero = at_done
  turns_guarded (suc n) =
      each_asked KICK λ kick l. each_cond (eqb kick 0) (λ _. at_done) (λ e. do
        _ ← turn_guarded (lowest kick) (lowest_below kick (omega (arith, eqb-false kick 0 e)) l)
        turns_guarded n)

  -- as the chip makes them
  choose_guarded : (past left ch best top : ℕ) → ch + left ≤ 64 → Each guarded (choose now past left ch best top)
  unfolding choose ready guarded
  choose_guarded past zero ch best top h = at_done
  choose_guarded past (suc left) ch best top h = do
    is ← do
      _ ← each_fetch _ _ _ (omega arith)
      asks ← offered_each ch
      busy ← each_ask (BUSY ch)
      at_done
    value ← each_ask (PRIORITY ch)
    choose_guarded past left (suc ch) _ _ (omega arith)

  chip-turn_guarded : (ch : ℕ) → ch < 64 → Each guarded (chip_turn now pace ch)
  unfolding chip_turn guarded
  chip-turn_guarded ch h = do
    each_change KICK _ tt
    t ← own_guarded ch h
    each_when _ (λ _. each_change (PENDING ch) _ tt)
    went ← pass_guarded ch h
    each_when _ (λ _. paced_guarded _)
    at_done

  chip-turns_guarded : (n past : ℕ) → Each guarded (chip_turns now pace n past)
  unfolding chip_turns
  chip-turns_guarded zero past = at_done
  chip-turns_guarded (suc n) past = do
    ch ← choose_guarded past 64 0 64 0 (omega arith)
    each_cond (ltb ch 64)
        (λ e. do
          went ← chip-turn_guarded ch (ltb-true ch 64 e)
          chip-turns_guarded n _)
        (λ _. at_done)

  run_guarded : Each guarded (run_all now pace)
  unfolding run_all
  run_guarded = do
    chip ← each_look CHIP
    each_cond chip (λ _. chip-turns_guarded run_turns 0) (λ _. turns_guarded run_turns)

-- ---- service

release_guarded : (now left ch m : ℕ) → Each guarded (release now left ch m)
unfolding release guarded
release_guarded now zero ch m = at_done
release_guarded now (suc left) ch m = do
  busy ← each_ask (BUSY ch)
  erq ← each_ask ERQ
  _ ← each_when _ (λ _. each_put (BUSY ch) 0 tt)
  release_guarded now left (suc ch) _

service_guarded : (now pace : ℕ) → Each guarded (service_all now pace)
unfolding service_all guarded
service_guarded now pace = do
  back ← release_guarded now 64 0 0
  deferred ← each_ask DEFERRED
  asking ← requesting_each
  each_put DEFERRED 0 tt
  each_change KICK _ tt
  kick ← each_ask KICK
  each_when _ (λ _. run_guarded now pace)

-- ---- the calls

size-legal : (size : ℕ) → bad_size size ≡ false → legal table size ≡ true
unfolding bad_size legal
size-legal size e =
    or_either (eqb size 1 || eqb size 2) (eqb size 4)
    (or_either (eqb size 1) (eqb size 2) (λ h. rw (eqb-true size 1 h)) (λ h. rw (eqb-true size 2 h)))
    (λ h. rw (eqb-true size 4 h))
    (not-false _ e)

not_past : (address size : ℕ) → past_table address size ≡ false → block_of address ≡ 0 → in_table (offset_of address) ≡ true → offset_of address + size ≤ 0x1800
unfolding past_table
not_past address size e b t = ltb-false 0x1800 (offset_of address + size) (rw (b, t) at e)

-- a channel's last byte is inside the table
flag_guarded : (ch : ℕ) → ch < 64 → guarded.may_fetch table (32 * ch + 0x1F) 1 × guarded.may_store table (32 * ch + 0x1F) 1
unfolding guarded legal
flag_guarded ch h = (omega arith, (refl, omega arith))

-- and so is a write that begins there and does not run past its end
stored-inside : (off size : ℕ) → in_table off ≡ true → off + size ≤ 0x1800 → off - 0x1000 + size ≤ 2048
unfolding in_table within
stored-inside off size e h = let low : 0x1000 ≤ off = leb-true _ _ (and_left _ _ e) in omega arith

-- of every call that refusals 1 to 8 do not refuse
pub call_guarded : (base mem journal used : ℕ) (c : Asked) → wrong base mem journal used c ≡ 0 → Each guarded (act_of c)
unfolding act_of wrong write_at add_pending guarded
call_guarded base mem journal used (write address size v) e =
    let one = passed (bad_size size) 0 _ e in
    let two = passed (not (in_blocks address)) 1 _ one.1 in
    let three = passed (is_none (write_at address size v)) 2 _ two.1 in
    let four = passed (past_table address size || past_word address size) 3 _ three.1 in
    levelled_each (λ c. tt) tt _
    (write_each (λ f. tt) flag_guarded (block_of address) (offset_of address) size v
    (λ b t. (size-legal size one.0, stored-inside (offset_of address) size t (not_past address size (neither _ _ four.0).0 b t))))
call_guarded base mem journal used (inputs standing l0 l1 l2) e = levelled_each (λ c. tt) tt _ (inputs_each (λ f. tt) standing l0 l1 l2)
call_guarded base mem journal used (pending ch count) e = levelled_each (λ c. tt) tt _ (each_change (PENDING ch) _ tt)
call_guarded base mem journal used (run now pace) e = levelled_each (λ c. tt) tt _ (run_guarded now pace)
call_guarded base mem journal used (service now pace) e = levelled_each (λ c. tt) tt _ (service_guarded now pace)
call_guarded base mem journal used (ack ipl) e = acknowledge_each (λ i. tt) ipl

-- ---- an act carried out without these tests

module _ (base : ℕ) (lent : Lent) where
  -- `go`, without the tests of a store's width and of a place in the table
  unfoldable pub go_bare : {A : Type 0} → Act A → World → Out A
  go_bare (Done a) u = ok a u
  go_bare Endless u = no 11 u
  go_bare (Stage n k) u = elim (leb n lent.staging) [ true ↦ go_bare k u | false ↦ no 10 u ]
  go_bare (Fetch window a n k) u = elim (there base window a n u.now) [ true ↦ go_bare (k (fetched base window a n u.now)) u | false ↦ no 9 u ]
  go_bare (Fetch table a n k) u = go_bare (k (fetched base table a n u.now)) u
  go_bare (Store window a n v k) u =
      elim (there base window a n u.now) [
        | true ↦ elim (leb 16 (length u.free)) [ true ↦ go_bare k (recorded base window a n v u) | false ↦ no 11 u ]
        | false ↦ no 9 u
      ]
  go_bare (Store table a n v k) u = elim (leb 16 (length u.free)) [ true ↦ go_bare k (recorded base table a n v u) | false ↦ no 11 u ]
  go_bare (Ask f k) u = go_bare (k (holds f u.now.dev)) u
  go_bare (Put f v k) u = go_bare k (cutting f v u)
  go_bare (Look s k) u = go_bare (k (setting_of s u.now.dev)) u

-- a test, the other of two tests that holds, and both
abbrev tested : {A : Type 0} → Bool → Out A → Out A → Out A
tested b x y = elim b [ true ↦ x | false ↦ y ]

other_holds : {A : Type 0} (b c : Bool) (z : Out A) {x y : Out A} → c ≡ true → x ≡ y → tested (b && c) x z ≡ tested b y z
other_holds true true z h e = e
other_holds true false z h e = absurd (false≢true h)
other_holds false c z h e = refl

both_hold : {A : Type 0} (b c : Bool) (z : Out A) {x y : Out A} → b ≡ true → c ≡ true → x ≡ y → tested (b && c) x z ≡ y
both_hold true true z g h e = e
both_hold true false z g h e = absurd (false≢true h)
both_hold false c z g h e = absurd (false≢true g)

module _ (base : ℕ) (lent : Lent) where
  -- they never decide
  pub bare_same : {A : Type 0} {m : Act A} → Each guarded m → (u : World) → Proper u.now.dev → go base lent m u ≡ go_bare base lent m u
  unfolding go go_bare guarded
  bare_same at_done u p = refl
  bare_same at_endless u p = refl
  bare_same (at_stage {n} _ q) u p = ap (λ o. tested (leb n lent.staging) o (no 10 u)) (bare_same q u p)
  bare_same (at_fetch {sp = window} {a} {n} h q) u p =
      ap (λ o. tested (there base window a n u.now) o (no 9 u)) (bare_same (q _ (fetched_length base window a n u.now)) u p)
  bare_same (at_fetch {sp = table} {a} {n} {k} h q) u p =
      fetch-inside base lent table a n k u (in_table_lem base a n u.now (omega (arith, p.size)))
      ∙ bare_same (q _ (fetched_length base table a n u.now)) u p
  bare_same (at_store {sp = window} {a} {n} {v} h q) u p =
      other_holds (there base window a n u.now) (legal window n) (no 9 u) h.0
      (ap (λ o. tested (leb 16 (length u.free)) o (no 11 u)) (bare_same q (recorded base window a n v u) (proper-store base u p window a n v)))
  bare_same (at_store {sp = table} {a} {n} {v} h q) u p =
      both_hold (there base table a n u.now) (legal table n) (no 9 u) (in_table_lem base a n u.now (omega (arith, p.size, h.1))) h.0
      (ap (λ o. tested (leb 16 (length u.free)) o (no 11 u)) (bare_same q (recorded base table a n v u) (proper-store base u p table a n v)))
  bare_same (at_ask {f} q) u p = bare_same (q (holds f u.now.dev) (holds_fits f u.now.dev p.sound)) u p
  bare_same (at_put {f} {v} h q) u p = bare_same q (cutting f v u) (proper-put f v u p)
  bare_same (at_look {s} q) u p = bare_same (q (setting_of s u.now.dev)) u p

  -- and so for every call that refusals 1 to 8 do not refuse
  pub call_bare : (mem journal used : ℕ) (c : Asked) → wrong base mem journal used c ≡ 0 → (u : World) → Proper u.now.dev
      → go base lent (act_of c) u ≡ go_bare base lent (act_of c) u
  call_bare mem journal used c e u p = bare_same (call_guarded base mem journal used c e) u p
