-- No invented end count: the numbers of passes that the loops of channel 35 and of START recurse on never decide. Assumes nothing.
use mathlib.Core.Bool.{Bool, true, false, cond, not, ◌&&◌, ◌||◌}
use mathlib.Core.List.{List}
use mathlib.Core.Path.{◌≡◌, refl, sym, ap, ◌∙◌}
use Prim.Native.Nat.{ℕ, zero, suc, ◌+◌, ◌*◌, ◌^◌, ◌<◌, ◌≤◌}
use native.Mathlib.Omega.{arith}
use borrow.Author.Tests.{eqb-true, eqb-false, ltb-false}
use lib.Bits.{bit_and, bit_or}
use lib.Dec.{eqb, ltb}
use lib.ListN.{length, length-drop}
use Rattle.rules.specs.State.{Device}
use Rattle.rules.specs.Act.{Act, done, nothing, ask, put, change, look, when, ◌>>=◌, ◌>>◌, Field, BUSY, MAJORS, CHIP}
use Rattle.rules.specs.Scalars.{KICK, DEFERRED}
use Rattle.rules.specs.Carry.{World, go, Lent}
use Rattle.rules.specs.Fields.{bits_of, holds}
use Rattle.rules.specs.Words.{has, gain, lose, lowest}
use Rattle.rules.specs.Minor.{START, DONE, descriptor, pass}
use Rattle.rules.specs.Run.{offered, requesting, start_loop, start_passes, line_loop, line_passes, paced, serve_line, request_loop, request_passes, serve, turn, turns, run_turns, chip_turns, run_all, release, service_all}
use Rattle.rules.specs.Calls.{Asked, write, inputs, pending, run, service, ack, levelled, act_of, bad_journal, wrong, world_of}
use Rattle.rules.specs.Verdicts.{Heard}
use Rattle.rules.proofs.BoolLaws.{and_left, and_right}
use Rattle.rules.proofs.FieldLaws.{holds_fits}
use Rattle.rules.proofs.Steps.{and_then, go_bind, bind_ok, ask-does}
use Rattle.rules.proofs.Proper.{Proper}
use Rattle.rules.proofs.Leads.{Leads, leads_map, leads_both, shrinks, proper_kept, same_bind, same_cond}
use Rattle.rules.proofs.PassLaws.{pass_room, citer_at, count_at, count_below, Counted, fewer, ended, pass-counts, majors_kept}
use Rattle.rules.proofs.BoolLaws.{neither}
use Rattle.rules.proofs.CallLaws.{passed}
use Rattle.rules.proofs.Guards.{offered_each, lowest_below}

-- ---- channel 35

-- its loop, with another act where the number of passes runs out
unfoldable pub line_or : (ℕ → Act ℕ) → ℕ → ℕ → Act ℕ
line_or rest zero sum = rest sum
line_or rest (suc n) sum = do
  t ← descriptor 35
  went ← pass 35
  t' ← descriptor 35
  cond went
      (cond (has t'.csr DONE || ltb (2 ^ 20) (sum + t.nbytes)) (done (sum + t.nbytes)) (line_or rest n (sum + t.nbytes)))
      (done sum)

module _ (base : ℕ) (lent : Lent) where
  -- each pass that answers yes writes four records at least: it meets 11, or ends, before the number runs out
  pub line_any : (rest : ℕ → Act ℕ) (n m sum : ℕ) (u : World) → length u.free < 64 * n → length u.free < 64 * m
      → go base lent (line_loop n sum) u ≡ go base lent (line_or rest m sum) u
  unfolding line_loop line_or
  line_any rest zero m sum u h k = absurd (omega arith)
  line_any rest (suc n) zero sum u h k = absurd (omega arith)
  line_any rest (suc n) (suc m) sum u h k =
      same_bind _ _ (shrinks (descriptor 35) u (length u.free) (omega arith)) λ t v a.
      same_bind _ _ (pass_room 35 v) λ went w b.
      same_bind _ _ (shrinks (descriptor 35) w (length w.free) (omega arith)) λ t' x c.
      same_cond base lent x went _ _ _ _
      (λ e.
      let d : length w.free + 64 ≤ length v.free = b e in
      same_cond base lent x (has t'.csr DONE || ltb (2 ^ 20) (sum + t.nbytes)) _ _ _ _ (λ _. refl)
      (λ _. line_any rest n m (sum + t.nbytes) x (omega arith) (omega arith)))
      (λ _. refl)

  pub line_same : (n m sum : ℕ) (u : World) → length u.free < 64 * n → length u.free < 64 * m
      → go base lent (line_loop n sum) u ≡ go base lent (line_loop m sum) u
  line_same n m sum u h k = line_any done n m sum u h k ∙ sym (line_any done m m sum u k k)

-- a journal has at most 2^28 bytes
pub line_enough : (u : World) → length u.free ≤ 2 ^ 28 → length u.free < 64 * line_passes
unfolding line_passes
line_enough u h = omega arith

-- ---- START

-- its loop, with another act where the number of passes runs out
unfoldable pub start_or : Act (Unit {0}) → ℕ → ℕ → ℕ → Act (Unit {0})
start_or rest zero ch before = rest
start_or rest (suc n) ch before = do
  went ← pass ch
  majors ← ask (MAJORS ch)
  cond (went && eqb majors before) (start_or rest n ch before) nothing

-- where majors is as it was, the channel has one less to count
one_less : {ch count majors : ℕ} {after : Device} → Counted ch count majors after → holds (MAJORS ch) after ≡ majors → count_at ch after + 1 ≡ count
one_less (fewer k l) h = k
one_less (ended l k) h = absurd (omega (arith, h, k))

module _ (base : ℕ) (lent : Lent) (ch : ℕ) (h : ch < 64) where
  -- each pass that answers yes stores the count less one, and at the last majors changes: the loop ends before the number runs out
  pub start_any : (rest : Act (Unit {0})) (n m before : ℕ) (u : World) → Proper u.now.dev → before ≡ holds (MAJORS ch) u.now.dev
      → count_at ch u.now.dev < n → count_at ch u.now.dev < m
      → go base lent (start_loop n ch before) u ≡ go base lent (start_or rest m ch before) u
  unfolding start_loop start_or
  start_any rest zero m before u p b l k = absurd (omega arith)
  start_any rest (suc n) zero before u p b l k = absurd (omega arith)
  start_any rest (suc n) (suc m) before u p b l k =
      same_bind _ _ (leads_both (pass-counts ch h u p) (proper_kept (pass ch) u p)) λ went v q.
      let majors = holds (MAJORS ch) v.now.dev in
      bind_ok base lent (ask (MAJORS ch)) _ v (ask-does base lent v (MAJORS ch))
      ∙ same_cond base lent v (went && eqb majors before) _ _ _ _
      (λ e.
      let same : majors ≡ before = eqb-true majors before (and_right went _ e) in
      let less = one_less (q.0 (and_left went _ e)) (same ∙ b) in
      start_any rest n m before v q.1 (sym same) (omega arith) (omega arith))
      (λ _. refl)
      ∙ sym (bind_ok base lent (ask (MAJORS ch)) _ v (ask-does base lent v (MAJORS ch)))

  pub start_same : (n m before : ℕ) (u : World) → Proper u.now.dev → before ≡ holds (MAJORS ch) u.now.dev
      → count_at ch u.now.dev < n → count_at ch u.now.dev < m
      → go base lent (start_loop n ch before) u ≡ go base lent (start_loop m ch before) u
  start_same n m before u p b l k = start_any nothing n m before u p b l k ∙ sym (start_any nothing m m before u p b k k)

-- a count has 15 bits
count_fits : (ch : ℕ) (d : Device) → count_at ch d < 2 ^ 15
unfolding count_at
count_fits ch d = count_below (citer_at ch d)

pub start_enough : (ch : ℕ) (d : Device) → count_at ch d < start_passes
unfolding start_passes
start_enough ch d = count_fits ch d

-- ---- a whole call

-- how many passes both loops may make, and what is done where these run out
pub record Limits : Type 0 where
  pub lines : ℕ
  pub line_rest : ℕ → Act ℕ
  pub starts : ℕ
  pub start_rest : Act (Unit {0})

-- more than a journal of 2^28 bytes has room for, and more than a count holds
pub record Enough (o : Limits) : Type 0 where
  pub for_line : 2 ^ 28 < 64 * o.lines
  pub for_start : 2 ^ 15 ≤ o.starts

-- the acts of `specs/` with these limits
module _ (o : Limits) where
  module _ (now pace : ℕ) where
    unfoldable pub serve_line_or : Act (Unit {0})
    serve_line_or = do
      sum ← line_or o.line_rest o.lines 0
      paced now pace sum

    unfoldable pub serve_or : ℕ → Act (Unit {0})
    serve_or ch = do
      t ← descriptor ch
      majors ← ask (MAJORS ch)
      asks ← offered ch
      cond (has t.csr START)
          (start_or o.start_rest o.starts ch majors)
          (when asks (cond (eqb ch 35) serve_line_or (request_loop request_passes ch)))

    unfoldable pub turn_or : ℕ → Act (Unit {0})
    turn_or ch = do
      change KICK (λ k. lose k ch)
      busy ← ask (BUSY ch)
      cond (ltb now busy) (change DEFERRED (λ k. gain k ch)) (serve_or ch)

    unfoldable pub turns_or : ℕ → Act (Unit {0})
    turns_or zero = nothing
    turns_or (suc n) = do
      kick ← ask KICK
      cond (eqb kick 0) nothing (do
        _ ← turn_or (lowest kick)
        turns_or n)

    -- the turns of the chip's mode have no such loops
    unfoldable pub run_or : Act (Unit {0})
    run_or = do
      chip ← look CHIP
      cond chip (chip_turns now pace run_turns 0) (turns_or run_turns)

    unfoldable pub service_or : Act (Unit {0})
    service_or = do
      back ← release now 64 0 0
      deferred ← ask DEFERRED
      asking ← requesting
      put DEFERRED 0
      change KICK (λ k. bit_or k (bit_and (bit_or back deferred) (bit_or asking k)))
      kick ← ask KICK
      when (not (eqb kick 0)) run_or

  unfoldable pub act_or : Asked → Act Heard
  act_or (write address size v) = act_of (write address size v)
  act_or (inputs standing l0 l1 l2) = act_of (inputs standing l0 l1 l2)
  act_or (pending ch count) = act_of (pending ch count)
  act_or (run now pace) = levelled (run_or now pace)
  act_or (service now pace) = levelled (service_or now pace)
  act_or (ack ipl) = act_of (ack ipl)

-- a proper device, and no more room than the longest journal has
pub record Fair (u : World) : Type 0 where
  pub proper : Proper u.now.dev
  pub room : length u.free ≤ 2 ^ 28

module _ (base : ℕ) (lent : Lent) where
  -- from wherever is fair, two acts go the same
  pub record Alike {A : Type 0} (m k : Act A) : Type 0 where
    pub goes : (u : World) → Fair u → go base lent m u ≡ go base lent k u

module _ {base : ℕ} {lent : Lent} where
  fair_kept : {A : Type 0} (m : Act A) (u : World) → Fair u → Leads base lent u m (λ _ v. Fair v)
  fair_kept m u p = leads_map (leads_both (proper_kept m u p.proper) (shrinks m u (2 ^ 28) p.room)) λ _ v q. record { proper = q.0; room = q.1 }

  alike : {A : Type 0} {m : Act A} → Alike base lent m m
  alike = record { goes = λ u p. refl }

  alike_bind : {A B : Type 0} {m k : Act A} {f g : A → Act B} → Alike base lent m k → ((a : A) → Alike base lent (f a) (g a))
      → Alike base lent (m >>= f) (k >>= g)
  alike_bind {m = m} {k = k} {f = f} {g = g} p q = record {
    goes = λ u h.
        same_bind f g (fair_kept m u h) (λ a v l. (q a).goes v l)
        ∙ go_bind base lent m g u
        ∙ ap (λ o. and_then o (λ a. go base lent (g a))) (p.goes u h)
        ∙ sym (go_bind base lent k g u);
  }

  alike_then : {A B : Type 0} {m k : Act A} {f g : Act B} → Alike base lent m k → Alike base lent f g → Alike base lent (m >> f) (k >> g)
  unfolding ◌>>◌
  alike_then p q = alike_bind p (λ _. q)

  alike_asked : {A : Type 0} (f : Field) {k l : ℕ → Act A} → ((v : ℕ) → v < 2 ^ bits_of f → Alike base lent (k v) (l v))
      → Alike base lent (ask f >>= k) (ask f >>= l)
  alike_asked f {k} {l} q = record {
    goes = λ u h.
        bind_ok base lent (ask f) k u (ask-does base lent u f)
        ∙ (q (holds f u.now.dev) (holds_fits f u.now.dev h.proper.sound)).goes u h
        ∙ sym (bind_ok base lent (ask f) l u (ask-does base lent u f));
  }

  alike_cond : {A : Type 0} (b : Bool) {m k n l : Act A} → (b ≡ true → Alike base lent m n) → (b ≡ false → Alike base lent k l)
      → Alike base lent (cond b m k) (cond b n l)
  alike_cond true p q = p refl
  alike_cond false p q = q refl

  alike-when : (b : Bool) {m k : Act (Unit {0})} → Alike base lent m k → Alike base lent (when b m) (when b k)
  unfolding when
  alike-when true p = p
  alike-when false p = alike

module _ (base : ℕ) (lent : Lent) (o : Limits) (enough : Enough o) where
  module _ (now pace : ℕ) where
    line-alike : Alike base lent (serve_line now pace) (serve_line_or o now pace)
    unfolding serve_line serve_line_or
    line-alike =
        alike_bind (record { goes = λ u p. line_any base lent o.line_rest line_passes o.lines 0 u (line_enough u p.room) (omega (arith, p.room, enough.for_line)) }) λ sum. alike

    -- the majors that the loop of START is given are those of the moment
    serve-alike : (ch : ℕ) → ch < 64 → Alike base lent (serve now pace ch) (serve_or o now pace ch)
    unfolding serve serve_or
    serve-alike ch h = record {
      goes = λ u p.
          same_bind _ _ (fair_kept (descriptor ch) u p) λ t v q.
          bind_ok base lent (ask (MAJORS ch)) _ v (ask-does base lent v (MAJORS ch))
          ∙ same_bind _ _ (leads_both (fair_kept (offered ch) v q) (majors_kept ch _ (offered_each ch) v (q.proper, refl))) (λ asks w f.
          same_cond base lent w (has t.csr START) _ _ _ _
          (λ _.
          start_any base lent ch h o.start_rest start_passes o.starts _ w f.0.proper (sym f.1.1) (start_enough ch w.now.dev)
          (omega (arith, count_fits ch w.now.dev, enough.for_start)))
          (λ _. (alike-when asks (alike_cond (eqb ch 35) (λ _. line-alike) (λ _. alike))).goes w f.0))
          ∙ sym (bind_ok base lent (ask (MAJORS ch)) _ v (ask-does base lent v (MAJORS ch)));
    }

    turn-alike : (ch : ℕ) → ch < 64 → Alike base lent (turn now pace ch) (turn_or o now pace ch)
    unfolding turn turn_or
    turn-alike ch h = alike_then alike (alike_bind alike λ busy. alike_cond (ltb now busy) (λ _. alike) (λ _. serve-alike ch h))

    turns-alike : (n : ℕ) → Alike base lent (turns now pace n) (turns_or o now pace n)
    unfolding turns turns_or bits_of
    turns-alike zero = alike
    turns-alike (suc n) =
        alike_asked KICK λ kick b. alike_cond (eqb kick 0) (λ _. alike) λ e.
        alike_bind (turn-alike (lowest kick) (lowest_below kick (omega (arith, eqb-false kick 0 e)) b)) λ _. turns-alike n

    run-alike : Alike base lent (run_all now pace) (run_or o now pace)
    unfolding run_all run_or
    run-alike = alike_bind alike λ chip. alike_cond chip (λ _. alike) (λ _. turns-alike run_turns)

    service-alike : Alike base lent (service_all now pace) (service_or o now pace)
    unfolding service_all service_or
    service-alike =
        alike_bind alike λ back. alike_bind alike λ deferred. alike_bind alike λ asking.
        alike_then alike (alike_then alike (alike_bind alike λ kick. alike-when (not (eqb kick 0)) run-alike))

  -- no call's act depends on these numbers, nor on what stands where they run out
  pub call_alike : (c : Asked) → Alike base lent (act_of c) (act_or o c)
  unfolding act_of act_or levelled
  call_alike (write address size v) = alike
  call_alike (inputs standing l0 l1 l2) = alike
  call_alike (pending ch count) = alike
  call_alike (run now pace) = alike_then (run-alike now pace) alike
  call_alike (service now pace) = alike_then (service-alike now pace) alike
  call_alike (ack ipl) = alike

-- a journal that refusal 6 lets pass has at most 2^28 bytes
journal-small : (len used : ℕ) → bad_journal len used ≡ false → len ≤ 2 ^ 28
unfolding bad_journal
journal-small len used e = ltb-false (2 ^ 28) len (neither _ _ (neither _ _ e).0).0

-- of such a call, refusal 6 was looked at
checked_6 : (base mem journal used : ℕ) (c : Asked) → wrong base mem journal used c ≡ 0 → bad_journal journal used ≡ false
unfolding wrong
checked_6 base mem journal used (write address size v) e =
    (passed _ 5 _ (passed _ 3 _ (passed _ 2 _ (passed _ 1 _ (passed _ 0 _ e).1).1).1).1).0
checked_6 base mem journal used (inputs standing l0 l1 l2) e = (passed _ 5 _ e).0
checked_6 base mem journal used (pending ch count) e = (passed _ 5 _ e).0
checked_6 base mem journal used (run now pace) e = (passed _ 5 _ (passed _ 4 _ e).1).0
checked_6 base mem journal used (service now pace) e = (passed _ 5 _ (passed _ 4 _ e).1).0
checked_6 base mem journal used (ack ipl) e = (passed _ 5 _ e).0

fair_call : (base : ℕ) (d : Device) (mem journal : List ℕ) (used : ℕ) (c : Asked) → Proper d → wrong base (length mem) (length journal) used c ≡ 0
    → Fair (world_of d mem journal used)
fair_call base d mem journal used c p e = record {
  proper = p;
  room = omega (arith, length-drop used journal, journal-small (length journal) used (checked_6 base (length mem) (length journal) used c e));
}

-- and so of every call that refusals 1 to 8 do not refuse
pub call_ends : (base : ℕ) (lent : Lent) (o : Limits) → Enough o → (d : Device) (mem journal : List ℕ) (used : ℕ) (c : Asked) → Proper d
    → wrong base (length mem) (length journal) used c ≡ 0
    → go base lent (act_of c) (world_of d mem journal used) ≡ go base lent (act_or o c) (world_of d mem journal used)
call_ends base lent o enough d mem journal used c p e = (call_alike base lent o enough c).goes _ (fair_call base d mem journal used c p e)
