-- A turn, by cases, as the code makes it; and turns one after another: what is left to do from where the loop stands is the whole from where it
-- began. Assumes nothing.
use Rattle.std.specs.Prelude.{Result, Ok, Err}
use mathlib.Core.Bool.{Bool, true, false, cond}
use mathlib.Core.List.{List}
use mathlib.Core.Path.{◌≡◌, refl, sym, ap, ap₂, ◌∙◌}
use Prim.Native.Nat.{ℕ, suc, ◌+◌, ◌*◌, ◌^◌, ◌≤◌, ◌<◌, min}
use native.Mathlib.Nat.{mod-eq_of_lt, mul-le-mul_left}
use native.Mathlib.Omega.{arith}
use borrow.Author.Tests.{eq-eqb, ne_eqb, lt-ltb, le-ltb}
use lib.Dec.{eqb, ltb}
use lib.ListN.{length, get_or, set}
use Rattle.rules.specs.Act.{nothing, ask, put, change, when, ◌>>=◌, ◌>>◌}
use Rattle.rules.specs.Scalars.{KICK, DEFERRED, view_scalars}
use Rattle.rules.specs.Bytes.{part}
use Rattle.rules.specs.Calls.{world_of, refusal_number}
use Rattle.rules.specs.Carry.{World, Out, ok, no, with_device, go, Lent}
use Rattle.rules.specs.Fields.{bits_of, holds}
use Rattle.rules.specs.Minor.{tcd_of, START}
use Rattle.rules.specs.Run.{start_loop, start_passes, line_loop, line_passes, request_loop, request_passes, paced, serve_line, serve, turn, turns}
use Rattle.rules.specs.Words.{has, gain, lose, lowest}
use Rattle.rules.specs.State.{Device}
use Rattle.rules.specs.With.{with_scalars, with_table, with_majors}
use Rattle.rules.specs.declared.Scalars.{Scalars}
use Rattle.rules.proofs.Steps.{putting, go-done, bind_ok, bind_no, then_ok, change-does}
use Rattle.act.specs.Worlds.{came_to}
use Rattle.act.specs.declared.Flow.{Flow}
use Rattle.act.specs.Worlds.{Step}
use Rattle.channel.specs.Goes.{lined, Goes, Asks, Small, Sums}
use Rattle.channel.specs.Offers.{offered_in}
use Rattle.channel.specs.declared.Line.{Line}
use Rattle.act.specs.declared.Stopped.{Stopped}
use Rattle.channel.proofs.Reading.{tcd_in, descriptor_read, offered_at, offered_read}
use Rattle.turns.specs.Turns.{around, turning, Turns, Paces}

-- ---- the line of channel 35

module _ (base : ℕ) (lent : Lent) (now pace : ℕ) (t : Flow) (w w' j j' tb tb' b m m' : List ℕ) (l : Result Line (Stopped Flow))
    (did : Sums (line_loop line_passes 0) base lent t l w w' j j' tb tb' m m')
  where
    summed : (d : Device) (p : List ℕ) → lined l (around d b p) w' j' tb' m' ≡ go base lent (line_loop line_passes 0) (turning d t w j tb b m p)
    summed d p = did.does (around d b p)

    pub line_broken : (stopped : Stopped Flow) → l ≡ Err stopped → (d : Device) (p : List ℕ)
        → came_to (Err stopped) (around d b p) w' j' tb' m' ≡ go base lent (serve_line now pace) (turning d t w j tb b m p)
    unfolding serve_line came_to lined
    line_broken stopped e d p = sym (bind_no base lent (line_loop line_passes 0) _ (turning d t w j tb b m p) (sym (rw e at (summed d p))))

    pub line_served : (line : Line) → l ≡ Ok line → (r : Flow) (b' : List ℕ) → Paces now pace line.sum line.flow r b b' → (d : Device) (p : List ℕ)
        → came_to (Ok r) (around d b' p) w' j' tb' m' ≡ go base lent (serve_line now pace) (turning d t w j tb b m p)
    unfolding serve_line came_to lined
    line_served line e r b' keeps d p =
        sym (bind_ok base lent (line_loop line_passes 0) _ (turning d t w j tb b m p) (sym (rw e at (summed d p))) ∙ keeps.does base lent d w' j' tb' m' p)

-- busy until = now + sum x pace
module _ (now pace n : ℕ) (c : Flow) (b : List ℕ) (until deadline : ℕ) (u : until ≡ now + n * pace) (f : until < 2 ^ 64)
    (q : deadline ≡ min c.scalars.deadline until) (g : deadline < 2 ^ 64) (s : Scalars) (v : view_scalars s ≡ set (view_scalars c.scalars) 7 deadline)
  where
    paces_does : (base : ℕ) (lent : Lent) (d : Device) (w j tb m p : List ℕ)
        → go base lent (paced now pace n) (turning d c w j tb b m p) ≡ ok tt (turning d (record { scalars = s; at = c.at }) w j tb (set b 35 until) m p)
    unfolding paced go put change ◌>>=◌ ◌>>◌ bits_of with_device
    paces_does base lent d w j tb m p = rw (v, ← u, mod-eq_of_lt f, ← q, mod-eq_of_lt g)

    pub paces : Paces now pace n c (record { scalars = s; at = c.at }) b (set b 35 until)
    paces = record { does = paces_does; until = ap (set b 35) u }

pub sum_below : {l : Result Line (Stopped Flow)} {line : Line} → l ≡ Ok line → Small l → line.sum < 2 ^ 33
sum_below e h = rw e at h

-- a busy time fits
pub until_fits : (now n pace : ℕ) → now ≤ 2 ^ 62 → pace ≤ 1000000 → n < 2 ^ 33 → now + n * pace < 2 ^ 64
until_fits now n pace h k l = omega (arith, mul-le-mul_left n k)

-- ---- the channel's START, or ERQ and a request

module _ (base : ℕ) (lent : Lent) (now pace ch : ℕ) (u : World) (long : length u.now.dev.table ≡ 2048) (low : ch < 64) where
  served : go base lent (serve now pace ch) u
      ≡ go base lent (cond (has (tcd_in ch u).csr START) (start_loop start_passes ch (get_or u.now.dev.majors ch 0)) (when (offered_at ch u) (cond (eqb ch 35) (serve_line now pace) (request_loop request_passes ch)))) u
  unfolding serve go ask ◌>>=◌
  served = descriptor_read base lent ch _ u (omega arith) ∙ offered_read base lent ch _ u

module _ (base : ℕ) (lent : Lent) (now pace ch : ℕ) (t : Flow) (w j tb b m p : List ℕ) (long : length tb ≡ 2048) (low : ch < 64)
    (csr : ℕ) (read : csr ≡ (tcd_of (part tb (32 * ch) 32)).csr)
  where
    abbrev at : Device → World
    at d = turning d t w j tb b m p

    -- START is set
    pub serve-started : has csr START ≡ true → (w' j' tb' m' : List ℕ) (s : Step) → Goes (start_loop start_passes ch (get_or m ch 0)) base lent t s w w' j j' tb tb' m m'
        → Turns (serve now pace ch) base lent t s w w' j j' tb tb' b b m m' p p
    serve-started h w' j' tb' m' s did d = did (around d b p) ∙ sym (served base lent now pace ch (at d) long low ∙ rw (← read, h))

    -- it is not
    module _ (off : has csr START ≡ false) {o : Bool} (asked : o ≡ offered_in t.scalars.erq t.scalars.standing p ch) where
      waits : (d : Device) → go base lent (serve now pace ch) (at d)
          ≡ go base lent (when o (cond (eqb ch 35) (serve_line now pace) (request_loop request_passes ch))) (at d)
      waits d = served base lent now pace ch (at d) long low ∙ rw (← read, off, ← asked)

      pub serve_none : o ≡ false → Turns (serve now pace ch) base lent t (Ok t) w w j j tb tb b b m m p p
      unfolding came_to go when
      serve_none e d = sym (waits d ∙ rw e)

      module _ (on : o ≡ true) where
        pub serve-lined : (w' j' tb' b' m' : List ℕ) → ch ≡ 35 → (r : Step) → ((p : List ℕ) → Turns (serve_line now pace) base lent t r w w' j j' tb tb' b b' m m' p p)
            → Turns (serve now pace ch) base lent t r w w' j j' tb tb' b b' m m' p p
        unfolding when
        serve-lined w' j' tb' b' m' h r did d = did p d ∙ sym (waits d ∙ rw (on, eq-eqb ch 35 h))

        pub serve_asked : (w' j' tb' m' p' : List ℕ) → (ch ≡ 35 → ⊥) → (s : Step) → Asks (request_loop request_passes ch) base lent t s w w' j j' tb tb' m m' p p'
            → Turns (serve now pace ch) base lent t s w w' j j' tb tb' b b m m' p p'
        unfolding when
        serve_asked w' j' tb' m' p' h s did d = did (around d b p) ∙ sym (waits d ∙ rw (on, ne_eqb ch 35 h))

-- ---- a turn

moved : (base : ℕ) (lent : Lent) (now pace ch : ℕ) (u : World) → lose (holds KICK u.now.dev) ch < 2 ^ 64
    → go base lent (turn now pace ch) u
    ≡ go base lent (cond (ltb now (get_or u.now.dev.busy ch 0)) (change DEFERRED (λ k. gain k ch)) (serve now pace ch)) (putting KICK (lose (holds KICK u.now.dev) ch) u)
unfolding turn go ask ◌>>=◌ bits_of with_device
moved base lent now pace ch u h = then_ok base lent (change KICK (λ k. lose k ch)) _ u (change-does base lent u KICK (λ k. lose k ch) h)

-- the channel has gone from KICK
module _ (base : ℕ) (lent : Lent) (now pace ch : ℕ) (t : Flow) (w j tb b m p : List ℕ) (kick : ℕ) (goes : kick ≡ lose t.scalars.kick ch) (fits : kick < 2 ^ 64)
  where
    pub turn_deferred : now < get_or b ch 0 → (deferred : ℕ) → deferred ≡ gain t.scalars.deferred ch → deferred < 2 ^ 64
        → (s : Scalars) → view_scalars s ≡ set (set (view_scalars t.scalars) 5 kick) 6 deferred
        → Turns (turn now pace ch) base lent t (Ok (record { scalars = s; at = t.at })) w w j j tb tb b b m m p p
    unfolding came_to with_device bits_of
    turn_deferred h deferred e f s v d =
        let u : World = turning d t w j tb b m p in
        let after : view_scalars s ≡ set (set (view_scalars t.scalars) 5 (lose t.scalars.kick ch)) 6 (gain t.scalars.deferred ch) =
        v ∙ ap₂ (λ (x y : ℕ). set (set (view_scalars t.scalars) 5 x) 6 y) goes e in
        ap (λ (l : List ℕ). ok tt (world_of (with_majors (with_table (with_scalars (around d b p) l) tb) m) w j t.at)) after
        ∙ sym (moved base lent now pace ch u (rw goes at fits)
        ∙ rw (lt-ltb now (get_or b ch 0) h) (change-does base lent (putting KICK (lose t.scalars.kick ch) u) DEFERRED (λ k. gain k ch) (rw e at f)))

    pub turn_served : get_or b ch 0 ≤ now → (n : Scalars) → view_scalars n ≡ set (view_scalars t.scalars) 5 kick → (w' j' tb' b' m' p' : List ℕ) (r : Step)
        → Turns (serve now pace ch) base lent (record { scalars = n; at = t.at }) r w w' j j' tb tb' b b' m m' p p'
        → Turns (turn now pace ch) base lent t r w w' j j' tb tb' b b' m m' p p'
    unfolding with_device
    turn_served h n gone w' j' tb' b' m' p' r did d =
        let u : World = turning d t w j tb b m p in
        (rw (gone, goes) at (did d)) ∙ sym (moved base lent now pace ch u (rw goes at fits) ∙ rw (le-ltb now (get_or b ch 0) h))

-- ---- turns one after another

module _ (base : ℕ) (lent : Lent) (now pace n : ℕ) (u : World) where
  abbrev kicked : ℕ
  kicked = holds KICK u.now.dev

  turns_asked : go base lent (turns now pace (suc n)) u ≡ go base lent (cond (eqb kicked 0) nothing (turn now pace (lowest kicked) >>= (λ _. turns now pace n))) u
  unfolding turns go ask ◌>>=◌
  turns_asked = refl

  turns_none : kicked ≡ 0 → go base lent (turns now pace (suc n)) u ≡ ok tt u
  turns_none e = turns_asked ∙ rw (eq-eqb kicked 0 e) (go-done base lent tt u)

  turns-on : (kicked ≡ 0 → ⊥) → (v : World) → go base lent (turn now pace (lowest kicked)) u ≡ ok tt v
      → go base lent (turns now pace (suc n)) u ≡ go base lent (turns now pace n) v
  turns-on h v e = turns_asked ∙ rw (ne_eqb kicked 0 h) (bind_ok base lent (turn now pace (lowest kicked)) (λ _. turns now pace n) u e)

  turns-off : (kicked ≡ 0 → ⊥) → (k : ℕ) (v : World) → go base lent (turn now pace (lowest kicked)) u ≡ no k v
      → go base lent (turns now pace (suc n)) u ≡ no k v
  turns-off h k v e = turns_asked ∙ rw (ne_eqb kicked 0 h) (bind_no base lent (turn now pace (lowest kicked)) (λ _. turns now pace n) u e)

-- the loop stands at t, w, j, .. with `left` turns to go; `whole` is how the whole ends, for each device
module _ (base : ℕ) (lent : Lent) (now pace : ℕ) (whole : Device → Out (Unit {0})) (t : Flow) (w j tb b m p : List ℕ) (left : ℕ)
    (rest : (d : Device) → go base lent (turns now pace left) (turning d t w j tb b m p) ≡ whole d)
  where
    pub turns_out : left ≤ 0 → (d : Device) → came_to (Ok t) (around d b p) w j tb m ≡ whole d
    unfolding came_to turns go
    turns_out e d = let z : left ≡ 0 = omega arith in rw z at (rest d)

    module _ (after : ℕ) (more : left ≡ suc after) where
      from : (d : Device) → go base lent (turns now pace (suc after)) (turning d t w j tb b m p) ≡ whole d
      from d = rw more at (rest d)

      pub turns_stop : t.scalars.kick ≡ 0 → (d : Device) → came_to (Ok t) (around d b p) w j tb m ≡ whole d
      unfolding came_to
      turns_stop e d = sym (turns_none base lent now pace after (turning d t w j tb b m p) e) ∙ from d

      module _ (h : t.scalars.kick ≡ 0 → ⊥) (ch : ℕ) (chosen : ch ≡ lowest t.scalars.kick) (k : Lent) (same : k ≡ lent) (r : Step) (w' j' tb' b' m' p' : List ℕ)
          (did : Turns (turn now pace ch) base k t r w w' j j' tb tb' b b' m m' p p')
        where
          ran : (d : Device) → came_to r (around d b' p') w' j' tb' m' ≡ go base lent (turn now pace (lowest t.scalars.kick)) (turning d t w j tb b m p)
          ran d = rw (same, chosen) at (did d)

          pub turns_refused : {stopped : Stopped Flow} → r ≡ Err stopped → (d : Device) → came_to (Err stopped) (around d b' p') w' j' tb' m' ≡ whole d
          unfolding came_to
          turns_refused {stopped} e d =
              sym (turns-off base lent now pace after (turning d t w j tb b m p) h (refusal_number stopped.why) (turning d stopped.at w' j' tb' b' m' p') (sym (rw e at (ran d)))) ∙ from d

          pub turns_again : (g : Flow) → r ≡ Ok g → (d : Device) → go base lent (turns now pace after) (turning d g w' j' tb' b' m' p') ≡ whole d
          unfolding came_to
          turns_again g e d =
              sym (turns-on base lent now pace after (turning d t w j tb b m p) h (turning d g w' j' tb' b' m' p') (sym (rw e at (ran d)))) ∙ from d
